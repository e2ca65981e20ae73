-- The entries of the combined tables, and the cipher function f as the exclusive or of eight of them.
use Rattle.std.proofs.Common.{◌≡◌, ℕ, suc, ◌+◌, ◌-◌, ◌*◌, ◌/◌, ◌^◌, ◌<◌, Bool, true, ◌&&◌, nat_eq, nat_lt, List, [], ◌∷◌, ◌++◌, length, take, drop, get_or, slice_index, slice_index_or, bit_and, bit_xor, replicate, refl, sym, ap, ◌∙◌, arith}
use Rattle.std.specs.Prelude.{if◌then◌else◌}
use Rattle.std.proofs.lemmas.List.{drop-drop, length-append, length-replicate}
use Rattle.std.proofs.lemmas.Nat.{and_mask, xor_comm}
use Rattle.des_blocks.specs.Bits.{bits, number, xor}
use Rattle.des_blocks.specs.BoxTables.{IsTableOf}
use Rattle.des_blocks.specs.Des.{places, look_up, substitute, f}
use Rattle.des_blocks.specs.Halves.{IsHalf, in_place, spread}
use Rattle.des_blocks.specs.Schedules.{group_bits}
use Rattle.des_blocks.specs.Tables.{Box, boxes, expansion, permutation}
use Rattle.des_blocks.specs.declared.box_tables.TheConstants.{S1, S2, S3, S4, S5, S6, S7, S8}
use Rattle.des_blocks.proofs.BitLemmas.{length-bits}
use Rattle.des_blocks.proofs.GatherLemmas.{all_below, from-all_below, from-same, nat-below, nat-same, same}
use Rattle.des_blocks.proofs.HalfLemmas.{six-of}
use Rattle.des_blocks.proofs.LawLemmas.{length-f}
use Rattle.des_blocks.proofs.PlaceLemmas.{length-places}
use Rattle.des_blocks.proofs.XorLemmas.{places-xor, spread-xor, xor-append, xor-zeros-right}
use Rattle.key_cells.proofs.ByteLemmas.{xor-zeros}
use Rattle.std.proofs.lemmas.Bool.{and_parts}

-- what P and E make of the bits of the S-boxes
combined : List ℕ → List ℕ
combined xs = places expansion (places permutation xs)

-- ---- the entries, by computation

-- the number that an S-box has for six bits
unfoldable value : Box → List ℕ → ℕ
value box six = slice_index (slice_index_or box (2 * slice_index six 0 + slice_index six 5) []) (number (take 4 (drop 1 six)))

look_up-is : (box : Box) (six : List ℕ) → look_up box six ≡ bits 4 (value box six)
unfolding look_up value
look_up-is box six = refl

-- the place of a number in a row
abbrev place_of : ℕ → List ℕ → ℕ
place_of v [] = 0
place_of v (x ∷ xs) = if nat_eq x v then 0 else suc (place_of v xs)

-- the entry of a number, where the first row of the S-box has it
unfoldable entry_of : ℕ → List ℕ → ℕ → ℕ
entry_of j table v = slice_index table (2 * place_of v (slice_index_or (slice_index_or boxes j []) 0 []))

-- what P and E make of the four bits of a number is the number's entry, which stands at each byte for which the S-box has the number
unfoldable number_holds : ℕ → List ℕ → ℕ → Bool
number_holds j table v = same (spread (entry_of j table v)) (places expansion (places permutation (in_place j (bits 4 v))))

unfoldable byte_holds : ℕ → List ℕ → ℕ → Bool
byte_holds j table byte =
    nat_lt (value (slice_index_or boxes j []) (bits 6 byte)) 16 && nat_eq (slice_index table byte) (entry_of j table (value (slice_index_or boxes j []) (bits 6 byte)))

unfoldable box_holds : ℕ → List ℕ → Bool
box_holds j table = all_below (number_holds j table) 16 && all_below (byte_holds j table) 256

table-of : (j : ℕ) (table : List ℕ) → box_holds j table ≡ true → IsTableOf j table
unfolding box_holds number_holds byte_holds
table-of j table holds byte below =
    let v = value (slice_index_or boxes j []) (bits 6 byte) in
    let tests = and_parts (all_below (number_holds j table) 16) (all_below (byte_holds j table) 256) holds in
    let here = and_parts (nat_lt v 16) (nat_eq (slice_index table byte) (entry_of j table v)) (from-all_below (byte_holds j table) 256 byte tests.1 below) in
    ap spread (nat-same (slice_index table byte) (entry_of j table v) here.1)
    ∙ from-same _ _ (from-all_below (number_holds j table) 16 v tests.0 (nat-below v 16 here.0))
    ∙ sym (ap (λ four. places expansion (places permutation (in_place j four))) (look_up-is (slice_index_or boxes j []) (bits 6 byte)))

pub table-1 : IsTableOf 0 S1
unfolding box_holds number_holds byte_holds entry_of value bits places number group_bits same
table-1 = table-of 0 S1 refl

pub table-2 : IsTableOf 1 S2
unfolding box_holds number_holds byte_holds entry_of value bits places number group_bits same
table-2 = table-of 1 S2 refl

pub table-3 : IsTableOf 2 S3
unfolding box_holds number_holds byte_holds entry_of value bits places number group_bits same
table-3 = table-of 2 S3 refl

pub table-4 : IsTableOf 3 S4
unfolding box_holds number_holds byte_holds entry_of value bits places number group_bits same
table-4 = table-of 3 S4 refl

pub table-5 : IsTableOf 4 S5
unfolding box_holds number_holds byte_holds entry_of value bits places number group_bits same
table-5 = table-of 4 S5 refl

pub table-6 : IsTableOf 5 S6
unfolding box_holds number_holds byte_holds entry_of value bits places number group_bits same
table-6 = table-of 5 S6 refl

pub table-7 : IsTableOf 6 S7
unfolding box_holds number_holds byte_holds entry_of value bits places number group_bits same
table-7 = table-of 6 S7 refl

pub table-8 : IsTableOf 7 S8
unfolding box_holds number_holds byte_holds entry_of value bits places number group_bits same
table-8 = table-of 7 S8 refl

-- an entry for the six bits of its place
abbrev pub IsEntry : List ℕ → ℕ → ℕ → Type 0
IsEntry xs j n = spread n ≡ places expansion (places permutation (in_place j (look_up (slice_index_or boxes j []) (take 6 (drop (6 * j) xs)))))

pub entry-is : (j word : ℕ) (table : List ℕ) → j < 8 → IsTableOf j table → IsEntry (spread word) j (get_or table (bit_and (word / 2 ^ (56 - 8 * j)) 255) 0)
entry-is j word table h holds =
    let byte = bit_and (word / 2 ^ (56 - 8 * j)) 255 in
    let below : byte < 256 = omega (arith, and_mask (word / 2 ^ (56 - 8 * j)) 8) in
    holds byte below ∙ ap (λ xs. places expansion (places permutation (in_place j (look_up (slice_index_or boxes j []) xs)))) (six-of word j h)

length-look_up : (box : Box) (six : List ℕ) → length (look_up box six) ≡ 4
unfolding look_up
length-look_up box six = length-bits 4 _

-- ---- entries joined

combined-xor : (xs ys : List ℕ) → length xs ≡ length ys → combined (xor xs ys) ≡ xor (combined xs) (combined ys)
unfolding combined
combined-xor xs ys e =
    ap (places expansion) (places-xor permutation xs ys e)
    ∙ places-xor expansion (places permutation xs) (places permutation ys) (length-places permutation xs ∙ sym (length-places permutation ys))

-- four bits in their place, and those after them
entry-join : (j n a b : ℕ) (four tail : List ℕ) → length four ≡ 4 → length tail ≡ n
    → spread a ≡ combined (replicate (4 * j) 0 ++ (four ++ replicate n 0))
    → spread b ≡ combined (replicate (4 * j) 0 ++ (replicate 4 0 ++ tail))
    → spread (bit_xor b a) ≡ combined (replicate (4 * j) 0 ++ (four ++ tail))
entry-join j n a b four tail size rest p q =
    let zeros : List ℕ = replicate (4 * j) 0 in
    let long : length (zeros ++ (four ++ replicate n 0)) ≡ length (zeros ++ (replicate 4 0 ++ tail))
    = length-append zeros (four ++ replicate n 0) ∙ ap (λ m. length zeros + m) (length-append four (replicate n 0) ∙ omega (arith, length-replicate {A = ℕ} n 0) ∙ sym (length-append (replicate 4 0) tail)) ∙ sym (length-append zeros (replicate 4 0 ++ tail)) in
    ap spread (xor_comm b a) ∙ spread-xor a b ∙ ap (λ xs. xor xs (spread b)) p ∙ ap (xor (combined (zeros ++ (four ++ replicate n 0)))) q
    ∙ sym (combined-xor (zeros ++ (four ++ replicate n 0)) (zeros ++ (replicate 4 0 ++ tail)) long)
    ∙ ap combined (xor-append zeros (four ++ replicate n 0) zeros (replicate 4 0 ++ tail) refl
    ∙ ap (λ xs. xs ++ xor (four ++ replicate n 0) (replicate 4 0 ++ tail)) (xor-zeros (4 * j) zeros (length-replicate {A = ℕ} (4 * j) 0))
    ∙ ap (λ xs. zeros ++ xs) (xor-append four (replicate n 0) (replicate 4 0) tail size
    ∙ ap (λ xs. xs ++ xor (replicate n 0) tail) (xor-zeros-right 4 four size) ∙ ap (λ xs. four ++ xs) (xor-zeros n tail rest)))

-- ---- the substitution

-- the substitution from a place of the 48 bits on
pub looked_up : List Box → ℕ → List ℕ → List ℕ
looked_up [] n xs = []
looked_up (box ∷ rest) n xs = look_up box (take 6 (drop n xs)) ++ looked_up rest (n + 6) xs

substitute-from : (all : List Box) (n : ℕ) (xs : List ℕ) → substitute all (drop n xs) ≡ looked_up all n xs
unfolding substitute looked_up
substitute-from [] n xs = refl
substitute-from (box ∷ rest) n xs =
    ap (λ ys. look_up box (take 6 (drop n xs)) ++ substitute rest ys) (drop-drop 6 n xs)
    ∙ ap (λ ys. look_up box (take 6 (drop n xs)) ++ ys) (substitute-from rest (n + 6) xs)

length-looked_up : (all : List Box) (n : ℕ) (xs : List ℕ) → length (looked_up all n xs) ≡ 4 * length all
unfolding looked_up
length-looked_up [] n xs = refl
length-looked_up (box ∷ rest) n xs =
    length-append (look_up box (take 6 (drop n xs))) (looked_up rest (n + 6) xs) ∙ omega (arith, length-look_up box (take 6 (drop n xs)), length-looked_up rest (n + 6) xs)

-- the exclusive or of an entry of each box
pub entries-substitute : (xs : List ℕ) (a b c d e g h i : ℕ)
    → IsEntry xs 0 a → IsEntry xs 1 b → IsEntry xs 2 c → IsEntry xs 3 d → IsEntry xs 4 e → IsEntry xs 5 g → IsEntry xs 6 h → IsEntry xs 7 i
    → spread (bit_xor (bit_xor (bit_xor (bit_xor (bit_xor (bit_xor (bit_xor i h) g) e) d) c) b) a) ≡ places expansion (places permutation (substitute boxes xs))
unfolding looked_up combined
entries-substitute xs a b c d e g h i p q s t u v w x =
    let four : (j : ℕ) → length (look_up (slice_index_or boxes j []) (take 6 (drop (6 * j) xs))) ≡ 4 = λ j. length-look_up _ _ in
    let h6 = entry-join 6 4 h i _ (looked_up (drop 7 boxes) 42 xs) (four 6) (length-looked_up (drop 7 boxes) 42 xs) w x in
    let h5 = entry-join 5 8 g _ _ (looked_up (drop 6 boxes) 36 xs) (four 5) (length-looked_up (drop 6 boxes) 36 xs) v h6 in
    let h4 = entry-join 4 12 e _ _ (looked_up (drop 5 boxes) 30 xs) (four 4) (length-looked_up (drop 5 boxes) 30 xs) u h5 in
    let h3 = entry-join 3 16 d _ _ (looked_up (drop 4 boxes) 24 xs) (four 3) (length-looked_up (drop 4 boxes) 24 xs) t h4 in
    let h2 = entry-join 2 20 c _ _ (looked_up (drop 3 boxes) 18 xs) (four 2) (length-looked_up (drop 3 boxes) 18 xs) s h3 in
    let h1 = entry-join 1 24 b _ _ (looked_up (drop 2 boxes) 12 xs) (four 1) (length-looked_up (drop 2 boxes) 12 xs) q h2 in
    let h0 = entry-join 0 28 a _ _ (looked_up (drop 1 boxes) 6 xs) (four 0) (length-looked_up (drop 1 boxes) 6 xs) p h1 in
    h0 ∙ sym (ap (λ ys. places expansion (places permutation ys)) (substitute-from boxes 0 xs))

-- ---- f

pub function-is : (groups out : ℕ) (half key : List ℕ) → spread groups ≡ xor (places expansion half) key → spread out ≡ places expansion (places permutation (substitute boxes (spread groups)))
    → IsHalf out (f half key)
unfolding f
function-is groups out half key joined entries = record {
  size = length-f half key;
  groups = entries ∙ ap (λ xs. places expansion (places permutation (substitute boxes xs))) joined;
}
