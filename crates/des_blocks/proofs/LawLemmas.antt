-- Deciphering undoes enciphering: the rounds over the round keys in reverse go back, whatever the keys, and IP and its inverse undo each other.
use Rattle.std.proofs.Common.{◌≡◌, ℕ, List, [], ◌∷◌, ◌++◌, length, take, drop, reverse, bit_xor, refl, sym, ap, ◌∙◌, arith}
use Rattle.std.specs.Int.Bits.{xor_assoc, xor_self, xor_zero_r}
use Rattle.std.proofs.lemmas.List.{append_assoc, append-nil, length-append, length-drop, length-take-le, take-append-drop, take_at, drop_at, reverse-append, reverse-reverse}
use Rattle.des_blocks.specs.Bits.{xor}
use Rattle.des_blocks.specs.Des.{places, f, rounds, crypt}
use Rattle.key_cells.specs.declared.schedules.Schedule.{Schedule}
use Rattle.des_blocks.specs.Schedules.{ded_under, ede_under, keys_of, schedule_at}
use Rattle.des_blocks.specs.Tables.{permutation, initial_permutation, final_permutation}
use Rattle.des_blocks.proofs.PlaceLemmas.{length-places, places-places, places-all}
use Rattle.key_cells.proofs.ByteLemmas.{length-xor}

-- ---- f gives 32 bits

pub length-f : (r k : List ℕ) → length (f r k) ≡ 32
unfolding f
length-f r k = length-places permutation _

-- ---- xor with the same bits undoes itself

xor-back : (x y : ℕ) → bit_xor (bit_xor x y) y ≡ x
xor-back x y = xor_assoc x y y ∙ ap (bit_xor x) (xor_self y) ∙ xor_zero_r x

pub xor-xor : (xs ys : List ℕ) → length xs ≡ length ys → xor (xor xs ys) ys ≡ xs
unfolding xor
xor-xor [] ys h = refl
xor-xor (x ∷ xs) [] h = absurd (omega arith)
xor-xor (x ∷ xs) (y ∷ ys) h = ap {B = List ℕ} (λ z. z ∷ xor (xor xs ys) ys) (xor-back x y) ∙ ap {B = List ℕ} (λ zs. x ∷ zs) (xor-xor xs ys (omega arith))

-- ---- the rounds

-- the halves after the rounds
left_after : List (List ℕ) → List ℕ → List ℕ → List ℕ
left_after [] l r = l
left_after (k ∷ ks) l r = left_after ks r (xor l (f r k))

right_after : List (List ℕ) → List ℕ → List ℕ → List ℕ
right_after [] l r = r
right_after (k ∷ ks) l r = right_after ks r (xor l (f r k))

rounds-after : (ks : List (List ℕ)) (l r : List ℕ) → rounds ks l r ≡ right_after ks l r ++ left_after ks l r
unfolding rounds left_after right_after
rounds-after [] l r = refl
rounds-after (k ∷ ks) l r = rounds-after ks r (xor l (f r k))

length-next : (l r k : List ℕ) → length l ≡ 32 → length (xor l (f r k)) ≡ 32
length-next l r k h = length-xor l (f r k) (h ∙ sym (length-f r k)) ∙ h

length-left : (ks : List (List ℕ)) (l r : List ℕ) → length l ≡ 32 → length r ≡ 32 → length (left_after ks l r) ≡ 32
unfolding left_after
length-left [] l r p q = p
length-left (k ∷ ks) l r p q = length-left ks r (xor l (f r k)) q (length-next l r k p)

length-right : (ks : List (List ℕ)) (l r : List ℕ) → length l ≡ 32 → length r ≡ 32 → length (right_after ks l r) ≡ 32
unfolding right_after
length-right [] l r p q = q
length-right (k ∷ ks) l r p q = length-right ks r (xor l (f r k)) q (length-next l r k p)

-- from the halves after some rounds, exchanged, the same round keys in reverse lead back, and then the rounds go on
undone : (ks more : List (List ℕ)) (l r : List ℕ) → length l ≡ 32 → length r ≡ 32
    → rounds (reverse ks ++ more) (right_after ks l r) (left_after ks l r) ≡ rounds more r l
unfolding rounds left_after right_after
undone [] more l r p q = refl
undone (k ∷ ks) more l r p q =
    let order : reverse (k ∷ ks) ++ more ≡ reverse ks ++ (k ∷ more) = ap (λ xs. xs ++ more) (reverse-append (k ∷ []) ks) ∙ append_assoc (reverse ks) (k ∷ []) more in
    let back : xor (xor l (f r k)) (f r k) ≡ l = xor-xor l (f r k) (p ∙ sym (length-f r k)) in
    ap (λ xs. rounds xs (right_after ks r (xor l (f r k))) (left_after ks r (xor l (f r k)))) order
    ∙ undone ks (k ∷ more) r (xor l (f r k)) q (length-next l r k p)
    ∙ ap (rounds more r) back

-- ---- IP and its inverse

pub final-initial : (block : List ℕ) → length block ≡ 64 → places final_permutation (places initial_permutation block) ≡ block
unfolding places
final-initial block h = places-places final_permutation initial_permutation block refl ∙ places-all 64 block h

pub initial-final : (block : List ℕ) → length block ≡ 64 → places initial_permutation (places final_permutation block) ≡ block
unfolding places
initial-final block h = places-places initial_permutation final_permutation block refl ∙ places-all 64 block h

-- ---- the cipher

pub length-crypt : (keys : List (List ℕ)) (block : List ℕ) → length (crypt keys block) ≡ 64
unfolding crypt
length-crypt keys block = length-places final_permutation _

-- from the two halves after the rounds, the round keys in reverse lead back to the block
rounds-back : (keys : List (List ℕ)) (block l r out : List ℕ) → length block ≡ 64 → length l ≡ 32 → length r ≡ 32 → l ++ r ≡ places initial_permutation block
    → out ≡ places final_permutation (rounds keys l r) → crypt (reverse keys) out ≡ block
unfolding crypt rounds
rounds-back keys block l r out h p q e is =
    let left = length-left keys l r p q in
    let right = length-right keys l r p q in
    let size : length (rounds keys l r) ≡ 64 = ap length (rounds-after keys l r) ∙ length-append (right_after keys l r) (left_after keys l r) ∙ omega arith in
    let entered : places initial_permutation out ≡ right_after keys l r ++ left_after keys l r
    = ap (places initial_permutation) is ∙ initial-final (rounds keys l r) size ∙ rounds-after keys l r in
    let a : take 32 (places initial_permutation out) ≡ right_after keys l r = ap (take 32) entered ∙ take_at (right_after keys l r) (left_after keys l r) 32 right in
    let b : drop 32 (places initial_permutation out) ≡ left_after keys l r = ap (drop 32) entered ∙ drop_at (right_after keys l r) (left_after keys l r) 32 right in
    ap (λ xs. places final_permutation (rounds (reverse keys) xs (drop 32 (places initial_permutation out)))) a
    ∙ ap (λ xs. places final_permutation (rounds (reverse keys) (right_after keys l r) xs)) b
    ∙ ap (λ ks. places final_permutation (rounds ks (right_after keys l r) (left_after keys l r))) (sym (append-nil (reverse keys)))
    ∙ ap (places final_permutation) (undone keys [] l r p q)
    ∙ ap (places final_permutation) e
    ∙ final-initial block h

-- deciphering undoes enciphering, for every list of round keys
pub decipher-encipher : (keys : List (List ℕ)) (block : List ℕ) → length block ≡ 64 → crypt (reverse keys) (crypt keys block) ≡ block
unfolding crypt
decipher-encipher keys block h =
    let whole = length-places initial_permutation block in
    rounds-back keys block (take 32 (places initial_permutation block)) (drop 32 (places initial_permutation block)) (crypt keys block) h
    (length-take-le 32 (places initial_permutation block) (omega arith))
    (length-drop 32 (places initial_permutation block) ∙ omega arith)
    (take-append-drop 32 (places initial_permutation block))
    refl

-- and the converse
pub encipher-decipher : (keys : List (List ℕ)) (block : List ℕ) → length block ≡ 64 → crypt keys (crypt (reverse keys) block) ≡ block
encipher-decipher keys block h = ap (λ ks. crypt ks (crypt (reverse keys) block)) (sym (reverse-reverse keys)) ∙ decipher-encipher (reverse keys) block h

-- ---- three times

pub ded_under-ede_under : (keys : List Schedule) (block : List ℕ) → length block ≡ 64 → ded_under keys (ede_under keys block) ≡ block
unfolding ede_under ded_under
ded_under-ede_under keys block h =
    let one = keys_of (schedule_at keys 0) in
    let two = keys_of (schedule_at keys 1) in
    let three = keys_of (schedule_at keys 2) in
    ap (λ x. crypt (reverse one) (crypt two x)) (decipher-encipher three (crypt (reverse two) (crypt one block)) (length-crypt (reverse two) (crypt one block)))
    ∙ ap (crypt (reverse one)) (encipher-decipher two (crypt one block) (length-crypt one block))
    ∙ decipher-encipher one block h

pub ede_under-ded_under : (keys : List Schedule) (block : List ℕ) → length block ≡ 64 → ede_under keys (ded_under keys block) ≡ block
unfolding ede_under ded_under
ede_under-ded_under keys block h =
    let one = keys_of (schedule_at keys 0) in
    let two = keys_of (schedule_at keys 1) in
    let three = keys_of (schedule_at keys 2) in
    ap (λ x. crypt three (crypt (reverse two) x)) (encipher-decipher one (crypt two (crypt (reverse three) block)) (length-crypt two (crypt (reverse three) block)))
    ∙ ap (crypt three) (decipher-encipher two (crypt (reverse three) block) (length-crypt (reverse three) block))
    ∙ encipher-decipher three block h
