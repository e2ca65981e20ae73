-- The control vector that is read back from a token that was written with it.
use Rattle.std.proofs.Common.{◌≡◌, ℕ, zero, suc, ◌+◌, ◌*◌, ◌≤◌, Bool, true, false, not, List, [], ◌∷◌, ◌++◌, length, get_or, take, drop, replicate, Option, None, Some, ⊎_elim, refl, sym, ap, ◌∙◌, ◌||◌, ◌&&◌, ◌==◌, true≢false, arith}
use Rattle.std.specs.Prelude.{if◌then◌else◌, is_none}
use Rattle.std.specs.Int.{bit_at, to_be_bytes, w32}
use Rattle.std.specs.Str.{bytes_eq}
use Rattle.std.proofs.lemmas.Bool.{and_cases, and_parts, and_right, eqb-true, or_from, or_parts}
use Rattle.std.proofs.lemmas.List.{append_assoc, drop_at, length-append, length-drop, length-set, length-take, take-append-drop, take_all}
use Rattle.sha1.specs.Sha1.{digest_bytes, sha1}
use Rattle.key_cells.specs.Bytes.{is_zero}
use Rattle.cca_vectors.specs.Bits.{bit}
use Rattle.cca_vectors.specs.Checks.{check, first_failing}
use Rattle.cca_vectors.specs.Closing.{closed_half, closed_to_export, closed_zero}
use Rattle.cca_vectors.specs.PartVectors.{as_part, part_half, with_bit_changed}
use Rattle.cca_vectors.specs.Permissions.{is_exportable}
use Rattle.cca_vectors.specs.VectorChecks.{has_form, is_anti_variant, is_even, right_half_for, vector_checks}
use Rattle.cca_vectors.specs.Vectors.{form_of, left_of, left_of_double, left_of_unique, length_of, right_of, right_of_double, right_of_unique, single_length}
use Rattle.cca_vectors.proofs.Judging.{passes_first, passes_rest}
use Rattle.key_tokens.specs.Denotes.{ClearKey}
use Rattle.key_tokens.specs.Fields.{vector_bytes_of}
use Rattle.key_tokens.specs.Layout.{contents, layout, made}
use Rattle.key_tokens.specs.Tvv.{tvv_of}
use Rattle.key_tokens.specs.declared.key_token.Kind.TheVariants.{Internal, External}
use Rattle.key_tokens.specs.declared.key_token.Token.{Token}
use Rattle.key_transport.specs.Tokens.{external_token}
use Rattle.master_registers.specs.Masters.{pattern_of_master}
use Rattle.multi_encipher.specs.Seals.{seal, sealed_half}
use Rattle.multi_encipher.proofs.SealLaws.{bytes-sealed_half}
use Rattle.verb_rules.specs.Keys.{master_key, sealed_token}
use Rattle.cca_laws.specs.Passing.{ForbidsExport}

-- a vector of at most 16 bytes that forbids export
pub record Forbids (vector : List ℕ) : Type 0 where
  pub short : length vector ≤ 16
  pub off : is_exportable vector ≡ false

-- ---- zeros

zero_in_front : (xs ys : List ℕ) (n : ℕ) → length xs ≤ n → is_zero xs ≡ false → is_zero (take n (xs ++ ys)) ≡ false
zero_in_front [] ys n short some = absurd (true≢false some)
zero_in_front (x ∷ xs) ys zero short some = absurd (omega (arith, short))
zero_in_front (x ∷ xs) ys (suc n) short some =
    ⊎_elim (λ (here : (x == 0) ≡ false). ap (λ b. b && is_zero (take n (xs ++ ys))) here)
    (λ (later : is_zero xs ≡ false). and_right (x == 0) (is_zero (take n (xs ++ ys))) (zero_in_front xs ys n (omega (arith, short)) later))
    (and_cases (x == 0) (is_zero xs) some)

zero_at : (xs : List ℕ) (k : ℕ) → is_zero xs ≡ true → get_or xs k 0 ≡ 0
zero_at [] k zeros = refl
zero_at (x ∷ xs) zero zeros = eqb-true x 0 (and_parts (x == 0) (is_zero xs) zeros).0
zero_at (x ∷ xs) (suc k) zeros = zero_at xs k (and_parts (x == 0) (is_zero xs) zeros).1

zeros_append : (xs ys : List ℕ) → is_zero xs ≡ true → is_zero ys ≡ true → is_zero (xs ++ ys) ≡ true
zeros_append [] ys first second = second
zeros_append (x ∷ xs) ys first second =
    let both = and_parts (x == 0) (is_zero xs) first in
    ap (λ b. b && is_zero (xs ++ ys)) both.0 ∙ zeros_append xs ys both.1 second

-- ---- a vector with zeros behind it

bit_behind : (vector tail : List ℕ) → is_zero vector ≡ false → (bit (left_of vector) 17 == 1) ≡ false
    → (bit (left_of (take 16 (vector ++ (replicate 12 0 ++ tail)))) 17 == 1) ≡ false
bit_behind [] tail some off = absurd (true≢false some)
bit_behind (a ∷ []) tail some off = refl
bit_behind (a ∷ b ∷ []) tail some off = refl
bit_behind (a ∷ b ∷ c ∷ rest) tail some off = off

forbids_behind : (vector tail : List ℕ) → Forbids vector → is_exportable (take 16 (vector ++ (replicate 12 0 ++ tail))) ≡ false
forbids_behind vector tail f =
    let both = or_parts (is_zero vector) (bit (left_of vector) 17 == 1) f.off in
    let now : List ℕ = take 16 (vector ++ (replicate 12 0 ++ tail)) in
    or_from (is_zero now) (bit (left_of now) 17 == 1) (zero_in_front vector (replicate 12 0 ++ tail) 16 f.short both.0) (bit_behind vector tail both.0 both.1)

-- ---- a token that is written

module _ (token : Token) (pattern_long : length token.pattern ≡ 8) (left_long : length token.sealed.left ≡ 8) (right_long : length token.sealed.right ≡ 8) where
  abbrev behind : List ℕ
  behind = replicate 12 0 ++ (to_be_bytes w32 (tvv_of (contents (layout token 0xc0 0))) ++ [])

  three : List ℕ
  three = token.pattern ++ (token.sealed.left ++ token.sealed.right)

  three_long : length three ≡ 24
  unfolding three
  three_long = simp length-append (omega (arith, pattern_long, left_long, right_long))

  joined : token.pattern ++ (token.sealed.left ++ (token.sealed.right ++ (token.vector ++ behind))) ≡ three ++ (token.vector ++ behind)
  unfolding three
  joined =
      ap (λ t. token.pattern ++ t) (sym (append_assoc token.sealed.left token.sealed.right (token.vector ++ behind)))
      ∙ sym (append_assoc token.pattern (token.sealed.left ++ token.sealed.right) (token.vector ++ behind))

  read_back : vector_bytes_of (made token) ≡ take 16 (token.vector ++ behind)
  unfolding made
  read_back = ap (λ t. take 16 (drop 24 t)) joined ∙ ap (take 16) (drop_at three (token.vector ++ behind) 24 three_long)

  made_forbids : Forbids token.vector → ForbidsExport (made token)
  made_forbids f =
      ap is_exportable read_back ∙ forbids_behind token.vector (to_be_bytes w32 (tvv_of (contents (layout token 0xc0 0))) ++ []) f

-- ---- what tokens are made of

pub sealed_long : (bundle vector key : List ℕ) → (length (seal bundle vector key).left ≡ 8) × (length (seal bundle vector key).right ≡ 8)
unfolding seal
sealed_long bundle vector key = (
  (bytes-sealed_half bundle (left_of vector) (take 8 key)).size,
  by_test (length_of vector == 8),
)
  where
    by_test : (t : Bool) → length (if t then replicate 8 0 else sealed_half bundle (right_of vector) (take 8 (drop 8 key))) ≡ 8
    by_test true = refl
    by_test false = (bytes-sealed_half bundle (right_of vector) (take 8 (drop 8 key))).size

pub pattern_long : (bytes : List ℕ) → length (pattern_of_master bytes) ≡ 8
unfolding pattern_of_master sha1 digest_bytes
pattern_long bytes = refl

-- the token of a key under the master key of a register that is full
pub sealed_forbids : (register : Option (List ℕ)) (clear : ClearKey) → is_none register ≡ false → Forbids clear.vector
    → ForbidsExport (sealed_token (master_key register) clear)
sealed_forbids None clear full f = absurd (true≢false full)
sealed_forbids (Some bytes) clear full f =
    let halves = sealed_long bytes clear.vector clear.key in
    made_forbids (record { kind = Internal; pattern = pattern_of_master bytes; sealed = seal bytes clear.vector clear.key; vector = clear.vector })
    (pattern_long bytes) halves.0 halves.1 f

-- the token of a key under a transport key
pub external_forbids : (transport : List ℕ) (clear : ClearKey) → Forbids clear.vector → ForbidsExport (external_token transport clear)
unfolding external_token
external_forbids transport clear f =
    let halves = sealed_long _ clear.vector clear.key in
    made_forbids (record { kind = External; pattern = replicate 8 0; sealed = seal _ clear.vector clear.key; vector = clear.vector }) refl halves.0 halves.1 f

-- ---- vectors that are made of others

-- a vector that forbids export is closed already
pub closed_is : (vector : List ℕ) → is_exportable vector ≡ false → closed_to_export vector ≡ vector
closed_is vector off = ap (λ b. if b then (if is_zero vector then closed_zero else closed_half (left_of vector) ++ closed_half (right_of vector)) else vector) off

bit_is : (x y : ℕ) (n : ℕ) → x ≡ y → (bit_at x n == 1) ≡ (bit_at y n == 1)
bit_is x y n same = ap (λ b. bit_at b n == 1) same

-- the first five bytes of a half that is that of a part
five_stay : (a b c d e : ℕ) (rest : List ℕ) → is_zero (a ∷ b ∷ c ∷ d ∷ e ∷ rest) ≡ false
    → (changed : List ℕ) × (part_half (a ∷ b ∷ c ∷ d ∷ e ∷ rest) ≡ a ∷ b ∷ c ∷ d ∷ e ∷ changed)
five_stay a b c d e rest some = (_, ap (λ t. if t then a ∷ b ∷ c ∷ d ∷ e ∷ rest else with_bit_changed (with_bit_changed (a ∷ b ∷ c ∷ d ∷ e ∷ rest) 44) 47) some)

bit_38 : (e : ℕ) → (bit_at e 1 == 1) ≡ true → (e == 0) ≡ false
bit_38 e on = by_test (e == 0) refl
  where
    by_test : (t : Bool) → (e == 0) ≡ t → (e == 0) ≡ false
    by_test false is = is
    by_test true is = absurd (true≢false (sym on ∙ bit_is e 0 1 (eqb-true e 0 is)))

five_some : (a b c d e : ℕ) (rest : List ℕ) → (e == 0) ≡ false → is_zero (a ∷ b ∷ c ∷ d ∷ e ∷ rest) ≡ false
five_some a b c d e rest some =
    and_right (a == 0) _ (and_right (b == 0) _ (and_right (c == 0) _ (and_right (d == 0) _ (ap (λ t. t && is_zero rest) some))))

-- bit 38 of the left half is on, and bit 17 off
part_forbids : (vector : List ℕ) → (bit (left_of vector) 38 == 1) ≡ true → (bit (left_of vector) 17 == 1) ≡ false → is_exportable (as_part vector) ≡ false
part_forbids [] on off = absurd (true≢false (sym on))
part_forbids (a ∷ []) on off = absurd (true≢false (sym on))
part_forbids (a ∷ b ∷ []) on off = absurd (true≢false (sym on))
part_forbids (a ∷ b ∷ c ∷ []) on off = absurd (true≢false (sym on))
part_forbids (a ∷ b ∷ c ∷ d ∷ []) on off = absurd (true≢false (sym on))
part_forbids (a ∷ b ∷ c ∷ d ∷ e ∷ rest) on off =
    let some : (e == 0) ≡ false = bit_38 e on in
    let left = five_stay a b c d e (take 3 rest) (five_some a b c d e (take 3 rest) some) in
    let right : List ℕ = part_half (right_of (a ∷ b ∷ c ∷ d ∷ e ∷ rest)) in
    ap (λ half. is_exportable (half ++ right)) left.1
    ∙ or_from (is_zero (a ∷ b ∷ c ∷ d ∷ e ∷ (left.0 ++ right))) (bit (left_of (a ∷ b ∷ c ∷ d ∷ e ∷ (left.0 ++ right))) 17 == 1)
    (five_some a b c d e (left.0 ++ right) some) off

-- the two halves of a vector that isn't longer
halves_are : (vector : List ℕ) → length vector ≤ 16 → left_of vector ++ right_of vector ≡ vector
halves_are vector short =
    ap (λ back. take 8 vector ++ back) (take_all 8 (drop 8 vector) (simp length-drop (omega (arith, short)))) ∙ take-append-drop 8 vector

half_bit : (left : List ℕ) → is_anti_variant left ≡ true → is_zero left ≡ false → (bit left 38 == 1) ≡ true
half_bit left variant some =
    (and_parts (bit left 30 == 0) (bit left 38 == 1) (sym (ap (λ t. t || (bit left 30 == 0 && bit left 38 == 1)) some) ∙ variant)).1

-- whether a half of a form has this right half beside it
abbrev by_form : List ℕ → List ℕ → ℕ → Bool
by_form left right form =
    (form == single_length && is_zero right)
    || (form == left_of_double && bytes_eq right (right_half_for right_of_double left))
    || (form == left_of_unique && bytes_eq right (right_half_for right_of_unique left))

or_first : (b : Bool) → (b || false || false) ≡ true → b ≡ true
or_first true is = refl
or_first false is = is

-- beside a left half that is zero the right one is zero
zero_right : (left right : List ℕ) → is_zero left ≡ true → has_form left right ≡ true → is_zero right ≡ true
zero_right left right zeros form =
    let none : form_of left ≡ 0 = ap (λ b. 4 * bit_at b 7 + 2 * bit_at b 6 + bit_at b 5) (zero_at left 5 zeros) in
    or_first (is_zero right) (sym (ap (by_form left right) none) ∙ form)

-- both halves are anti-variant, and have a key form
abbrev are_anti : List ℕ → Bool
are_anti vector = is_anti_variant (left_of vector) && is_anti_variant (right_of vector)

abbrev have_form : List ℕ → Bool
have_form vector = has_form (left_of vector) (right_of vector)

-- a vector that breaks no rule, and isn't zero, has bit 38 of its left half on
bit_on : (vector : List ℕ) → length vector ≤ 16 → first_failing (vector_checks vector) ≡ None → is_zero vector ≡ false → (bit (left_of vector) 38 == 1) ≡ true
bit_on vector short passes some = by_left (is_zero (left_of vector)) refl
  where
    after_even : first_failing (check 15 (not (are_anti vector)) ∷ check 16 (not (have_form vector)) ∷ []) ≡ None
    after_even = passes_rest 14 (is_even vector) (check 15 (not (are_anti vector)) ∷ check 16 (not (have_form vector)) ∷ []) passes

    anti : are_anti vector ≡ true
    anti = passes_first 15 (are_anti vector) (check 16 (not (have_form vector)) ∷ []) after_even

    form : have_form vector ≡ true
    form = passes_first 16 (have_form vector) [] (passes_rest 15 (are_anti vector) (check 16 (not (have_form vector)) ∷ []) after_even)

    by_left : (t : Bool) → is_zero (left_of vector) ≡ t → (bit (left_of vector) 38 == 1) ≡ true
    by_left true zeros =
        let all : is_zero vector ≡ true =
        sym (ap is_zero (halves_are vector short)) ∙ zeros_append (left_of vector) (right_of vector) zeros (zero_right (left_of vector) (right_of vector) zeros form) in
        absurd (true≢false (sym all ∙ some))
    by_left false is = half_bit (left_of vector) (and_parts (is_anti_variant (left_of vector)) (is_anti_variant (right_of vector)) anti).0 is

half_long : (half : List ℕ) → length half ≤ 8 → length (part_half half) ≤ 8
half_long half short = by_test (is_zero half)
  where
    by_test : (t : Bool) → length (if t then half else with_bit_changed (with_bit_changed half 44) 47) ≤ 8
    by_test true = short
    by_test false = simp length-set short

-- the vector of a part, or of the whole key, forbids export where that of the other does
pub part_is_closed : (vector : List ℕ) → first_failing (vector_checks vector) ≡ None → Forbids vector → Forbids (as_part vector)
part_is_closed vector passes f =
    let both = or_parts (is_zero vector) (bit (left_of vector) 17 == 1) f.off in
    record {
      short =
          let left = half_long (left_of vector) (simp length-take (omega arith)) in
          let right = half_long (right_of vector) (simp length-take (omega arith)) in
          simp length-append (omega (arith, left, right));
      off = part_forbids vector (bit_on vector f.short passes both.0) both.1;
    }
