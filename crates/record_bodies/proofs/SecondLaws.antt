-- Second tokens: their bytes, their pattern, and where they stand for no key.
use Rattle.std.proofs.Common.{◌≡◌, ◌≢◌, ⊎_elim, ◌<◌, ◌≤◌, ◌+◌, ◌-◌, ℕ, zero, suc, Bool, true, false, List, [], ◌∷◌, ◌++◌, length, get_or, drop, replicate, Option, None, Some, refl, sym, ap, subst, ◌∙◌, arith}
use Rattle.std.specs.Prelude.{slice_index, slice_range, bytes_eq, ◌==◌, if◌then◌else◌}
use Rattle.std.specs.Int.{to_be_bytes, w32, byte_at, bytes_high_first}
use Rattle.std.proofs.lemmas.Bool.{cases_lt, eq-eqb, false_from_ne_true}
use Rattle.std.proofs.lemmas.List.{get_or_past, take_at, length-append}
use Rattle.std.proofs.lemmas.List.Elements.{All-append, All-cons, All-take, All-drop}
use Rattle.std.proofs.lemmas.Nat.{mod_below}
use Rattle.std.proofs.lemmas.Slice.Eq.{bytes_eq-Decides}
use Rattle.key_cells.specs.Bytes.{AreBytes, IsZero}
use Rattle.cca_vectors.specs.Vectors.{length_of, right_of}
use Rattle.multi_encipher.specs.Seals.{seal, sealed_half}
use Rattle.multi_encipher.proofs.SealLaws.{all_zeros}
use Rattle.device_cells.proofs.CellSteps.{length-range}
use Rattle.key_tokens.specs.Denotes.{ClearKey, MasterKey, MasterKeys, Denoted, denoted, denoted_or, clear_of, is_token}
use Rattle.key_tokens.specs.Fields.{pattern_of_token, vector_bytes_of}
use Rattle.key_tokens.specs.Layout.{made}
use Rattle.key_tokens.specs.declared.key_token.Age.{Age}
use Rattle.key_tokens.specs.declared.key_token.Age.TheVariants.{Current, Old}
use Rattle.key_tokens.specs.declared.key_token.Asked.TheVariants as asked
use Rattle.record_bodies.specs.RecordBody.{second_token, second_of, kept, no_second, IsFirst, IsSecond}
use Rattle.record_bodies.specs.declared.rows.Second.{Second}

-- ---- pieces of bytes

pub fits : (bytes : List ℕ) → AreBytes 64 bytes → (k : ℕ) → get_or bytes k 0 < 256
fits bytes are k =
    ⊎_elim (λ (within : k < 64). are.each k 0 (omega (arith, are.size)))
    (λ (past : 64 ≤ k). let zero : get_or bytes k 0 ≡ 0 = get_or_past bytes k 0 (omega (arith, are.size)) in omega arith)
    (cases_lt k 64)

pub slice_bytes : (n at size : ℕ) (bytes : List ℕ) → AreBytes n bytes → at + size ≤ n → AreBytes size (slice_range bytes at (at + size))
slice_bytes n at size bytes are within = record {
  size = omega (arith, length-range bytes at size, are.size, within);
  each = All-take (λ b. b < 256) (at + size - at) (drop at bytes) (All-drop (λ b. b < 256) at bytes are.each);
}

joined : (m n : ℕ) (xs ys : List ℕ) → AreBytes m xs → AreBytes n ys → AreBytes (m + n) (xs ++ ys)
joined m n xs ys first second = record {
  size = length-append xs ys ∙ omega (arith, first.size, second.size);
  each = All-append (λ b. b < 256) xs ys first.each second.each;
}

none_bytes : AreBytes 0 []
none_bytes = record { size = refl; each = λ k d within. absurd (omega (arith, within)) }

more_bytes : (n b : ℕ) (bytes : List ℕ) → b < 256 → AreBytes n bytes → AreBytes (n + 1) (b ∷ bytes)
more_bytes n b bytes low are = record {
  size = omega (arith, are.size);
  each = All-cons (λ b. b < 256) b bytes low are.each;
}

low_byte : (k n : ℕ) → byte_at k n < 256
low_byte zero n = mod_below n 256 (omega arith)
low_byte (suc k) n = mod_below _ 256 (omega arith)

number_bytes : (k n : ℕ) → AreBytes k (bytes_high_first k n)
number_bytes zero n = none_bytes
number_bytes (suc k) n = subst (λ m. AreBytes m (bytes_high_first (suc k) n)) (omega arith) (more_bytes k (byte_at k n) (bytes_high_first k n) (low_byte k n) (number_bytes k n))

head_bytes : AreBytes 8 (1 ∷ 0 ∷ 0 ∷ 0 ∷ 0 ∷ 0 ∷ 0xc0 ∷ 0 ∷ [])
head_bytes =
    more_bytes 7 1 _ (omega arith) (more_bytes 6 0 _ (omega arith) (more_bytes 5 0 _ (omega arith) (more_bytes 4 0 _ (omega arith)
    (more_bytes 3 0 _ (omega arith) (more_bytes 2 0 _ (omega arith) (more_bytes 1 0xc0 _ (omega arith) (more_bytes 0 0 _ (omega arith) none_bytes)))))))

-- a token that is written, of byte pieces
made_bytes : (pattern left right vector : List ℕ) (tvv : ℕ)
    → AreBytes 8 pattern → AreBytes 8 left → AreBytes 8 right → AreBytes 16 vector
    → AreBytes 64 (1 ∷ 0 ∷ 0 ∷ 0 ∷ 0 ∷ 0 ∷ 0xc0 ∷ 0 ∷ (pattern ++ (left ++ (right ++ (vector ++ (replicate 12 0 ++ (to_be_bytes w32 tvv ++ [])))))))
made_bytes pattern left right vector tvv patterns lefts rights vectors =
    joined 8 56 _ _ head_bytes
    (joined 8 48 pattern _ patterns (joined 8 40 left _ lefts (joined 8 32 right _ rights
    (joined 16 16 vector _ vectors (joined 12 4 (replicate 12 0) _ (all_zeros 12) (joined 4 0 (to_be_bytes w32 tvv) [] (number_bytes 4 tvv) none_bytes))))))

module _ (token : List ℕ) (second : Second) (first : IsFirst token) (is : IsSecond token second) where
  pub second_bytes : AreBytes 64 (second_token token second)
  unfolding second_token made
  second_bytes =
      made_bytes second.pattern.bytes second.sealed.left second.sealed.right (vector_bytes_of token) _
      is.pattern is.left is.right (slice_bytes 64 32 16 token first.bytes (omega arith))

pub second_pattern : (token : List ℕ) (second : Second) → length second.pattern.bytes ≡ 8 → pattern_of_token (second_token token second) ≡ second.pattern.bytes
unfolding second_token made
second_pattern token second long = take_at second.pattern.bytes _ 8 long

-- ---- a token whose pattern no register has

passed : (token : List ℕ) (register : Option MasterKey) (age : Age) (other : Option Denoted)
    → ((master : MasterKey) → register ≡ Some master → pattern_of_token token ≢ master.pattern) → denoted_or register age token other ≡ other
passed token None age other apart = refl
passed token (Some master) age other apart =
    ap (λ t. if t then Some (record { clear = clear_of master.key token; age = age }) else other)
    (false_from_ne_true (bytes_eq (pattern_of_token token) master.pattern)
    (λ same. apart master refl ((bytes_eq-Decides (pattern_of_token token) master.pattern).0 same)))

pub stands_for_none : (masters : MasterKeys) (token : List ℕ)
    → ((master : MasterKey) → masters.current ≡ Some master → pattern_of_token token ≢ master.pattern)
    → ((master : MasterKey) → masters.former ≡ Some master → pattern_of_token token ≢ master.pattern) → kept masters token ≡ None
unfolding kept denoted
stands_for_none masters token other others = by_flag (slice_index token 6 == 0xc0) (is_token asked.Internal token)
  where
    none : denoted_or masters.current Current token (denoted_or masters.former Old token None) ≡ None
    none = passed token masters.current Current (denoted_or masters.former Old token None) other ∙ passed token masters.former Old None others

    by_flag : (flag sound : Bool) → (if flag then (if sound then denoted_or masters.current Current token (denoted_or masters.former Old token None) else None) else None) ≡ None
    by_flag true true = none
    by_flag true false = refl
    by_flag false sound = refl

-- ---- second tokens as records

abbrev pub second_as : List ℕ → List ℕ → List ℕ → Second
second_as pattern left right = record { pattern = record { bytes = pattern }; sealed = record { left = left; right = right } }

pub same_second : (a b : Second) → a.pattern.bytes ≡ b.pattern.bytes → a.sealed.left ≡ b.sealed.left → a.sealed.right ≡ b.sealed.right → a ≡ b
same_second a b pattern left right =
    ap (λ p. second_as p a.sealed.left a.sealed.right) pattern
    ∙ ap (λ l. second_as b.pattern.bytes l a.sealed.right) left
    ∙ ap (second_as b.pattern.bytes b.sealed.left) right

-- its pieces have 8 bytes each
pub record IsLong (second : Second) : Type 0 where
  pub pattern : length second.pattern.bytes ≡ 8
  pub left : length second.sealed.left ≡ 8
  pub right : length second.sealed.right ≡ 8

pub none_long : IsLong no_second
none_long = record { pattern = refl; left = refl; right = refl }

pub second_long : (token : List ℕ) (second : Second) → IsSecond token second → IsLong second
second_long token second is = record { pattern = is.pattern.size; left = is.left.size; right = is.right.size }

-- the right half of a single-length key
pub sealed_single : (master : MasterKey) (clear : ClearKey) (second : Second) → second ≡ second_of master clear → length_of clear.vector ≡ 8 → IsZero second.sealed.right
unfolding seal
sealed_single master clear second is single =
    let right : second.sealed.right ≡ replicate 8 0 =
    ap (λ (s : Second). s.sealed.right) is ∙ ap (λ t. if t then replicate 8 0 else sealed_half master.key (right_of clear.vector) (slice_range clear.key 8 16)) (eq-eqb (length_of clear.vector) 8 single) in
    subst IsZero (sym right) refl
