-- A token stands for one key.
use Rattle.std.proofs.Common.{◌≡◌, ◌≢◌, ℕ, ◌<◌, ◌≤◌, Bool, true, false, List, Option, None, Some, length, get_or, drop, refl, sym, ap, ◌∙◌, ◌⊎◌, subst, inl, inr, ⊎_elim, arith}
use Rattle.std.specs.Prelude.{if◌then◌else◌, is_none, replicate}
use Rattle.std.specs.Str.{bytes_eq}
use Rattle.std.proofs.lemmas.List.{get_or_past, length-drop, length-take}
use Rattle.std.proofs.lemmas.List.Elements.{All-drop, All-take}
use Rattle.std.proofs.lemmas.Bool.{cases_lt, false_from_ne_true}
use Rattle.std.proofs.lemmas.Slice.Eq.{bytes_eq-Decides}
use Rattle.cca_vectors.specs.Checks.{first_failing}
use Rattle.key_cells.specs.Bytes.{AreBytes, IsZero}
use Rattle.key_cells.proofs.ByteLemmas.{zeros_of}
use Rattle.multi_encipher.specs.Bundles.{transport_bundle}
use Rattle.multi_encipher.specs.Seals.{IsSealed, seal, unseal}
use Rattle.multi_encipher.proofs.SealLaws.{one_to_one}
use Rattle.key_tokens.specs.declared.key_token.Age.{Age}
use Rattle.key_tokens.specs.declared.key_token.Age.TheVariants.{Current, Old}
use Rattle.key_tokens.specs.declared.key_token.Asked.{Asked}
use Rattle.key_tokens.specs.declared.key_token.Asked.TheVariants as asked
use Rattle.key_tokens.specs.declared.key_token.Kind.{Kind}
use Rattle.key_tokens.specs.declared.key_token.Kind.TheVariants as kind
use Rattle.key_tokens.specs.declared.key_token.Token.{Token}
use Rattle.key_tokens.specs.Denotes.{HaveDistinctPatterns, ClearKey, Denoted, Denotes, DenotesOne, DenotesUnder, IsTokenOf, MasterKey, MasterKeys, clear_of, denoted, denoted_or, denoted_under, is_token}
use Rattle.key_tokens.specs.Kinds.{IsAsked}
use Rattle.key_tokens.specs.Layout.{IsToken, IsPatternFor}
use Rattle.key_tokens.specs.Fields.{kind_of, pattern_of_token, sealed_of, token_of, vector_bytes_of}
use Rattle.key_tokens.specs.TokenChecks.{token_checks}
use Rattle.key_tokens.proofs.Layouts.{none_from_token, same_token, token_from_none, token_is, with_fields}
use Rattle.std.proofs.lemmas.Option.{same_Some}

-- ---- tests

pub none_from_test : (o : Option ℕ) → is_none o ≡ true → o ≡ None
none_from_test None h = refl
none_from_test (Some x) h = cc

test_from_none : (o : Option ℕ) → o ≡ None → is_none o ≡ true
test_from_none None h = refl
test_from_none (Some x) h = cc

if_then : {A : Type 0} (test : Bool) (o : Option A) (y : A) → (if test then o else None) ≡ Some y → (test ≡ true) × (o ≡ Some y)
if_then true o y h = (refl, h)
if_then false o y h = cc

abbrev clear_key : List ℕ → List ℕ → ClearKey
clear_key key vector = record { key = key; vector = vector }

abbrev denoted_as : ClearKey → Age → Denoted
denoted_as clear age = record { clear = clear; age = age }

module _ (bytes : List ℕ) (are_bytes : AreBytes 64 bytes) where
  fits : (k : ℕ) → get_or bytes k 0 < 256
  fits k =
      ⊎_elim (λ (within : k < 64). are_bytes.each k 0 (omega (arith, are_bytes.size)))
      (λ (past : 64 ≤ k). let zero : get_or bytes k 0 ≡ 0 = get_or_past bytes k 0 (omega (arith, are_bytes.size)) in omega arith)
      (cases_lt k 64)

  -- the halves of a token that breaks no rule
  halves : IsToken bytes (token_of bytes) → IsSealed (vector_bytes_of bytes) (sealed_of bytes)
  halves is_token = record {
    left = record { size = simp (length-take, length-drop) (omega arith); each = All-take (λ b. b < 256) 8 (drop 16 bytes) (All-drop (λ b. b < 256) 16 bytes are_bytes.each) };
    right = record { size = simp (length-take, length-drop) (omega arith); each = All-take (λ b. b < 256) 8 (drop 24 bytes) (All-drop (λ b. b < 256) 24 bytes are_bytes.each) };
    single = is_token.right;
  }

  -- the key under three bundle, where the bytes are a token of this kind and pattern
  key_of_token : (bundle : List ℕ) (k : Kind) (pattern : List ℕ) → IsToken bytes (token_of bytes) → kind_of bytes ≡ k → pattern_of_token bytes ≡ pattern
      → IsTokenOf k pattern bundle bytes (clear_of bundle bytes)
  key_of_token bundle k pattern is_token kinds patterns =
      let again : seal bundle (vector_bytes_of bytes) (unseal bundle (vector_bytes_of bytes) (sealed_of bytes)) ≡ sealed_of bytes =
      (one_to_one bundle (vector_bytes_of bytes)).redone (sealed_of bytes) (halves is_token) in
      record {
        key = (one_to_one bundle (vector_bytes_of bytes)).opened (sealed_of bytes) (halves is_token);
        token = subst (IsToken bytes)
            (same_token (token_of bytes)
            (with_fields k pattern (seal bundle (vector_bytes_of bytes) (unseal bundle (vector_bytes_of bytes) (sealed_of bytes))).left
            (seal bundle (vector_bytes_of bytes) (unseal bundle (vector_bytes_of bytes) (sealed_of bytes))).right (vector_bytes_of bytes))
            kinds patterns (ap (λ s. s.left) (sym again)) (ap (λ s. s.right) (sym again)) refl)
            is_token;
      }

  -- the bundle of a token of a key
  only_key : (bundle : List ℕ) (k : Kind) (pattern : List ℕ) (clear : ClearKey) → IsTokenOf k pattern bundle bytes clear → clear_of bundle bytes ≡ clear
  only_key bundle k pattern clear h =
      ap (λ (token : Token). clear_key (unseal bundle token.vector token.sealed) token.vector)
      (token_is bytes h.token.whole (record { kind = k; pattern = pattern; sealed = seal bundle clear.vector clear.key; vector = clear.vector }) h.token)
      ∙ ap (λ key. clear_key key clear.vector) ((one_to_one bundle clear.vector).undone clear.key h.key)

  pattern_is : (bundle : List ℕ) (k : Kind) (pattern : List ℕ) (clear : ClearKey) → IsTokenOf k pattern bundle bytes clear → pattern_of_token bytes ≡ pattern
  pattern_is bundle k pattern clear h =
      ap (λ (token : Token). token.pattern)
      (token_is bytes h.token.whole (record { kind = k; pattern = pattern; sealed = seal bundle clear.vector clear.key; vector = clear.vector }) h.token)

  test_of_token : (asks : Asked) (bundle : List ℕ) (k : Kind) (pattern : List ℕ) (clear : ClearKey) → IsAsked asks k → IsTokenOf k pattern bundle bytes clear
      → is_token asks bytes ≡ true
  test_of_token asks bundle k pattern clear is_asked h =
      test_from_none (first_failing (token_checks asks bytes))
      (none_from_token asks bytes h.token.whole fits (record { kind = k; pattern = pattern; sealed = seal bundle clear.vector clear.key; vector = clear.vector })
      h.token is_asked)

  token_of_test : (asks : Asked) → is_token asks bytes ≡ true → IsToken bytes (token_of bytes) × IsAsked asks (kind_of bytes)
  token_of_test asks test =
      token_from_none asks bytes are_bytes.size fits (none_from_test (first_failing (token_checks asks bytes)) test)

  -- a register whose pattern isn't the token's
  passed : (register : Option MasterKey) (age : Age) (other : Option Denoted)
      → ((master : MasterKey) → register ≡ Some master → pattern_of_token bytes ≢ master.pattern) → denoted_or register age bytes other ≡ other
  passed None age other apart = refl
  passed (Some master) age other apart =
      ap (λ t. if t then Some (denoted_as (clear_of master.key bytes) age) else other)
      (false_from_ne_true (bytes_eq (pattern_of_token bytes) master.pattern)
      (λ same. apart master refl ((bytes_eq-Decides (pattern_of_token bytes) master.pattern).0 same)))

  -- the register whose pattern is the token's
  found : (register : Option MasterKey) (master : MasterKey) (age : Age) (other : Option Denoted) → register ≡ Some master → pattern_of_token bytes ≡ master.pattern
      → denoted_or register age bytes other ≡ Some (denoted_as (clear_of master.key bytes) age)
  found register master age other is same =
      ap (λ o. denoted_or o age bytes other) is
      ∙ ap (λ t. if t then Some (denoted_as (clear_of master.key bytes) age) else other)
      ((bytes_eq-Decides (pattern_of_token bytes) master.pattern).1 same)

  -- where an answer comes from
  from_register : (register : Option MasterKey) (age : Age) (other : Option Denoted) (answer : Denoted) → denoted_or register age bytes other ≡ Some answer
      → ((master : MasterKey) × ((register ≡ Some master) × ((pattern_of_token bytes ≡ master.pattern) × (denoted_as (clear_of master.key bytes) age ≡ answer))))
      ⊎ (other ≡ Some answer)
  from_register None age other answer h = inr h
  from_register (Some master) age other answer h =
      by_test (bytes_eq (pattern_of_token bytes) master.pattern) (λ same. (bytes_eq-Decides (pattern_of_token bytes) master.pattern).0 same) h
    where
      by_test : (t : Bool) → (t ≡ true → pattern_of_token bytes ≡ master.pattern)
          → (if t then Some (denoted_as (clear_of master.key bytes) age) else other) ≡ Some answer
          → ((m : MasterKey) × ((Some master ≡ Some m) × ((pattern_of_token bytes ≡ m.pattern) × (denoted_as (clear_of m.key bytes) age ≡ answer))))
          ⊎ (other ≡ Some answer)
      by_test true same e = inl (master, (refl, (same refl, same_Some (denoted_as (clear_of master.key bytes) age) answer e)))
      by_test false same e = inr e

module _ (masters : MasterKeys) (transport bytes : List ℕ) (are_bytes : AreBytes 64 bytes) (apart : HaveDistinctPatterns masters) where
  internal : (clear : ClearKey) (age : Age) → Denotes masters bytes clear age → denoted masters bytes ≡ Some (denoted_as clear age)
  unfolding denoted
  internal clear Current h =
      let same : pattern_of_token bytes ≡ h.0.pattern = pattern_is bytes are_bytes h.0.key kind.Internal h.0.pattern clear h.1.1 in
      ap (λ t. if t then denoted_or masters.current Current bytes (denoted_or masters.former Old bytes None) else None)
      (test_of_token bytes are_bytes asked.Internal h.0.key kind.Internal h.0.pattern clear refl h.1.1)
      ∙ found bytes are_bytes masters.current h.0 Current (denoted_or masters.former Old bytes None) h.1.0 same
      ∙ ap (λ c. Some (denoted_as c Current)) (only_key bytes are_bytes h.0.key kind.Internal h.0.pattern clear h.1.1)
  internal clear Old h =
      let same : pattern_of_token bytes ≡ h.0.pattern = pattern_is bytes are_bytes h.0.key kind.Internal h.0.pattern clear h.1.1 in
      ap (λ t. if t then denoted_or masters.current Current bytes (denoted_or masters.former Old bytes None) else None)
      (test_of_token bytes are_bytes asked.Internal h.0.key kind.Internal h.0.pattern clear refl h.1.1)
      ∙ passed bytes are_bytes masters.current Current (denoted_or masters.former Old bytes None)
      (λ current is equal. apart current h.0 is h.1.0 (sym equal ∙ same))
      ∙ found bytes are_bytes masters.former h.0 Old None h.1.0 same
      ∙ ap (λ c. Some (denoted_as c Old)) (only_key bytes are_bytes h.0.key kind.Internal h.0.pattern clear h.1.1)

  internal_back : (clear : ClearKey) (age : Age) → denoted masters bytes ≡ Some (denoted_as clear age) → Denotes masters bytes clear age
  unfolding denoted
  internal_back clear age e =
      ⊎_elim (λ (h : (master : MasterKey) × ((masters.current ≡ Some master) × ((pattern_of_token bytes ≡ master.pattern) × (denoted_as (clear_of master.key bytes) Current ≡ denoted_as clear age)))).
      subst (λ (d : Denoted). Denotes masters bytes d.clear d.age) h.1.1.1
      (h.0, (h.1.0, key_of_token bytes are_bytes h.0.key kind.Internal h.0.pattern token.0 token.1 h.1.1.0)))
      (λ (rest : denoted_or masters.former Old bytes None ≡ Some (denoted_as clear age)).
      ⊎_elim (λ (h : (master : MasterKey) × ((masters.former ≡ Some master) × ((pattern_of_token bytes ≡ master.pattern) × (denoted_as (clear_of master.key bytes) Old ≡ denoted_as clear age)))).
      subst (λ (d : Denoted). Denotes masters bytes d.clear d.age) h.1.1.1
      (h.0, (h.1.0, key_of_token bytes are_bytes h.0.key kind.Internal h.0.pattern token.0 token.1 h.1.1.0)))
      (λ (nothing : None ≡ Some (denoted_as clear age)). cc)
      (from_register bytes are_bytes masters.former Old None (denoted_as clear age) rest))
      (from_register bytes are_bytes masters.current Current (denoted_or masters.former Old bytes None) (denoted_as clear age) parts.1)
    where
      parts : (is_token asked.Internal bytes ≡ true) × (denoted_or masters.current Current bytes (denoted_or masters.former Old bytes None) ≡ Some (denoted_as clear age))
      parts = if_then (is_token asked.Internal bytes) (denoted_or masters.current Current bytes (denoted_or masters.former Old bytes None)) (denoted_as clear age) e

      token : IsToken bytes (token_of bytes) × (kind_of bytes ≡ kind.Internal)
      token = token_of_test bytes are_bytes asked.Internal parts.0

  external : (clear : ClearKey) → DenotesUnder transport bytes clear → denoted_under transport bytes ≡ Some clear
  unfolding denoted_under
  external clear h =
      ap (λ t. if t then Some (clear_of (transport_bundle transport) bytes) else None)
      (test_of_token bytes are_bytes asked.External (transport_bundle transport) kind.External (replicate 8 0) clear refl h)
      ∙ ap (λ c. Some c) (only_key bytes are_bytes (transport_bundle transport) kind.External (replicate 8 0) clear h)

  external_back : (clear : ClearKey) → denoted_under transport bytes ≡ Some clear → DenotesUnder transport bytes clear
  unfolding denoted_under
  external_back clear e =
      let parts : (is_token asked.External bytes ≡ true) × (Some (clear_of (transport_bundle transport) bytes) ≡ Some clear) =
      if_then (is_token asked.External bytes) (Some (clear_of (transport_bundle transport) bytes)) clear e in
      let token : IsToken bytes (token_of bytes) × (kind_of bytes ≡ kind.External) = token_of_test bytes are_bytes asked.External parts.0 in
      let zero : IsZero (pattern_of_token bytes) = subst (λ k. IsPatternFor k (pattern_of_token bytes)) token.1 token.0.pattern in
      let long : length (pattern_of_token bytes) ≡ 8 = simp (length-take, length-drop) (omega (arith, are_bytes.size)) in
      subst (DenotesUnder transport bytes) (same_Some (clear_of (transport_bundle transport) bytes) clear parts.1)
      (key_of_token bytes are_bytes (transport_bundle transport) kind.External (replicate 8 0) token.0 token.1 (zeros_of 8 (pattern_of_token bytes) long zero))

  pub denotes_one : DenotesOne masters transport bytes
  denotes_one = record { internal = internal; internal_back = internal_back; external = external; external_back = external_back }
