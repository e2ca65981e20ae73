-- The pattern of a token that is kept for a key is that of the register that it is under.
use Rattle.std.proofs.Common.{◌≡◌, ◌≢◌, inl, inr, ⊎_elim, ℕ, Bool, true, false, List, Option, None, Some, refl, sym, ap, ◌∙◌}
use Rattle.std.specs.Prelude.{slice_index, bytes_eq, option_map, is_none, ◌==◌, if◌then◌else◌}
use Rattle.std.proofs.lemmas.Bool.{cases_eq, false_from_ne_true}
use Rattle.std.proofs.lemmas.Bool.Decides.{Decides-eqb}
use Rattle.std.proofs.lemmas.Slice.Eq.{bytes_eq-Decides}
use Rattle.cca_vectors.specs.Checks.{first_failing}
use Rattle.key_tokens.specs.Denotes.{MasterKey, MasterKeys, Denoted, denoted, denoted_or, is_token, clear_of}
use Rattle.key_tokens.specs.Fields.{pattern_of_token, token_of, vector_bytes_of}
use Rattle.key_tokens.specs.declared.key_token.Token.{Token}
use Rattle.multi_encipher.specs.Seals.{unseal}
use Rattle.key_tokens.specs.TokenChecks.{token_checks}
use Rattle.key_tokens.specs.declared.key_token.Age.{Age}
use Rattle.key_tokens.specs.declared.key_token.Age.TheVariants.{Current, Old}
use Rattle.key_tokens.specs.declared.key_token.Asked.TheVariants as asked
use Rattle.master_registers.specs.declared.patterns.Pattern.{Pattern}
use Rattle.record_bodies.specs.Entries.{Entry, remembered, pattern_for, pattern_under, pattern_or, pattern_ahead}
use Rattle.key_cells.specs.Bytes.{AreBytes}
use Rattle.record_bodies.specs.RecordBody.{kept, IsKept, IsFirst, IsAhead, HasToken, StandsAs, ReadsEntry, ReadsWhat, ReadsRow, ReadsPattern}
use Rattle.record_bodies.specs.declared.rows.Second.{Second}
use Rattle.cca_roles.proofs.DirectoryLaws.{none_some}

pub kept_flag : (masters : MasterKeys) (token : List ℕ) → slice_index token 6 ≢ 0xc0 → kept masters token ≡ None
unfolding kept
kept_flag masters token other = ap (λ t. if t then denoted masters token else None) (false_from_ne_true (slice_index token 6 == 0xc0) (λ is. other ((Decides-eqb (slice_index token 6) 0xc0).0 is)))

pub kept_with_flag : (masters : MasterKeys) (token : List ℕ) → slice_index token 6 ≡ 0xc0 → kept masters token ≡ denoted masters token
unfolding kept
kept_with_flag masters token is = ap (λ t. if t then denoted masters token else None) ((Decides-eqb (slice_index token 6) 0xc0).1 is)

pub denoted_refused : (masters : MasterKeys) (token : List ℕ) (rule : ℕ) → first_failing (token_checks asked.Internal token) ≡ Some rule → denoted masters token ≡ None
unfolding denoted
denoted_refused masters token rule is = ap (λ o. if is_none o then denoted_or masters.current Current token (denoted_or masters.former Old token None) else None) is

pub denoted_token : (masters : MasterKeys) (token : List ℕ) → first_failing (token_checks asked.Internal token) ≡ None → denoted masters token ≡ denoted_or masters.current Current token (denoted_or masters.former Old token None)
unfolding denoted
denoted_token masters token is = ap (λ o. if is_none o then denoted_or masters.current Current token (denoted_or masters.former Old token None) else None) is

abbrev pub pattern : List ℕ → Pattern
pattern bytes = record { bytes = bytes }

-- ---- a token that stands for a key

abbrev same_pattern : MasterKeys → List ℕ → Denoted → Type 0
same_pattern masters token key = pattern_for masters key ≡ pattern (pattern_of_token token)

or_pattern : (masters : MasterKeys) (token : List ℕ) (register : Option MasterKey) (age : Age) (other : Option Denoted) (key : Denoted) → pattern_under masters age ≡ pattern_or register → (other ≡ Some key → same_pattern masters token key)
    → denoted_or register age token other ≡ Some key → same_pattern masters token key
or_pattern masters token None age other key under rest is = rest is
or_pattern masters token (Some master) age other key under rest is = by_test (bytes_eq (pattern_of_token token) master.pattern) (bytes_eq-Decides (pattern_of_token token) master.pattern).0 is
  where
    by_test : (t : Bool) → (t ≡ true → pattern_of_token token ≡ master.pattern) → (if t then Some (record { clear = clear_of master.key token; age = age }) else other) ≡ Some key → same_pattern masters token key
    by_test true same is =
        let key_age : age ≡ key.age = cc is in
        ap (pattern_under masters) (sym key_age) ∙ under ∙ ap pattern (sym (same refl))
    by_test false same is = rest is

pub denoted_pattern : (masters : MasterKeys) (token : List ℕ) (key : Denoted) → denoted masters token ≡ Some key → same_pattern masters token key
unfolding denoted
denoted_pattern masters token key is = by_test (is_token asked.Internal token) is
  where
    none_key : None ≡ Some key → same_pattern masters token key
    none_key none = cc none

    by_test : (t : Bool) → (if t then denoted_or masters.current Current token (denoted_or masters.former Old token None) else None) ≡ Some key → same_pattern masters token key
    by_test true is = or_pattern masters token masters.current Current (denoted_or masters.former Old token None) key refl (λ rest. or_pattern masters token masters.former Old None key refl none_key rest) is
    by_test false is = none_key is

or_vector : (token : List ℕ) (register : Option MasterKey) (age : Age) (other : Option Denoted) (key : Denoted) → (other ≡ Some key → key.clear.vector ≡ vector_bytes_of token)
    → denoted_or register age token other ≡ Some key → key.clear.vector ≡ vector_bytes_of token
or_vector token None age other key rest is = rest is
or_vector token (Some master) age other key rest is = by_test (bytes_eq (pattern_of_token token) master.pattern) is
  where
    by_test : (t : Bool) → (if t then Some (record { clear = clear_of master.key token; age = age }) else other) ≡ Some key → key.clear.vector ≡ vector_bytes_of token
    by_test true is = ap (λ (d : Denoted). d.clear.vector) (sym (some_one is))
      where
        some_one : {x y : Denoted} → Some x ≡ Some y → x ≡ y
        some_one is = cc is
    by_test false is = rest is

-- the key of a token has its vector
pub denoted_vector : (masters : MasterKeys) (token : List ℕ) (key : Denoted) → denoted masters token ≡ Some key → key.clear.vector ≡ vector_bytes_of token
unfolding denoted
denoted_vector masters token key is = by_test (is_token asked.Internal token) is
  where
    none_key : None ≡ Some key → key.clear.vector ≡ vector_bytes_of token
    none_key none = cc none

    by_test : (t : Bool) → (if t then denoted_or masters.current Current token (denoted_or masters.former Old token None) else None) ≡ Some key → key.clear.vector ≡ vector_bytes_of token
    by_test true is = or_vector token masters.current Current (denoted_or masters.former Old token None) key (λ rest. or_vector token masters.former Old None key none_key rest) is
    by_test false is = none_key is

-- ---- a token written anew

abbrev or_of : Option MasterKey → Age → Token → Option Denoted → Option Denoted
or_of None age t other = other
or_of (Some master) age t other = if bytes_eq t.pattern master.pattern then Some (record { clear = record { key = unseal master.key t.vector t.sealed; vector = t.vector }; age = age }) else other

or_token : (register : Option MasterKey) (age : Age) (token : List ℕ) (other : Option Denoted) → denoted_or register age token other ≡ or_of register age (token_of token) other
or_token None age token other = refl
or_token (Some master) age token other = refl

pub denoted_same : (masters : MasterKeys) (a b : List ℕ) → first_failing (token_checks asked.Internal a) ≡ None → first_failing (token_checks asked.Internal b) ≡ None → token_of a ≡ token_of b → denoted masters a ≡ denoted masters b
denoted_same masters a b sound_a sound_b same =
    denoted_token masters a sound_a ∙ both a ∙ ap (λ (t : Token). or_of masters.current Current t (or_of masters.former Old t None)) same ∙ sym (both b) ∙ sym (denoted_token masters b sound_b)
  where
    both : (x : List ℕ) → denoted_or masters.current Current x (denoted_or masters.former Old x None) ≡ or_of masters.current Current (token_of x) (or_of masters.former Old (token_of x) None)
    both x = or_token masters.current Current x (denoted_or masters.former Old x None) ∙ ap (or_of masters.current Current (token_of x)) (or_token masters.former Old x None)

pub denoted_sound : (masters : MasterKeys) (token : List ℕ) (key : Denoted) → denoted masters token ≡ Some key → first_failing (token_checks asked.Internal token) ≡ None
unfolding denoted
denoted_sound masters token key is = by_rule (first_failing (token_checks asked.Internal token)) (denoted_or masters.current Current token (denoted_or masters.former Old token None)) is
  where
    by_rule : (o : Option ℕ) (there : Option Denoted) → (if is_none o then there else None) ≡ Some key → o ≡ None
    by_rule None there is = refl
    by_rule (Some rule) there is = cc is

-- ---- what the memory knows of an entry

pub kept_known : (masters : MasterKeys) (token : List ℕ) (key : Denoted) → AreBytes 64 token → kept masters token ≡ Some key → IsKept token (pattern_for masters key)
kept_known masters token key are is = ⊎_elim
    (λ (flag : slice_index token 6 ≡ 0xc0).
    let denotes : denoted masters token ≡ Some key = sym (kept_with_flag masters token flag) ∙ is in
    record { bytes = are; sound = denoted_sound masters token key denotes; flag = flag; under = ap (λ (p : Pattern). p.bytes) (sym (denoted_pattern masters token key denotes)) })
    (λ (other : slice_index token 6 ≡ 0xc0 → ⊥). absurd (none_some key (sym (kept_flag masters token other) ∙ is)))
    (cases_eq (slice_index token 6) 0xc0)

pub kept_first : (masters : MasterKeys) (token : List ℕ) (key : Denoted) → AreBytes 64 token → kept masters token ≡ Some key → IsFirst token
kept_first masters token key are is =
    let known = kept_known masters token key are is in
    record { bytes = known.bytes; sound = known.sound; flag = known.flag }

-- where the token stands, as the memory knows it
pub stands_as : (masters : MasterKeys) (bytes label token : List ℕ) (key : Denoted) (ahead : Bool) (unused : Option (List ℕ)) → HasToken masters bytes label token key ahead unused
    → StandsAs bytes label token (pattern_ahead masters ahead)
stands_as masters bytes label token key false unused (inl body) = inl body.0
stands_as masters bytes label token key false unused (inr turned) = inr turned.0
stands_as masters bytes label token key true unused is =
    let a : IsAhead masters bytes label token key = is.0 in
    record {
      second = a.second;
      is_second = a.is_second;
      beside = ap (λ (s : Second). s.pattern) a.sealed ∙ ap pattern_or (sym a.is_coming);
      body = a.body;
    }

pub row_reads : (masters : MasterKeys) (bytes : List ℕ) (e : Option Entry) → ReadsEntry masters bytes e → ReadsRow bytes (remembered masters e)
row_reads masters bytes None reads = reads
row_reads masters bytes (Some e) reads = (reads.0, by_what e.what e.ahead e.unused reads.1)
  where
    by_what : (what : Option Denoted) (ahead : Bool) (unused : Option (List ℕ)) → ReadsWhat masters bytes e.label what ahead unused
        → ReadsPattern bytes e.label (option_map (pattern_for masters) what) (pattern_ahead masters ahead)
    by_what None ahead unused is = (is.0, ap (pattern_ahead masters) is.1)
    by_what (Some key) ahead unused is = record {
      token = is.token;
      is_kept = kept_known masters is.token key is.are is.is_kept;
      body = stands_as masters bytes e.label is.token key ahead unused is.body;
    }
