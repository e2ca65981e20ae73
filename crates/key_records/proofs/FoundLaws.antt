-- The pattern of a token that is kept for a key is found in a register, as the code looks for it.
use Rattle.std.proofs.Common.{◌≡◌, ◌≢◌, ◌⊎◌, inl, inr, ℕ, List, [], Option, None, Some, refl, sym, ap, ◌∙◌}
use Rattle.std.specs.Prelude.{slice_index, bytes_eq, option_map, if◌then◌else◌}
use Rattle.std.proofs.lemmas.Bool.{false_from_ne_true}
use Rattle.std.proofs.lemmas.Slice.Eq.{bytes_eq-Decides}
use Rattle.cca_vectors.specs.Checks.{first_failing}
use Rattle.key_tokens.specs.Denotes.{MasterKeys, Denoted, denoted_or, clear_of}
use Rattle.key_tokens.specs.Fields.{pattern_of_token}
use Rattle.key_tokens.specs.TokenChecks.{token_checks}
use Rattle.key_tokens.specs.declared.key_token.Age.{Age}
use Rattle.key_tokens.specs.declared.key_token.Age.TheVariants.{Current, Old}
use Rattle.key_tokens.specs.declared.key_token.Asked.TheVariants as asked
use Rattle.master_registers.specs.Loaded.{pattern_in}
use Rattle.master_registers.specs.Masters.{Masters, pattern_of_master}
use Rattle.master_registers.specs.declared.patterns.Pattern.{Pattern}
use Rattle.verb_rules.specs.Keys.{keys_of, master_key}
use Rattle.record_bodies.specs.Entries.{pattern_for, pattern_or}
use Rattle.record_bodies.specs.RecordBody.{kept}
use Rattle.record_bodies.proofs.KeptLaws.{kept_with_flag, denoted_token, pattern}

abbrev kept_or : Option (List ℕ) → List ℕ
kept_or None = []
kept_or (Some bytes) = bytes

-- the test of one register
module _ (masters : MasterKeys) (token : List ℕ) (p : Pattern) (is : p ≡ pattern (pattern_of_token token)) where
  register_has : (register : Option (List ℕ)) (age : Age) (other : Option Denoted) → pattern_for masters (record { clear = clear_of (kept_or register) token; age = age }) ≡ pattern_or (master_key register) → pattern_in register ≡ Some p
      → option_map (pattern_for masters) (denoted_or (master_key register) age token other) ≡ Some p
  register_has None age other under has = let no : None ≡ Some p = has in cc
  register_has (Some bytes) age other under has =
      let same : pattern (pattern_of_master bytes) ≡ p = cc has in
      ap (λ t. option_map (pattern_for masters) (if t then Some (record { clear = clear_of bytes token; age = age }) else other))
      ((bytes_eq-Decides (pattern_of_token token) (pattern_of_master bytes)).1 (sym (ap (λ (q : Pattern). q.bytes) (same ∙ is))))
      ∙ ap (λ q. Some q) (under ∙ same)

  register_hasnt : (register : Option (List ℕ)) (age : Age) (other : Option Denoted) → pattern_in register ≢ Some p → denoted_or (master_key register) age token other ≡ other
  register_hasnt None age other hasnt = refl
  register_hasnt (Some bytes) age other hasnt =
      ap (λ t. if t then Some (record { clear = clear_of bytes token; age = age }) else other)
      (false_from_ne_true (bytes_eq (pattern_of_token token) (pattern_of_master bytes))
      (λ test. hasnt (ap (λ b. Some (pattern b)) (sym ((bytes_eq-Decides (pattern_of_token token) (pattern_of_master bytes)).0 test)) ∙ ap (λ q. Some q) (sym is))))

-- the pattern of the token is that of the register, as the code tests it
pub pattern_found : (m : Masters) (token : List ℕ) (p : Pattern) → p ≡ pattern (pattern_of_token token) → slice_index token 6 ≡ 0xc0 → first_failing (token_checks asked.Internal token) ≡ None
    → (pattern_in m.current ≡ Some p) ⊎ ((pattern_in m.current ≢ Some p) × (pattern_in m.former ≡ Some p)) → option_map (pattern_for (keys_of m)) (kept (keys_of m) token) ≡ Some p
pattern_found m token p is flag sound (inl has) =
    ap (option_map (pattern_for (keys_of m))) (kept_with_flag (keys_of m) token flag ∙ denoted_token (keys_of m) token sound)
    ∙ register_has (keys_of m) token p is m.current Current (denoted_or (master_key m.former) Old token None) refl has
pattern_found m token p is flag sound (inr has) =
    ap (option_map (pattern_for (keys_of m))) (kept_with_flag (keys_of m) token flag ∙ denoted_token (keys_of m) token sound
    ∙ register_hasnt (keys_of m) token p is m.current Current (denoted_or (master_key m.former) Old token None) has.0)
    ∙ register_has (keys_of m) token p is m.former Old None refl has.1

pub pattern_missing : (m : Masters) (token : List ℕ) (p : Pattern) → p ≡ pattern (pattern_of_token token) → slice_index token 6 ≡ 0xc0 → first_failing (token_checks asked.Internal token) ≡ None
    → pattern_in m.current ≢ Some p → pattern_in m.former ≢ Some p → option_map (pattern_for (keys_of m)) (kept (keys_of m) token) ≡ None
pattern_missing m token p is flag sound not_current not_former =
    ap (option_map (pattern_for (keys_of m))) (kept_with_flag (keys_of m) token flag ∙ denoted_token (keys_of m) token sound
    ∙ register_hasnt (keys_of m) token p is m.current Current (denoted_or (master_key m.former) Old token None) not_current
    ∙ register_hasnt (keys_of m) token p is m.former Old None not_former)
