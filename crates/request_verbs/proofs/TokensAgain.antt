-- The token of a key that was judged is the one that is written for the key.
use Rattle.std.proofs.Common.{◌≡◌, ℕ, Bool, true, false, List, Option, None, Some, refl, sym, ap, subst, ◌∙◌}
use Rattle.std.specs.Prelude.{if◌then◌else◌, option_map}
use Rattle.std.proofs.lemmas.Slice.Eq.{bytes_eq-Decides}
use Rattle.key_cells.specs.Bench.{Bench}
use Rattle.key_tokens.specs.Denotes.{Denoted, MasterKey}
use Rattle.key_tokens.specs.Layout.{made}
use Rattle.key_tokens.specs.declared.key_token.Age.{Age}
use Rattle.key_tokens.specs.declared.key_token.Age.TheVariants.{Current, Old}
use Rattle.key_tokens.specs.declared.key_token.Kind.{Kind}
use Rattle.key_tokens.specs.declared.key_token.Kind.TheVariants.{Internal, External}
use Rattle.key_tokens.specs.declared.key_token.Token.{Token}
use Rattle.master_registers.specs.Loaded.{Loaded, has_pattern, pattern_in, registers_of}
use Rattle.master_registers.specs.Masters.{Masters, kept_bytes, pattern_of_master}
use Rattle.master_registers.specs.declared.registers.Registers.{Registers}
use Rattle.multi_encipher.specs.Seals.{IsSealed}
use Rattle.multi_encipher.specs.declared.halves.Sealed.{Sealed}
use Rattle.multi_encipher.proofs.SealLaws.{one_to_one}
use Rattle.verb_rules.specs.KeyChecks.{age_in, age_of, register_with}
use Rattle.verb_rules.specs.Keys.{keys_of, master_for, master_key, master_under, opened, opened_by, opened_key, sealed_token, token_for}
use Rattle.verb_rules.specs.declared.judging.Judged.{Judged}

internal_by : (held : Registers) (kind : Kind) (pattern : List ℕ) (age : Age) → age_in held kind pattern ≡ Some age → (kind ≡ Internal) × (register_with held pattern ≡ Some age)
internal_by held Internal pattern age is = (refl, is)
internal_by held External pattern age is = cc is

abbrev master_with : List ℕ → List ℕ → MasterKey
master_with key pattern = record { key = key; pattern = pattern }

-- a full register with this pattern
found : (register : Option (List ℕ)) (place pattern : List ℕ) → place ≡ kept_bytes register → has_pattern (pattern_in register) pattern ≡ true
    → master_key register ≡ Some (master_with place pattern)
found None place pattern placed same = cc same
found (Some x) place pattern placed same =
    ap (λ k. Some (master_with k (pattern_of_master x))) (sym placed)
    ∙ ap (λ p. Some (master_with place p)) (sym ((bytes_eq-Decides pattern (pattern_of_master x)).0 same))

module _ (m : Masters) (held : Registers) (bench : Bench) (loaded : Loaded m held bench) where
  -- the register of this age is full, with this pattern
  abbrev IsRegister : Age → List ℕ → Type 0
  IsRegister age pattern = master_under (keys_of m) age ≡ Some (master_with (master_for bench.current bench.former (Some age)) pattern)

  register_by : (a b : Bool) (pattern : List ℕ) (age : Age) → has_pattern (pattern_in m.current) pattern ≡ a → has_pattern (pattern_in m.former) pattern ≡ b
      → (if a then Some Current else if b then Some Old else None) ≡ Some age → IsRegister age pattern
  register_by true b pattern age current former is =
      let same : Current ≡ age = cc is in
      subst (λ x. IsRegister x pattern) same (found m.current bench.current pattern loaded.placed.current current)
  register_by false true pattern age current former is =
      let same : Old ≡ age = cc is in
      subst (λ x. IsRegister x pattern) same (found m.former bench.former pattern loaded.placed.former former)
  register_by false false pattern age current former is = cc is

  register_is : (pattern : List ℕ) (age : Age) → register_with (registers_of m) pattern ≡ Some age → IsRegister age pattern
  register_is pattern age is = register_by (has_pattern (pattern_in m.current) pattern) (has_pattern (pattern_in m.former) pattern) pattern age refl refl is

  module _ (judged : Judged) (is_under : judged.age ≡ age_of (registers_of m) judged.token) (halves : IsSealed judged.token.vector judged.token.sealed) where
    abbrev bundle : Age → List ℕ
    bundle age = master_for bench.current bench.former (Some age)

    abbrev token_with : Sealed → Token
    token_with sealed = record { kind = Internal; pattern = judged.token.pattern; sealed = sealed; vector = judged.token.vector }

    token_at : (age : Age) → judged.age ≡ Some age → made (token_with judged.token.sealed) ≡ token_for (keys_of m) (record { clear = opened bench judged; age = age })
    unfolding token_for
    token_at age is =
        ap (λ sealed. made (token_with sealed)) (sym ((one_to_one (bundle age) judged.token.vector).redone judged.token.sealed halves))
        ∙ (ap (λ o. sealed_token o (opened_by (bundle age) judged)) (sym (register_is judged.token.pattern age (internal_by (registers_of m) judged.token.kind judged.token.pattern age (sym is_under ∙ is)).1))
        ∙ ap (λ a. sealed_token (master_under (keys_of m) age) (opened_by (master_for bench.current bench.former a) judged)) (sym is))

    -- its token with the kind of an internal one is the one that is written for the key
    pub token_again : (stands : Denoted) → opened_key bench judged ≡ Some stands → made (token_with judged.token.sealed) ≡ token_for (keys_of m) stands
    token_again stands opens = by_age judged.age refl opens
      where
        by_age : (age : Option Age) → judged.age ≡ age → option_map (λ a. record { clear = opened bench judged; age = a }) age ≡ Some stands
            → made (token_with judged.token.sealed) ≡ token_for (keys_of m) stands
        by_age None is opens = cc opens
        by_age (Some age) is opens =
            let same : record { clear = opened bench judged; age = age } ≡ stands = cc opens in
            token_at age is ∙ ap (token_for (keys_of m)) same
