-- The tokens that an action makes of a token.
use Rattle.std.proofs.Common.{◌≡◌, ℕ, Bool, true, false, List, Option, None, Some, refl, sym, ap, subst, ◌∙◌}
use Rattle.std.specs.Prelude.{if◌then◌else◌, option_map}
use Rattle.cca_vectors.specs.Checks.{first_failing}
use Rattle.key_cells.specs.Bench.{Bench}
use Rattle.key_tokens.specs.declared.key_token.Age.{Age}
use Rattle.key_tokens.specs.declared.key_token.Age.TheVariants.{Current, Old}
use Rattle.key_tokens.specs.declared.key_token.Asked.TheVariants as asked
use Rattle.key_tokens.specs.declared.key_token.Token.{Token}
use Rattle.key_tokens.specs.Denotes.{ClearKey, Denoted, denoted}
use Rattle.key_tokens.specs.Fields.{pattern_of_token, token_of}
use Rattle.key_tokens.specs.TokenChecks.{token_checks}
use Rattle.record_bodies.specs.Ages.{has_old_key}
use Rattle.master_registers.specs.Loaded.{Loaded, has_pattern}
use Rattle.master_registers.specs.Masters.{Masters, NewRegister, Empty, Partial, Full, new_bytes, pattern_of_master, state_of}
use Rattle.master_registers.specs.declared.patterns.Pattern.{Pattern}
use Rattle.master_registers.specs.declared.registers.NewState.TheVariants as state
use Rattle.record_bodies.specs.Further.{has_current_key}
use Rattle.reencipher.specs.Runs.{changes_age}
use Rattle.reencipher.specs.Tokens.{changes_key}
use Rattle.record_bodies.specs.declared.actions.StoreAction.{StoreAction}
use Rattle.record_bodies.specs.declared.actions.StoreAction.TheVariants.{Renew, Ahead, Drop}
use Rattle.master_registers.specs.declared.registers.Registers.{Registers}
use Rattle.multi_encipher.specs.Bundles.{ChangesKeyAt, key_in, with_zeros}
use Rattle.multi_encipher.specs.Seals.{IsKey, seal}
use Rattle.multi_encipher.specs.declared.halves.Sealed.{Sealed}
use Rattle.verb_rules.specs.KeyChecks.{register_with}
use Rattle.verb_rules.specs.Keys.{keys_of, new_key, opened, opened_key}
use Rattle.verb_rules.specs.declared.judging.Judged.{Judged}
use Rattle.key_cells.specs.Lease.{bench_of}
use Rattle.key_cells.specs.declared.leases.Lease.{Lease}
use Rattle.key_cells.specs.declared.places.KeyPlace.TheVariants.{Key}
use Rattle.verb_rules.proofs.DenotedLemmas.{denoted_opened, judged_as, judged_with}
use Rattle.multi_encipher.proofs.SealLaws.{key_in-with_zeros}

abbrev from_old : Bool → Option Age
from_old b = if b then Some Old else None

module _ (held : Registers) (pattern : List ℕ) where
  pub register_current : true ≡ has_pattern held.current_pattern pattern → register_with held pattern ≡ Some Current
  register_current is = ap (λ t. if t then Some Current else from_old (has_pattern held.old_pattern pattern)) (sym is)

  pub register_old : (b : Bool) → false ≡ has_pattern held.current_pattern pattern → b ≡ has_pattern held.old_pattern pattern → register_with held pattern ≡ from_old b
  register_old b other is =
      ap (λ t. if t then Some Current else from_old (has_pattern held.old_pattern pattern)) (sym other)
      ∙ ap from_old (sym is)

-- a token that was read, by the register that has its pattern
module _ (m : Masters) (held : Registers) (bench : Bench) (bytes : List ℕ) (token : Token) (loaded : Loaded m held bench)
    (passes : first_failing (token_checks asked.Internal bytes) ≡ None) (is : token ≡ token_of bytes) where
  pub denoted_for : (age : Option Age) → register_with held token.pattern ≡ age → denoted (keys_of m) bytes ≡ opened_key bench (judged_with token age)
  denoted_for age known =
      denoted_opened m held bench bytes (judged_with token (register_with held token.pattern)) loaded passes
      (ap (λ (t : Token). judged_with t (register_with held t.pattern)) is)
      ∙ ap (λ a. opened_key bench (judged_with token a)) known

  pub age_for : (age : Option Age) → register_with held token.pattern ≡ age → has_old_key (denoted (keys_of m) bytes) ≡ has_old_key (opened_key bench (judged_with token age))
  age_for age known = ap has_old_key (denoted_for age known)

  pub not_current : false ≡ has_pattern held.current_pattern token.pattern → has_current_key (denoted (keys_of m) bytes) ≡ false
  not_current other =
      ap has_current_key (denoted_for (from_old (has_pattern held.old_pattern token.pattern)) (register_old held token.pattern (has_pattern held.old_pattern token.pattern) other refl))
      ∙ by_old (has_pattern held.old_pattern token.pattern)
    where
      by_old : (b : Bool) → has_current_key (opened_key bench (judged_with token (from_old b))) ≡ false
      by_old true = refl
      by_old false = refl

-- whether an action changes the key of a token that breaks no rule, by the register that has its pattern
pub by_register : (a : StoreAction) (m : Masters) (held : Registers) (bench : Bench) (bytes : List ℕ) → Loaded m held bench → first_failing (token_checks asked.Internal bytes) ≡ None
    → changes_key a (denoted (keys_of m) bytes) ≡ changes_age a (register_with held (pattern_of_token bytes))
by_register a m held bench bytes loaded passes =
    ap (changes_key a) (denoted_opened m held bench bytes (judged_as bytes (register_with held (pattern_of_token bytes))) loaded passes refl)
    ∙ by_age a (register_with held (pattern_of_token bytes))
  where
    by_age : (a : StoreAction) (age : Option Age) → changes_key a (opened_key bench (judged_as bytes age)) ≡ changes_age a age
    by_age Renew None = refl
    by_age Renew (Some age) = refl
    by_age Ahead None = refl
    by_age Ahead (Some age) = refl
    by_age Drop None = refl
    by_age Drop (Some age) = refl

-- ---- the key of a judged token

abbrev pub key_at_age : ClearKey → Age → Denoted
key_at_age clear age = record { clear = clear; age = age }

pub opened_at : (bench : Bench) (key : Judged) (age : Age) → key.age ≡ Some age → opened_key bench key ≡ Some (key_at_age (opened bench key) age)
opened_at bench key age is = ap (λ o. option_map (λ a. key_at_age (opened bench key) a) o) is

-- a key that was put into the place `Key`, and then sealed under the new register
pub sealed_again : (old new : Lease) (vector key : List ℕ) (sealed : Sealed) → ChangesKeyAt Key old new → (bench_of new).key ≡ with_zeros vector key → IsKey vector key
    → sealed ≡ seal (bench_of new).coming vector (key_in vector (bench_of new).key) → sealed ≡ seal (bench_of old).coming vector key
sealed_again old new vector key sealed stays placed is_key is =
    is
    ∙ ap (λ (l : Lease). seal (bench_of l).coming vector (key_in vector (bench_of new).key)) stays
    ∙ ap (seal (bench_of old).coming vector) (ap (key_in vector) placed ∙ key_in-with_zeros vector key is_key)

-- ---- a full new register

pub coming_is : (m : Masters) (held : Registers) (bench : Bench) (p : Pattern) → Loaded m held bench → held.new_state ≡ state.Full → p.bytes ≡ pattern_of_master bench.coming
    → (keys_of m).coming ≡ Some (record { key = bench.coming; pattern = p.bytes })
coming_is m held bench p loaded full is = by_coming m.coming (ap (λ (h : Registers). h.new_state) (sym loaded.told) ∙ full) loaded.placed.coming
  where
    by_coming : (coming : NewRegister) → state_of coming ≡ state.Full → bench.coming ≡ new_bytes coming → new_key coming ≡ Some (record { key = bench.coming; pattern = p.bytes })
    by_coming Empty fills placed = absurd (cc fills)
    by_coming (Partial bytes) fills placed = absurd (cc fills)
    by_coming (Full bytes) fills placed =
        ap (λ k. Some (record { key = k; pattern = pattern_of_master k })) (sym placed)
        ∙ ap (λ x. Some (record { key = bench.coming; pattern = x })) (sym is)

-- ---- the registers stay loaded

pub loaded_after : (m : Masters) (held : Registers) (old new : Lease) → Loaded m held (bench_of old) → ChangesKeyAt Key old new → Loaded m held (bench_of new)
loaded_after m held old new loaded changes = subst (λ (l : Lease). Loaded m held (bench_of l)) (sym changes) (record {
  valid = loaded.valid;
  placed = record { coming = loaded.placed.coming; current = loaded.placed.current; former = loaded.placed.former };
  told = loaded.told;
})
