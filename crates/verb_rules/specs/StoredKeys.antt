-- The key that stored bytes stand for, by what is needed of it.
use Rattle.std.specs.Prelude.{◌≡◌, ℕ, List, Option, None, Some, IfOk, IfSome, IsSome, Result, Ok, Err}
use Rattle.cca_vectors.specs.Checks.{first_failing}
use Rattle.key_cells.specs.Bench.{Bench}
use Rattle.key_tokens.specs.Denotes.{Denoted}
use Rattle.key_tokens.specs.Fields.{token_of}
use Rattle.master_registers.specs.declared.registers.Registers.{Registers}
use Rattle.verb_rules.specs.KeyChecks.{age_of, use_checks}
use Rattle.verb_rules.specs.Keys.{HasHalves, opened_key}
use Rattle.verb_rules.specs.Rules.{rule_number}
use Rattle.verb_rules.specs.declared.judging.Judged.{Judged}
use Rattle.verb_rules.specs.declared.needs.Need.{Need}
use Rattle.verb_rules.specs.declared.rules.Rule.{Rule}

-- rules 17 and 19 to 22 of a key that stands under one of the registers: the first that it breaks, or the key judged
abbrev pub IsUse : Bench → Need → Denoted → Result Judged Rule → Type 0
IsUse bench need key (Ok judged) =
    (first_failing (use_checks need key.clear.vector) ≡ None) × (opened_key bench judged ≡ Some key)
IsUse bench need key (Err rule) =
    first_failing (use_checks need key.clear.vector) ≡ Some (rule_number rule)

-- the same of the key that bytes stand for: no answer where they stand for none, and one where they stand for a key
abbrev pub IsStoredUse : Bench → Need → Option Denoted → Option (Result Judged Rule) → Type 0
IsStoredUse bench need what None = what ≡ None
IsStoredUse bench need None (Some result) = ⊥
IsStoredUse bench need (Some key) (Some result) = IsUse bench need key result

-- what holds of a key that is answered
abbrev pub IfAnswered : Option (Result Judged Rule) → (Judged → Type 0) → Type 0
IfAnswered answer holds = IfSome answer (λ result. IfOk result holds)

-- the parts of the bytes, under the register that has their pattern
pub record IsRead (held : Registers) (bytes : List ℕ) (judged : Judged) : Type 0 where
  pub token : judged.token ≡ token_of bytes
  pub age : judged.age ≡ age_of held judged.token
  pub under : IsSome judged.age
  pub halves : HasHalves judged
