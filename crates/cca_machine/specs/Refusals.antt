-- The refusals of the code beside the machine's.
use Rattle.std.specs.Prelude.{◌≡◌, ◌<◌, length, Option, Some, None}
use Rattle.verb_rules.specs.Rules.{rule_number}
use Rattle.cca_machine.specs.Verdict.{Refusal, refusal}
use Rattle.cca_machine.specs.declared.refusals.Refusal.{Refusal as CodeRefusal}

-- the refusal as the machine has it
abbrev pub refusal_of : CodeRefusal → Refusal
refusal_of r = refusal (rule_number r.rule) r.operand.now

-- it is the verdict, and the name of its operand is short
pub record IsRefusal (v : Option Refusal) (r : CodeRefusal) : Type 0 where
  pub is : v ≡ Some (refusal_of r)
  pub short : length r.operand.now < 100

-- the refusal is the verdict, where there is one
abbrev pub HasRefused : Option Refusal → Option CodeRefusal → Type 0
HasRefused v None = v ≡ None
HasRefused v (Some r) = IsRefusal v r
