-- The rules by their numbers. They are judged in this order, but that 36 comes before 23.
use Rattle.std.specs.Prelude.{◌≡◌, ℕ, List, None, Some, Result, MatchResult}
use Rattle.cca_vectors.specs.Checks.{Check, first_failing}
use Rattle.verb_rules.specs.declared.rules.Rule.{Rule}
use Rattle.verb_rules.specs.declared.rules.Rule.TheVariants as rule

abbrev pub rule_number : Rule → ℕ
rule_number rule.Form = 1
rule_number rule.LineLength = 2
rule_number rule.Role = 3
rule_number rule.Point = 4
rule_number rule.MasterKey = 5
rule_number rule.LabelForm = 6
rule_number rule.LabelUnknown = 7
rule_number rule.Null = 8
rule_number rule.Kind = 9
rule_number rule.Tvv = 10
rule_number rule.Version = 11
rule_number rule.Flag = 12
rule_number rule.Reserved = 13
rule_number rule.Parity = 14
rule_number rule.AntiVariant = 15
rule_number rule.KeyForm = 16
rule_number rule.KeyPart = 17
rule_number rule.Pattern = 18
rule_number rule.Class = 19
rule_number rule.Usage = 20
rule_number rule.Export = 21
rule_number rule.TransportLength = 22
rule_number rule.TextLength = 23
rule_number rule.Pair = 24
rule_number rule.RegisterState = 25
rule_number rule.SamePattern = 26
rule_number rule.OldLabels = 27
rule_number rule.StoreFull = 28
rule_number rule.LabelExists = 29
rule_number rule.RoleTable = 30
rule_number rule.PadCount = 31
rule_number rule.KeyLength = 32
rule_number rule.Ahead = 33
rule_number rule.UniqueHalves = 34
rule_number rule.WholeKey = 35
rule_number rule.Chain = 36

-- Ok where none of the rules is broken, and else the first that is
abbrev pub Judges : {A : Type 0} → List Check → Result A Rule → Type 0
Judges checks result =
    MatchResult result (λ _. first_failing checks ≡ None)
    (λ r. first_failing checks ≡ Some (rule_number r))
