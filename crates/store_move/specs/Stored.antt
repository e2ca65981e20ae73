-- The key of a record, by what is needed of it.
use Rattle.std.specs.Prelude.{◌≡◌, List, ◌∷◌, is_none, Option, None, Some, Result, MatchResult}
use Rattle.cca_vectors.specs.Checks.{Check, check, first_failing}
use Rattle.key_cells.specs.Bench.{Bench}
use Rattle.key_tokens.specs.Denotes.{Denoted}
use Rattle.verb_rules.specs.KeyChecks.{use_checks}
use Rattle.verb_rules.specs.Keys.{opened_key}
use Rattle.verb_rules.specs.Rules.{rule_number}
use Rattle.verb_rules.specs.declared.judging.Judged.{Judged}
use Rattle.verb_rules.specs.declared.needs.Need.{Need}
use Rattle.verb_rules.specs.declared.rules.Rule.{Rule}
use Rattle.store_move.specs.Exports.{vector_in}

-- Rule 08: the record is null. Rules 17 and 19 to 22: its key is not what is needed.
abbrev pub stored_checks : Need → Option Denoted → List Check
stored_checks need what = check 8 (is_none what) ∷ use_checks need (vector_in what)

-- the key is the record's, and is what is needed; or the first rule that is broken
abbrev pub IsStored : Bench → Need → Option Denoted → Result Judged Rule → Type 0
IsStored bench need what result =
    MatchResult result
    (λ judged. (first_failing (stored_checks need what) ≡ None) × (opened_key bench judged ≡ what))
    (λ rule. first_failing (stored_checks need what) ≡ Some (rule_number rule))
