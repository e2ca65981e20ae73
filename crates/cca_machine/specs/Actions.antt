-- The actions of CSNBMKP, by the words of its field `action`, and their rules.
use Rattle.std.specs.Prelude.{ℕ, List, [], ◌∷◌, codes, if◌then◌else◌}
use Rattle.std.specs.Str.{bytes_eq}
use Rattle.cca_vectors.specs.Checks.{Check, check}
use Rattle.master_registers.specs.Masters.{Masters}
use Rattle.master_registers.specs.Actions.{has_wrong_state, repeats_pattern}
use Rattle.master_registers.specs.declared.actions.Action.{Action}
use Rattle.master_registers.specs.declared.actions.Action.TheVariants.{First, Middle, Last}

-- the action that the field names, of those that take a key part
abbrev pub part_action : List ℕ → Action
part_action text =
    if bytes_eq text (codes "FIRST") then First
    else if bytes_eq text (codes "MIDDLE") then Middle
    else Last

-- rule 25: the new register isn't in the state that the action needs; rule 26: it has the pattern of the current one
abbrev pub action_checks : Action → Masters → List Check
action_checks action m =
    check 25 (has_wrong_state action m) ∷ check 26 (repeats_pattern action m) ∷ []
