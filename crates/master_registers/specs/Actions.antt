-- What each action of a key ceremony makes of the registers, and when a rule refuses it.
use Rattle.std.specs.Prelude.{ℕ, Bool, false, List, codes, Option, None, Some, if◌then◌else◌}
use Rattle.std.specs.Str.{bytes_eq}
use Rattle.master_registers.specs.Masters.{Masters, after_first, after_middle, after_last, cleared, after_set, first_refused, combine_refused, set_refused, same_pattern}
use Rattle.master_registers.specs.declared.actions.Action.{Action}
use Rattle.master_registers.specs.declared.actions.Action.TheVariants.{First, Middle, Last, Clear, Set}

-- the action with this name
abbrev pub action_of_name : List ℕ → Option Action
action_of_name text =
    if bytes_eq text (codes "FIRST") then Some First
    else if bytes_eq text (codes "MIDDLE") then Some Middle
    else if bytes_eq text (codes "LAST") then Some Last
    else if bytes_eq text (codes "CLEAR") then Some Clear
    else if bytes_eq text (codes "SET") then Some Set
    else None

-- the registers after an action with a key part, which CLEAR and SET don't look at
abbrev pub after_action : Action → List ℕ → Masters → Masters
after_action First part m = after_first part m
after_action Middle part m = after_middle part m
after_action Last part m = after_last part m
after_action Clear part m = cleared m
after_action Set part m = after_set m

-- the new register isn't in the state that the action needs
abbrev pub has_wrong_state : Action → Masters → Bool
has_wrong_state First m = first_refused m
has_wrong_state Middle m = combine_refused m
has_wrong_state Last m = combine_refused m
has_wrong_state Clear m = false
has_wrong_state Set m = set_refused m

-- the action would make current a key with the pattern of the current one
abbrev pub repeats_pattern : Action → Masters → Bool
repeats_pattern First m = false
repeats_pattern Middle m = false
repeats_pattern Last m = false
repeats_pattern Clear m = false
repeats_pattern Set m = same_pattern m
