-- Which labels are under the old master key, and which are ahead.
use Rattle.std.specs.Prelude.{Bool, true, false, List, Option, None, Some}
use Rattle.std.specs.List.{list_any}
use Rattle.key_tokens.specs.Denotes.{Denoted}
use Rattle.key_tokens.specs.declared.key_token.Age.{Age}
use Rattle.key_tokens.specs.declared.key_token.Age.TheVariants.{Current, Old}
use Rattle.record_bodies.specs.Entries.{Entry}

abbrev pub is_old : Age → Bool
is_old Current = false
is_old Old = true

abbrev pub has_old_key : Option Denoted → Bool
has_old_key None = false
has_old_key (Some key) = is_old key.age

abbrev pub is_old_entry : Option Entry → Bool
is_old_entry None = false
is_old_entry (Some e) = has_old_key e.what

-- some label has a key under the old master key
abbrev pub any_old : List (Option Entry) → Bool
any_old s = list_any (λ e. is_old_entry e) s

abbrev pub is_ahead_entry : Option Entry → Bool
is_ahead_entry None = false
is_ahead_entry (Some e) = e.ahead

-- some label is ahead
abbrev pub any_ahead_entry : List (Option Entry) → Bool
any_ahead_entry s = list_any (λ e. is_ahead_entry e) s
