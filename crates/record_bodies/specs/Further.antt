-- How far the labels of a store have come by an action of REENCIPHER.
use Rattle.std.specs.Prelude.{ℕ, zero, suc, Bool, true, false, not, ◌&&◌, if◌then◌else◌, List, [], ◌∷◌, Option, None, Some, count_by}
use Rattle.key_tokens.specs.Denotes.{Denoted}
use Rattle.key_tokens.specs.declared.key_token.Age.TheVariants.{Current}
use Rattle.record_bodies.specs.Ages.{is_old, has_old_key}
use Rattle.record_bodies.specs.Entries.{Entry, entry}
use Rattle.record_bodies.specs.declared.actions.StoreAction.{StoreAction}
use Rattle.record_bodies.specs.declared.actions.StoreAction.TheVariants.{Renew, Ahead, Drop}

-- the same key under the current master key
abbrev pub under_current : Option Denoted → Option Denoted
under_current None = None
under_current (Some key) = Some (record { clear = key.clear; age = Current })

abbrev pub has_current_key : Option Denoted → Bool
has_current_key None = false
has_current_key (Some key) = not (is_old key.age)

-- The action changes a label under the old master key; one under the current master key that isn't ahead; or one that
-- is.
abbrev pub is_changed_by : StoreAction → Entry → Bool
is_changed_by Renew e = has_old_key e.what
is_changed_by Ahead e = has_current_key e.what && not e.ahead
is_changed_by Drop e = e.ahead

-- What it makes of the label. The key has one token, under the current master key; or two, and the label is ahead; or
-- the one that it is under.
abbrev pub made_by : StoreAction → Entry → Entry
made_by Renew e = entry e.label (under_current e.what)
made_by Ahead e = record { label = e.label; what = e.what; ahead = true; unused = None }
made_by Drop e = entry e.label e.what

abbrev pub changed : StoreAction → Entry → Entry
changed a e = if is_changed_by a e then made_by a e else e

abbrev pub changed_entry : StoreAction → Option Entry → Option Entry
changed_entry a None = None
changed_entry a (Some e) = Some (changed a e)

abbrev pub is_changed : StoreAction → Option Entry → Bool
is_changed a None = false
is_changed a (Some e) = is_changed_by a e

-- every label in a cell below n is what the action makes of it
abbrev pub further : StoreAction → List (Option Entry) → ℕ → List (Option Entry)
further a [] n = []
further a (e ∷ s) zero = e ∷ s
further a (e ∷ s) (suc n) = changed_entry a e ∷ further a s n

-- after runs that were stopped at these cells, one after another
abbrev pub reruns : StoreAction → List (Option Entry) → List ℕ → List (Option Entry)
reruns a s [] = s
reruns a s (n ∷ stops) = reruns a (further a s n) stops

-- how many labels the action changes
abbrev pub changed_count : StoreAction → List (Option Entry) → ℕ
changed_count a s = count_by (is_changed a) s
