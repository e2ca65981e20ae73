-- The labels of a state after a change of one record.
use Rattle.std.specs.Prelude.{ℕ, true, List, Option, None, Some, set}
use Rattle.key_tokens.specs.Denotes.{ClearKey, Denoted}
use Rattle.key_tokens.specs.declared.key_token.Age.TheVariants.{Current}
use Rattle.record_bodies.specs.Directory.{free_cell}
use Rattle.record_bodies.specs.Entries.{Entry, entry, directory}
use Rattle.record_bodies.specs.StoreStands.{entry_at}

abbrev pub null_entry : List ℕ → Entry
null_entry label = entry label None

-- the label is held, null, in the lowest cell that no label has
abbrev pub created : List ℕ → List (Option Entry) → List (Option Entry)
created label s = set s (free_cell (directory s)) (Some (null_entry label))

abbrev pub with_what : Denoted → Option Entry → Option Entry
with_what key None = None
with_what key (Some e) = Some (entry e.label (Some key))

-- the label of a cell has this key
abbrev pub written : ℕ → Denoted → List (Option Entry) → List (Option Entry)
written cell key s = set s cell (with_what key (entry_at s cell))

-- the key under the current master key, and ahead
abbrev pub ahead_entry : List ℕ → ClearKey → Entry
ahead_entry label clear = record {
  label = label;
  what = Some (record { clear = clear; age = Current });
  ahead = true;
  unused = None;
}

abbrev pub with_both : ClearKey → Option Entry → Option Entry
with_both clear None = None
with_both clear (Some e) = Some (ahead_entry e.label clear)

-- the label of a cell has this key, and is ahead
abbrev pub written_ahead : ℕ → ClearKey → List (Option Entry) → List (Option Entry)
written_ahead cell clear s = set s cell (with_both clear (entry_at s cell))

-- the label of a cell is no longer held
abbrev pub deleted : ℕ → List (Option Entry) → List (Option Entry)
deleted cell s = set s cell None
