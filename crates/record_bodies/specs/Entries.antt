-- The labels of a state with their clear keys, and what the memory knows of them.
use Rattle.std.specs.Prelude.{ℕ, Bool, true, false, List, [], Option, None, Some, map, option_map}
use Rattle.key_tokens.specs.Denotes.{MasterKey, MasterKeys, Denoted}
use Rattle.key_tokens.specs.Fields.{pattern_of_token}
use Rattle.key_tokens.specs.declared.key_token.Age.{Age}
use Rattle.key_tokens.specs.declared.key_token.Age.TheVariants.{Current, Old}
use Rattle.master_registers.specs.declared.patterns.Pattern.{Pattern}
use Rattle.record_bodies.specs.declared.rows.Row.{Row}

-- A label with its clear key and the register that it is under; None for a null record. Ahead is a label that
-- has the same key under a full new register besides. Of a label that has come under its second token the first
-- one is unused: it stands in the store until the label is written again, and no rule and no reply looks at it.
pub record Entry : Type 0 where
  pub label : List ℕ
  pub what : Option Denoted
  pub ahead : Bool
  pub unused : Option (List ℕ)

-- a label that has one token, or none
abbrev pub entry : List ℕ → Option Denoted → Entry
entry label what = record { label = label; what = what; ahead = false; unused = None }

-- the key that the record of a label holds
abbrev pub what_in : Option Entry → Option Denoted
what_in None = None
what_in (Some e) = e.what

-- ---- the labels of a state: 1,024 places, one for each cell

abbrev pub entry_label : Option Entry → Option (List ℕ)
entry_label None = None
entry_label (Some e) = Some e.label

abbrev pub directory : List (Option Entry) → List (Option (List ℕ))
directory s = map entry_label s

-- ---- what the memory knows of them

abbrev pub row_label : Option Row → Option (List ℕ)
row_label None = None
row_label (Some r) = Some r.label

abbrev pub row_directory : List (Option Row) → List (Option (List ℕ))
row_directory rows = map row_label rows

abbrev pub pattern_or : Option MasterKey → Pattern
pattern_or None = record { bytes = [] }
pattern_or (Some master) = record { bytes = master.pattern }

-- the pattern of the register that a key is under
abbrev pub pattern_under : MasterKeys → Age → Pattern
pattern_under masters Current = pattern_or masters.current
pattern_under masters Old = pattern_or masters.former

abbrev pub pattern_for : MasterKeys → Denoted → Pattern
pattern_for masters d = pattern_under masters d.age

-- the pattern of the new register, for a label that is ahead
abbrev pub pattern_ahead : MasterKeys → Bool → Option Pattern
pattern_ahead masters false = None
pattern_ahead masters true = Some (pattern_or masters.coming)

-- a label with the pattern of the register that it is under and, where it is ahead, that of the new one
abbrev pub remembered : MasterKeys → Option Entry → Option Row
remembered masters None = None
remembered masters (Some e) = Some (record {
  label = e.label;
  pattern = option_map (pattern_for masters) e.what;
  ahead = pattern_ahead masters e.ahead;
})

abbrev pub label_or : Option Row → List ℕ
label_or None = []
label_or (Some r) = r.label

-- a null record
abbrev pub null_row : List ℕ → Row
null_row label = record { label = label; pattern = None; ahead = None }

-- a record with a token
abbrev pub key_row : List ℕ → List ℕ → Row
key_row label token = record {
  label = label;
  pattern = Some (record { bytes = pattern_of_token token });
  ahead = None;
}

-- a record with two tokens, of which the second has this pattern
abbrev pub both_row : List ℕ → List ℕ → Pattern → Row
both_row label token pattern = record {
  label = label;
  pattern = Some (record { bytes = pattern_of_token token });
  ahead = Some pattern;
}

-- where the new register becomes the current one, a label that is ahead is under its second token
abbrev pub turned_by : Option Pattern → Option Pattern → Option Pattern
turned_by None pattern = pattern
turned_by (Some ahead) pattern = Some ahead

abbrev pub turned_row : Row → Row
turned_row r = record { label = r.label; pattern = turned_by r.ahead r.pattern; ahead = None }

abbrev pub turned : Option Row → Option Row
turned None = None
turned (Some r) = Some (turned_row r)
