-- The workbench as a record of its places, and the words by which clauses speak of one place.
use Rattle.std.specs.Prelude.{ℕ, List, ◌++◌, take, drop, replicate}
use Rattle.key_cells.specs.Schedule.{blank_schedules}
use Rattle.key_cells.specs.declared.schedules.Schedule.{Schedule}
use Rattle.key_cells.specs.declared.places.MasterPlace.{MasterPlace}
use Rattle.key_cells.specs.declared.places.MasterPlace.TheVariants.{Current, Old, New, Part}
use Rattle.key_cells.specs.declared.places.KeyPlace.{KeyPlace}
use Rattle.key_cells.specs.declared.places.KeyPlace.TheVariants.{First, Second, Key, Fresh}

-- the place of a text: its bytes, of which the first `size` are the text
pub record Text : Type 0 where
  pub bytes : List ℕ
  pub size : ℕ

-- the places of the bench: the current, old and new master key and a part of one, two transport keys, the key, a fresh
-- key, three schedules, a body of a cell, and a text
pub record Bench : Type 0 where
  pub current : List ℕ
  pub former : List ℕ
  pub coming : List ℕ
  pub part : List ℕ
  pub first : List ℕ
  pub second : List ℕ
  pub key : List ℕ
  pub fresh : List ℕ
  pub schedules : List Schedule
  pub body : List ℕ
  pub text : Text

-- the text itself
abbrev pub text_of : Text → List ℕ
text_of t = take t.size t.bytes

-- the place with another text of the same length; the bytes past it stay
abbrev pub with_text : Text → List ℕ → Text
with_text t w = record t { bytes = w ++ drop t.size t.bytes }

-- the bench with another text of the same length
abbrev pub with_text_of : Bench → List ℕ → Bench
with_text_of b w = record b { text = with_text b.text w }

-- the bench whose text has another length; its bytes stay
abbrev pub with_size : Bench → ℕ → Bench
with_size b n = record b { text = record b.text { size = n } }

-- the bytes of a master key's place
abbrev pub master_of : Bench → MasterPlace → List ℕ
master_of b Current = b.current
master_of b Old = b.former
master_of b New = b.coming
master_of b Part = b.part

-- the bench with other bytes in a master key's place
abbrev pub with_master : Bench → MasterPlace → List ℕ → Bench
with_master b Current w = record b { current = w }
with_master b Old w = record b { former = w }
with_master b New w = record b { coming = w }
with_master b Part w = record b { part = w }

-- the bytes of a key's place
abbrev pub key_of : Bench → KeyPlace → List ℕ
key_of b First = b.first
key_of b Second = b.second
key_of b Key = b.key
key_of b Fresh = b.fresh

-- the bench with other bytes in a key's place
abbrev pub with_key : Bench → KeyPlace → List ℕ → Bench
with_key b First w = record b { first = w }
with_key b Second w = record b { second = w }
with_key b Key w = record b { key = w }
with_key b Fresh w = record b { fresh = w }

-- every byte of the bench is zero, and the text is empty
abbrev pub blank_bench : Bench
blank_bench = record {
  current = replicate 24 0;
  former = replicate 24 0;
  coming = replicate 24 0;
  part = replicate 24 0;
  first = replicate 16 0;
  second = replicate 16 0;
  key = replicate 16 0;
  fresh = replicate 16 0;
  schedules = blank_schedules;
  body = replicate 192 0;
  text = record { bytes = replicate 4096 0; size = 0 };
}
