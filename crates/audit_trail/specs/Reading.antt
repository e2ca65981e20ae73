-- For the functions of this crate alone: what stands in a body at the places of a record, be it one or not.
use Rattle.std.specs.Prelude.{ℕ, List, slice_index, slice_range}
use Rattle.std.specs.Int.{from_be_bytes, w64}
use Rattle.audit_trail.specs.declared.bodies.Record.{Record}
use Rattle.audit_trail.specs.declared.entries.Entry.{Entry}

abbrev pub entry_in : List ℕ → Entry
entry_in bytes = record {
  rule = slice_index bytes 1;
  role = slice_range bytes 10 18;
  verb = slice_range bytes 18 28;
  label = slice_range bytes 29 93;
  label_length = slice_index bytes 28;
}

abbrev pub record_in : List ℕ → Record
record_in bytes = record { number = from_be_bytes w64 (slice_range bytes 2 10); entry = entry_in bytes }
