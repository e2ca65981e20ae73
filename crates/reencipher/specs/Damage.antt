-- Why a run tells a cell as damaged.
use Rattle.std.specs.Prelude.{◌≡◌, ℕ, List, Option, None, get_or, Result, Err}
use Rattle.key_cells.specs.Bench.{Bench}
use Rattle.key_records.specs.declared.faults.RecordFault.{RecordFault}
use Rattle.key_records.specs.declared.faults.RecordFault.TheVariants.{Damaged}
use Rattle.record_bodies.specs.RecordBody.{ReadsRow}
use Rattle.record_bodies.specs.declared.rows.Row.{Row}

-- the body that was read last, which the bench holds, isn't that of the record as the memory knows it
abbrev pub IsMisread : {T : Type 0} → Result T RecordFault → List (Option Row) → Bench → Type 0
IsMisread result rows bench =
    (n : ℕ) → result ≡ Err (Damaged n) → ReadsRow bench.body (get_or rows n None) → ⊥
