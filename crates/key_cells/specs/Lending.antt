-- What the bench ends as, where a place of it was lent for writing.
use Rattle.std.specs.Prelude.{ℕ, List}
use Rattle.std.specs.Borrow.{Lends, MutBor, Fml, Array, u8}
use Rattle.key_cells.specs.Bench.{Bench, with_key, with_master, with_text_of}
use Rattle.key_cells.specs.declared.places.KeyPlace.{KeyPlace}
use Rattle.key_cells.specs.declared.places.MasterPlace.{MasterPlace}
use Rattle.key_cells.specs.declared.schedules.Schedule.{Schedule}
use Rattle.key_cells.specs.contracts.schedules.Schedule as schedules
use Rattle.key_cells.specs.contracts.benches.Workbench.{the_row}

-- the bench ends with what was written in the place of a master key
abbrev pub LendsMaster : MutBor Bench → MasterPlace → MutBor (List ℕ) → Fml
LendsMaster b place r = Lends the_row (Array u8 24) b r (with_master b.now place)

-- the bench ends with what was written in the place of a key
abbrev pub LendsKey : MutBor Bench → KeyPlace → MutBor (List ℕ) → Fml
LendsKey b place r = Lends the_row (Array u8 16) b r (with_key b.now place)

-- the bench ends with the schedules that were written
abbrev pub LendsSchedules : MutBor Bench → MutBor (List Schedule) → Fml
LendsSchedules b r = Lends the_row (Array schedules.the_row 3) b r (λ w. record b.now { schedules = w })

-- the bench ends with the body that was written
abbrev pub LendsBody : MutBor Bench → MutBor (List ℕ) → Fml
LendsBody b r = Lends the_row (Array u8 192) b r (λ w. record b.now { body = w })

-- the bench ends with what was written in its text
abbrev pub LendsText : MutBor Bench → MutBor (List ℕ) → Fml
LendsText b r = Lends the_row (Array u8 0) b r (with_text_of b.now)
