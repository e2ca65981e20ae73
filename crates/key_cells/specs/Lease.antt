-- What a lease holds, and what it ends as, where a place of the bench was lent for writing.
use Rattle.std.specs.Prelude.{ℕ, List, []}
use Rattle.std.specs.Borrow.{Lends, MutBor, Fml, GName, RattleType, Array, u8}
use mir.Syntax.{named}
use Rattle.key_cells.specs.Bench.{Bench, with_key, with_master, with_text_of}
use Rattle.key_cells.specs.declared.places.KeyPlace.{KeyPlace}
use Rattle.key_cells.specs.declared.places.MasterPlace.{MasterPlace}
use Rattle.key_cells.specs.declared.schedules.Schedule.{Schedule}
use Rattle.key_cells.specs.contracts.schedules.Schedule as schedules
use Rattle.key_cells.specs.declared.leases.Lease.{Lease}
use Rattle.key_cells.specs.contracts.leases.Lease.{the_row}

-- the bench that a lease holds
abbrev pub bench_of : Lease → Bench
bench_of lease = lease.bench.now

-- the lease with another bench behind it
abbrev pub holding : Lease → Bench → Lease
holding lease bench = record lease { bench = record lease.bench { now = bench } }

-- which loan of a bench a lease holds
abbrev pub loan_of : Lease → GName
loan_of lease = lease.bench.ghost_name

-- the type of a lease, at the lifetime of its bench
abbrev pub lease_row : RattleType
lease_row = the_row (record { mir = named 1; lft = [] })

-- the lease ends with what was written in the place of a master key
abbrev pub LendsMaster : MutBor Lease → MasterPlace → MutBor (List ℕ) → Fml
LendsMaster l place r =
    Lends lease_row (Array u8 24) l r (λ w. holding l.now (with_master (bench_of l.now) place w))

-- the lease ends with what was written in the place of a key
abbrev pub LendsKey : MutBor Lease → KeyPlace → MutBor (List ℕ) → Fml
LendsKey l place r =
    Lends lease_row (Array u8 16) l r (λ w. holding l.now (with_key (bench_of l.now) place w))

-- the lease ends with the schedules that were written
abbrev pub LendsSchedules : MutBor Lease → MutBor (List Schedule) → Fml
LendsSchedules l r =
    Lends lease_row (Array schedules.the_row 3) l r
    (λ w. holding l.now (record (bench_of l.now) { schedules = w }))

-- the lease ends with the body that was written
abbrev pub LendsBody : MutBor Lease → MutBor (List ℕ) → Fml
LendsBody l r =
    Lends lease_row (Array u8 192) l r (λ w. holding l.now (record (bench_of l.now) { body = w }))

-- the lease ends with what was written in its text
abbrev pub LendsText : MutBor Lease → MutBor (List ℕ) → Fml
LendsText l r =
    Lends lease_row (Array u8 0) l r (λ w. holding l.now (with_text_of (bench_of l.now) w))
