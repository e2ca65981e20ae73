-- The registers that the bench holds.
use Rattle.key_cells.specs.Lease.{bench_of}
use Rattle.master_registers.specs.Loaded.{masters_in}
use Rattle.key_records.proofs.opening.open_records.Given as goal

abbrev pub ghost-open_cells : goal.ghost-open_cells
ghost-open_cells g a = masters_in a.held.now (bench_of a.lease.now)

abbrev pub ghost-coming_pattern : goal.ghost-coming_pattern
ghost-coming_pattern g a = masters_in a.held.now (bench_of a.lease.now)
