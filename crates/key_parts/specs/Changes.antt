-- What the calls on key parts leave of the workbench.
use Rattle.std.specs.Prelude.{◌≡◌, replicate}
use Rattle.key_cells.specs.Lease.{bench_of, holding}
use Rattle.key_cells.specs.declared.leases.Lease.{Lease}

-- of a lease the schedules may have changed, the places `Key` and `Fresh` are zero, and all else stays
abbrev pub ClearsParts : Lease → Lease → Type 0
ClearsParts old new =
    new ≡ holding old (record (bench_of old) {
      key = replicate 16 0;
      fresh = replicate 16 0;
      schedules = (bench_of new).schedules;
    })
