-- What the verbs on transported keys change of the workbench.
use Rattle.std.specs.Prelude.{◌≡◌}
use Rattle.key_cells.specs.Lease.{bench_of, holding}
use Rattle.key_cells.specs.declared.leases.Lease.{Lease}

-- of a lease the places `First` and `Key` and the schedules may have changed, and nothing else
abbrev pub ChangesKeys : Lease → Lease → Type 0
ChangesKeys old new =
    new ≡ holding old (record (bench_of old) {
      first = (bench_of new).first;
      key = (bench_of new).key;
      schedules = (bench_of new).schedules;
    })
