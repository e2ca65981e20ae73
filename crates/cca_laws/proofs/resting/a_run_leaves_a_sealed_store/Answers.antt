use Rattle.cca_laws.proofs.AuditedRuns.{audited_sealed}
use Rattle.cca_laws.proofs.RunLaws.{run_sealed}
use Rattle.cca_laws.proofs.resting.a_run_leaves_a_sealed_store.Goals as goal

pub returns : goal.returns
returns g c = record {
  run = λ s before outcome random input source0 source1 sink0 sink1 module0 module1 store0 store1 entropy0 entropy1 disks served answers sealed told drawn_from.
      run_sealed s before outcome random input _ disks served answers sealed told drawn_from;
  audited = λ s es before outcome random input source0 source1 sink0 sink1 module0 module1 store0 store1 entropy0 entropy1 trail0 trail1 disks recorded answers sealed told drawn_from.
      audited_sealed s es before outcome random input _ _ _ _ _ disks recorded answers sealed told drawn_from;
}
