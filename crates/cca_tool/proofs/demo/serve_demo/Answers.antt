-- The status tells how the demo ended.
use Rattle.std.proofs.Common.{inr, refl}
use Rattle.device_cells.proofs.Media.{keeps_still}
use Rattle.cca_tool.proofs.StatusLemmas.{calls_some}
use Rattle.cca_tool.proofs.DemoRunLemmas.{none_ran, ran_as}
use Rattle.cca_tool.proofs.demo.serve_demo.Goals as goal

pub returns-in-Ok-clause-ran : goal.returns-in-Ok-clause-ran
returns-in-Ok-clause-ran g c = ran_as _ c.status_of.result c.status_of.ensures c.serve_text.ensures.ran

pub returns-in-Err-clause-ran : goal.returns-in-Err-clause-ran
returns-in-Err-clause-ran g c =
    none_ran c.args.number c.args.sink.now (g.K.Sink.held c.args.sink.now) (g.K.Sink.faults c.args.sink.now)
    (g.M.Disk.medium c.args.module.now) (g.M.Disk.faults c.args.module.now) (g.D.Disk.medium c.args.store.now) (g.D.Disk.faults c.args.store.now)

pub returns-in-Ok-clause-uncalled : goal.returns-in-Ok-clause-uncalled
returns-in-Ok-clause-uncalled g c = λ none. absurd (calls_some c.status_of.result c.serve_text.result c.status_of.ensures (inr none))

pub returns-in-Ok-clause-unsound : goal.returns-in-Ok-clause-unsound
returns-in-Ok-clause-unsound g c = c.serve_text.ensures.unsound

pub returns-in-Ok-clause-bench : goal.returns-in-Ok-clause-bench
returns-in-Ok-clause-bench g c = c.serve_text.ensures.bench

pub returns-in-Err-clause-uncalled : goal.returns-in-Err-clause-uncalled
returns-in-Err-clause-uncalled g c = λ none. record { no_module = refl; no_store = refl }

pub returns-in-Err-clause-unsound : goal.returns-in-Err-clause-unsound
returns-in-Err-clause-unsound g c = λ never.
    record { unsound_sink = refl; unsound_module = keeps_still (g.M.Disk.medium c.args.module.now); unsound_store = keeps_still (g.D.Disk.medium c.args.store.now) }
