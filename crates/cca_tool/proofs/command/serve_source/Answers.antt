-- The status tells how the lines ended.
use Rattle.std.proofs.Common.{◌∙◌, refl, sym}
use Rattle.cca_tool.proofs.AuditLemmas.{all_as_before}
use Rattle.cca_tool.proofs.DemoRunLemmas.{never_usage}
use Rattle.cca_tool.proofs.StatusLemmas.{calls_some, ended_as, no_memory_ended, not_usage}
use Rattle.cca_tool.proofs.command.serve_source.Goals as goal

pub returns-in-Ok-clause-words : goal.returns-in-Ok-clause-words
returns-in-Ok-clause-words g c = λ h. never_usage c.serve.result (sym c.status_of.ensures ∙ h)

pub returns-in-Ok-clause-uncalled : goal.returns-in-Ok-clause-uncalled
returns-in-Ok-clause-uncalled g c = λ none. absurd (calls_some c.status_of.result c.serve.result c.status_of.ensures none)

pub returns-in-Ok-clause-ends : goal.returns-in-Ok-clause-ends
returns-in-Ok-clause-ends g c = ended_as _ c.serve.result c.status_of.result c.status_of.ensures c.serve.ensures.ends

pub returns-in-Ok-clause-unsound : goal.returns-in-Ok-clause-unsound
returns-in-Ok-clause-unsound g c = c.serve.ensures.unsound

pub returns-in-Err-clause-ends : goal.returns-in-Err-clause-ends
returns-in-Err-clause-ends g c = no_memory_ended _

-- ---- there was no memory

pub returns-in-Err-clause-words : goal.returns-in-Err-clause-words
returns-in-Err-clause-words g c = λ h. not_usage h

pub returns-in-Err-clause-uncalled : goal.returns-in-Err-clause-uncalled
returns-in-Err-clause-uncalled g c = λ none. record { no_source = refl; no_sink = refl; no_module = refl; no_store = refl; no_entropy = refl }

pub returns-in-Err-clause-unsound : goal.returns-in-Err-clause-unsound
returns-in-Err-clause-unsound g c = λ never.
    all_as_before c.args.source.now c.args.sink.now c.args.entropy.now
    (g.M.Disk.medium c.args.module.now) (g.M.Disk.faults c.args.module.now) (g.D.Disk.medium c.args.store.now) (g.D.Disk.faults c.args.store.now)

pub returns-in-Err-clause-bench : goal.returns-in-Err-clause-bench
returns-in-Err-clause-bench g c = c.requires.blank

-- ---- the session is served

pub serve-requires : goal.serve-requires
serve-requires g c = c.requires.disks

pub returns-in-Ok-clause-bench : goal.returns-in-Ok-clause-bench
returns-in-Ok-clause-bench g c = c.serve.ensures.bench
