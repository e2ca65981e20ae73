-- The status tells how the lines ended.
use Rattle.cca_tool.proofs.AuditLemmas.{all_as_before, audited_as, audits_some, no_memory_audited, no_usage_audited, none_called, trail_as_before}
use Rattle.cca_tool.proofs.AuditLemmas.{usage_audited}
use Rattle.device_cells.proofs.Media.{keeps_still}
use Rattle.std.proofs.Common.{inl, refl}
use Rattle.std.proofs.lemmas.Bool.{both_ways}
use Rattle.cca_tool.proofs.auditing.run_audited.Goals as goal

pub returns-in-Ok-clause-ends : goal.returns-in-Ok-clause-ends
returns-in-Ok-clause-ends g c = audited_as _ c.serve_audited.result c.audit_status_of.result c.audit_status_of.ensures c.serve_audited.ensures.ends

pub returns-in-Ok-clause-usage : goal.returns-in-Ok-clause-usage
returns-in-Ok-clause-usage g c = (
  λ is. absurd (audits_some c.audit_status_of.result c.serve_audited.result c.audit_status_of.ensures (inl is)),
  λ never. absurd (never (c.are_just.ensures.0 c.if-not-are_just.false)),
)

pub returns-in-Ok-clause-uncalled : goal.returns-in-Ok-clause-uncalled
returns-in-Ok-clause-uncalled g c = λ none. absurd (audits_some c.audit_status_of.result c.serve_audited.result c.audit_status_of.ensures none)

pub returns-in-Ok-clause-unsound : goal.returns-in-Ok-clause-unsound
returns-in-Ok-clause-unsound g c = c.serve_audited.ensures.unsound

pub returns-in-Ok-clause-unsound_trail : goal.returns-in-Ok-clause-unsound_trail
returns-in-Ok-clause-unsound_trail g c = c.serve_audited.ensures.unsound_trail

pub returns-in-Ok-clause-trail_grows : goal.returns-in-Ok-clause-trail_grows
returns-in-Ok-clause-trail_grows g c = c.serve_audited.ensures.trail_grows

pub returns-in-Ok-clause-bench : goal.returns-in-Ok-clause-bench
returns-in-Ok-clause-bench g c = c.serve_audited.ensures.bench

pub returns-in-Err-clause-ends : goal.returns-in-Err-clause-ends
returns-in-Err-clause-ends g c = no_memory_audited _

pub returns-in-Err-clause-usage : goal.returns-in-Err-clause-usage
returns-in-Err-clause-usage g c = (λ is. absurd (no_usage_audited is), λ never. absurd (never (c.are_just.ensures.0 c.if-not-are_just.false)))

pub returns-in-Err-clause-bench : goal.returns-in-Err-clause-bench
returns-in-Err-clause-bench g c = c.wipe.ensures

pub returns-in-Err-clause-uncalled : goal.returns-in-Err-clause-uncalled
returns-in-Err-clause-uncalled g c = λ none.
    none_called c.args.source.now c.args.sink.now c.args.module.now c.args.store.now c.args.entropy.now c.args.trail.now

pub returns-in-Err-clause-unsound : goal.returns-in-Err-clause-unsound
returns-in-Err-clause-unsound g c = λ never. (
  all_as_before c.args.source.now c.args.sink.now c.args.entropy.now
      (g.M.Disk.medium c.args.module.now) (g.M.Disk.faults c.args.module.now) (g.D.Disk.medium c.args.store.now) (g.D.Disk.faults c.args.store.now),
  refl,
)

pub returns-in-Err-clause-unsound_trail : goal.returns-in-Err-clause-unsound_trail
returns-in-Err-clause-unsound_trail g c = λ never. (
  all_as_before c.args.source.now c.args.sink.now c.args.entropy.now
      (g.M.Disk.medium c.args.module.now) (g.M.Disk.faults c.args.module.now) (g.D.Disk.medium c.args.store.now) (g.D.Disk.faults c.args.store.now),
  keeps_still (g.T.Disk.medium c.args.trail.now),
)

pub returns-in-Err-clause-trail_grows : goal.returns-in-Err-clause-trail_grows
returns-in-Err-clause-trail_grows g c = trail_as_before (g.T.Disk.medium c.args.trail.now)

pub returns-then-not-are_just-clause-ends : goal.returns-then-not-are_just-clause-ends
returns-then-not-are_just-clause-ends g c = usage_audited _

pub returns-then-not-are_just-clause-usage : goal.returns-then-not-are_just-clause-usage
returns-then-not-are_just-clause-usage g c = (
  λ is words. both_ways c.are_just.result c.if-not-are_just.true (c.are_just.ensures.1 words),
  λ never. refl,
)

pub returns-then-not-are_just-clause-bench : goal.returns-then-not-are_just-clause-bench
returns-then-not-are_just-clause-bench g c = c.wipe.ensures

pub returns-then-not-are_just-clause-uncalled : goal.returns-then-not-are_just-clause-uncalled
returns-then-not-are_just-clause-uncalled g c = λ none.
    none_called c.args.source.now c.args.sink.now c.args.module.now c.args.store.now c.args.entropy.now c.args.trail.now

pub returns-then-not-are_just-clause-unsound : goal.returns-then-not-are_just-clause-unsound
returns-then-not-are_just-clause-unsound g c = λ never. (
  all_as_before c.args.source.now c.args.sink.now c.args.entropy.now
      (g.M.Disk.medium c.args.module.now) (g.M.Disk.faults c.args.module.now) (g.D.Disk.medium c.args.store.now) (g.D.Disk.faults c.args.store.now),
  refl,
)

pub returns-then-not-are_just-clause-unsound_trail : goal.returns-then-not-are_just-clause-unsound_trail
returns-then-not-are_just-clause-unsound_trail g c = λ never. (
  all_as_before c.args.source.now c.args.sink.now c.args.entropy.now
      (g.M.Disk.medium c.args.module.now) (g.M.Disk.faults c.args.module.now) (g.D.Disk.medium c.args.store.now) (g.D.Disk.faults c.args.store.now),
  keeps_still (g.T.Disk.medium c.args.trail.now),
)

pub returns-then-not-are_just-clause-trail_grows : goal.returns-then-not-are_just-clause-trail_grows
returns-then-not-are_just-clause-trail_grows g c = trail_as_before (g.T.Disk.medium c.args.trail.now)

-- ---- the lines are served

pub serve_audited-requires-clause-disks : goal.serve_audited-requires-clause-disks
serve_audited-requires-clause-disks g c = c.requires.disks

pub serve_audited-requires-clause-trail : goal.serve_audited-requires-clause-trail
serve_audited-requires-clause-trail g c = c.requires.trail

pub serve_audited-requires-clause-bench : goal.serve_audited-requires-clause-bench
serve_audited-requires-clause-bench g c = c.wipe.ensures
