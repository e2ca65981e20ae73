use Rattle.std.proofs.Common.{◌<◌, take, length, sym, ◌∙◌, ap, arith}
use Rattle.slot_disk.specs.Stages.{Stage, stage}
use Rattle.slot_disk.proofs.DiskSteps.{stage-nil, stage-take_more}
use Rattle.slot_disk.proofs.memory_disk.make_calls.Goals as goal

pub loop-call-init : goal.loop-call-init
loop-call-init c = ap (λ (s : Stage). s.content) (sym (stage-nil c.args.image.now.items))

pub loop-call-preserved : goal.loop-call-preserved
loop-call-preserved c =
    let s = stage c.args.image.now.items (take c.loop-call.call-index c.args.calls.now) in
    let within : c.loop-call.call-index < length c.args.calls.now = omega arith in
    let more = sym (stage-take_more c.args.image.now.items c.args.calls.now c.loop-call.call-index c.call-item.result within c.call-item.is) in
    c.make_call.ensures s c.loop-call.invariant ∙ ap (λ (t : Stage). t.content) more
