use Rattle.std.proofs.Common.{◌<◌, take, length, sym, ◌∙◌, ap, arith}
use Rattle.slot_disk.specs.Stages.{Stage, stage}
use Rattle.slot_disk.specs.TornImage.{torn_image}
use Rattle.slot_disk.proofs.DiskSteps.{stage-nil, torn_image-settled, stage-take_more}
use Rattle.slot_disk.proofs.memory_disk.replay.Goals as goal

pub loop-call-init : goal.loop-call-init
loop-call-init c = record {
  content = ap (λ (s : Stage). s.content) (sym (stage-nil c.args.content.now));
  image = c.requires ∙ sym (torn_image-settled c.args.torn c.args.content.now) ∙ ap (torn_image c.args.torn) (sym (stage-nil c.args.content.now));
}

pub loop-call-preserved : goal.loop-call-preserved
loop-call-preserved c =
    let s = stage c.args.content.now (take c.loop-call.call-index c.args.calls.now) in
    let within : c.loop-call.call-index < length c.args.calls.now = omega arith in
    let more = sym (stage-take_more c.args.content.now c.args.calls.now c.loop-call.call-index c.call-item.result within c.call-item.is) in
    record {
      content = c.replay_call.ensures.content s c.loop-call.invariant.content ∙ ap (λ (t : Stage). t.content) more;
      image = c.replay_call.ensures.image s c.loop-call.invariant.content c.loop-call.invariant.image ∙ ap (torn_image c.args.torn) more;
    }
