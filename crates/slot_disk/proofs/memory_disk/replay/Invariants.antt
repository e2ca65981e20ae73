use Rattle.std.proofs.Common.{◌≡◌, take}
use Rattle.slot_disk.specs.Stages.{stage}
use Rattle.slot_disk.specs.TornImage.{torn_image}
use Rattle.slot_disk.proofs.memory_disk.replay.Given as goal

abbrev pub invariant-loop-call : goal.invariant-loop-call
invariant-loop-call l = record {
  content : l.content ≡ (stage l.fn.content (take l.call-index l.calls)).content;
  image : l.image ≡ torn_image l.torn (stage l.fn.content (take l.call-index l.calls));
}
