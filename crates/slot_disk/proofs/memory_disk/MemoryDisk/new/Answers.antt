use Rattle.std.proofs.Common.{◌≡◌, ℕ, List, length, replicate, ap, ◌∙◌, arith}
use Rattle.std.proofs.lemmas.Grind.{common_steps}
use Rattle.std.proofs.lemmas.Result.{IfOk-weaker}
use Rattle.slot_disk.specs.DiskState.{DiskState, new_disk, blank_image}
use Rattle.slot_disk.proofs.DiskSteps.{blank-replicate, length-blank}
use Rattle.slot_disk.proofs.memory_disk.MemoryDisk.new.Goals as goal

pub returns-clause-disk : goal.returns-clause-disk
returns-clause-disk c =
    let zeros : c.deref.result.now ≡ replicate c.args.size 0 = grind (arith, common_steps) in
    IfOk-weaker c.from_image.result (λ d. d ≡ new_disk c.deref.result.now c.args.calls) (λ d. d ≡ new_disk (blank_image c.args.size) c.args.calls)
    (λ d is. is ∙ ap (λ (l : List ℕ). new_disk l c.args.calls) (zeros ∙ blank-replicate c.args.size))
    c.from_image.ensures.disk

pub returns-clause-size : goal.returns-clause-size
returns-clause-size c = IfOk-weaker c.from_image.result (λ d. d ≡ new_disk (blank_image c.args.size) c.args.calls) (λ d. length d.first ≡ c.args.size)
    (λ d is. ap (λ (e : DiskState). length e.first) is ∙ length-blank c.args.size)
    (returns-clause-disk c)
