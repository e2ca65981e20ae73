use Rattle.std.proofs.Common.{◌≡◌, IfOk, take, length, ◌∙◌, sym, ap, subst, arith}
use Rattle.std.proofs.lemmas.Grind.{common_steps}
use Rattle.std.proofs.lemmas.Result.{IfOk-weaker}
use Rattle.slot_disk.specs.DiskState.{DiskState, new_disk}
use Rattle.slot_disk.specs.Stages.{stage, IsTorn}
use Rattle.slot_disk.specs.TornImage.{torn_image}
use Rattle.slot_disk.proofs.DiskSteps.{torn_is_torn, length-torn}
use Rattle.slot_disk.proofs.memory_disk.MemoryDisk.crash.Goals as goal

pub returns-clause-size : goal.returns-clause-size
returns-clause-size c =
    let disk : IfOk c.from_image.result (λ d. d ≡ new_disk (torn_image c.args.torn (stage c.args.self.now.first (take c.args.noted c.args.self.now.calls))) c.args.calls) = grind (arith, common_steps) in
    IfOk-weaker c.from_image.result (λ d. d ≡ new_disk (torn_image c.args.torn (stage c.args.self.now.first (take c.args.noted c.args.self.now.calls))) c.args.calls) (λ d. length d.first ≡ length c.args.self.now.first)
    (λ d is. ap (λ (s : DiskState). length s.first) is ∙ length-torn c.args.torn c.args.self.now.first (take c.args.noted c.args.self.now.calls))
    disk

pub returns-clause-image : goal.returns-clause-image
returns-clause-image c =
    let calls = take c.args.noted c.args.self.now.calls in
    let left = torn_image c.args.torn (stage c.args.self.now.first calls) in
    let disk : IfOk c.from_image.result (λ d. d ≡ new_disk (torn_image c.args.torn (stage c.args.self.now.first (take c.args.noted c.args.self.now.calls))) c.args.calls) = grind (arith, common_steps) in
    IfOk-weaker c.from_image.result (λ d. d ≡ new_disk left c.args.calls) (λ d. IsTorn (stage c.args.self.now.first calls) d.first)
    (λ d is. subst (IsTorn (stage c.args.self.now.first calls)) (sym (ap (λ (s : DiskState). s.first) is)) (torn_is_torn c.args.torn c.args.self.now.first calls))
    disk
