-- The calls are forgotten, and what they left is the image that it begins with.
use Rattle.std.proofs.Common.{◌≡◌, ◌≤◌, ℕ, List, [], Some, refl, sym, ◌∙◌, ap, subst}
use Rattle.slot_disk.specs.DiskState.{DiskState}
use Rattle.slot_disk.specs.Stages.{Stage, stage}
use Rattle.slot_disk.specs.declared.call.Call.{Call}
use Rattle.device_cells.specs.Medium.{IsSettled}
use Rattle.slot_disk.proofs.Anew.{is_disk_anew}
use Rattle.slot_disk.proofs.DiskSteps.{new_settled, stage-nil}
use Rattle.slot_disk.proofs.Logging.{log_moved}
use Rattle.slot_disk.proofs.memory_disk.MemoryDisk.begin_anew.Goals as goal

pub invariant_of-self : goal.invariant_of-self
invariant_of-self c =
    is_disk_anew _ _ _ _ _ (c.make_calls.ensures ∙ ap (λ (l : List Call). (stage c.self.inside.first.items l).content) c.deref.ensures.value ∙ sym c.self.invariant.replayed) c.clear.ensures.items
    (subst (λ (n : ℕ). c.self.inside.room ≤ n) (sym c.clear.ensures.capacity) c.self.invariant.reserved)

pub returns-clause-settled : goal.returns-clause-settled
returns-clause-settled c = log_moved IsSettled c.make_calls.new.image.items _ [] _ refl c.clear.ensures.items (new_settled c.make_calls.new.image.items)

pub returns-clause-content : goal.returns-clause-content
returns-clause-content c =
    let held = c.make_calls.ensures ∙ ap (λ (l : List Call). (stage c.self.inside.first.items l).content) c.deref.ensures.value ∙ ap (λ (d : DiskState). (stage d.first d.calls).content) c.self.view_is in
    log_moved (λ m. m.content ≡ Some (stage c.args.self.now.first c.args.self.now.calls).content) c.make_calls.new.image.items _ [] _ refl c.clear.ensures.items
    (ap Some (ap (λ (s : Stage). s.content) (stage-nil c.make_calls.new.image.items) ∙ held))
