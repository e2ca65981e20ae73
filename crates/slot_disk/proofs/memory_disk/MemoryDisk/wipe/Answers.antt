use Rattle.std.proofs.Common.{◌≤◌, ℕ, replicate, sym, ◌∙◌, ap, subst}
use Rattle.slot_disk.proofs.Anew.{is_disk_anew, is_blanked, blanked}
use Rattle.slot_disk.proofs.DiskSteps.{blank-replicate}
use Rattle.slot_disk.proofs.memory_disk.MemoryDisk.wipe.Goals as goal

pub invariant_of-self : goal.invariant_of-self
invariant_of-self c =
    is_disk_anew _ _ _ _ _ (c.zero.ensures ∙ ap (λ (n : ℕ). replicate n 0) (sym c.self.invariant.size) ∙ sym c.zero-2.ensures) c.clear.ensures.items
    (subst (λ (n : ℕ). c.self.inside.room ≤ n) (sym c.clear.ensures.capacity) c.self.invariant.reserved)

pub returns : goal.returns
returns c =
    is_blanked (record { first = c.self.inside.first.items; calls = c.self.inside.calls.items; room = c.self.inside.room; plan = c.self.inside.plan }) c.zero.new.bytes.items c.clear.new.self.items
    (c.zero.ensures ∙ blank-replicate _) c.clear.ensures.items
    ∙ ap blanked c.self.view_is
