use Rattle.std.proofs.Common.{List, sym, ◌∙◌, subst}
use Rattle.slot_disk.specs.LogMedium.{log_medium}
use Rattle.device_cells.specs.Medium.{IsSettled}
use Rattle.slot_disk.specs.declared.call.Call.{Call}
use Rattle.slot_disk.proofs.DiskSteps.{is_disk_new, new_settled}
use Rattle.slot_disk.proofs.memory_disk.MemoryDisk.from_image.Goals as goal

pub invariant_of-result : goal.invariant_of-result
invariant_of-result c = is_disk_new _ _ _ _ _ (c.in_ok-from_slice-2.ensures.items ∙ sym c.in_ok-from_slice.ensures.items) c.in_ok-with_capacity.ensures.items (sym c.in_ok-with_capacity.ensures.exact)

pub returns-clause-settled : goal.returns-clause-settled
returns-clause-settled c = subst (λ (l : List Call). IsSettled (log_medium c.in_ok-from_slice.field-0.items l)) (sym c.in_ok-with_capacity.ensures.items) (new_settled c.in_ok-from_slice.field-0.items)
