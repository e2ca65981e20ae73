-- Whether a device was called, by how a move ended.
use Rattle.std.proofs.Common.{◌≡◌, ℕ, List, subst, inl, inr}
use Rattle.std.specs.Prelude.{◌↔◌}
use Rattle.command_words.specs.MoveWords.{IsMove}
use Rattle.line_service.specs.declared.stops.Device.TheVariants.{Module, Store}
use Rattle.store_unload.specs.Unloading.{IsLabelStatus, IsMoveStatus, IsOpenStatus, MoveCallsNone}
use Rattle.store_unload.specs.declared.status.Status.TheVariants as status
use Rattle.store_unload.specs.declared.unloading.MoveStatus.{MoveStatus}
use Rattle.store_unload.specs.declared.unloading.MoveStatus.TheVariants.{Run, Refused, ReportFault}

-- the words are right, but there was no memory
pub not_usage : Run status.NoMemory ≡ Run status.Usage → ⊥
not_usage is = cc is

-- a move that opens the disks calls them
pub opens_called : (r : MoveStatus) → IsOpenStatus r → MoveCallsNone r → ⊥
opens_called r kind (inl is) = subst IsOpenStatus is kind
opens_called r kind (inr is) = subst IsOpenStatus is kind

-- it ends as moves do
pub opens_ends : (r : MoveStatus) → IsOpenStatus r → IsMoveStatus r
opens_ends (Run status.Done) kind = kind
opens_ends (Run status.WriteFault) kind = kind
opens_ends (Run status.ModuleFault) kind = kind
opens_ends (Run status.StoreFault) kind = kind
opens_ends (Run (status.Damaged device cell)) kind = kind
opens_ends (Run status.Usage) kind = absurd kind
opens_ends (Run status.NoMemory) kind = absurd kind
opens_ends (Run status.ReadFault) kind = absurd kind
opens_ends (Run status.EntropyFault) kind = absurd kind
opens_ends (Run status.InputLimit) kind = absurd kind
opens_ends (Refused rule) kind = kind
opens_ends ReportFault kind = kind

-- and its words are right
pub opens_usage : (words : List (List ℕ)) (r : MoveStatus) → IsOpenStatus r → IsMove words → (r ≡ Run status.Usage) ↔ (IsMove words → ⊥)
opens_usage words r kind move = (λ is. absurd (opens_called r kind (inl is)), λ never. absurd (never move))

-- ---- where a move ends

-- one that tells labels opens the disks
pub labels_opens : (r : MoveStatus) → IsLabelStatus r → IsOpenStatus r
labels_opens (Run status.Done) kind = kind
labels_opens (Run status.WriteFault) kind = kind
labels_opens (Run status.StoreFault) kind = kind
labels_opens (Run (status.Damaged Store cell)) kind = kind
labels_opens (Run (status.Damaged Module cell)) kind = absurd kind
labels_opens (Run status.ModuleFault) kind = absurd kind
labels_opens (Run status.Usage) kind = absurd kind
labels_opens (Run status.NoMemory) kind = absurd kind
labels_opens (Run status.ReadFault) kind = absurd kind
labels_opens (Run status.EntropyFault) kind = absurd kind
labels_opens (Run status.InputLimit) kind = absurd kind
labels_opens (Refused rule) kind = kind
labels_opens ReportFault kind = kind
