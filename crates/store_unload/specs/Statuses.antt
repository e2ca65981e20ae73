-- How the status of a run tells of its lines.
use Rattle.std.specs.Prelude.{◌≡◌, ◌⊎◌, Result, Ok, Err}
use Rattle.store_unload.specs.declared.status.Status.{Status}
use Rattle.store_unload.specs.declared.status.Status.TheVariants as status
use Rattle.line_service.specs.declared.stops.Stop.{Stop}
use Rattle.line_service.specs.declared.stops.Stop.TheVariants.{ReadFault, WriteFault, EntropyFault, ModuleFault, StoreFault, Damaged, InputLimit}

abbrev pub status_of_lem : Result (Unit {0}) Stop → Status
status_of_lem (Ok done) = status.Done
status_of_lem (Err ReadFault) = status.ReadFault
status_of_lem (Err WriteFault) = status.WriteFault
status_of_lem (Err EntropyFault) = status.EntropyFault
status_of_lem (Err ModuleFault) = status.ModuleFault
status_of_lem (Err StoreFault) = status.StoreFault
status_of_lem (Err (Damaged device cell)) = status.Damaged device cell
status_of_lem (Err InputLimit) = status.InputLimit

-- no device was called
abbrev pub CallsNone : Status → Type 0
CallsNone outcome = (outcome ≡ status.Usage) ⊎ (outcome ≡ status.NoMemory)
