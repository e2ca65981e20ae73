-- What the ends of a run are told as.
use Rattle.std.specs.Prelude.{◌≡◌, ◌⊎◌, Option, None, Some, Result, Ok, Err}
use Rattle.cca.specs.declared.ending.Ending.{Ending}
use Rattle.cca.specs.declared.ending.Ending.TheVariants.{Run, Move}
use Rattle.real_devices.specs.declared.fault.Fault.{Fault}
use Rattle.real_devices.specs.declared.fault.Fault.TheVariants as fault
use Rattle.line_service.specs.declared.stops.Device.TheVariants.{Module, Store}
use Rattle.cca_tool.specs.declared.auditing.AuditStatus.{AuditStatus}
use Rattle.cca_tool.specs.declared.auditing.AuditStatus.TheVariants as audit
use Rattle.store_unload.specs.declared.unloading.MoveStatus.TheVariants as move
use Rattle.store_unload.specs.declared.status.Status.{Status}
use Rattle.store_unload.specs.declared.status.Status.TheVariants as status

abbrev pub run_fault_of : Status → Option Fault
run_fault_of status.Done = None
run_fault_of status.Usage = Some fault.Usage
run_fault_of (status.Damaged Module cell) = Some (fault.ModuleCell cell)
run_fault_of (status.Damaged Store cell) = Some (fault.StoreCell cell)
run_fault_of status.ReadFault = Some fault.Input
run_fault_of status.WriteFault = Some fault.Output
run_fault_of status.EntropyFault = Some fault.Entropy
run_fault_of status.ModuleFault = Some fault.Module
run_fault_of status.StoreFault = Some fault.Store
run_fault_of status.InputLimit = Some fault.InputLimit
run_fault_of status.NoMemory = Some fault.NoMemory

abbrev pub audit_fault_of : AuditStatus → Option Fault
audit_fault_of (audit.Run outcome) = run_fault_of outcome
audit_fault_of audit.TrailFault = Some fault.Trail
audit_fault_of (audit.TrailDamaged cell) = Some (fault.TrailCell cell)
audit_fault_of audit.TrailFull = Some fault.TrailFull

abbrev pub fault_of_lem : Ending → Option Fault
fault_of_lem (Run outcome) = audit_fault_of outcome
fault_of_lem (Move (move.Run outcome)) = run_fault_of outcome
fault_of_lem (Move (move.Refused rule)) = Some (fault.Refused rule)
fault_of_lem (Move move.ReportFault) = Some fault.Report

-- why the program doesn't end well: the fault of the status of a call, or the one before it
abbrev pub told_of : Result Ending Fault → Option Fault
told_of (Ok outcome) = fault_of_lem outcome
told_of (Err fault) = Some fault

-- a command was carried out to its end
abbrev pub EndsWell : Result Ending Fault → Type 0
EndsWell outcome =
    (outcome ≡ Ok (Run (audit.Run status.Done))) ⊎ (outcome ≡ Ok (Move (move.Run status.Done)))
