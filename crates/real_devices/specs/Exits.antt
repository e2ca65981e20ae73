-- The exit status of each fault of the program.
use Rattle.std.specs.Prelude.{ℕ}
use Rattle.real_devices.specs.declared.fault.Fault.{Fault}
use Rattle.real_devices.specs.declared.fault.Fault.TheVariants as fault

abbrev pub exit_of : Fault → ℕ
exit_of fault.Usage = 2
exit_of (fault.ModuleCell cell) = 3
exit_of (fault.StoreCell cell) = 3
exit_of fault.Input = 4
exit_of fault.Output = 5
exit_of fault.Module = 6
exit_of fault.Store = 7
exit_of fault.Entropy = 8
exit_of fault.InputLimit = 9
exit_of fault.NoMemory = 10
exit_of fault.File = 11
exit_of (fault.Refused rule) = 12
exit_of fault.Trail = 13
exit_of (fault.TrailCell cell) = 14
exit_of fault.TrailFull = 15
exit_of fault.Report = 16
exit_of fault.Size = 17
