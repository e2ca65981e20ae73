-- How opening a disk stops.
use Rattle.cca_roles.specs.declared.faults.RoleFault.{RoleFault}
use Rattle.cca_roles.specs.declared.faults.RoleFault.TheVariants as role_fault
use Rattle.master_registers.specs.declared.faults.LoadFault.{LoadFault}
use Rattle.master_registers.specs.declared.faults.LoadFault.TheVariants as load_fault
use Rattle.line_service.specs.declared.stops.Device.TheVariants.{Module}
use Rattle.line_service.specs.declared.stops.Stop.{Stop}
use Rattle.line_service.specs.declared.stops.Stop.TheVariants.{ModuleFault, Damaged}

-- the registers weren't loaded
abbrev pub load_stop : LoadFault → Stop
load_stop load_fault.DiskFault = ModuleFault
load_stop load_fault.Damaged = Damaged Module 0

-- the roles weren't read
abbrev pub role_stop : RoleFault → Stop
role_stop role_fault.DiskFault = ModuleFault
role_stop (role_fault.Damaged cell) = Damaged Module cell
role_stop role_fault.TableFull = ModuleFault
role_stop role_fault.Unknown = ModuleFault
