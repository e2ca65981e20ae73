-- A broken cell is the one that is named, and what stands for registers and roles has none.
use Rattle.std.proofs.Common.{◌≡◌, ◌∙◌, ℕ, Result, Err, ap, arith, refl, subst, sym}
use Rattle.device_cells.proofs.Media.{keeps_then, settled_kept, told_after, settled_keeps}
use Rattle.device_cells.specs.Medium.{Told}
use Rattle.device_cells.proofs.WhereToldLemmas.{rose_wider}
use Rattle.key_cells.specs.Lease.{bench_of}
use Rattle.master_registers.specs.RegisterBody.{StandsForMasters}
use Rattle.master_registers.specs.Loaded.{masters_in}
use Rattle.master_registers.specs.declared.faults.LoadFault.TheVariants as load_fault
use Rattle.master_registers.specs.declared.registers.Registers.{Registers}
use Rattle.cca_roles.specs.RolesStand.{IsFirstDamaged}
use Rattle.cca_roles.specs.declared.faults.RoleFault.TheVariants as role_fault
use Rattle.line_service.specs.declared.stops.Device.TheVariants.{Module}
use Rattle.line_service.specs.declared.stops.Stop.{Stop}
use Rattle.line_service.specs.declared.stops.Stop.TheVariants.{Damaged, ModuleFault}
use Rattle.cca_machine.specs.Coprocessor.{IsBrokenModule, IsModuleStop}
use Rattle.store_unload.specs.Stops.{load_stop, role_stop}
use Rattle.store_unload.proofs.DiskLemmas.{Left, at_load, at_role, cell_named, err_told, left_open, left_shut, load_broken, load_judged, no_fault}
use Rattle.store_unload.proofs.DiskLemmas.{of_load, of_role, role_cell, same_fault}
use Rattle.store_unload.proofs.OpeningLemmas.{body_changes, broken_role, is_loaded_after, judged_role, registers_after, stands_unbroken}
use Rattle.store_unload.proofs.BothLemmas.{never_err}
use Rattle.store_unload.proofs.opening.open_module.Goals as goal

-- ---- the module was opened

pub returns-in-Ok-open_roles-clause-loaded : goal.returns-in-Ok-open_roles-clause-loaded
returns-in-Ok-open_roles-clause-loaded g c =
    let before = bench_of c.load.new.lease in
    let now = bench_of c.open_roles.new.lease in
    is_loaded_after c.in-Ok-load.held before now (body_changes before now (ap bench_of c.open_roles.ensures.rest)) c.in-Ok-load.ensures.loaded

pub returns-in-Ok-open_roles-clause-registers : goal.returns-in-Ok-open_roles-clause-registers
returns-in-Ok-open_roles-clause-registers g c =
    let before = bench_of c.load.new.lease in
    let now = bench_of c.open_roles.new.lease in
    registers_after c.in-Ok-load.held before now (body_changes before now (ap bench_of c.open_roles.ensures.rest))
    (g.M.Disk.medium c.open_roles.new.module) (g.M.Disk.medium c.load.new.module) (sym c.open_roles.ensures.keeps.content) c.in-Ok-load.ensures.stands

pub returns-in-Ok-open_roles-clause-roles : goal.returns-in-Ok-open_roles-clause-roles
returns-in-Ok-open_roles-clause-roles g c = c.in-Ok-open_roles.ensures.stands

pub returns-in-Ok-open_roles-clause-damaged : goal.returns-in-Ok-open_roles-clause-damaged
returns-in-Ok-open_roles-clause-damaged g c = λ cell h. absurd (never_err c.in-Ok-load.held (Damaged Module cell) h)

pub returns-in-Ok-open_roles-clause-judged : goal.returns-in-Ok-open_roles-clause-judged
returns-in-Ok-open_roles-clause-judged g c = λ still.
    let m0 = g.M.Disk.medium c.args.module.now in
    let m1 = g.M.Disk.medium c.load.new.module in
    let m2 = g.M.Disk.medium c.open_roles.new.module in
    let registers = masters_in c.in-Ok-load.held (bench_of c.load.new.lease) in
    let loaded = told_after m1 m2 (λ image. StandsForMasters image registers) c.open_roles.ensures.keeps.content
    c.in-Ok-load.ensures.stands in
    stands_unbroken m0 m2 registers c.open_roles.new.roles _ (c.open_roles.ensures.keeps.content ∙ (c.load.ensures.keeps.content ∙ c.settle.ensures.content))
    loaded c.in-Ok-open_roles.ensures.stands

pub returns-in-Ok-open_roles-clause-kept : goal.returns-in-Ok-open_roles-clause-kept
returns-in-Ok-open_roles-clause-kept g c =
    let m0 = g.M.Disk.medium c.args.module.now in
    let m1 = g.M.Disk.medium c.settle.new.disk in
    let m2 = g.M.Disk.medium c.load.new.module in
    keeps_then m0 m2 (g.M.Disk.medium c.open_roles.new.module)
    (keeps_then m0 m1 m2 (settled_keeps m0 m1 c.settle.ensures.content c.settle.ensures.moments) c.load.ensures.keeps) c.open_roles.ensures.keeps

pub returns-in-Ok-open_roles-clause-left : goal.returns-in-Ok-open_roles-clause-left
returns-in-Ok-open_roles-clause-left g c =
    let m0 = g.M.Disk.medium c.args.module.now in
    let m1 = g.M.Disk.medium c.settle.new.disk in
    let m2 = g.M.Disk.medium c.load.new.module in
    let m3 = g.M.Disk.medium c.open_roles.new.module in
    left_open Registers m0 m3 _ _
    (keeps_then m0 m2 m3 (keeps_then m0 m1 m2 (settled_keeps m0 m1 c.settle.ensures.content c.settle.ensures.moments) c.load.ensures.keeps) c.open_roles.ensures.keeps)
    (omega (arith, c.settle.ensures.cause.later, c.load.ensures.cause.later, c.open_roles.ensures.cause.later))
    c.in-Ok-load.held ModuleFault
    (settled_kept m1 m3 (keeps_then m1 m2 m3 c.load.ensures.keeps c.open_roles.ensures.keeps) c.in-Ok.ensures.settled)
    (c.open_roles.ensures.cause.quiet (λ h. no_fault c.in-Ok-open_roles.is h)
    ∙ (c.load.ensures.cause.quiet (λ h. no_fault c.in-Ok-load.is h) ∙ c.in-Ok.ensures.cause.quiet))

-- ---- its roles weren't read

pub returns-in-Err-open_roles-clause-damaged : goal.returns-in-Err-open_roles-clause-damaged
returns-in-Err-open_roles-clause-damaged g c = λ cell h.
    let here = c.in-Err-open_roles in
    broken_role (g.M.Disk.medium c.args.module.now) (g.M.Disk.medium c.load.new.module) cell (masters_in c.in-Ok-load.held (bench_of c.load.new.lease))
    (c.load.ensures.keeps.content ∙ c.settle.ensures.content) c.in-Ok-load.ensures.stands
    (c.open_roles.ensures.damaged cell (here.is ∙ ap Err (role_cell here.fault cell (err_told {T = Registers} c.stop_of_roles.result (role_stop here.fault) _ c.stop_of_roles.ensures h))))

pub returns-in-Err-open_roles-clause-judged : goal.returns-in-Err-open_roles-clause-judged
returns-in-Err-open_roles-clause-judged g c = λ still.
    let m0 = g.M.Disk.medium c.args.module.now in
    let m1 = g.M.Disk.medium c.load.new.module in
    let here = c.in-Err-open_roles in
    subst (λ (s : Stop). Told m0 (λ image. (cell : ℕ) → IsBrokenModule cell image → ◌≡◌ {A = Result Registers Stop} (Err s) (Err (Damaged Module cell)))) (sym c.stop_of_roles.ensures)
    (judged_role m0 m1 (masters_in c.in-Ok-load.held (bench_of c.load.new.lease)) (λ cell. ◌≡◌ {A = Result Registers Stop} (Err (role_stop here.fault)) (Err (Damaged Module cell)))
    (c.load.ensures.keeps.content ∙ c.settle.ensures.content) c.in-Ok-load.ensures.stands
    (cell_named role_stop role_fault.Damaged (λ n. Damaged Module n) (λ n. refl) Registers (λ image n. IsFirstDamaged image n) c.open_roles.result here.fault here.is m1
    (c.open_roles.ensures.exact (λ rose. still (rose_wider _ _ _ _ (omega (arith, c.settle.ensures.cause.later, c.load.ensures.cause.later)) c.open_roles.ensures.cause.later (omega arith) rose)))))

pub returns-in-Err-open_roles-clause-kept : goal.returns-in-Err-open_roles-clause-kept
returns-in-Err-open_roles-clause-kept g c =
    let m0 = g.M.Disk.medium c.args.module.now in
    let m1 = g.M.Disk.medium c.settle.new.disk in
    let m2 = g.M.Disk.medium c.load.new.module in
    keeps_then m0 m2 (g.M.Disk.medium c.open_roles.new.module)
    (keeps_then m0 m1 m2 (settled_keeps m0 m1 c.settle.ensures.content c.settle.ensures.moments) c.load.ensures.keeps) c.open_roles.ensures.keeps

pub returns-in-Err-open_roles-clause-left : goal.returns-in-Err-open_roles-clause-left
returns-in-Err-open_roles-clause-left g c =
    let m0 = g.M.Disk.medium c.args.module.now in
    let m1 = g.M.Disk.medium c.settle.new.disk in
    let m2 = g.M.Disk.medium c.load.new.module in
    let m3 = g.M.Disk.medium c.open_roles.new.module in
    let f0 = g.M.Disk.faults c.args.module.now in
    let f3 = g.M.Disk.faults c.open_roles.new.module in
    let here = c.in-Err-open_roles in
    subst (λ (s : Stop). Left Registers m0 m3 f0 f3 (Err s) ModuleFault) (sym c.stop_of_roles.ensures)
    (left_shut Registers m0 m3 f0 f3
    (keeps_then m0 m2 m3 (keeps_then m0 m1 m2 (settled_keeps m0 m1 c.settle.ensures.content c.settle.ensures.moments) c.load.ensures.keeps) c.open_roles.ensures.keeps)
    (omega (arith, c.settle.ensures.cause.later, c.load.ensures.cause.later, c.open_roles.ensures.cause.later))
    (role_stop here.fault) ModuleFault
    (λ h. rose_wider _ _ _ _ (omega (arith, c.settle.ensures.cause.later, c.load.ensures.cause.later)) c.open_roles.ensures.cause.later (omega arith)
    (c.open_roles.ensures.cause.failed (here.is ∙ ap Err (at_role here.fault here.ensures.faults h))))
    (λ never. c.open_roles.ensures.cause.quiet (λ h. never (ap role_stop (same_fault c.open_roles.result here.fault role_fault.DiskFault here.is h)))
    ∙ (c.load.ensures.cause.quiet (λ h. no_fault c.in-Ok-load.is h) ∙ c.in-Ok.ensures.cause.quiet)))

pub returns-in-Err-open_roles-clause-stops : goal.returns-in-Err-open_roles-clause-stops
returns-in-Err-open_roles-clause-stops g c =
    subst IsModuleStop (sym c.stop_of_roles.ensures) (of_role c.in-Err-open_roles.fault c.in-Err-open_roles.ensures.faults)

-- ---- its registers weren't loaded

pub returns-in-Err-load-clause-damaged : goal.returns-in-Err-load-clause-damaged
returns-in-Err-load-clause-damaged g c = λ cell h.
    let here = c.in-Err-load in
    load_broken Registers (g.M.Disk.medium c.args.module.now) (g.M.Disk.medium c.settle.new.disk) c.settle.ensures.content here.fault
    (λ is. c.load.ensures.damaged (here.is ∙ ap Err is)) cell (ap Err (sym c.stop_of_load.ensures) ∙ h)

pub returns-in-Err-load-clause-judged : goal.returns-in-Err-load-clause-judged
returns-in-Err-load-clause-judged g c = λ still.
    let m0 = g.M.Disk.medium c.args.module.now in
    let here = c.in-Err-load in
    subst (λ (s : Stop). Told m0 (λ image. (cell : ℕ) → IsBrokenModule cell image → ◌≡◌ {A = Result Registers Stop} (Err s) (Err (Damaged Module cell)))) (sym c.stop_of_load.ensures)
    (load_judged Registers m0 (g.M.Disk.medium c.settle.new.disk) c.settle.ensures.content here.fault
    (λ is. c.load.ensures.damaged (here.is ∙ ap Err is))
    (λ is. still (rose_wider _ _ _ _ c.settle.ensures.cause.later c.load.ensures.cause.later (omega arith) (c.load.ensures.cause.failed (here.is ∙ ap Err is)))))

pub returns-in-Err-load-clause-kept : goal.returns-in-Err-load-clause-kept
returns-in-Err-load-clause-kept g c =
    let m0 = g.M.Disk.medium c.args.module.now in
    let m1 = g.M.Disk.medium c.settle.new.disk in
    keeps_then m0 m1 (g.M.Disk.medium c.load.new.module) (settled_keeps m0 m1 c.settle.ensures.content c.settle.ensures.moments) c.load.ensures.keeps

pub returns-in-Err-load-clause-left : goal.returns-in-Err-load-clause-left
returns-in-Err-load-clause-left g c =
    let m0 = g.M.Disk.medium c.args.module.now in
    let m1 = g.M.Disk.medium c.settle.new.disk in
    let m2 = g.M.Disk.medium c.load.new.module in
    let f0 = g.M.Disk.faults c.args.module.now in
    let f2 = g.M.Disk.faults c.load.new.module in
    let here = c.in-Err-load in
    subst (λ (s : Stop). Left Registers m0 m2 f0 f2 (Err s) ModuleFault) (sym c.stop_of_load.ensures)
    (left_shut Registers m0 m2 f0 f2
    (keeps_then m0 m1 m2 (settled_keeps m0 m1 c.settle.ensures.content c.settle.ensures.moments) c.load.ensures.keeps)
    (omega (arith, c.settle.ensures.cause.later, c.load.ensures.cause.later))
    (load_stop here.fault) ModuleFault
    (λ h. rose_wider _ _ _ _ c.settle.ensures.cause.later c.load.ensures.cause.later (omega arith) (c.load.ensures.cause.failed (here.is ∙ ap Err (at_load here.fault h))))
    (λ never. c.load.ensures.cause.quiet (λ h. never (ap load_stop (same_fault c.load.result here.fault load_fault.DiskFault here.is h))) ∙ c.in-Ok.ensures.cause.quiet))

pub returns-in-Err-load-clause-stops : goal.returns-in-Err-load-clause-stops
returns-in-Err-load-clause-stops g c = subst IsModuleStop (sym c.stop_of_load.ensures) (of_load c.in-Err-load.fault)

-- ---- its images weren't settled

pub returns-in-Err-clause-kept : goal.returns-in-Err-clause-kept
returns-in-Err-clause-kept g c =
    settled_keeps (g.M.Disk.medium c.args.module.now) (g.M.Disk.medium c.settle.new.disk) c.settle.ensures.content c.settle.ensures.moments

pub returns-in-Err-clause-left : goal.returns-in-Err-clause-left
returns-in-Err-clause-left g c =
    let m0 = g.M.Disk.medium c.args.module.now in
    let m1 = g.M.Disk.medium c.settle.new.disk in
    left_shut Registers m0 m1 _ _ (settled_keeps m0 m1 c.settle.ensures.content c.settle.ensures.moments) c.settle.ensures.cause.later
    ModuleFault ModuleFault (λ h. c.in-Err.ensures.cause.failed) (λ never. absurd (never refl))
