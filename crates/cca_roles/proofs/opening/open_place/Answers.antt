use Rattle.std.proofs.Common.{◌+◌, Ok, Err, inl, inr, refl, sym, ◌∙◌}
use Rattle.cca_roles.specs.declared.faults.RoleFault.TheVariants.{DiskFault, Damaged}
use Rattle.cca_roles.proofs.OpeningLaws.{ok_not_err, disk_not_damaged, damaged_not_disk, one_cell, cause_read}
use Rattle.cca_roles.proofs.OpeningLaws.{cause_unread, opens_read, place_fits, refused_held, refused_read}
use Rattle.cca_roles.proofs.opening.open_place.Goals as goal
use Rattle.key_cells.proofs.AnswerLemmas.{unless_err}

pub read_cell-requires : goal.read_cell-requires
read_cell-requires g c = place_fits (g.M.Disk.medium c.args.«module».now).size c.args.place c.new.result c.requires.size c.requires.within c.new.ensures

pub read_slot-requires : goal.read_slot-requires
read_slot-requires g c = c.requires.not_first

pub put-requires-clause-within : goal.put-requires-clause-within
put-requires-clause-within g c = c.requires.within

pub put-requires-clause-not_first : goal.put-requires-clause-not_first
put-requires-clause-not_first g c = c.requires.not_first

-- ---- the disk failed

pub returns-then-is_err-clause-opened : goal.returns-then-is_err-clause-opened
returns-then-is_err-clause-opened g c = tt

pub returns-then-is_err-clause-damaged : goal.returns-then-is_err-clause-damaged
returns-then-is_err-clause-damaged g c n is = absurd (disk_not_damaged n is)

pub returns-then-is_err-clause-faults : goal.returns-then-is_err-clause-faults
returns-then-is_err-clause-faults g c = inl refl

pub returns-then-is_err-clause-cause : goal.returns-then-is_err-clause-cause
returns-then-is_err-clause-cause g c =
    cause_unread (g.M.Disk.faults c.args.«module».now) (g.M.Disk.faults c.read_cell.new.disk) c.read_cell.result c.read_cell.ensures.cause (sym c.is_err.ensures.value ∙ c.if-is_err.true)

-- ---- the cell was read

pub returns-then-put-clause-opened : goal.returns-then-put-clause-opened
returns-then-put-clause-opened g c =
    opens_read (g.M.Disk.medium c.args.«module».now) c.args.place c.read_cell.new.out c.body.result.now c.new.result c.args.roles.now c.body.ensures c.new.ensures
    (unless_err c.read_cell.result (sym c.is_err.ensures.value ∙ c.if-is_err.false) c.read_cell.ensures.bytes)
    c.in-Some.slot c.put.new.self c.in-Some.ensures.found c.in-Some.ensures.reads (c.if-put.ensures.put refl)

pub returns-then-put-clause-damaged : goal.returns-then-put-clause-damaged
returns-then-put-clause-damaged g c n is = absurd (ok_not_err (Damaged n) is)

pub returns-then-put-clause-faults : goal.returns-then-put-clause-faults
returns-then-put-clause-faults g c = tt

pub returns-else-put-clause-damaged : goal.returns-else-put-clause-damaged
returns-else-put-clause-damaged g c n is =
    refused_held (g.M.Disk.medium c.args.«module».now) c.args.place c.read_cell.new.out c.body.result.now c.new.result c.args.roles.now c.body.ensures c.new.ensures
    (unless_err c.read_cell.result (sym c.is_err.ensures.value ∙ c.if-is_err.false) c.read_cell.ensures.bytes)
    n c.in-Some.slot (one_cell (c.args.place + 1) n is) c.in-Some.ensures.reads (c.if-put.ensures.held refl)

pub returns-in-None-clause-damaged : goal.returns-in-None-clause-damaged
returns-in-None-clause-damaged g c n is =
    refused_read (g.M.Disk.medium c.args.«module».now) c.args.place c.read_cell.new.out c.body.result.now c.new.result c.args.roles.now c.body.ensures c.new.ensures
    (unless_err c.read_cell.result (sym c.is_err.ensures.value ∙ c.if-is_err.false) c.read_cell.ensures.bytes)
    n (one_cell (c.args.place + 1) n is) (inl (c.in-None.ensures.none refl))

pub returns-then-put-clause-cause : goal.returns-then-put-clause-cause
returns-then-put-clause-cause g c =
    cause_read (g.M.Disk.faults c.args.«module».now) (g.M.Disk.faults c.read_cell.new.disk) c.read_cell.result c.read_cell.ensures.cause
    (sym c.is_err.ensures.value ∙ c.if-is_err.false) (Ok tt) (ok_not_err DiskFault)

pub returns-else-put-clause-cause : goal.returns-else-put-clause-cause
returns-else-put-clause-cause g c =
    cause_read (g.M.Disk.faults c.args.«module».now) (g.M.Disk.faults c.read_cell.new.disk) c.read_cell.result c.read_cell.ensures.cause
    (sym c.is_err.ensures.value ∙ c.if-is_err.false) (Err (Damaged (c.args.place + 1))) (damaged_not_disk (c.args.place + 1))

pub returns-else-put-clause-opened : goal.returns-else-put-clause-opened
returns-else-put-clause-opened g c = tt

pub returns-else-put-clause-faults : goal.returns-else-put-clause-faults
returns-else-put-clause-faults g c = inr refl

pub returns-in-None-clause-cause : goal.returns-in-None-clause-cause
returns-in-None-clause-cause g c =
    cause_read (g.M.Disk.faults c.args.«module».now) (g.M.Disk.faults c.read_cell.new.disk) c.read_cell.result c.read_cell.ensures.cause
    (sym c.is_err.ensures.value ∙ c.if-is_err.false) (Err (Damaged (c.args.place + 1))) (damaged_not_disk (c.args.place + 1))

pub returns-in-None-clause-opened : goal.returns-in-None-clause-opened
returns-in-None-clause-opened g c = tt

pub returns-in-None-clause-faults : goal.returns-in-None-clause-faults
returns-in-None-clause-faults g c = inr refl

pub returns-then-is_err-clause-roles : goal.returns-then-is_err-clause-roles
returns-then-is_err-clause-roles g c = c.requires.roles

pub returns-then-is_err-clause-keeps : goal.returns-then-is_err-clause-keeps
returns-then-is_err-clause-keeps g c = c.read_cell.ensures.keeps

pub returns-then-is_err-clause-rest : goal.returns-then-is_err-clause-rest
returns-then-is_err-clause-rest g c = refl

pub returns-then-put-clause-roles : goal.returns-then-put-clause-roles
returns-then-put-clause-roles g c = c.put.ensures.roles

pub returns-then-put-clause-keeps : goal.returns-then-put-clause-keeps
returns-then-put-clause-keeps g c = c.read_cell.ensures.keeps

pub returns-then-put-clause-rest : goal.returns-then-put-clause-rest
returns-then-put-clause-rest g c = refl

pub returns-else-put-clause-roles : goal.returns-else-put-clause-roles
returns-else-put-clause-roles g c = c.put.ensures.roles

pub returns-else-put-clause-keeps : goal.returns-else-put-clause-keeps
returns-else-put-clause-keeps g c = c.read_cell.ensures.keeps

pub returns-else-put-clause-rest : goal.returns-else-put-clause-rest
returns-else-put-clause-rest g c = refl

pub returns-in-None-clause-roles : goal.returns-in-None-clause-roles
returns-in-None-clause-roles g c = c.requires.roles

pub returns-in-None-clause-keeps : goal.returns-in-None-clause-keeps
returns-in-None-clause-keeps g c = c.read_cell.ensures.keeps

pub returns-in-None-clause-rest : goal.returns-in-None-clause-rest
returns-in-None-clause-rest g c = refl
