use Rattle.std.proofs.Common.{◌≡◌, List, ℕ, Option, Some, Ok, Err, inl, inr, refl, arith, sym, ap, subst, ◌∙◌}
use Rattle.std.specs.Prelude.{set}
use Rattle.device_cells.proofs.Media.{told_map}
use Rattle.device_cells.specs.Cells.{body}
use Rattle.cca_roles.specs.Directory.{AreApart}
use Rattle.cca_roles.specs.Opening.{OpenedTo}
use Rattle.cca_roles.specs.RoleBody.{ReadsPlace, slot_in}
use Rattle.cca_roles.specs.Roles.{AreRoles, names, name_of, blank_roles}
use Rattle.cca_roles.specs.declared.faults.RoleFault.TheVariants.{DiskFault, Damaged}
use Rattle.cca_roles.specs.declared.roles.Role.{Role}
use Rattle.cca_roles.proofs.OpeningLaws.{ok_not_err, disk_not_damaged, damaged_not_disk, one_cell}
use Rattle.cca_roles.proofs.OpeningLaws.{cause_read, cause_unread, opened_first, place_fits, refused_first}
use Rattle.cca_roles.proofs.TableLaws.{blank_table}
use Rattle.cca_roles.proofs.TotalLaws.{default_read, default_apart}
use Rattle.cca_roles.proofs.opening.open_default.Goals as goal
use Rattle.key_cells.proofs.AnswerLemmas.{unless_err}

pub returns-then-is_err-clause-roles : goal.returns-then-is_err-clause-roles
returns-then-is_err-clause-roles g c = subst AreRoles (sym c.requires.blank) blank_table

pub returns-in-None-clause-roles : goal.returns-in-None-clause-roles
returns-in-None-clause-roles g c = subst AreRoles (sym c.requires.blank) blank_table

pub set_place-requires-clause-apart : goal.set_place-requires-clause-apart
set_place-requires-clause-apart g c =
    subst (λ (s : List (Option Role)). AreApart (set (names s) 0 (name_of (Some c.in-Some.role)))) (sym c.requires.blank)
    (default_apart (Some c.in-Some.role) (default_read c.body.result.now (Some c.in-Some.role) c.in-Some.ensures.reads))

pub returns-in-Some-clause-opened : goal.returns-in-Some-clause-opened
returns-in-Some-clause-opened g c =
    let bytes : List ℕ = c.body.result.now in
    let slot : Option Role = Some c.in-Some.role in
    let found : slot ≡ slot_in 0 bytes = c.in-Some.ensures.found in
    let reads : ReadsPlace 0 bytes (slot_in 0 bytes) = subst (λ (o : Option Role). ReadsPlace 0 bytes o) found c.in-Some.ensures.reads in
    told_map (g.M.Disk.medium c.args.«module».now) (λ image. c.read_cell.new.out ≡ body image c.new.result) (λ image. OpenedTo image 1 c.set_place.new.self)
    (unless_err c.read_cell.result (sym c.is_err.ensures.value ∙ c.if-is_err.false) c.read_cell.ensures.bytes)
    (λ image read.
    let here : bytes ≡ body image 1 = c.body.ensures ∙ read ∙ ap (body image) c.new.ensures in
    opened_first image c.set_place.new.self
    (subst (λ (b : List ℕ). ReadsPlace 0 b (slot_in 0 b)) here reads)
    (c.set_place.ensures.set ∙ ap (λ s. set s 0 slot) c.requires.blank ∙ ap (set blank_roles 0) (found ∙ ap (slot_in 0) here)))

pub read_cell-requires : goal.read_cell-requires
read_cell-requires g c = place_fits (g.M.Disk.medium c.args.«module».now).size 0 c.new.result c.requires.size (omega arith) c.new.ensures

pub returns-then-is_err-clause-opened : goal.returns-then-is_err-clause-opened
returns-then-is_err-clause-opened g c = tt

pub returns-then-is_err-clause-damaged : goal.returns-then-is_err-clause-damaged
returns-then-is_err-clause-damaged g c n is = absurd (disk_not_damaged n is)

pub returns-then-is_err-clause-faults : goal.returns-then-is_err-clause-faults
returns-then-is_err-clause-faults g c = inl refl

pub returns-then-is_err-clause-cause : goal.returns-then-is_err-clause-cause
returns-then-is_err-clause-cause g c =
    cause_unread (g.M.Disk.faults c.args.«module».now) (g.M.Disk.faults c.read_cell.new.disk) c.read_cell.result c.read_cell.ensures.cause (sym c.is_err.ensures.value ∙ c.if-is_err.true)

pub returns-in-Some-clause-roles : goal.returns-in-Some-clause-roles
returns-in-Some-clause-roles g c = c.set_place.ensures.roles

pub returns-in-Some-clause-damaged : goal.returns-in-Some-clause-damaged
returns-in-Some-clause-damaged g c n is = absurd (ok_not_err (Damaged n) is)

pub returns-in-Some-clause-faults : goal.returns-in-Some-clause-faults
returns-in-Some-clause-faults g c = tt

pub returns-in-Some-clause-cause : goal.returns-in-Some-clause-cause
returns-in-Some-clause-cause g c =
    cause_read (g.M.Disk.faults c.args.«module».now) (g.M.Disk.faults c.read_cell.new.disk) c.read_cell.result c.read_cell.ensures.cause
    (sym c.is_err.ensures.value ∙ c.if-is_err.false) (Ok tt) (ok_not_err DiskFault)

pub returns-in-None-clause-opened : goal.returns-in-None-clause-opened
returns-in-None-clause-opened g c = tt

pub returns-in-None-clause-faults : goal.returns-in-None-clause-faults
returns-in-None-clause-faults g c = inr refl

pub returns-in-None-clause-cause : goal.returns-in-None-clause-cause
returns-in-None-clause-cause g c =
    cause_read (g.M.Disk.faults c.args.«module».now) (g.M.Disk.faults c.read_cell.new.disk) c.read_cell.result c.read_cell.ensures.cause
    (sym c.is_err.ensures.value ∙ c.if-is_err.false) (Err (Damaged 1)) (damaged_not_disk 1)

pub returns-in-None-clause-damaged : goal.returns-in-None-clause-damaged
returns-in-None-clause-damaged g c n is =
    refused_first (g.M.Disk.medium c.args.«module».now) c.read_cell.new.out c.body.result.now c.new.result n c.body.ensures c.new.ensures
    (unless_err c.read_cell.result (sym c.is_err.ensures.value ∙ c.if-is_err.false) c.read_cell.ensures.bytes)
    (one_cell 1 n is) (c.in-None.ensures.none refl)

pub returns-then-is_err-clause-keeps : goal.returns-then-is_err-clause-keeps
returns-then-is_err-clause-keeps g c = c.read_cell.ensures.keeps

pub returns-then-is_err-clause-rest : goal.returns-then-is_err-clause-rest
returns-then-is_err-clause-rest g c = refl

pub returns-in-Some-clause-keeps : goal.returns-in-Some-clause-keeps
returns-in-Some-clause-keeps g c = c.read_cell.ensures.keeps

pub returns-in-Some-clause-rest : goal.returns-in-Some-clause-rest
returns-in-Some-clause-rest g c = refl

pub returns-in-None-clause-keeps : goal.returns-in-None-clause-keeps
returns-in-None-clause-keeps g c = c.read_cell.ensures.keeps

pub returns-in-None-clause-rest : goal.returns-in-None-clause-rest
returns-in-None-clause-rest g c = refl
