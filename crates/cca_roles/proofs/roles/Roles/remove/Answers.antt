use Rattle.std.proofs.Common.{◌≡◌, sym, ◌∙◌, inr, refl}
use Rattle.cca_roles.specs.Roles.{names, after_remove, remove_place}
use Rattle.cca_roles.proofs.BodyLaws.{reads_none}
use Rattle.cca_roles.proofs.DirectoryLaws.{apart_none}
use Rattle.cca_roles.proofs.TableLaws.{place_not_first}
use Rattle.cca_roles.specs.declared.faults.RoleFault.TheVariants.{DiskFault, Unknown}
use Rattle.cca_roles.proofs.StandLaws.{disk_or, never_refused, refused_cause, refused_changes}
use Rattle.cca_roles.proofs.roles.Roles.remove.Goals as goal

-- an unknown name is no fault of the disk
unknown_not_disk : Unknown ≡ DiskFault → ⊥
unknown_not_disk is = cc is

pub change-requires-clause-reads : goal.change-requires-clause-reads
change-requires-clause-reads g c =
    reads_none c.in-Some.place c.body.result.now (place_not_first c.args.self.now c.args.name.now c.in-Some.place c.in-Some.ensures.roles c.requires.name (sym c.in-Some.ensures.found))
    (c.body.ensures ∙ c.write_blank.ensures)

pub change-requires-clause-first : goal.change-requires-clause-first
change-requires-clause-first g c first = absurd (place_not_first c.args.self.now c.args.name.now c.in-Some.place c.in-Some.ensures.roles c.requires.name (sym c.in-Some.ensures.found) first)

pub change-requires-clause-apart : goal.change-requires-clause-apart
change-requires-clause-apart g c = apart_none (names c.args.self.now) c.in-Some.place c.in-Some.ensures.roles.apart

-- ---- a refusal

pub returns-in-None-clause-changed : goal.returns-in-None-clause-changed
returns-in-None-clause-changed g c = refused_changes (remove_place c.args.name.now c.args.self.now) c.args.self.now (after_remove c.args.name.now c.args.self.now) (g.M.Disk.medium c.args.«module».now) Unknown c.requires.settled c.requires.stands

pub returns-in-None-clause-written : goal.returns-in-None-clause-written
returns-in-None-clause-written g c other = absurd (other refl)

pub returns-in-None-clause-memory : goal.returns-in-None-clause-memory
returns-in-None-clause-memory g c = record { done = tt; kept = refl }

pub returns-in-None-clause-rest : goal.returns-in-None-clause-rest
returns-in-None-clause-rest g c = refl

pub returns-in-None-clause-cause : goal.returns-in-None-clause-cause
returns-in-None-clause-cause g c = refused_cause (g.M.Disk.faults c.args.«module».now) Unknown unknown_not_disk

pub returns-in-None-clause-faults : goal.returns-in-None-clause-faults
returns-in-None-clause-faults g c = inr refl

pub returns-in-None-clause-untouched : goal.returns-in-None-clause-untouched
returns-in-None-clause-untouched g c _ = refl

pub returns-in-None-clause-lease_untouched : goal.returns-in-None-clause-lease_untouched
returns-in-None-clause-lease_untouched g c _ = refl

-- ---- the change

pub change-requires-clause-size : goal.change-requires-clause-size
change-requires-clause-size g c = c.requires.size

pub change-requires-clause-settled : goal.change-requires-clause-settled
change-requires-clause-settled g c = c.requires.settled

pub change-requires-clause-stands : goal.change-requires-clause-stands
change-requires-clause-stands g c = c.requires.stands

pub returns-clause-rest : goal.returns-clause-rest
returns-clause-rest g c = refl

pub returns-clause-cause : goal.returns-clause-cause
returns-clause-cause g c = c.change.ensures.cause

pub returns-clause-faults : goal.returns-clause-faults
returns-clause-faults g c = disk_or c.change.result c.change.ensures.faults Unknown unknown_not_disk

pub returns-clause-untouched : goal.returns-clause-untouched
returns-clause-untouched g c is = absurd (never_refused c.change.result c.change.ensures.faults Unknown unknown_not_disk is)

pub returns-clause-lease_untouched : goal.returns-clause-lease_untouched
returns-clause-lease_untouched g c is = absurd (never_refused c.change.result c.change.ensures.faults Unknown unknown_not_disk is)
