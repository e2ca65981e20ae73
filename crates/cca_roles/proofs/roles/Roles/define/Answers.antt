use Rattle.std.proofs.Common.{◌≡◌, ℕ, List, Option, Some, set, inr, refl, subst, true≢false}
use Rattle.cca_roles.specs.Changes.{ChangesRoles, Remembers}
use Rattle.cca_roles.specs.Roles.{after_define, define_place}
use Rattle.cca_roles.specs.declared.faults.RoleFault.TheVariants.{DiskFault, TableFull}
use Rattle.cca_roles.specs.declared.roles.Role.{Role}
use Rattle.cca_roles.proofs.StandLaws.{disk_or, never_refused, refused_cause, refused_changes}
use Rattle.cca_roles.proofs.roles.Roles.define.Goals as goal

-- a full table is no fault of the disk
full_not_disk : TableFull ≡ DiskFault → ⊥
full_not_disk is = cc is

-- ---- a refusal

pub returns-in-None-clause-changed : goal.returns-in-None-clause-changed
returns-in-None-clause-changed g c = refused_changes (define_place c.args.name.now c.args.self.now) c.args.self.now (after_define c.args.name.now c.args.points c.args.self.now) (g.M.Disk.medium c.args.«module».now) TableFull c.requires.settled c.requires.stands

pub returns-in-None-clause-written : goal.returns-in-None-clause-written
returns-in-None-clause-written g c other = absurd (other refl)

pub returns-in-None-clause-memory : goal.returns-in-None-clause-memory
returns-in-None-clause-memory g c = record { done = tt; kept = refl }

pub returns-in-None-clause-rest : goal.returns-in-None-clause-rest
returns-in-None-clause-rest g c = refl

pub returns-in-None-clause-cause : goal.returns-in-None-clause-cause
returns-in-None-clause-cause g c = refused_cause (g.M.Disk.faults c.args.«module».now) TableFull full_not_disk

pub returns-in-None-clause-faults : goal.returns-in-None-clause-faults
returns-in-None-clause-faults g c = inr refl

pub returns-in-None-clause-untouched : goal.returns-in-None-clause-untouched
returns-in-None-clause-untouched g c _ = refl

pub returns-in-None-clause-lease_untouched : goal.returns-in-None-clause-lease_untouched
returns-in-None-clause-lease_untouched g c _ = refl

-- ---- the change

pub change-requires-clause-size : goal.change-requires-clause-size
change-requires-clause-size g c = c.requires.size

pub change-requires-clause-settled : goal.change-requires-clause-settled
change-requires-clause-settled g c = c.requires.settled

pub change-requires-clause-stands : goal.change-requires-clause-stands
change-requires-clause-stands g c = c.requires.stands

pub returns-clause-rest : goal.returns-clause-rest
returns-clause-rest g c = refl

pub returns-clause-cause : goal.returns-clause-cause
returns-clause-cause g c = c.change.ensures.cause

pub returns-clause-faults : goal.returns-clause-faults
returns-clause-faults g c = disk_or c.change.result c.change.ensures.faults TableFull full_not_disk

pub returns-clause-untouched : goal.returns-clause-untouched
returns-clause-untouched g c is = absurd (never_refused c.change.result c.change.ensures.faults TableFull full_not_disk is)

pub returns-clause-lease_untouched : goal.returns-clause-lease_untouched
returns-clause-lease_untouched g c is = absurd (never_refused c.change.result c.change.ensures.faults TableFull full_not_disk is)

pub returns-in-None-clause-full : goal.returns-in-None-clause-full
returns-in-None-clause-full g c = (λ _. c.in-None.ensures.none.0 refl, λ _. refl)

pub returns-clause-full : goal.returns-clause-full
returns-clause-full g c = (
  λ is. absurd (never_refused c.change.result c.change.ensures.faults TableFull full_not_disk is),
  λ refused. absurd (true≢false (c.in-Some.ensures.none.1 refused)),
)

pub change-requires-clause-within : goal.change-requires-clause-within
change-requires-clause-within g c = c.in-Some.ensures.within

pub change-requires-clause-apart : goal.change-requires-clause-apart
change-requires-clause-apart g c = c.in-Some.ensures.apart

pub returns-clause-changed : goal.returns-clause-changed
returns-clause-changed g c =
    let s : List (Option Role) = c.args.self.now in
    let slot : Option Role = Some (record { name = c.args.name.now; points = c.args.points }) in
    subst (λ (n : ℕ). ChangesRoles n s (set s n slot) (g.M.Disk.medium c.args.«module».now) (g.M.Disk.medium c.change.new.«module») c.change.result) c.in-Some.ensures.place c.change.ensures.changed

pub returns-clause-memory : goal.returns-clause-memory
returns-clause-memory g c =
    let s : List (Option Role) = c.args.self.now in
    let slot : Option Role = Some (record { name = c.args.name.now; points = c.args.points }) in
    subst (λ (n : ℕ). Remembers s (set s n slot) c.change.new.self c.change.result) c.in-Some.ensures.place c.change.ensures.memory
