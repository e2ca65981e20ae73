use Rattle.std.proofs.Common.{◌≡◌, Err, refl, subst}
use Rattle.std.specs.Prelude.{◌↔◌, IsTrue}
use Rattle.key_cells.specs.Lease.{bench_of}
use Rattle.cca_roles.specs.Changes.{ChangesRoles, Remembers}
use Rattle.cca_roles.specs.Roles.{define_place, after_define, define_refused}
use Rattle.cca_roles.specs.declared.faults.RoleFault.TheVariants.{TableFull}
use Rattle.master_registers.specs.Loaded.{masters_in}
use Rattle.cca_machine.specs.Act.{DefineRole}
use Rattle.cca_requests.specs.Changes.{role_reply}
use Rattle.cca_requests.proofs.MemoryLaws.{role_own}
use Rattle.cca_requests.proofs.ReplyLines.{answer_line}
use Rattle.cca_requests.proofs.RoleChanging.{role_changes_as, role_still_as, role_left_as}
use Rattle.cca_requests.proofs.changing_module.define_role.Goals as goal

pub returns-clause-carries : goal.returns-clause-carries
returns-clause-carries g c = λ s at. record {
  carries =
      let name = c.args.name.now in
      let r = c.define-outcome.result in
      let old = g.M.Disk.medium c.args.module.now in
      let new = g.M.Disk.medium c.define-outcome.new.module in
      let now = c.define-outcome.new.self in
      let is = at.stands.memory in
      role_changes_as g.M.Disk.medium c.args.module.now c.define-outcome.new.module s c.args.roles.now now (define_place name s.roles) (after_define name c.args.points s.roles) (DefineRole name c.args.points) refl
      TableFull (record { stop = refl; reply = refl }) c.requires.at.settled at.stands c.answer_roles.new.reply (define_refused name s.roles) r c.answer_roles.result c.answer_roles.ensures.stop
      (subst (λ rs. (r ≡ Err TableFull) ↔ IsTrue (define_refused name rs)) is c.define-outcome.ensures.full)
      c.define-outcome.ensures.faults
      (subst (λ rs. ChangesRoles (define_place name rs) rs (after_define name c.args.points rs) old new r) is c.define-outcome.ensures.changed)
      c.define-outcome.ensures.untouched
      (subst (λ rs. Remembers c.args.roles.now (after_define name c.args.points rs) now r) is c.define-outcome.ensures.memory)
      c.answer_roles.ensures.reply;
  still = λ none.
      let name = c.args.name.now in
      let r = c.define-outcome.result in
      role_still_as g.M.Disk.medium c.args.module.now c.define-outcome.new.module s c.args.roles.now c.define-outcome.new.self (define_place name s.roles) (after_define name c.args.points s.roles) (DefineRole name c.args.points) refl
      TableFull (record { stop = refl; reply = refl }) c.requires.at.settled at.stands (define_refused name s.roles) r
      (subst (λ rs. (r ≡ Err TableFull) ↔ IsTrue (define_refused name rs)) at.stands.memory c.define-outcome.ensures.full)
      c.define-outcome.ensures.untouched none;
}

pub returns-clause-left : goal.returns-clause-left
returns-clause-left g c =
    let name = c.args.name.now in
    let before = c.args.roles.now in
    let faults = g.M.Disk.faults in
    role_left_as g.M.Disk.medium faults c.args.module.now c.define-outcome.new.module (masters_in c.args.held.now (bench_of c.args.lease.now))
    before c.define-outcome.new.self (define_place name before) (after_define name c.args.points before) TableFull (record { stop = refl; reply = refl })
    c.requires.at.settled c.requires.at.stands c.requires.at.remembered c.define-outcome.ensures.cause.later c.answer_roles.new.reply
    c.define-outcome.result c.answer_roles.result c.answer_roles.ensures.stop c.define-outcome.ensures.faults c.define-outcome.ensures.changed c.define-outcome.ensures.untouched
    c.define-outcome.ensures.memory c.define-outcome.ensures.cause.failed c.define-outcome.ensures.cause.quiet
    (answer_line (role_reply c.define-outcome.result) c.answer_roles.new.reply c.answer_roles.result c.answer_roles.ensures.reply) c.answer_roles.ensures.silent

pub returns-clause-own : goal.returns-clause-own
returns-clause-own g c = role_own c.answer_roles.result c.answer_roles.new.reply c.args.roles.now (after_define c.args.name.now c.args.points c.args.roles.now) c.define-outcome.new.self c.define-outcome.result c.define-outcome.ensures.memory c.answer_roles.ensures
