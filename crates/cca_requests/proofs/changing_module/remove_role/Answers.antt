use Rattle.std.proofs.Common.{◌≡◌, Err, refl, subst}
use Rattle.std.specs.Prelude.{◌↔◌, IsTrue}
use Rattle.key_cells.specs.Lease.{bench_of}
use Rattle.cca_roles.specs.Changes.{ChangesRoles, Remembers}
use Rattle.cca_roles.specs.Roles.{remove_place, after_remove, remove_refused}
use Rattle.cca_roles.specs.declared.faults.RoleFault.TheVariants.{Unknown}
use Rattle.master_registers.specs.Loaded.{masters_in}
use Rattle.cca_machine.specs.Act.{RemoveRole}
use Rattle.cca_requests.specs.Changes.{role_reply}
use Rattle.cca_requests.proofs.MemoryLaws.{role_own}
use Rattle.cca_requests.proofs.ReplyLines.{answer_line}
use Rattle.cca_requests.proofs.RoleChanging.{role_changes_as, role_still_as, role_left_as}
use Rattle.cca_requests.proofs.changing_module.remove_role.Goals as goal

pub returns-clause-carries : goal.returns-clause-carries
returns-clause-carries g c = λ s at. record {
  carries =
      let name = c.args.name.now in
      let r = c.remove-outcome.result in
      let old = g.M.Disk.medium c.args.module.now in
      let new = g.M.Disk.medium c.remove-outcome.new.module in
      let now = c.remove-outcome.new.self in
      let is = at.stands.memory in
      role_changes_as g.M.Disk.medium c.args.module.now c.remove-outcome.new.module s c.args.roles.now now (remove_place name s.roles) (after_remove name s.roles) (RemoveRole name) refl
      Unknown (record { stop = refl; reply = refl }) c.requires.at.settled at.stands c.answer_roles.new.reply (remove_refused name s.roles) r c.answer_roles.result c.answer_roles.ensures.stop
      (subst (λ rs. (r ≡ Err Unknown) ↔ IsTrue (remove_refused name rs)) is c.remove-outcome.ensures.unknown)
      c.remove-outcome.ensures.faults
      (subst (λ rs. ChangesRoles (remove_place name rs) rs (after_remove name rs) old new r) is c.remove-outcome.ensures.changed)
      c.remove-outcome.ensures.untouched
      (subst (λ rs. Remembers c.args.roles.now (after_remove name rs) now r) is c.remove-outcome.ensures.memory)
      c.answer_roles.ensures.reply;
  still = λ none.
      let name = c.args.name.now in
      let r = c.remove-outcome.result in
      role_still_as g.M.Disk.medium c.args.module.now c.remove-outcome.new.module s c.args.roles.now c.remove-outcome.new.self (remove_place name s.roles) (after_remove name s.roles) (RemoveRole name) refl
      Unknown (record { stop = refl; reply = refl }) c.requires.at.settled at.stands (remove_refused name s.roles) r
      (subst (λ rs. (r ≡ Err Unknown) ↔ IsTrue (remove_refused name rs)) at.stands.memory c.remove-outcome.ensures.unknown)
      c.remove-outcome.ensures.untouched none;
}

pub returns-clause-left : goal.returns-clause-left
returns-clause-left g c =
    let name = c.args.name.now in
    let before = c.args.roles.now in
    let faults = g.M.Disk.faults in
    role_left_as g.M.Disk.medium faults c.args.module.now c.remove-outcome.new.module (masters_in c.args.held.now (bench_of c.args.lease.now))
    before c.remove-outcome.new.self (remove_place name before) (after_remove name before) Unknown (record { stop = refl; reply = refl })
    c.requires.at.settled c.requires.at.stands c.requires.at.remembered c.remove-outcome.ensures.cause.later c.answer_roles.new.reply
    c.remove-outcome.result c.answer_roles.result c.answer_roles.ensures.stop c.remove-outcome.ensures.faults c.remove-outcome.ensures.changed c.remove-outcome.ensures.untouched
    c.remove-outcome.ensures.memory c.remove-outcome.ensures.cause.failed c.remove-outcome.ensures.cause.quiet
    (answer_line (role_reply c.remove-outcome.result) c.answer_roles.new.reply c.answer_roles.result c.answer_roles.ensures.reply) c.answer_roles.ensures.silent

pub returns-clause-own : goal.returns-clause-own
returns-clause-own g c = role_own c.answer_roles.result c.answer_roles.new.reply c.args.roles.now (after_remove c.args.name.now c.args.roles.now) c.remove-outcome.new.self c.remove-outcome.result c.remove-outcome.ensures.memory c.answer_roles.ensures
