use Rattle.std.proofs.Common.{◌≡◌, [], Err, OnOk, sym, subst}
use Rattle.std.specs.Prelude.{◌↔◌, IsTrue, IfOk, OnErr}
use Rattle.key_cells.specs.Lease.{bench_of}
use Rattle.master_registers.specs.Masters.{Masters}
use Rattle.master_registers.specs.Actions.{after_action, has_wrong_state, repeats_pattern}
use Rattle.master_registers.specs.Changes.{ChangesModule}
use Rattle.master_registers.specs.Loaded.{Loaded, masters_in}
use Rattle.master_registers.specs.declared.faults.RegisterFault.TheVariants.{RegisterState, SamePattern}
use Rattle.line_service.specs.Replies.{spelled}
use Rattle.cca_requests.specs.Serving.{CarriesModule, LeavesModule}
use Rattle.record_bodies.specs.StoreStands.{HoldsRows}
use Rattle.cca_requests.specs.Changes.{IsTurnedBy, action_outcome, change_reply, change_stop, rows_after, rows_by}
use Rattle.cca_requests.specs.Memory.{RefusedOr}
use Rattle.cca_requests.proofs.MemoryLaws.{change_own}
use Rattle.cca_machine.specs.Deciding.{labels_after}
use Rattle.cca_requests.proofs.ReplyLines.{answer_line}
use Rattle.cca_requests.proofs.TurnedRows.{is_turned, err_kept, held_after}
use Rattle.cca_requests.proofs.Registers.{masters_are}
use Rattle.cca_requests.proofs.Changing.{changes_as, still_as, left_as}
use Rattle.cca_requests.proofs.changing_module.change_registers.Goals as goal

pub returns-clause-carries : goal.returns-clause-carries
returns-clause-carries g c = λ s at. record {
  carries =
      let bench = bench_of c.args.lease.now in
      let later = bench_of c.carry_out-outcome.new.lease in
      let action = c.args.action in
      let result = c.carry_out-outcome.result in
      let old = g.M.Disk.medium c.args.module.now in
      let new = g.M.Disk.medium c.carry_out-outcome.new.module in
      let is = sym (masters_are s.registers c.args.held.now bench at.loaded) in
      subst (λ r. CarriesModule (action_outcome s action bench.part) s r
      c.answer_change.new.reply c.args.roles.now old new) (sym c.answer_change.ensures.stop)
      (changes_as g.M.Disk.medium c.args.module.now c.carry_out-outcome.new.module s c.args.roles.now (after_action action bench.part s.registers) (labels_after action s) later
      c.requires.at.settled at.stands (has_wrong_state action s.registers) (repeats_pattern action s.registers) result c.answer_change.new.reply
      (subst (λ (m : Masters). (result ≡ Err RegisterState) ↔ IsTrue (has_wrong_state action m)) is c.carry_out-outcome.ensures.state)
      (subst (λ (m : Masters). (result ≡ Err SamePattern) ↔ IsTrue (repeats_pattern action m)) is c.carry_out-outcome.ensures.same)
      (subst (λ (m : Masters). ChangesModule m (after_action action bench.part m) old new result) is c.carry_out-outcome.ensures.registers.changed)
      c.carry_out-outcome.ensures.registers.untouched
      (subst (λ (m : Masters). IfOk result (λ now. Loaded (after_action action bench.part m) now later)) is c.carry_out-outcome.ensures.registers.loaded)
      (subst (λ r. OnOk r (c.answer_change.new.reply ≡ spelled (change_reply result))) c.answer_change.ensures.stop c.answer_change.ensures.reply));
  still = λ none.
      let bench = bench_of c.args.lease.now in
      let action = c.args.action in
      let result = c.carry_out-outcome.result in
      let is = sym (masters_are s.registers c.args.held.now bench at.loaded) in
      still_as g.M.Disk.medium c.args.module.now c.carry_out-outcome.new.module s c.args.roles.now (after_action action bench.part s.registers) (labels_after action s) bench
      c.requires.at.settled at.stands (has_wrong_state action s.registers) (repeats_pattern action s.registers) result
      (subst (λ (m : Masters). (result ≡ Err RegisterState) ↔ IsTrue (has_wrong_state action m)) is c.carry_out-outcome.ensures.state)
      (subst (λ (m : Masters). (result ≡ Err SamePattern) ↔ IsTrue (repeats_pattern action m)) is c.carry_out-outcome.ensures.same)
      c.carry_out-outcome.ensures.registers.untouched none;
}

pub returns-clause-left : goal.returns-clause-left
returns-clause-left g c =
    let bench = bench_of c.args.lease.now in
    let m = masters_in c.args.held.now bench in
    let result = c.carry_out-outcome.result in
    let faults = g.M.Disk.faults in
    let left = left_as g.M.Disk.medium faults c.args.module.now c.carry_out-outcome.new.module m (after_action c.args.action bench.part m) c.args.roles.now
    c.requires.at.settled c.requires.at.stands c.requires.at.remembered c.carry_out-outcome.ensures.registers.cause.later result c.answer_change.new.reply
    c.carry_out-outcome.ensures.registers.changed c.carry_out-outcome.ensures.registers.untouched c.carry_out-outcome.ensures.registers.cause.failed c.carry_out-outcome.ensures.registers.cause.quiet
    (answer_line (change_reply result) c.answer_change.new.reply (change_stop result)
    (subst (λ r. OnOk r (c.answer_change.new.reply ≡ spelled (change_reply result))) c.answer_change.ensures.stop c.answer_change.ensures.reply))
    (subst (λ r. OnErr r (c.answer_change.new.reply ≡ [])) c.answer_change.ensures.stop c.answer_change.ensures.silent) in
    subst (λ r. LeavesModule (g.M.Disk.medium c.args.module.now) (g.M.Disk.medium c.carry_out-outcome.new.module) (faults c.args.module.now) (faults c.carry_out-outcome.new.module)
    r c.answer_change.new.reply c.args.roles.now c.args.roles.now) (sym c.answer_change.ensures.stop) left

pub returns-clause-turned : goal.returns-clause-turned
returns-clause-turned g c = λ s at.
    let action = c.args.action in
    let rows = c.args.records.now in
    let result = c.carry_out-outcome.result in
    let is = sym (masters_are s.registers c.args.held.now (bench_of c.args.lease.now) at.loaded) in
    let turned : IsTurnedBy s action (change_stop result) rows (rows_by result action rows) =
    is_turned s action rows result
    (subst (λ (m : Masters). (result ≡ Err RegisterState) ↔ IsTrue (has_wrong_state action m)) is c.carry_out-outcome.ensures.state)
    (subst (λ (m : Masters). (result ≡ Err SamePattern) ↔ IsTrue (repeats_pattern action m)) is c.carry_out-outcome.ensures.same) in
    subst (λ r. IsTurnedBy s action r rows c.turn_after.new.records) (sym c.answer_change.ensures.stop)
    (subst (λ now. IsTurnedBy s action (change_stop result) rows now) (sym c.turn_after.ensures) turned)

pub returns-clause-rows : goal.returns-clause-rows
returns-clause-rows g c = λ image holds.
    subst (λ now. HoldsRows now image) (sym c.turn_after.ensures) (held_after c.args.action c.carry_out-outcome.result c.args.records.now image holds)

pub returns-clause-memory : goal.returns-clause-memory
returns-clause-memory g c =
    subst (λ r. OnErr r (c.turn_after.new.records ≡ c.args.records.now)) (sym c.answer_change.ensures.stop)
    (subst (λ now. OnErr (change_stop c.carry_out-outcome.result) (now ≡ c.args.records.now)) (sym c.turn_after.ensures) (err_kept c.args.action c.args.records.now c.carry_out-outcome.result))

pub returns-clause-own : goal.returns-clause-own
returns-clause-own g c =
    subst (λ now. OnOk c.answer_change.result (RefusedOr c.answer_change.new.reply (now ≡ c.args.records.now) (now ≡ rows_after c.args.action c.args.records.now)))
    (sym c.turn_after.ensures) (change_own c.answer_change.result c.answer_change.new.reply c.args.action c.args.records.now c.carry_out-outcome.result c.answer_change.ensures)
