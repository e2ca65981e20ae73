use Rattle.std.proofs.Common.{◌≡◌, ◌≤◌, ◌+◌, ℕ, Bool, true, false, cond, Err, refl, sym, ap, subst, ◌∙◌, arith, rules}
use mir.Val.{bool_byte}
use Rattle.verb_rules.proofs.TokenLemmas.{keys_apart}
use Rattle.verb_rules.specs.Keys.{keys_of}
use Rattle.record_bodies.specs.Further.{further}
use Rattle.reencipher.specs.Runs.{IsLabelCell}
use Rattle.reencipher.proofs.LeftLaws.{left_untouched, left_on, left_failed}
use Rattle.reencipher.proofs.RowLaws.{HasTurnedTo, turned_start, turned_on, turns_ended, turns_whole}
use Rattle.reencipher.proofs.RunLaws.{Reaches, reaches_start, reaches_next, ends_at, ends_whole}
use Rattle.reencipher.proofs.TurnLaws.{loaded_turn}
use Rattle.key_records.specs.declared.faults.RecordFault.TheVariants.{Damaged}
use Rattle.key_cells.proofs.AnswerLemmas.{no_err}
use Rattle.reencipher.proofs.running.run_action.Goals as goal

byte_is : (b : Bool) → bool_byte b ≡ cond b 1 0
byte_is true = refl
byte_is false = refl

byte_low : (b : Bool) → bool_byte b ≤ 1
byte_low true = omega arith
byte_low false = omega arith

pub loop-cell-init : goal.loop-cell-init
loop-cell-init g c = record {
  labels = λ m s loaded told. reaches_start c.args.action (keys_of m) (keys_apart m loaded.valid) s c.args.records.now (g.D.Disk.medium c.args.store.now) c.requires.store.settled told;
  cells = turned_start c.args.action c.args.held.now c.args.records.now (g.D.Disk.medium c.args.store.now) c.requires.store.settled;
  left = left_untouched g.D.Disk.medium g.D.Disk.faults (IsLabelCell c.args.records.now) c.args.lease.now c.args.records.now c.args.store.now 0 c.requires.store;
  few = omega arith;
}

pub returns-in-Err-clause-labels : goal.returns-in-Err-clause-labels
returns-in-Err-clause-labels g c m s loaded told =
    let masters = keys_of m in
    let m0 = g.D.Disk.medium c.args.store.now in
    let m1 = g.D.Disk.medium c.loop-cell.store in
    let m2 = g.D.Disk.medium c.turn_cell.new.store in
    let so_far = c.loop-cell.invariant.labels m s loaded told in
    let now = loaded_turn m c.args.held.now c.args.lease.now c.loop-cell.lease loaded c.loop-cell.invariant.left.rest in
    ends_at c.args.action masters (keys_apart m loaded.valid) s c.loop-cell.cell c.loop-cell.changed c.loop-cell.records c.turn_cell.new.records m0 m1 m2 c.loop-cell-test.true so_far
    c.in-Err.fault (c.in-Err.ensures.changes m (further c.args.action s c.loop-cell.cell) now so_far.keeps)

pub loop-cell-preserved : goal.loop-cell-preserved
loop-cell-preserved g c = record {
  labels = λ m s loaded told.
      let so_far = c.loop-cell.invariant.labels m s loaded told in
      let now = loaded_turn m c.args.held.now c.args.lease.now c.loop-cell.lease loaded c.loop-cell.invariant.left.rest in
      let m0 = g.D.Disk.medium c.args.store.now in
      let m1 = g.D.Disk.medium c.loop-cell.store in
      let m2 = g.D.Disk.medium c.turn_cell.new.store in
      subst (λ n. Reaches c.args.action (keys_of m) s (c.loop-cell.cell + 1) (c.loop-cell.changed + n) c.turn_cell.new.records m0 m2)
      (sym (c.from-changed.ensures ∙ byte_is c.in-Ok.done))
      (reaches_next c.args.action (keys_of m) (keys_apart m loaded.valid) s c.loop-cell.cell c.loop-cell.changed c.loop-cell.records c.turn_cell.new.records m0 m1 m2 c.loop-cell-test.true so_far
      c.in-Ok.done (c.in-Ok.ensures.changes m (further c.args.action s c.loop-cell.cell) now so_far.keeps));
  cells =
      subst (λ n. HasTurnedTo c.args.action c.args.held.now c.args.records.now (c.loop-cell.cell + 1) (c.loop-cell.changed + n) c.turn_cell.new.records (g.D.Disk.medium c.args.store.now) (g.D.Disk.medium c.turn_cell.new.store))
      (sym (c.from-changed.ensures ∙ byte_is c.in-Ok.done))
      (turned_on c.args.action c.args.held.now c.args.records.now c.loop-cell.cell c.loop-cell.changed c.loop-cell.records c.turn_cell.new.records
      (g.D.Disk.medium c.args.store.now) (g.D.Disk.medium c.loop-cell.store) (g.D.Disk.medium c.turn_cell.new.store) c.loop-cell-test.true c.loop-cell.invariant.cells
      c.turn_cell.ensures.others c.turn_cell.ensures.row c.in-Ok.done c.in-Ok.ensures.turns c.in-Ok.ensures.count);
  left = left_on g.D.Disk.medium g.D.Disk.faults c.args.lease.now c.loop-cell.lease c.turn_cell.new.lease c.args.records.now c.loop-cell.records c.turn_cell.new.records
      c.args.store.now c.loop-cell.store c.turn_cell.new.store c.loop-cell.cell c.loop-cell.changed c.loop-cell-test.true c.in-Ok.done _ c.loop-cell.invariant.left c.in-Ok.ensures.left;
  few = omega (arith, c.loop-cell.invariant.few, c.from-changed.ensures, byte_low c.in-Ok.done);
}

pub returns-clause-labels : goal.returns-clause-labels
returns-clause-labels g c m s loaded told =
    let all : c.loop-cell.cell ≡ 1024 = search rules in
    ends_whole c.args.action (keys_of m) (keys_apart m loaded.valid) s c.loop-cell.cell c.loop-cell.changed c.loop-cell.records (g.D.Disk.medium c.args.store.now) (g.D.Disk.medium c.loop-cell.store) all
    (c.loop-cell.invariant.labels m s loaded told)

pub returns-in-Err-clause-cells : goal.returns-in-Err-clause-cells
returns-in-Err-clause-cells g c =
    let m0 = g.D.Disk.medium c.args.store.now in
    let m2 = g.D.Disk.medium c.turn_cell.new.store in
    turns_ended c.args.action c.args.held.now c.args.records.now c.loop-cell.cell c.loop-cell.changed c.loop-cell.records c.turn_cell.new.records
    m0 (g.D.Disk.medium c.loop-cell.store) m2 c.loop-cell-test.true c.loop-cell.invariant.cells
    c.turn_cell.ensures.others c.turn_cell.ensures.row c.in-Err.fault c.in-Err.ensures.turns

pub returns-clause-cells : goal.returns-clause-cells
returns-clause-cells g c =
    let all : c.loop-cell.cell ≡ 1024 = search rules in
    turns_whole c.args.action c.args.held.now c.args.records.now c.loop-cell.cell c.loop-cell.changed c.loop-cell.records
    (g.D.Disk.medium c.args.store.now) (g.D.Disk.medium c.loop-cell.store) all c.loop-cell.invariant.cells

pub returns-in-Err-clause-left : goal.returns-in-Err-clause-left
returns-in-Err-clause-left g c =
    left_failed g.D.Disk.medium g.D.Disk.faults c.args.lease.now c.loop-cell.lease c.turn_cell.new.lease c.args.records.now c.loop-cell.records c.turn_cell.new.records
    c.args.store.now c.loop-cell.store c.turn_cell.new.store c.loop-cell.cell c.loop-cell.changed c.loop-cell-test.true ℕ _ c.loop-cell.invariant.left c.in-Err.ensures.left

pub returns-in-Err-clause-misread : goal.returns-in-Err-clause-misread
returns-in-Err-clause-misread g c n is reads = let same : c.in-Err.fault ≡ Damaged n = cc is in c.in-Err.ensures.misread n (ap Err same) reads

pub returns-clause-misread : goal.returns-clause-misread
returns-clause-misread g c n is reads = no_err is
