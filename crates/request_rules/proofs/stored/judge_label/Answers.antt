use Rattle.std.proofs.Common.{◌≡◌, ◌∙◌, ℕ, List, [], Option, None, Some, get_or, refl, sym, ap, subst, rules, true≢false}
use Rattle.std.specs.Prelude.{Err}
use Rattle.key_cells.specs.Lease.{bench_of}
use Rattle.record_bodies.specs.StoreStands.{entry_at}
use Rattle.record_bodies.specs.Entries.{what_in}
use Rattle.record_bodies.specs.declared.rows.Row.{Row}
use Rattle.store_move.specs.Stored.{IsStored}
use Rattle.verb_rules.specs.Rules.{rule_number}
use Rattle.cca_machine.specs.declared.asking.Ask.TheVariants as Ask
use Rattle.request_rules.specs.ByRecords.{IsHeldIn}
use Rattle.request_rules.specs.Judging.{IsShaped}
use Rattle.request_rules.specs.Stored.{IsAnsweredAsRead, IsFound, IsLabelAsked}
use Rattle.request_rules.proofs.AsRead.{held_passes}
use Rattle.request_rules.proofs.LabelsRead.{in_store, judged_shape, not_found, store_failed, stored_asked}
use Rattle.request_rules.proofs.StoreReads.{never_stopped, stopped_at}
use Rattle.request_rules.proofs.stored.judge_label.Goals as goal

pub returns-in-Err-clause-asked : goal.returns-in-Err-clause-asked
returns-in-Err-clause-asked g c = λ s at.
    not_found s c.args.records.now at.stands.agrees c.args.label.now c.args.need.now (rule_number c.in-Err.rule) c.in-Err.ensures

pub returns-in-Ok-judge_record-clause-asked : goal.returns-in-Ok-judge_record-clause-asked
returns-in-Ok-judge_record-clause-asked g c = λ s at.
    let bench = bench_of c.args.lease.now in
    let here = c.in-Ok-judge_record in
    let stored : IsStored bench c.args.need.now (what_in (entry_at s.labels c.in-Ok.place)) here.judged =
    in_store s c.args.held.now bench c.args.records.now (g.D.Disk.medium c.args.store.now) at _
    (here.ensures.stored s.registers s.labels at.loaded) in
    subst (IsLabelAsked s bench c.args.need.now c.args.label.now) (sym c.answer_of.ensures)
    (stored_asked s c.args.records.now at.stands.agrees c.args.label.now c.args.need.now c.in-Ok.place c.in-Ok.ensures bench c.args.held.now
    here.judged at.loaded stored here.ensures.age)

pub returns-in-Ok-judge_record-clause-shaped : goal.returns-in-Ok-judge_record-clause-shaped
returns-in-Ok-judge_record-clause-shaped g c =
    let here = c.in-Ok-judge_record in
    subst (IsShaped [] [] (Ask.Key c.args.need.now)) (sym c.answer_of.ensures)
    (judged_shape c.args.need.now here.judged here.ensures.halves here.ensures.under here.ensures.double)

pub returns-in-Err-judge_record-clause-reads : goal.returns-in-Err-judge_record-clause-reads
returns-in-Err-judge_record-clause-reads g c = record {
  keeps = search rules;
  disk = search rules;
  spared = λ none. absurd (true≢false none);
  named = λ is. refl;
  stops = search rules;
  sound = λ s at.
      let here = c.in-Err-judge_record in
      c.stop_of.ensures ∙ store_failed here.fault c.in-Ok.place here.ensures.fails.faults (λ cell is.
      in_store s c.args.held.now (bench_of c.args.lease.now) c.args.records.now (g.D.Disk.medium c.args.store.now) at ⊥
      (λ told. here.ensures.damaged s.registers s.labels at.loaded told cell (ap Err is)));
  rest = search rules;
}

-- ---- by what was read of its record

-- a label that is held stands in one place, and breaks no rule of labels
same_place : (rows : List (Option Row)) (label : List ℕ) (n place : ℕ) → IsFound rows label n → IsHeldIn rows label place → n ≡ place
same_place rows label n place one other = let both : Some n ≡ Some place = sym one.is ∙ other.is in cc

refused_none : (o : Option ℕ) (n : ℕ) → o ≡ Some n → o ≡ None → ⊥
refused_none o n broken passes = cc

pub returns-in-Err-clause-own : goal.returns-in-Err-clause-own
returns-in-Err-clause-own g c = λ m place loaded found. absurd (refused_none _ (rule_number c.in-Err.rule) c.in-Err.ensures (held_passes c.args.records.now c.args.label.now place found))

pub returns-in-Ok-judge_record-clause-own : goal.returns-in-Ok-judge_record-clause-own
returns-in-Ok-judge_record-clause-own g c = λ m place loaded found.
    let rows : List (Option Row) = c.args.records.now in
    let read = c.in-Ok-judge_record.ensures.own m loaded in
    subst (λ (n : ℕ). IsAnsweredAsRead m (bench_of c.args.lease.now) c.args.need.now (get_or rows n None) (bench_of c.judge_record.new.lease).body c.answer_of.result)
    (same_place rows c.args.label.now c.in-Ok.place place c.in-Ok.ensures found)
    (record { what = read.0; holds = read.1; judged = c.in-Ok-judge_record.judged; stored = read.2; is = c.answer_of.ensures })

-- ---- the cell that a stop names

pub returns-in-Err-clause-cell : goal.returns-in-Err-clause-cell
returns-in-Err-clause-cell g c = λ n is. never_stopped is

pub returns-in-Ok-judge_record-clause-cell : goal.returns-in-Ok-judge_record-clause-cell
returns-in-Ok-judge_record-clause-cell g c = λ n is. never_stopped is

pub returns-in-Err-judge_record-clause-cell : goal.returns-in-Err-judge_record-clause-cell
returns-in-Err-judge_record-clause-cell g c = λ n is.
    let here = c.in-Err-judge_record in
    let same : c.in-Ok.place ≡ n = stopped_at here.fault c.stop_of.result c.in-Ok.place n c.stop_of.ensures here.ensures.fails.faults (cc is) in
    c.in-Ok.ensures.is ∙ ap Some same
