-- The key that was judged is exported, by what the store holds and by what was read of it.
use Rattle.std.proofs.Common.{ℕ, List, None, get_or, sym, subst}
use Rattle.key_cells.specs.Lease.{bench_of}
use Rattle.record_bodies.specs.Entries.{what_in}
use Rattle.record_bodies.specs.StoreStands.{entry_at}
use Rattle.device_cells.proofs.Media.{told_map}
use Rattle.verb_rules.specs.Keys.{keys_of, opened}
use Rattle.std.specs.Prelude.{Result}
use Rattle.verb_rules.specs.declared.judging.Judged.{Judged}
use Rattle.verb_rules.specs.declared.rules.Rule.{Rule}
use Rattle.store_move.specs.declared.moving.Moved.{Moved}
use Rattle.store_move.specs.declared.moving.Moved.TheVariants.{Kept, Token}
use Rattle.store_move.specs.Reading.{HoldsAsRead}
use Rattle.key_records.specs.declared.faults.RecordFault.TheVariants.{Damaged}
use Rattle.store_move.proofs.StoredLemmas.{body_kept, body_works, exported_under, failed_as, fails_none, fails_same}
use Rattle.store_move.proofs.StoredLemmas.{keys_work, moved_kept, moved_token}
use Rattle.store_move.proofs.moving.unload_label.Goals as goal
use Rattle.key_cells.proofs.AnswerLemmas.{no_err}

pub returns-in-Ok-Ok-clause-moved : goal.returns-in-Ok-Ok-clause-moved
returns-in-Ok-Ok-clause-moved g c = λ m s loaded told.
    let here = c.in-Ok-Ok in
    let bench = bench_of c.args.lease.now in
    let transport = (opened bench c.args.transport.now).key in
    told_map (g.D.Disk.medium c.args.store.now) _ _ (here.ensures.stored m s loaded told)
    (λ image. moved_token bench (what_in (entry_at s c.args.place)) transport c.exported_key.result here.field-0 here.key c.export.result
    c.exported_key.ensures here.field-0-is
    (exported_under c.args.lease.now c.judge_record.new.lease here.key c.args.transport.now c.export.result c.judge_record.ensures.rest c.export.ensures.token))

pub returns-in-Ok-Ok-clause-own : goal.returns-in-Ok-Ok-clause-own
returns-in-Ok-Ok-clause-own g c = λ m loaded.
    let here = c.in-Ok-Ok in
    let bench = bench_of c.args.lease.now in
    let transport = (opened bench c.args.transport.now).key in
    let own = here.ensures.own m loaded in
    let body_still = body_kept c.judge_record.new.lease c.export.new.lease c.export.ensures.stays in (
      own.0,
      subst (λ (bytes : List ℕ). HoldsAsRead (keys_of m) (get_or c.args.records.now c.args.place None) bytes own.0) (sym body_still) own.1,
      moved_token bench own.0 transport c.exported_key.result here.field-0 here.key c.export.result
          c.exported_key.ensures here.field-0-is
          (exported_under c.args.lease.now c.judge_record.new.lease here.key c.args.transport.now c.export.result c.judge_record.ensures.rest c.export.ensures.token)
          own.2,
    )

pub returns-in-Ok-Err-clause-moved : goal.returns-in-Ok-Err-clause-moved
returns-in-Ok-Err-clause-moved g c = λ m s loaded told.
    let here = c.in-Ok-Err in
    let bench = bench_of c.args.lease.now in
    told_map (g.D.Disk.medium c.args.store.now) _ _ (here.ensures.stored m s loaded told)
    (λ image. moved_kept bench (what_in (entry_at s c.args.place)) (opened bench c.args.transport.now).key c.exported_key.result here.field-0 here.rule
    c.exported_key.ensures here.field-0-is)

-- ---- what is asked, and what stays

pub judge_record-requires-clause-held : goal.judge_record-requires-clause-held
judge_record-requires-clause-held g c = c.requires.held

pub judge_record-requires-clause-size : goal.judge_record-requires-clause-size
judge_record-requires-clause-size g c = c.requires.size

pub judge_record-requires-clause-holds : goal.judge_record-requires-clause-holds
judge_record-requires-clause-holds g c = c.requires.holds

pub returns-in-Ok-Ok-clause-damaged : goal.returns-in-Ok-Ok-clause-damaged
returns-in-Ok-Ok-clause-damaged g c m s loaded told cell is = no_err is

pub returns-in-Ok-Err-clause-damaged : goal.returns-in-Ok-Err-clause-damaged
returns-in-Ok-Err-clause-damaged g c m s loaded told cell is = no_err is

pub returns-in-Err-clause-damaged : goal.returns-in-Err-clause-damaged
returns-in-Err-clause-damaged g c m s loaded told cell is =
    c.in-Err.ensures.damaged m s loaded told cell (failed_as Moved (Result Judged Rule) c.in-Err.fault (Damaged cell) is)

pub returns-in-Ok-Ok-clause-fails : goal.returns-in-Ok-Ok-clause-fails
returns-in-Ok-Ok-clause-fails g c = fails_none c.args.place (g.D.Disk.faults c.args.store.now) (g.D.Disk.faults c.judge_record.new.store) c.in-Ok-Ok.field-0 (Token c.export.result) c.in-Ok-Ok.ensures.fails

pub returns-in-Ok-Err-clause-fails : goal.returns-in-Ok-Err-clause-fails
returns-in-Ok-Err-clause-fails g c = fails_none c.args.place (g.D.Disk.faults c.args.store.now) (g.D.Disk.faults c.judge_record.new.store) c.in-Ok-Err.field-0 (Kept c.in-Ok-Err.rule) c.in-Ok-Err.ensures.fails

pub returns-in-Err-clause-fails : goal.returns-in-Err-clause-fails
returns-in-Err-clause-fails g c = fails_same c.args.place (g.D.Disk.faults c.args.store.now) (g.D.Disk.faults c.judge_record.new.store) (Result Judged Rule) Moved c.in-Err.fault c.in-Err.ensures.fails

pub returns-in-Ok-Err-clause-own : goal.returns-in-Ok-Err-clause-own
returns-in-Ok-Err-clause-own g c m loaded =
    let here = c.in-Ok-Err in
    let bench = bench_of c.args.lease.now in
    let own = here.ensures.own m loaded in
    (own.0, own.1, moved_kept bench own.0 (opened bench c.args.transport.now).key c.exported_key.result here.field-0 here.rule c.exported_key.ensures here.field-0-is own.2)

pub returns-in-Err-clause-moved : goal.returns-in-Err-clause-moved
returns-in-Err-clause-moved g c m s loaded told = tt

pub returns-in-Err-clause-own : goal.returns-in-Err-clause-own
returns-in-Err-clause-own g c m loaded = tt

pub returns-in-Ok-Ok-clause-keeps : goal.returns-in-Ok-Ok-clause-keeps
returns-in-Ok-Ok-clause-keeps g c = c.judge_record.ensures.keeps

pub returns-in-Ok-Ok-clause-rest : goal.returns-in-Ok-Ok-clause-rest
returns-in-Ok-Ok-clause-rest g c = keys_work c.args.lease.now c.judge_record.new.lease c.export.new.lease c.judge_record.ensures.rest c.export.ensures.stays

pub returns-in-Ok-Err-clause-keeps : goal.returns-in-Ok-Err-clause-keeps
returns-in-Ok-Err-clause-keeps g c = c.judge_record.ensures.keeps

pub returns-in-Ok-Err-clause-rest : goal.returns-in-Ok-Err-clause-rest
returns-in-Ok-Err-clause-rest g c = body_works c.args.lease.now c.judge_record.new.lease c.judge_record.ensures.rest

pub returns-in-Err-clause-keeps : goal.returns-in-Err-clause-keeps
returns-in-Err-clause-keeps g c = c.judge_record.ensures.keeps

pub returns-in-Err-clause-rest : goal.returns-in-Err-clause-rest
returns-in-Err-clause-rest g c = body_works c.args.lease.now c.judge_record.new.lease c.judge_record.ensures.rest

-- ---- a record is told as damaged by what was read of it

pub returns-in-Ok-Ok-clause-misread : goal.returns-in-Ok-Ok-clause-misread
returns-in-Ok-Ok-clause-misread g c m loaded cell what is holds = no_err is

pub returns-in-Ok-Err-clause-misread : goal.returns-in-Ok-Err-clause-misread
returns-in-Ok-Err-clause-misread g c m loaded cell what is holds = no_err is

pub returns-in-Err-clause-misread : goal.returns-in-Err-clause-misread
returns-in-Err-clause-misread g c m loaded cell what is holds =
    c.in-Err.ensures.misread m loaded cell what (failed_as Moved (Result Judged Rule) c.in-Err.fault (Damaged cell) is) holds
