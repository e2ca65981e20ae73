-- The labels were told, or up to one; or a rule refuses the move; or the store failed while the transport key was judged.
use Rattle.std.proofs.Common.{◌∙◌, Err, ap, arith, refl, subst, sym}
use Rattle.device_cells.proofs.Media.{keeps_then, told_after}
use Rattle.device_cells.proofs.WhereToldLemmas.{rose_wider}
use Rattle.key_cells.specs.Lease.{bench_of}
use Rattle.verb_rules.specs.Keys.{opened}
use Rattle.line_service.proofs.StopLemmas.{count_still, grows_none}
use Rattle.request_rules.specs.Stored.{read_stop}
use Rattle.store_unload.specs.declared.writing.MoveFault.TheVariants.{ReportFault, Store, WriteFault}
use Rattle.store_unload.specs.Statuses.{status_of_lem}
use Rattle.store_unload.specs.Unloading.{IsLabelStatus, MoveRests, MoveTold, Still, TellsNone}
use Rattle.store_unload.specs.declared.unloading.MoveStatus.{MoveStatus}
use Rattle.store_unload.specs.declared.unloading.MoveStatus.TheVariants.{Refused}
use Rattle.store_unload.proofs.CallLaws.{none_called, store_not_file, store_not_report}
use Rattle.store_unload.proofs.DiskLemmas.{no_fault}
use Rattle.store_unload.proofs.JudgeLemmas.{judged_loan}
use Rattle.store_unload.proofs.MoveLemmas.{fault_told, never_opened}
use Rattle.store_unload.proofs.RestLemmas.{none_told, read_key, read_rule, unread}
use Rattle.store_unload.proofs.ToldLemmas.{fault_then, file_as, judged_key, labels_told, never_none, never_refused, not_report, not_run, of_store}
use Rattle.store_unload.proofs.ToldLemmas.{read_as, report_as, rests_told, rule_told, store_as, told_kind, where_told}
use Rattle.store_unload.proofs.unloading.move_labels.Goals as goal
use Rattle.request_rules.proofs.GrantsKept.{loaded_kept}
use Rattle.line_service.proofs.OpeningLemmas.{holds_told}

-- ---- the labels were told

pub returns-in-Ok-Ok-clause-statuses : goal.returns-in-Ok-Ok-clause-statuses
returns-in-Ok-Ok-clause-statuses g c =
    subst IsLabelStatus (sym c.status_of_told.ensures) (told_kind c.write_move.result c.write_move.ensures.faults)

pub returns-in-Ok-Ok-clause-told : goal.returns-in-Ok-Ok-clause-told
returns-in-Ok-Ok-clause-told g c = λ s opened.
    let d0 = g.D.Disk.medium c.args.store.now in
    let d1 = g.D.Disk.medium c.judge_move.new.store in
    let r = c.write_move.result in
    let kept = holds_told d0 _ opened.labels in
    let judged = judged_key s c.args.how.now c.args.lease.now c.judge_move.new.lease c.judge_move.ensures.rest
    c.in-Ok-Ok.field-0 c.in-Ok-Ok.transport c.in-Ok-Ok.field-0-is
    (where_told d0 d0 _ _ opened.labels refl (c.in-Ok-Ok.ensures.judged s opened.roles opened.loaded kept)) in
    let f0 = g.K.Sink.held c.args.sink.now in
    let f1 = g.K.Sink.held c.write_move.new.file in
    let p0 = g.P.Sink.held c.args.report.now in
    let p1 = g.P.Sink.held c.write_move.new.report in
    let disks = Still (g.D.Disk.faults c.args.store.now) (g.D.Disk.faults c.write_move.new.store) in
    let outputs = Still (g.K.Sink.faults c.args.sink.now) (g.K.Sink.faults c.write_move.new.file)
    × Still (g.P.Sink.faults c.args.report.now) (g.P.Sink.faults c.write_move.new.report) in
    subst (λ (o : MoveStatus). MoveTold s c.args.how.now o f0 f1 p0 p1 disks outputs) (sym c.status_of_told.ensures)
    (labels_told s c.args.how.now f0 f1 p0 p1 disks outputs judged.0 r c.write_move.ensures.faults
    (where_told d0 d1 _ _ opened.labels c.judge_move.ensures.keeps.content
    (c.write_move.ensures.tells s (loaded_kept s.registers c.args.held.now c.args.lease.now c.judge_move.new.lease c.judge_move.ensures.rest opened.loaded)
    (told_after d0 d1 _ c.judge_move.ensures.keeps.content kept) judged.1))
    (λ is still. still.0 (c.write_move.ensures.file_left.fault is))
    (λ is still. still.1 (c.write_move.ensures.report_left.fault is))
    (λ is still. still (rose_wider _ _ _ _ c.judge_move.ensures.store_left.later c.write_move.ensures.store_left.later (omega arith) (c.write_move.ensures.store_left.fault is))))

pub returns-in-Ok-Ok-clause-own : goal.returns-in-Ok-Ok-clause-own
returns-in-Ok-Ok-clause-own g c = λ m loaded told.
    let body = (bench_of c.judge_move.new.lease).body in
    subst (λ (o : MoveStatus). MoveRests m c.args.roles.now c.args.how.now c.args.records.now o (g.K.Sink.held c.args.sink.now) (g.K.Sink.held c.write_move.new.file)
    (g.P.Sink.held c.args.report.now) (g.P.Sink.held c.write_move.new.report)) (sym c.status_of_told.ensures)
    (rests_told m c.args.roles.now c.args.how.now c.args.records.now body (opened (bench_of c.judge_move.new.lease) c.in-Ok-Ok.transport)
    (read_key m c.args.roles.now c.args.how.now c.args.records.now body c.args.lease.now c.judge_move.new.lease c.judge_move.ensures.rest
    c.in-Ok-Ok.field-0 c.in-Ok-Ok.transport c.in-Ok-Ok.field-0-is (c.in-Ok-Ok.ensures.own m loaded))
    (g.K.Sink.held c.args.sink.now) (g.K.Sink.held c.write_move.new.file) (g.P.Sink.held c.args.report.now) (g.P.Sink.held c.write_move.new.report)
    c.write_move.result (c.write_move.ensures.own m (loaded_kept m c.args.held.now c.args.lease.now c.judge_move.new.lease c.judge_move.ensures.rest loaded)))

pub returns-in-Ok-Ok-clause-refusal : goal.returns-in-Ok-Ok-clause-refusal
returns-in-Ok-Ok-clause-refusal g c = λ m loaded rule is. absurd (never_refused c.write_move.result rule (sym c.status_of_told.ensures ∙ is))

pub returns-in-Ok-Ok-clause-untold : goal.returns-in-Ok-Ok-clause-untold
returns-in-Ok-Ok-clause-untold g c = λ none. absurd (never_none c.write_move.result (subst TellsNone c.status_of_told.ensures none))

pub returns-in-Ok-Ok-clause-keeps : goal.returns-in-Ok-Ok-clause-keeps
returns-in-Ok-Ok-clause-keeps g c =
    keeps_then (g.D.Disk.medium c.args.store.now) (g.D.Disk.medium c.judge_move.new.store) (g.D.Disk.medium c.write_move.new.store)
    c.judge_move.ensures.keeps c.write_move.ensures.keeps

pub returns-in-Ok-Ok-clause-store_left : goal.returns-in-Ok-Ok-clause-store_left
returns-in-Ok-Ok-clause-store_left g c =
    fault_then _ _ _ _ _ c.judge_move.ensures.store_left (λ h. no_fault c.in-Ok-Ok.is h)
    (store_as c.write_move.result c.status_of_told.result c.status_of_told.ensures _ _ c.write_move.ensures.faults c.write_move.ensures.store_left)

pub returns-in-Ok-Ok-clause-outputs : goal.returns-in-Ok-Ok-clause-outputs
returns-in-Ok-Ok-clause-outputs g c = record {
  file_left = file_as c.write_move.result c.status_of_told.result c.status_of_told.ensures _ _ c.write_move.ensures.file_left;
  report_left = report_as c.write_move.result c.status_of_told.result c.status_of_told.ensures _ _ c.write_move.ensures.report_left;
  file_grows = c.write_move.ensures.file_grows;
  report_grows = c.write_move.ensures.report_grows;
}

-- ---- a rule refuses the move

pub returns-in-Ok-Err-clause-told : goal.returns-in-Ok-Err-clause-told
returns-in-Ok-Err-clause-told g c = λ s opened.
    let d0 = g.D.Disk.medium c.args.store.now in
    rule_told s c.args.how.now (g.K.Sink.held c.args.sink.now) (g.P.Sink.held c.args.report.now) _ _ (bench_of c.args.lease.now)
    c.in-Ok-Err.field-0 c.in-Ok-Err.rule c.number.result c.in-Ok-Err.field-0-is c.number.ensures.number
    (where_told d0 d0 _ _ opened.labels refl (c.in-Ok-Err.ensures.judged s opened.roles opened.loaded (holds_told d0 _ opened.labels)))

pub returns-in-Ok-Err-clause-own : goal.returns-in-Ok-Err-clause-own
returns-in-Ok-Err-clause-own g c = λ m loaded told.
    absurd (none_told (Refused c.number.result) (λ is. not_run is) c.args.sink.now c.args.report.now told)

pub returns-in-Ok-Err-clause-refusal : goal.returns-in-Ok-Err-clause-refusal
returns-in-Ok-Err-clause-refusal g c = λ m loaded rule is.
    let body = (bench_of c.judge_move.new.lease).body in (
      body,
      read_rule m c.args.roles.now c.args.how.now c.args.records.now body (bench_of c.args.lease.now)
          c.in-Ok-Err.field-0 c.in-Ok-Err.rule c.number.result rule c.in-Ok-Err.field-0-is c.number.ensures.number (c.in-Ok-Err.ensures.own m loaded) is,
    )

pub returns-in-Ok-Err-clause-store_left : goal.returns-in-Ok-Err-clause-store_left
returns-in-Ok-Err-clause-store_left g c = record {
  later = c.judge_move.ensures.store_left.later;
  fault = λ h. absurd (not_run h);
  quiet = λ never. c.judge_move.ensures.store_left.quiet (λ h. no_fault c.in-Ok-Err.is h);
}

pub returns-in-Ok-Err-clause-outputs : goal.returns-in-Ok-Err-clause-outputs
returns-in-Ok-Err-clause-outputs g c = record {
  file_left = count_still _ _ (λ h. not_run h);
  report_left = count_still _ _ (λ h. not_report h);
  file_grows = grows_none (g.K.Sink.held c.args.sink.now);
  report_grows = grows_none (g.P.Sink.held c.args.report.now);
}

-- ---- the store failed

pub status_of_told-requires-in-Err : goal.status_of_told-requires-in-Err
status_of_told-requires-in-Err g c = of_store c.in-Err.fault c.in-Err.ensures.faults

pub returns-in-Err-clause-statuses : goal.returns-in-Err-clause-statuses
returns-in-Err-clause-statuses g c =
    subst IsLabelStatus (sym c.status_of_told-in-Err.ensures) (told_kind (Err (Store c.in-Err.fault)) (of_store c.in-Err.fault c.in-Err.ensures.faults))

pub returns-in-Err-clause-told : goal.returns-in-Err-clause-told
returns-in-Err-clause-told g c = λ s opened.
    let file = g.K.Sink.held c.args.sink.now in
    let report = g.P.Sink.held c.args.report.now in
    let why = read_stop c.in-Err.fault in
    let disks = Still (g.D.Disk.faults c.args.store.now) (g.D.Disk.faults c.judge_move.new.store) in
    let outputs = Still (g.K.Sink.faults c.args.sink.now) (g.K.Sink.faults c.args.sink.now)
    × Still (g.P.Sink.faults c.args.report.now) (g.P.Sink.faults c.args.report.now) in
    subst (λ (o : MoveStatus). MoveTold s c.args.how.now o file file report report disks outputs) (sym c.status_of_told-in-Err.ensures)
    (fault_told s c.args.how.now file report disks outputs
    c.in-Err.fault why (status_of_lem (Err why)) refl refl c.in-Err.ensures.faults
    (λ is still. still (c.judge_move.ensures.store_left.fault (c.in-Err.is ∙ ap Err is)))
    (λ cell is. never_opened (g.D.Disk.medium c.args.store.now) _ opened.labels
    (c.judge_move.ensures.damaged s opened.loaded (holds_told (g.D.Disk.medium c.args.store.now) _ opened.labels) cell (c.in-Err.is ∙ ap Err is))))

pub returns-in-Err-clause-own : goal.returns-in-Err-clause-own
returns-in-Err-clause-own g c = λ m loaded told.
    absurd (none_told c.status_of_told-in-Err.result (λ is. unread (read_stop c.in-Err.fault) _ refl (sym c.status_of_told-in-Err.ensures ∙ is))
    c.args.sink.now c.args.report.now told)

pub returns-in-Err-clause-refusal : goal.returns-in-Err-clause-refusal
returns-in-Err-clause-refusal g c = λ m loaded rule is.
    absurd (never_refused (Err (Store c.in-Err.fault)) rule (sym c.status_of_told-in-Err.ensures ∙ is))

pub returns-in-Err-clause-untold : goal.returns-in-Err-clause-untold
returns-in-Err-clause-untold g c = λ none.
    absurd (never_none (Err (Store c.in-Err.fault)) (subst TellsNone c.status_of_told-in-Err.ensures none))

pub returns-in-Err-clause-store_left : goal.returns-in-Err-clause-store_left
returns-in-Err-clause-store_left g c =
    store_as (Err (Store c.in-Err.fault)) c.status_of_told-in-Err.result c.status_of_told-in-Err.ensures _ _
    (of_store c.in-Err.fault c.in-Err.ensures.faults)
    (read_as c.judge_move.result c.in-Err.fault c.in-Err.is _ _ c.judge_move.ensures.store_left)

pub returns-in-Err-clause-outputs : goal.returns-in-Err-clause-outputs
returns-in-Err-clause-outputs g c = record {
  file_left = file_as (Err (Store c.in-Err.fault)) c.status_of_told-in-Err.result c.status_of_told-in-Err.ensures _ _
      (none_called c.in-Err.fault WriteFault (λ same. store_not_file same) (g.K.Sink.faults c.args.sink.now));
  report_left = report_as (Err (Store c.in-Err.fault)) c.status_of_told-in-Err.result c.status_of_told-in-Err.ensures _ _
      (none_called c.in-Err.fault ReportFault (λ same. store_not_report same) (g.P.Sink.faults c.args.report.now));
  file_grows = grows_none (g.K.Sink.held c.args.sink.now);
  report_grows = grows_none (g.P.Sink.held c.args.report.now);
}

-- ---- where no label was told, the store is as it was judged

pub returns-in-Ok-Err-clause-statuses : goal.returns-in-Ok-Err-clause-statuses
returns-in-Ok-Err-clause-statuses g c = tt

pub returns-in-Ok-Err-clause-untold : goal.returns-in-Ok-Err-clause-untold
returns-in-Ok-Err-clause-untold g c = λ none. record { no_file = refl; no_report = refl }

pub returns-in-Ok-Err-clause-keeps : goal.returns-in-Ok-Err-clause-keeps
returns-in-Ok-Err-clause-keeps g c = c.judge_move.ensures.keeps

pub returns-in-Err-clause-keeps : goal.returns-in-Err-clause-keeps
returns-in-Err-clause-keeps g c = c.judge_move.ensures.keeps

-- ---- the bench is lent as before

pub returns-in-Ok-Ok-clause-loan : goal.returns-in-Ok-Ok-clause-loan
returns-in-Ok-Ok-clause-loan g c =
    c.write_move.ensures.loan ∙ judged_loan c.args.lease.now c.judge_move.new.lease c.judge_move.ensures.rest

pub returns-in-Ok-Err-clause-loan : goal.returns-in-Ok-Err-clause-loan
returns-in-Ok-Err-clause-loan g c = judged_loan c.args.lease.now c.judge_move.new.lease c.judge_move.ensures.rest

pub returns-in-Err-clause-loan : goal.returns-in-Err-clause-loan
returns-in-Err-clause-loan g c = judged_loan c.args.lease.now c.judge_move.new.lease c.judge_move.ensures.rest

-- ---- the store is called

pub judge_move-requires-clause-size : goal.judge_move-requires-clause-size
judge_move-requires-clause-size g c = c.requires.size

pub judge_move-requires-clause-holds : goal.judge_move-requires-clause-holds
judge_move-requires-clause-holds g c = c.requires.holds
