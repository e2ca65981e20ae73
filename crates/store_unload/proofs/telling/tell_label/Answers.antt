use Rattle.std.proofs.Common.{◌≡◌, ℕ, List, Option, None, Some, get_or, sym, subst, codes, ◌∙◌}
use Rattle.std.proofs.lemmas.Option.{same_Some}
use Rattle.key_cells.specs.Lease.{bench_of}
use Rattle.record_bodies.specs.declared.rows.Row.{Row}
use Rattle.key_tokens.specs.Denotes.{Denoted}
use Rattle.master_registers.specs.Masters.{Masters}
use Rattle.store_move.specs.Reading.{HoldsAsRead}
use Rattle.verb_rules.specs.Keys.{keys_of}
use Rattle.device_cells.proofs.Media.{keeps_still}
use Rattle.store_unload.specs.Moves.{remarks_by, with_newlines}
use Rattle.store_unload.specs.Telling.{requests_text}
use Rattle.key_records.specs.declared.faults.RecordFault.TheVariants.{DiskFault}
use Rattle.store_unload.specs.declared.writing.MoveFault.TheVariants.{ReportFault, WriteFault, Store}
use Rattle.store_unload.proofs.CallLaws.{file_not_report, is_fault, kept_masters, none_called, not_called, report_not_file, some_sent}
use Rattle.store_unload.proofs.CallLaws.{store_failed, store_fault, store_not_file, store_not_report, store_read, work_only}
use Rattle.record_bodies.specs.Directory.{label_at}
use Rattle.record_bodies.specs.Entries.{row_directory}
use Rattle.store_unload.proofs.LabelLaws.{failed_as_read, kept_as_read, moved_as_read, target_as_read, tells_failed, tells_kept, tells_moved, tells_target}
use Rattle.store_unload.proofs.telling.tell_label.Goals as goal
use Rattle.line_service.proofs.StopLemmas.{grows_none}
use Rattle.record_bodies.proofs.ListedLaws.{is_held}

-- what was read, at the place by the label
at_place : (m : Masters) (rows : List (Option Row)) (n place : ℕ) (bytes : List ℕ) (what : Option Denoted) → n ≡ place
    → HoldsAsRead (keys_of m) (get_or rows n None) bytes what → HoldsAsRead (keys_of m) (get_or rows place None) bytes what
at_place m rows n place bytes what here holds = subst (λ (k : ℕ). HoldsAsRead (keys_of m) (get_or rows k None) bytes what) here holds

pub returns-in-Ok-Token-clause-tells : goal.returns-in-Ok-Token-clause-tells
returns-in-Ok-Token-clause-tells g c s loaded told opens =
    tells_moved s c.args.how.now c.args.label.now c.args.records.now c.place_of-place.result (bench_of c.args.lease.now) c.args.transport.now
    (g.D.Disk.medium c.args.store.now) (sym c.is_same.ensures ∙ c.if-is_same.false) c.place_of-place.ensures.found told
    c.in-Ok-Token.field-0 c.in-Ok-Token.token c.send_requests.result _ _ _ c.in-Ok-Token.field-0-is opens (c.in-Ok-Token.ensures.moved s.registers s.labels loaded told)
    c.send_requests.ensures.sends c.send_requests.ensures.fault

pub returns-in-Ok-Kept-clause-tells : goal.returns-in-Ok-Kept-clause-tells
returns-in-Ok-Kept-clause-tells g c s loaded told opens =
    tells_kept s c.args.how.now c.args.label.now c.args.records.now c.place_of-place.result (bench_of c.args.lease.now) c.args.transport.now
    (g.D.Disk.medium c.args.store.now) (sym c.is_same.ensures ∙ c.if-is_same.false) c.place_of-place.ensures.found told
    c.in-Ok-Kept.field-0 c.in-Ok-Kept.rule c.digits_of.result c.send_remark-in-Ok-Kept.result _ _ _ c.in-Ok-Kept.field-0-is c.digits_of.ensures (c.in-Ok-Kept.ensures.moved s.registers s.labels loaded told)
    c.send_remark-in-Ok-Kept.ensures.sends c.send_remark-in-Ok-Kept.ensures.fault

pub returns-in-Err-clause-tells : goal.returns-in-Err-clause-tells
returns-in-Err-clause-tells g c s loaded told opens =
    tells_failed s c.args.how.now c.args.label.now (g.D.Disk.medium c.args.store.now) c.in-Err.fault _ _
    (c.in-Err.ensures.damaged s.registers s.labels loaded told)

-- ---- by what was read of its record

pub returns-then-is_same-clause-own : goal.returns-then-is_same-clause-own
returns-then-is_same-clause-own g c = λ m place loaded found.
    target_as_read (keys_of m) c.args.how.now c.args.label.now (get_or c.args.records.now place None) _ _
    c.send_remark.result _ _ _ (sym c.is_same.ensures ∙ c.if-is_same.true) c.send_remark.ensures.fault c.send_remark.ensures.sends

pub returns-in-Err-clause-own : goal.returns-in-Err-clause-own
returns-in-Err-clause-own g c = λ m place loaded found.
    failed_as_read (keys_of m) c.args.how.now c.args.label.now (get_or c.args.records.now place None) _ _
    c.in-Err.fault _ _ (sym c.is_same.ensures ∙ c.if-is_same.false)

pub returns-in-Ok-Token-clause-own : goal.returns-in-Ok-Token-clause-own
returns-in-Ok-Token-clause-own g c = λ m place loaded found.
    let own = c.in-Ok-Token.ensures.own m loaded in
    let here : c.place_of-place.result ≡ place =
    same_Some c.place_of-place.result place (sym c.place_of-place.ensures.found ∙ found) in
    moved_as_read (keys_of m) c.args.how.now c.args.label.now (get_or c.args.records.now place None) _ _
    own.0 c.in-Ok-Token.field-0 (at_place m c.args.records.now c.place_of-place.result place (bench_of c.unload_label.new.lease).body own.0 here own.1) own.2 (sym c.is_same.ensures ∙ c.if-is_same.false)
    c.in-Ok-Token.token c.send_requests.result _ _ _ c.in-Ok-Token.field-0-is c.send_requests.ensures.sends c.send_requests.ensures.fault

pub returns-in-Ok-Kept-clause-own : goal.returns-in-Ok-Kept-clause-own
returns-in-Ok-Kept-clause-own g c = λ m place loaded found.
    let own = c.in-Ok-Kept.ensures.own m loaded in
    let here : c.place_of-place.result ≡ place =
    same_Some c.place_of-place.result place (sym c.place_of-place.ensures.found ∙ found) in
    kept_as_read (keys_of m) c.args.how.now c.args.label.now (get_or c.args.records.now place None) _ _
    own.0 c.in-Ok-Kept.field-0 (at_place m c.args.records.now c.place_of-place.result place (bench_of c.unload_label.new.lease).body own.0 here own.1) own.2 (sym c.is_same.ensures ∙ c.if-is_same.false)
    c.in-Ok-Kept.rule c.digits_of.result c.send_remark-in-Ok-Kept.result _ _ _ c.in-Ok-Kept.field-0-is c.digits_of.ensures c.send_remark-in-Ok-Kept.ensures.sends c.send_remark-in-Ok-Kept.ensures.fault

-- ---- what is left of the devices

pub returns-then-is_same-clause-file_grows : goal.returns-then-is_same-clause-file_grows
returns-then-is_same-clause-file_grows g c =
    grows_none (g.K.Sink.held c.args.file.now)

pub returns-then-is_same-clause-report_grows : goal.returns-then-is_same-clause-report_grows
returns-then-is_same-clause-report_grows g c =
    some_sent (with_newlines (remarks_by (Some (codes "target")) c.args.label.now)) c.send_remark.result (g.P.Sink.held c.args.report.now) (g.P.Sink.held c.send_remark.new.report) c.send_remark.ensures.sends

pub returns-then-is_same-clause-faults : goal.returns-then-is_same-clause-faults
returns-then-is_same-clause-faults g c =
    is_fault ReportFault tt c.send_remark.result c.send_remark.ensures.fault

pub returns-then-is_same-clause-file_left : goal.returns-then-is_same-clause-file_left
returns-then-is_same-clause-file_left g c =
    not_called ReportFault c.send_remark.result c.send_remark.ensures.fault WriteFault (λ same. file_not_report same)
    (g.K.Sink.faults c.args.file.now)

pub returns-then-is_same-clause-report_left : goal.returns-then-is_same-clause-report_left
returns-then-is_same-clause-report_left g c =
    c.send_remark.ensures.left

pub returns-then-is_same-clause-store_left : goal.returns-then-is_same-clause-store_left
returns-then-is_same-clause-store_left g c =
    not_called ReportFault c.send_remark.result c.send_remark.ensures.fault (Store DiskFault) (λ same. store_not_report same)
    (g.D.Disk.faults c.args.store.now)

pub returns-then-is_same-clause-keeps : goal.returns-then-is_same-clause-keeps
returns-then-is_same-clause-keeps g c =
    keeps_still (g.D.Disk.medium c.args.store.now)

pub returns-in-Ok-Token-clause-file_grows : goal.returns-in-Ok-Token-clause-file_grows
returns-in-Ok-Token-clause-file_grows g c =
    some_sent (requests_text c.args.how.now c.in-Ok-Token.token c.args.label.now) c.send_requests.result (g.K.Sink.held c.args.file.now) (g.K.Sink.held c.send_requests.new.file) c.send_requests.ensures.sends

pub returns-in-Ok-Token-clause-report_grows : goal.returns-in-Ok-Token-clause-report_grows
returns-in-Ok-Token-clause-report_grows g c =
    grows_none (g.P.Sink.held c.args.report.now)

pub returns-in-Ok-Token-clause-faults : goal.returns-in-Ok-Token-clause-faults
returns-in-Ok-Token-clause-faults g c =
    is_fault WriteFault tt c.send_requests.result c.send_requests.ensures.fault

pub returns-in-Ok-Token-clause-file_left : goal.returns-in-Ok-Token-clause-file_left
returns-in-Ok-Token-clause-file_left g c =
    c.send_requests.ensures.left

pub returns-in-Ok-Token-clause-report_left : goal.returns-in-Ok-Token-clause-report_left
returns-in-Ok-Token-clause-report_left g c =
    not_called WriteFault c.send_requests.result c.send_requests.ensures.fault ReportFault (λ same. report_not_file same)
    (g.P.Sink.faults c.args.report.now)

pub returns-in-Ok-Token-clause-store_left : goal.returns-in-Ok-Token-clause-store_left
returns-in-Ok-Token-clause-store_left g c =
    store_read WriteFault c.send_requests.result c.send_requests.ensures.fault (λ same. store_not_file same)
    c.in-Ok-Token.field-0 c.place_of-place.result (g.D.Disk.faults c.args.store.now) (g.D.Disk.faults c.unload_label.new.store)
    c.in-Ok-Token.ensures.fails

pub returns-in-Ok-Token-clause-keeps : goal.returns-in-Ok-Token-clause-keeps
returns-in-Ok-Token-clause-keeps g c =
    c.in-Ok-Token.ensures.keeps

pub returns-in-Ok-Token-clause-masters : goal.returns-in-Ok-Token-clause-masters
returns-in-Ok-Token-clause-masters g c =
    work_only c.args.lease.now c.unload_label.new.lease c.in-Ok-Token.ensures.rest

pub returns-in-Ok-Kept-clause-file_grows : goal.returns-in-Ok-Kept-clause-file_grows
returns-in-Ok-Kept-clause-file_grows g c =
    grows_none (g.K.Sink.held c.args.file.now)

pub returns-in-Ok-Kept-clause-report_grows : goal.returns-in-Ok-Kept-clause-report_grows
returns-in-Ok-Kept-clause-report_grows g c =
    some_sent (with_newlines (remarks_by (Some c.digits_of.result) c.args.label.now)) c.send_remark-in-Ok-Kept.result (g.P.Sink.held c.args.report.now) (g.P.Sink.held c.send_remark-in-Ok-Kept.new.report) c.send_remark-in-Ok-Kept.ensures.sends

pub returns-in-Ok-Kept-clause-faults : goal.returns-in-Ok-Kept-clause-faults
returns-in-Ok-Kept-clause-faults g c =
    is_fault ReportFault tt c.send_remark-in-Ok-Kept.result c.send_remark-in-Ok-Kept.ensures.fault

pub returns-in-Ok-Kept-clause-file_left : goal.returns-in-Ok-Kept-clause-file_left
returns-in-Ok-Kept-clause-file_left g c =
    not_called ReportFault c.send_remark-in-Ok-Kept.result c.send_remark-in-Ok-Kept.ensures.fault WriteFault (λ same. file_not_report same)
    (g.K.Sink.faults c.args.file.now)

pub returns-in-Ok-Kept-clause-report_left : goal.returns-in-Ok-Kept-clause-report_left
returns-in-Ok-Kept-clause-report_left g c =
    c.send_remark-in-Ok-Kept.ensures.left

pub returns-in-Ok-Kept-clause-store_left : goal.returns-in-Ok-Kept-clause-store_left
returns-in-Ok-Kept-clause-store_left g c =
    store_read ReportFault c.send_remark-in-Ok-Kept.result c.send_remark-in-Ok-Kept.ensures.fault (λ same. store_not_report same)
    c.in-Ok-Kept.field-0 c.place_of-place.result (g.D.Disk.faults c.args.store.now) (g.D.Disk.faults c.unload_label.new.store)
    c.in-Ok-Kept.ensures.fails

pub returns-in-Ok-Kept-clause-keeps : goal.returns-in-Ok-Kept-clause-keeps
returns-in-Ok-Kept-clause-keeps g c =
    c.in-Ok-Kept.ensures.keeps

pub returns-in-Ok-Kept-clause-masters : goal.returns-in-Ok-Kept-clause-masters
returns-in-Ok-Kept-clause-masters g c =
    work_only c.args.lease.now c.unload_label.new.lease c.in-Ok-Kept.ensures.rest

pub returns-in-Err-clause-file_grows : goal.returns-in-Err-clause-file_grows
returns-in-Err-clause-file_grows g c =
    grows_none (g.K.Sink.held c.args.file.now)

pub returns-in-Err-clause-report_grows : goal.returns-in-Err-clause-report_grows
returns-in-Err-clause-report_grows g c =
    grows_none (g.P.Sink.held c.args.report.now)

pub returns-in-Err-clause-faults : goal.returns-in-Err-clause-faults
returns-in-Err-clause-faults g c =
    store_fault c.in-Err.fault c.place_of-place.result (g.D.Disk.faults c.args.store.now) (g.D.Disk.faults c.unload_label.new.store) c.in-Err.ensures.fails c.place_of-place.ensures.within

pub returns-in-Err-clause-file_left : goal.returns-in-Err-clause-file_left
returns-in-Err-clause-file_left g c =
    none_called c.in-Err.fault WriteFault (λ same. store_not_file same) (g.K.Sink.faults c.args.file.now)

pub returns-in-Err-clause-report_left : goal.returns-in-Err-clause-report_left
returns-in-Err-clause-report_left g c =
    none_called c.in-Err.fault ReportFault (λ same. store_not_report same) (g.P.Sink.faults c.args.report.now)

pub returns-in-Err-clause-store_left : goal.returns-in-Err-clause-store_left
returns-in-Err-clause-store_left g c =
    store_failed c.in-Err.fault c.place_of-place.result (g.D.Disk.faults c.args.store.now) (g.D.Disk.faults c.unload_label.new.store) c.in-Err.ensures.fails

pub returns-in-Err-clause-keeps : goal.returns-in-Err-clause-keeps
returns-in-Err-clause-keeps g c =
    c.in-Err.ensures.keeps

pub returns-in-Err-clause-masters : goal.returns-in-Err-clause-masters
returns-in-Err-clause-masters g c =
    work_only c.args.lease.now c.unload_label.new.lease c.in-Err.ensures.rest

-- ---- the label that is named there

pub returns-then-is_same-clause-tells : goal.returns-then-is_same-clause-tells
returns-then-is_same-clause-tells g c = λ s loaded told opens.
    tells_target s c.args.how.now c.args.label.now (g.D.Disk.medium c.args.store.now) c.send_remark.result
    (g.K.Sink.held c.args.file.now) (g.P.Sink.held c.args.report.now) (g.P.Sink.held c.send_remark.new.report)
    (sym c.is_same.ensures ∙ c.if-is_same.true) c.send_remark.ensures.sends c.send_remark.ensures.fault

pub returns-then-is_same-clause-masters : goal.returns-then-is_same-clause-masters
returns-then-is_same-clause-masters g c = kept_masters c.args.lease.now

-- ---- the record is read

pub place_of-place-requires : goal.place_of-place-requires
place_of-place-requires g c = c.requires.held

pub unload_label-requires-clause-held : goal.unload_label-requires-clause-held
unload_label-requires-clause-held g c =
    is_held (label_at (row_directory c.args.records.now) c.place_of-place.result) c.args.label.now c.place_of-place.ensures.held

pub unload_label-requires-clause-size : goal.unload_label-requires-clause-size
unload_label-requires-clause-size g c = c.requires.size

pub unload_label-requires-clause-holds : goal.unload_label-requires-clause-holds
unload_label-requires-clause-holds g c = c.requires.holds

pub unload_label-requires-clause-double : goal.unload_label-requires-clause-double
unload_label-requires-clause-double g c = c.requires.double
