use Rattle.std.proofs.Common.{◌≡◌, ◌∙◌, ℕ, List, Option, None, Result, Ok, Err, get_or, refl, subst, arith, rules}
use Rattle.key_cells.specs.Lease.{bench_of}
use Rattle.record_bodies.specs.declared.rows.Row.{Row}
use Rattle.key_tokens.specs.Denotes.{ClearKey}
use Rattle.master_registers.specs.Masters.{Masters}
use Rattle.verb_rules.specs.Keys.{keys_of, opened}
use Rattle.store_unload.specs.Telling.{TellsAsRead}
use Rattle.command_words.specs.declared.moves.Move.{Move}
use Rattle.store_unload.specs.declared.writing.MoveFault.{MoveFault}
use Rattle.key_records.specs.declared.faults.RecordFault.TheVariants.{DiskFault}
use Rattle.device_cells.proofs.Media.{keeps_still, keeps_then}
use Rattle.line_service.proofs.StopLemmas.{count_on, grows_none, grows_on}
use Rattle.store_unload.specs.declared.writing.MoveFault.TheVariants.{ReportFault, Store, WriteFault}
use Rattle.store_unload.proofs.CallLaws.{done_not, quiet_to}
use Rattle.store_unload.proofs.LeaseLaws.{masters_then, loaded_later, opened_later, labels_later}
use Rattle.store_unload.proofs.PartLaws.{told_all, told_more, told_to}
use Rattle.store_unload.proofs.RecordLaws.{got_none, read_more, rests_all, rests_to}
use Rattle.store_unload.proofs.writing.write_move.Goals as goal

-- the transport key is as it was at the beginning
key_earlier : (m : Masters) (w : Move) (label : List ℕ) (rows : List (Option Row)) (place : ℕ) (bytes : List ℕ) (result : Result (Unit {0}) MoveFault)
    (f1 f2 r1 r2 : Option (List ℕ)) (now before : ClearKey) → now ≡ before
    → TellsAsRead (keys_of m) w label (get_or rows place None) now.key bytes result f1 f2 r1 r2
    → TellsAsRead (keys_of m) w label (get_or rows place None) before.key bytes result f1 f2 r1 r2
key_earlier m w label rows place bytes result f1 f2 r1 r2 now before same reads =
    subst (λ (k : ClearKey). TellsAsRead (keys_of m) w label (get_or rows place None) k.key bytes result f1 f2 r1 r2) same reads

pub returns-in-Err-clause-tells : goal.returns-in-Err-clause-tells
returns-in-Err-clause-tells g c s loaded stands opens =
    let m0 = g.D.Disk.medium c.args.store.now in
    let m1 = g.D.Disk.medium c.loop-index.store in
    let before = c.loop-index.invariant in
    told_to s c.args.how.now m0 (g.K.Sink.held c.args.file.now) (g.P.Sink.held c.args.report.now) c.args.records.now stands c.loop-index.index
    (g.K.Sink.held c.loop-index.file) (g.P.Sink.held c.loop-index.report) (before.tells s loaded stands opens)
    c.label_at-label.result.now (omega (arith, before.all, c.loop-index-test.true)) c.label_at-label.ensures (g.K.Sink.held c.tell_label.new.file) (g.P.Sink.held c.tell_label.new.report) c.in-Err.fault
    m1 before.keeps.content
    (c.in-Err.ensures.tells s (loaded_later c.args.lease.now c.loop-index.lease before.masters s.registers c.args.held.now loaded)
    (labels_later m0 m1 s c.args.records.now before.keeps.content stands) (opened_later c.args.lease.now c.loop-index.lease before.masters c.args.transport.now ∙ opens))

pub loop-index-init : goal.loop-index-init
loop-index-init g c = record {
  all = search rules;
  tells = search rules;
  own = λ m loaded.
      got_none (keys_of m) c.args.how.now c.args.records.now (opened (bench_of c.args.lease.now) c.args.transport.now).key (g.K.Sink.held c.args.file.now) (g.P.Sink.held c.args.report.now);
  file_grows = grows_none (g.K.Sink.held c.args.file.now);
  report_grows = grows_none (g.P.Sink.held c.args.report.now);
  file_quiet = refl;
  report_quiet = refl;
  store_quiet = refl;
  keeps = keeps_still (g.D.Disk.medium c.args.store.now);
  masters = record { current = refl; former = refl; coming = refl; loan = refl };
}

pub loop-index-preserved : goal.loop-index-preserved
loop-index-preserved g c =
    let m0 = g.D.Disk.medium c.args.store.now in
    let m1 = g.D.Disk.medium c.loop-index.store in
    let before = c.loop-index.invariant in
    record {
      all = before.all;
      tells = λ s loaded stands opens.
          told_more s c.args.how.now m0 (g.K.Sink.held c.args.file.now) (g.P.Sink.held c.args.report.now) c.args.records.now stands c.loop-index.index
          (g.K.Sink.held c.loop-index.file) (g.P.Sink.held c.loop-index.report) (before.tells s loaded stands opens)
          c.label_at-label.result.now (omega (arith, before.all, c.loop-index-test.true)) c.label_at-label.ensures (g.K.Sink.held c.tell_label.new.file) (g.P.Sink.held c.tell_label.new.report)
          m1 before.keeps.content
          (c.in-Ok.ensures.tells s (loaded_later c.args.lease.now c.loop-index.lease before.masters s.registers c.args.held.now loaded)
          (labels_later m0 m1 s c.args.records.now before.keeps.content stands) (opened_later c.args.lease.now c.loop-index.lease before.masters c.args.transport.now ∙ opens));
      own = λ m loaded.
          read_more (keys_of m) c.args.how.now c.args.records.now (opened (bench_of c.args.lease.now) c.args.transport.now).key c.loop-index.index
          (g.K.Sink.held c.args.file.now) (g.K.Sink.held c.loop-index.file) (g.P.Sink.held c.args.report.now) (g.P.Sink.held c.loop-index.report) (before.own m loaded)
          c.label_at-label.result.now (bench_of c.tell_label.new.lease).body c.label_at-label.ensures (g.K.Sink.held c.tell_label.new.file) (g.P.Sink.held c.tell_label.new.report)
          (λ place found.
          key_earlier m c.args.how.now c.label_at-label.result.now c.args.records.now place (bench_of c.tell_label.new.lease).body (Ok tt) _ _ _ _
          (opened (bench_of c.loop-index.lease) c.args.transport.now) (opened (bench_of c.args.lease.now) c.args.transport.now)
          (opened_later c.args.lease.now c.loop-index.lease before.masters c.args.transport.now)
          (c.in-Ok.ensures.own m place (loaded_later c.args.lease.now c.loop-index.lease before.masters m c.args.held.now loaded) found));
      file_grows = grows_on (g.K.Sink.held c.args.file.now) (g.K.Sink.held c.loop-index.file) (g.K.Sink.held c.tell_label.new.file) before.file_grows c.in-Ok.ensures.file_grows;
      report_grows = grows_on (g.P.Sink.held c.args.report.now) (g.P.Sink.held c.loop-index.report) (g.P.Sink.held c.tell_label.new.report) before.report_grows c.in-Ok.ensures.report_grows;
      file_quiet = c.in-Ok.ensures.file_left.quiet (λ is. done_not is) ∙ before.file_quiet;
      report_quiet = c.in-Ok.ensures.report_left.quiet (λ is. done_not is) ∙ before.report_quiet;
      store_quiet = c.in-Ok.ensures.store_left.quiet (λ is. done_not is) ∙ before.store_quiet;
      keeps = keeps_then m0 m1 (g.D.Disk.medium c.tell_label.new.store) before.keeps c.in-Ok.ensures.keeps;
      masters = masters_then c.args.lease.now c.loop-index.lease c.tell_label.new.lease before.masters c.in-Ok.ensures.masters;
    }

pub returns-clause-tells : goal.returns-clause-tells
returns-clause-tells g c s loaded stands opens =
    told_all s c.args.how.now (g.D.Disk.medium c.args.store.now) (g.K.Sink.held c.args.file.now) (g.P.Sink.held c.args.report.now) c.args.records.now stands c.loop-index.index
    (g.K.Sink.held c.loop-index.file) (g.P.Sink.held c.loop-index.report) (c.loop-index.invariant.tells s loaded stands opens)
    (omega (arith, c.loop-index.invariant.all, c.loop-index-test.false))

-- ---- by what was read of each label's record

pub returns-in-Err-clause-own : goal.returns-in-Err-clause-own
returns-in-Err-clause-own g c m loaded =
    let before = c.loop-index.invariant in
    rests_to (keys_of m) c.args.how.now c.args.records.now (opened (bench_of c.args.lease.now) c.args.transport.now).key c.loop-index.index
    (g.K.Sink.held c.args.file.now) (g.K.Sink.held c.loop-index.file) (g.P.Sink.held c.args.report.now) (g.P.Sink.held c.loop-index.report) (before.own m loaded)
    c.label_at-label.result.now (bench_of c.tell_label.new.lease).body c.label_at-label.ensures (g.K.Sink.held c.tell_label.new.file) (g.P.Sink.held c.tell_label.new.report)
    c.in-Err.fault (omega (arith, before.all, c.loop-index-test.true))
    (λ place found.
    key_earlier m c.args.how.now c.label_at-label.result.now c.args.records.now place (bench_of c.tell_label.new.lease).body (Err c.in-Err.fault) _ _ _ _
    (opened (bench_of c.loop-index.lease) c.args.transport.now) (opened (bench_of c.args.lease.now) c.args.transport.now)
    (opened_later c.args.lease.now c.loop-index.lease before.masters c.args.transport.now)
    (c.in-Err.ensures.own m place (loaded_later c.args.lease.now c.loop-index.lease before.masters m c.args.held.now loaded) found))

pub returns-clause-own : goal.returns-clause-own
returns-clause-own g c m loaded =
    rests_all (keys_of m) c.args.how.now c.args.records.now (opened (bench_of c.args.lease.now) c.args.transport.now).key c.loop-index.index
    (g.K.Sink.held c.args.file.now) (g.K.Sink.held c.loop-index.file) (g.P.Sink.held c.args.report.now) (g.P.Sink.held c.loop-index.report)
    (omega (arith, c.loop-index.invariant.all, c.loop-index-test.false, c.loop-index.auto.index-end)) (c.loop-index.invariant.own m loaded)

-- ---- what is left of the devices

pub returns-in-Err-clause-file_grows : goal.returns-in-Err-clause-file_grows
returns-in-Err-clause-file_grows g c =
    grows_on (g.K.Sink.held c.args.file.now) (g.K.Sink.held c.loop-index.file) (g.K.Sink.held c.tell_label.new.file) c.loop-index.invariant.file_grows c.in-Err.ensures.file_grows

pub returns-in-Err-clause-report_grows : goal.returns-in-Err-clause-report_grows
returns-in-Err-clause-report_grows g c =
    grows_on (g.P.Sink.held c.args.report.now) (g.P.Sink.held c.loop-index.report) (g.P.Sink.held c.tell_label.new.report) c.loop-index.invariant.report_grows c.in-Err.ensures.report_grows

pub returns-in-Err-clause-faults : goal.returns-in-Err-clause-faults
returns-in-Err-clause-faults g c =
    c.in-Err.ensures.faults

pub returns-in-Err-clause-file_left : goal.returns-in-Err-clause-file_left
returns-in-Err-clause-file_left g c =
    count_on (g.K.Sink.faults c.args.file.now) (g.K.Sink.faults c.loop-index.file) (g.K.Sink.faults c.tell_label.new.file) (◌≡◌ {A = Result (Unit {0}) MoveFault} (Err c.in-Err.fault) (Err WriteFault)) c.loop-index.invariant.file_quiet c.in-Err.ensures.file_left

pub returns-in-Err-clause-report_left : goal.returns-in-Err-clause-report_left
returns-in-Err-clause-report_left g c =
    count_on (g.P.Sink.faults c.args.report.now) (g.P.Sink.faults c.loop-index.report) (g.P.Sink.faults c.tell_label.new.report) (◌≡◌ {A = Result (Unit {0}) MoveFault} (Err c.in-Err.fault) (Err ReportFault)) c.loop-index.invariant.report_quiet c.in-Err.ensures.report_left

pub returns-in-Err-clause-store_left : goal.returns-in-Err-clause-store_left
returns-in-Err-clause-store_left g c =
    count_on (g.D.Disk.faults c.args.store.now) (g.D.Disk.faults c.loop-index.store) (g.D.Disk.faults c.tell_label.new.store) (◌≡◌ {A = Result (Unit {0}) MoveFault} (Err c.in-Err.fault) (Err (Store DiskFault))) c.loop-index.invariant.store_quiet c.in-Err.ensures.store_left

pub returns-in-Err-clause-keeps : goal.returns-in-Err-clause-keeps
returns-in-Err-clause-keeps g c =
    keeps_then (g.D.Disk.medium c.args.store.now) (g.D.Disk.medium c.loop-index.store) (g.D.Disk.medium c.tell_label.new.store) c.loop-index.invariant.keeps c.in-Err.ensures.keeps

pub returns-in-Err-clause-loan : goal.returns-in-Err-clause-loan
returns-in-Err-clause-loan g c =
    c.in-Err.ensures.masters.loan ∙ c.loop-index.invariant.masters.loan

pub returns-clause-file_grows : goal.returns-clause-file_grows
returns-clause-file_grows g c =
    c.loop-index.invariant.file_grows

pub returns-clause-report_grows : goal.returns-clause-report_grows
returns-clause-report_grows g c =
    c.loop-index.invariant.report_grows

pub returns-clause-file_left : goal.returns-clause-file_left
returns-clause-file_left g c =
    quiet_to (g.K.Sink.faults c.args.file.now) (g.K.Sink.faults c.loop-index.file)
    (◌≡◌ {A = Result (Unit {0}) MoveFault} (Ok tt) (Err WriteFault)) c.loop-index.invariant.file_quiet (λ same. done_not same)

pub returns-clause-report_left : goal.returns-clause-report_left
returns-clause-report_left g c =
    quiet_to (g.P.Sink.faults c.args.report.now) (g.P.Sink.faults c.loop-index.report)
    (◌≡◌ {A = Result (Unit {0}) MoveFault} (Ok tt) (Err ReportFault)) c.loop-index.invariant.report_quiet (λ same. done_not same)

pub returns-clause-store_left : goal.returns-clause-store_left
returns-clause-store_left g c =
    quiet_to (g.D.Disk.faults c.args.store.now) (g.D.Disk.faults c.loop-index.store)
    (◌≡◌ {A = Result (Unit {0}) MoveFault} (Ok tt) (Err (Store DiskFault))) c.loop-index.invariant.store_quiet (λ same. done_not same)

pub returns-clause-keeps : goal.returns-clause-keeps
returns-clause-keeps g c =
    c.loop-index.invariant.keeps

pub returns-clause-loan : goal.returns-clause-loan
returns-clause-loan g c =
    c.loop-index.invariant.masters.loan
