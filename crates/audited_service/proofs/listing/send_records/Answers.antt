use Rattle.std.proofs.Common.{◌≡◌, ◌+◌, ◌-◌, ℕ, List, Ok, Err, ap, refl, ◌∙◌, arith}
use Rattle.device_cells.proofs.Media.{keeps_still, keeps_then, told_earlier}
use Rattle.audit_trail.specs.Entries.{entry_at}
use Rattle.audit_trail.specs.TrailStands.{IsTrail}
use Rattle.audit_trail.specs.declared.entries.Entry.{Entry as AnyEntry}
use Rattle.audit_trail.specs.declared.faults.TrailFault.TheVariants.{DiskFault, Damaged}
use Rattle.audited_service.specs.Lines.{record_line}
use Rattle.audited_service.specs.Listing.{Listed}
use Rattle.audited_service.specs.Sending.{SendsLine}
use Rattle.audited_service.specs.declared.listing.ListFault.TheVariants.{Trail, WriteFault}
use Rattle.audited_service.proofs.DamageLaws.{sent_no_fault}
use Rattle.audited_service.proofs.SendingLaws.{HasLinesBelow, of_each, of_both, of_none, no_line, one_line, listed_all, listed_part, quiet_before}
use Rattle.audited_service.proofs.ReadLaws.{read_all, read_more, read_none, read_part}
use Rattle.audited_service.proofs.listing.send_records.Goals as goal
use Rattle.line_service.proofs.StopLemmas.{grows_none, grows_on}

pub loop-number-init : goal.loop-number-init
loop-number-init g c =
    let held = g.K.Sink.held c.args.sink.now in
    record {
      told = of_each (g.T.Disk.medium c.args.trail.now) c.args.held.now c.requires.stands
          (λ es. HasLinesBelow es c.saturating_sub-first.result held held)
          (λ es long. no_line es c.saturating_sub-first.result held (omega (arith, long)));
      own = read_none (c.args.held.now - 4096) c.saturating_sub-first.result held (omega (arith, c.next_number-next.ensures.number));
      grows = grows_none held;
      keeps = keeps_still (g.T.Disk.medium c.args.trail.now);
      trail_quiet = refl;
      sink_quiet = refl;
      from = omega arith;
      empty = c.requires.empty;
    }

pub loop-number-preserved : goal.loop-number-preserved
loop-number-preserved g c =
    let m0 = g.T.Disk.medium c.args.trail.now in
    let m1 = g.T.Disk.medium c.loop-number.trail in
    let number : ℕ = c.loop-number.number in
    let held0 = g.K.Sink.held c.args.sink.now in
    let held1 = g.K.Sink.held c.loop-number.sink in
    let held2 = g.K.Sink.held c.send_record.new.sink in
    record {
      told = of_both m0 c.args.held.now c.requires.stands
          (λ es. HasLinesBelow es number held0 held1)
          (λ es. SendsLine (record_line number (entry_at es number)) (Ok tt) held1 held2)
          (λ es. HasLinesBelow es (number + 1) held0 held2)
          c.loop-number.invariant.told
          (told_earlier m0 m1 (λ image. (es : List AnyEntry) → IsTrail image es → SendsLine (record_line number (entry_at es number)) (Ok tt) held1 held2) c.loop-number.invariant.keeps.content c.in-Ok.ensures.line)
          (λ es long before sends. one_line es number (omega (arith, long, c.loop-number.invariant.from, c.next_number-next.ensures.number)) held0 held1 held2 before sends.done);
      own = (let sent = c.in-Ok.ensures.own.done in
          read_more (c.args.held.now - 4096) number held0 held1 held2 c.loop-number.invariant.own sent.0 sent.1 sent.2);
      grows = grows_on held0 held1 held2 c.loop-number.invariant.grows c.in-Ok.ensures.grows;
      keeps = keeps_then m0 m1 (g.T.Disk.medium c.send_record.new.trail) c.loop-number.invariant.keeps c.in-Ok.ensures.keeps;
      trail_quiet = c.in-Ok.ensures.trail_left.quiet (sent_no_fault (Trail DiskFault)) ∙ c.loop-number.invariant.trail_quiet;
      sink_quiet = c.in-Ok.ensures.sink_left.quiet (sent_no_fault WriteFault) ∙ c.loop-number.invariant.sink_quiet;
      from = omega (arith, c.loop-number.invariant.from);
      empty = c.in-Ok.ensures.emptied;
    }

pub returns-in-Err-clause-lines : goal.returns-in-Err-clause-lines
returns-in-Err-clause-lines g c =
    let m0 = g.T.Disk.medium c.args.trail.now in
    let m1 = g.T.Disk.medium c.loop-number.trail in
    let number : ℕ = c.loop-number.number in
    let held0 = g.K.Sink.held c.args.sink.now in
    let held1 = g.K.Sink.held c.loop-number.sink in
    let held2 = g.K.Sink.held c.send_record.new.sink in
    let Sends : List AnyEntry → Type 0 = λ es. SendsLine (record_line number (entry_at es number)) (Err c.in-Err.fault) held1 held2 in
    let Never : List AnyEntry → Type 0 = λ es. (cell : ℕ) → Err c.in-Err.fault ≡ Err (Trail (Damaged cell)) → ⊥ in
    of_both m0 c.args.held.now c.requires.stands
    (λ es. HasLinesBelow es number held0 held1)
    (λ es. Sends es × Never es)
    (λ es. Listed es (Err c.in-Err.fault) held0 held2)
    c.loop-number.invariant.told
    (of_both m0 c.args.held.now c.requires.stands Sends Never (λ es. Sends es × Never es)
    (told_earlier m0 m1 (λ image. (es : List AnyEntry) → IsTrail image es → Sends es) c.loop-number.invariant.keeps.content c.in-Err.ensures.line)
    (told_earlier m0 m1 (λ image. (es : List AnyEntry) → IsTrail image es → Never es) c.loop-number.invariant.keeps.content (of_none m1 (Err c.in-Err.fault) c.in-Err.ensures.undamaged))
    (λ es long sends never. (sends, never)))
    (λ es long before both.
    listed_part es number c.in-Err.fault held0 held1 held2 (omega (arith, long, c.loop-number.invariant.from, c.next_number-next.ensures.number)) (omega (arith, long, c.loop-number-test.true, c.next_number-next.ensures.number))
    before both.0 both.1 (λ is. ap g.K.Sink.held (c.in-Err.ensures.unsent DiskFault is)))

pub returns-clause-lines : goal.returns-clause-lines
returns-clause-lines g c =
    let m0 = g.T.Disk.medium c.args.trail.now in
    let held0 = g.K.Sink.held c.args.sink.now in
    let held1 = g.K.Sink.held c.loop-number.sink in
    of_both m0 c.args.held.now c.requires.stands
    (λ es. HasLinesBelow es c.loop-number.number held0 held1) (λ es. Unit {0})
    (λ es. Listed es (Ok tt) held0 held1)
    c.loop-number.invariant.told
    (of_each m0 c.args.held.now c.requires.stands (λ es. Unit {0}) (λ es long. tt))
    (λ es long before none. listed_all es c.loop-number.number held0 held1 (omega (arith, long, c.loop-number-test.false, c.loop-number.auto.number-end, c.next_number-next.ensures.number)) before)

-- ---- what is left

pub returns-in-Err-clause-grows : goal.returns-in-Err-clause-grows
returns-in-Err-clause-grows g c =
    grows_on (g.K.Sink.held c.args.sink.now) (g.K.Sink.held c.loop-number.sink) (g.K.Sink.held c.send_record.new.sink) c.loop-number.invariant.grows c.in-Err.ensures.grows

pub returns-in-Err-clause-undamaged : goal.returns-in-Err-clause-undamaged
returns-in-Err-clause-undamaged g c = λ cell is.
    told_earlier (g.T.Disk.medium c.args.trail.now) (g.T.Disk.medium c.loop-number.trail) (λ image. ⊥) c.loop-number.invariant.keeps.content (c.in-Err.ensures.undamaged cell is)

pub returns-in-Err-clause-faults : goal.returns-in-Err-clause-faults
returns-in-Err-clause-faults g c = c.in-Err.ensures.faults

pub returns-in-Err-clause-keeps : goal.returns-in-Err-clause-keeps
returns-in-Err-clause-keeps g c =
    keeps_then (g.T.Disk.medium c.args.trail.now) (g.T.Disk.medium c.loop-number.trail) (g.T.Disk.medium c.send_record.new.trail) c.loop-number.invariant.keeps c.in-Err.ensures.keeps

pub returns-in-Err-clause-trail_left : goal.returns-in-Err-clause-trail_left
returns-in-Err-clause-trail_left g c = quiet_before c.loop-number.invariant.trail_quiet c.in-Err.ensures.trail_left

pub returns-in-Err-clause-sink_left : goal.returns-in-Err-clause-sink_left
returns-in-Err-clause-sink_left g c = quiet_before c.loop-number.invariant.sink_quiet c.in-Err.ensures.sink_left

pub returns-in-Err-clause-emptied : goal.returns-in-Err-clause-emptied
returns-in-Err-clause-emptied g c = c.in-Err.ensures.emptied

pub returns-clause-grows : goal.returns-clause-grows
returns-clause-grows g c = c.loop-number.invariant.grows

pub returns-clause-undamaged : goal.returns-clause-undamaged
returns-clause-undamaged g c = λ cell is. absurd (sent_no_fault (Trail (Damaged cell)) is)

pub returns-clause-faults : goal.returns-clause-faults
returns-clause-faults g c = tt

pub returns-clause-keeps : goal.returns-clause-keeps
returns-clause-keeps g c = c.loop-number.invariant.keeps

pub returns-clause-trail_left : goal.returns-clause-trail_left
returns-clause-trail_left g c = record {
  later = omega (arith, c.loop-number.invariant.trail_quiet);
  fault = λ is. absurd (sent_no_fault (Trail DiskFault) is);
  quiet = λ none. c.loop-number.invariant.trail_quiet;
}

pub returns-clause-sink_left : goal.returns-clause-sink_left
returns-clause-sink_left g c = record {
  later = omega (arith, c.loop-number.invariant.sink_quiet);
  fault = λ is. absurd (sent_no_fault WriteFault is);
  quiet = λ none. c.loop-number.invariant.sink_quiet;
}

pub returns-clause-emptied : goal.returns-clause-emptied
returns-clause-emptied g c = c.loop-number.invariant.empty

-- ---- by what was read of each record

pub returns-in-Err-clause-own : goal.returns-in-Err-clause-own
returns-in-Err-clause-own g c =
    read_part c.args.held.now c.loop-number.number c.in-Err.fault (g.K.Sink.held c.args.sink.now) (g.K.Sink.held c.loop-number.sink) (g.K.Sink.held c.send_record.new.sink)
    c.next_number-next.ensures.low (omega (arith, c.loop-number-test.true, c.next_number-next.ensures.number)) c.loop-number.invariant.own c.in-Err.ensures.own (λ f is. ap g.K.Sink.held (c.in-Err.ensures.unsent f is)) c.in-Err.ensures.named

pub returns-clause-own : goal.returns-clause-own
returns-clause-own g c =
    read_all c.args.held.now c.loop-number.number (g.K.Sink.held c.args.sink.now) (g.K.Sink.held c.loop-number.sink)
    c.next_number-next.ensures.low (omega (arith, c.loop-number-test.false, c.loop-number.auto.number-end, c.next_number-next.ensures.number)) c.loop-number.invariant.own
