use Rattle.std.proofs.Common.{ap, Ok, Err, refl, inl, arith}
use Rattle.audit_trail.specs.declared.faults.TrailFault.TheVariants.{DiskFault, Damaged}
use Rattle.audited_service.specs.Lines.{record_line}
use Rattle.audited_service.specs.Sending.{SendsLine}
use Rattle.audited_service.specs.declared.listing.ListFault.TheVariants.{Trail, WriteFault}
use Rattle.audited_service.proofs.DamageLaws.{listing_fault, opening_fault, read_fault, read_no_fault, sent_no_fault, trail_not_write, write_not_trail}
use Rattle.audited_service.proofs.SendingLaws.{grew_line, grew_part, never_cut, told_entry}
use Rattle.audited_service.proofs.listing.send_record.Goals as goal
use Rattle.line_service.proofs.StopLemmas.{grows_none}

-- ---- the line was sent

pub returns-in-Ok-send_line-clause-line : goal.returns-in-Ok-send_line-clause-line
returns-in-Ok-send_line-clause-line g c =
    told_entry (g.T.Disk.medium c.args.trail.now) c.args.held.now c.args.number c.read_entry.new.out
    (λ e. SendsLine (record_line c.args.number e) (Ok tt) (g.K.Sink.held c.args.sink.now) (g.K.Sink.held c.send_line.new.sink))
    c.requires.held c.requires.stands (c.in-Ok.ensures.spelled (ap Ok (c.in-Ok.ensures.held.1 c.requires.held)))
    (record { done = c.in-Ok-send_line.ensures.all; cut = λ is. absurd (sent_no_fault WriteFault is) })

pub returns-in-Ok-send_line-clause-own : goal.returns-in-Ok-send_line-clause-own
returns-in-Ok-send_line-clause-own g c = record {
  done = (c.read_entry.new.out, c.in-Ok.ensures.whole (ap Ok (c.in-Ok.ensures.held.1 c.requires.held)), c.in-Ok-send_line.ensures.all);
  cut = λ is. absurd (sent_no_fault WriteFault is);
}

pub returns-in-Ok-send_line-clause-grows : goal.returns-in-Ok-send_line-clause-grows
returns-in-Ok-send_line-clause-grows g c =
    grew_line (record_line c.args.number c.read_entry.new.out) (g.K.Sink.held c.args.sink.now) (g.K.Sink.held c.send_line.new.sink) c.in-Ok-send_line.ensures.all

pub returns-in-Ok-send_line-clause-unsent : goal.returns-in-Ok-send_line-clause-unsent
returns-in-Ok-send_line-clause-unsent g c = λ fault is. absurd (sent_no_fault (Trail fault) is)

pub returns-in-Ok-send_line-clause-undamaged : goal.returns-in-Ok-send_line-clause-undamaged
returns-in-Ok-send_line-clause-undamaged g c = λ cell is. absurd (sent_no_fault (Trail (Damaged cell)) is)

pub returns-in-Ok-send_line-clause-faults : goal.returns-in-Ok-send_line-clause-faults
returns-in-Ok-send_line-clause-faults g c = tt

pub returns-in-Ok-send_line-clause-keeps : goal.returns-in-Ok-send_line-clause-keeps
returns-in-Ok-send_line-clause-keeps g c = c.in-Ok.ensures.keeps

pub returns-in-Ok-send_line-clause-trail_left : goal.returns-in-Ok-send_line-clause-trail_left
returns-in-Ok-send_line-clause-trail_left g c = record {
  later = c.in-Ok.ensures.left.later;
  fault = λ is. absurd (sent_no_fault (Trail DiskFault) is);
  quiet = λ none. c.in-Ok.ensures.left.quiet (read_no_fault c.in-Ok.field-0 DiskFault);
}

pub returns-in-Ok-send_line-clause-sink_left : goal.returns-in-Ok-send_line-clause-sink_left
returns-in-Ok-send_line-clause-sink_left g c = record {
  later = c.in-Ok-send_line.ensures.cause.later;
  fault = λ is. absurd (sent_no_fault WriteFault is);
  quiet = λ none. c.in-Ok-send_line.ensures.cause.quiet;
}

pub returns-in-Ok-send_line-clause-emptied : goal.returns-in-Ok-send_line-clause-emptied
returns-in-Ok-send_line-clause-emptied g c = c.in-Ok-send_line.ensures.emptied

-- ---- the sink failed

pub returns-in-Err-send_line-clause-line : goal.returns-in-Err-send_line-clause-line
returns-in-Err-send_line-clause-line g c =
    told_entry (g.T.Disk.medium c.args.trail.now) c.args.held.now c.args.number c.read_entry.new.out
    (λ e. SendsLine (record_line c.args.number e) (Err WriteFault) (g.K.Sink.held c.args.sink.now) (g.K.Sink.held c.send_line.new.sink))
    c.requires.held c.requires.stands (c.in-Ok.ensures.spelled (ap Ok (c.in-Ok.ensures.held.1 c.requires.held)))
    (record { done = tt; cut = λ is. c.in-Err-send_line.ensures.part })

pub returns-in-Err-send_line-clause-own : goal.returns-in-Err-send_line-clause-own
returns-in-Err-send_line-clause-own g c = record {
  done = tt;
  cut = λ is. (c.read_entry.new.out, c.in-Ok.ensures.whole (ap Ok (c.in-Ok.ensures.held.1 c.requires.held)), c.in-Err-send_line.ensures.part);
}

pub returns-in-Err-send_line-clause-grows : goal.returns-in-Err-send_line-clause-grows
returns-in-Err-send_line-clause-grows g c =
    grew_part (record_line c.args.number c.read_entry.new.out) (g.K.Sink.held c.args.sink.now) (g.K.Sink.held c.send_line.new.sink) c.in-Err-send_line.ensures.part

pub returns-in-Err-send_line-clause-unsent : goal.returns-in-Err-send_line-clause-unsent
returns-in-Err-send_line-clause-unsent g c = λ fault is. absurd (write_not_trail fault is)

pub returns-in-Err-send_line-clause-undamaged : goal.returns-in-Err-send_line-clause-undamaged
returns-in-Err-send_line-clause-undamaged g c = λ cell is. absurd (write_not_trail (Damaged cell) is)

pub returns-in-Err-send_line-clause-faults : goal.returns-in-Err-send_line-clause-faults
returns-in-Err-send_line-clause-faults g c = inl refl

pub returns-in-Err-send_line-clause-keeps : goal.returns-in-Err-send_line-clause-keeps
returns-in-Err-send_line-clause-keeps g c = c.in-Ok.ensures.keeps

pub returns-in-Err-send_line-clause-trail_left : goal.returns-in-Err-send_line-clause-trail_left
returns-in-Err-send_line-clause-trail_left g c = record {
  later = c.in-Ok.ensures.left.later;
  fault = λ is. absurd (write_not_trail DiskFault is);
  quiet = λ none. c.in-Ok.ensures.left.quiet (read_no_fault c.in-Ok.field-0 DiskFault);
}

pub returns-in-Err-send_line-clause-sink_left : goal.returns-in-Err-send_line-clause-sink_left
returns-in-Err-send_line-clause-sink_left g c = record {
  later = c.in-Err-send_line.ensures.cause.later;
  fault = λ is. c.in-Err-send_line.ensures.cause.failed;
  quiet = λ none. absurd (none refl);
}

pub returns-in-Err-send_line-clause-emptied : goal.returns-in-Err-send_line-clause-emptied
returns-in-Err-send_line-clause-emptied g c = c.in-Err-send_line.ensures.emptied

-- ---- the record wasn't read, so nothing was sent

pub returns-in-Err-clause-line : goal.returns-in-Err-clause-line
returns-in-Err-clause-line g c = never_cut (g.T.Disk.medium c.args.trail.now) c.args.number c.in-Err.fault (g.K.Sink.held c.args.sink.now)

pub returns-in-Err-clause-own : goal.returns-in-Err-clause-own
returns-in-Err-clause-own g c = record { done = tt; cut = λ is. absurd (trail_not_write c.in-Err.fault is) }

pub returns-in-Err-clause-grows : goal.returns-in-Err-clause-grows
returns-in-Err-clause-grows g c = grows_none (g.K.Sink.held c.args.sink.now)

pub returns-in-Err-clause-unsent : goal.returns-in-Err-clause-unsent
returns-in-Err-clause-unsent g c = λ fault is. refl

pub returns-in-Err-clause-undamaged : goal.returns-in-Err-clause-undamaged
returns-in-Err-clause-undamaged g c = λ cell is. (c.in-Err.ensures.damaged cell (opening_fault c.in-Err.fault (Damaged cell) is)).2

pub returns-in-Err-clause-faults : goal.returns-in-Err-clause-faults
returns-in-Err-clause-faults g c = read_fault c.args.number c.in-Err.fault c.in-Err.ensures.faults

pub returns-in-Err-clause-keeps : goal.returns-in-Err-clause-keeps
returns-in-Err-clause-keeps g c = c.in-Err.ensures.keeps

pub returns-in-Err-clause-trail_left : goal.returns-in-Err-clause-trail_left
returns-in-Err-clause-trail_left g c = record {
  later = c.in-Err.ensures.left.later;
  fault = λ is. c.in-Err.ensures.left.fault (opening_fault c.in-Err.fault DiskFault is);
  quiet = λ none. c.in-Err.ensures.left.quiet (λ is. none (listing_fault c.in-Err.fault DiskFault is));
}

pub returns-in-Err-clause-sink_left : goal.returns-in-Err-clause-sink_left
returns-in-Err-clause-sink_left g c = record { later = omega arith; fault = λ is. absurd (trail_not_write c.in-Err.fault is); quiet = λ none. refl }

pub returns-in-Err-clause-emptied : goal.returns-in-Err-clause-emptied
returns-in-Err-clause-emptied g c = c.requires.empty

-- ---- a cell that is named is that of the record

pub returns-in-Ok-send_line-clause-named : goal.returns-in-Ok-send_line-clause-named
returns-in-Ok-send_line-clause-named g c = λ cell is. absurd (sent_no_fault (Trail (Damaged cell)) is)

pub returns-in-Err-send_line-clause-named : goal.returns-in-Err-send_line-clause-named
returns-in-Err-send_line-clause-named g c = λ cell is. absurd (write_not_trail (Damaged cell) is)

pub returns-in-Err-clause-named : goal.returns-in-Err-clause-named
returns-in-Err-clause-named g c = λ cell is. (c.in-Err.ensures.damaged cell (opening_fault c.in-Err.fault (Damaged cell) is)).0
