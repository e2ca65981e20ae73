-- What a line leaves, by how far it came.
use Rattle.std.proofs.Common.{ℕ, List, Ok, Err, refl, ap, subst, sym, ◌∙◌, ⊎_elim}
use Rattle.device_cells.specs.Medium.{Told}
use Rattle.audit_trail.specs.TrailStands.{StandsForTrail}
use Rattle.line_service.specs.Devices.{devices, outside}
use Rattle.line_service.specs.Lines.{EndsInNewline}
use Rattle.line_service.specs.Machine.{world}
use Rattle.line_service.specs.declared.serving.Served.TheVariants.{Ended}
use Rattle.line_service.specs.declared.stops.Stop.TheVariants.{ReadFault, InputLimit}
use Rattle.line_service.proofs.AnsweredLemmas.{unmoved_stopped, unmoved_untouched}
use Rattle.line_service.proofs.TakenLemmas.{over_not_failed, read_ended, read_failed, read_over}
use Rattle.audited_service.specs.EachLine.{EntrySent}
use Rattle.audited_service.proofs.RecordLemmas.{stands_off, line_failed, at_end_recorded, unread_recorded, over_recorded}
use Rattle.audited_service.proofs.SentLemmas.{sent_part, sent_answered, sent_unmoved, unappended, line_after_append}
use Rattle.audited_service.proofs.KeptLemmas.{unread_kept, sent_kept, stopped_kept}
use Rattle.audited_service.proofs.auditing.audit_one.Goals as goal
use Rattle.key_cells.proofs.AnswerLemmas.{no_err}
use Rattle.line_service.proofs.StopLemmas.{over_not_unread}

pub returns-in-Ok-answer_taken-clause-serves : goal.returns-in-Ok-answer_taken-clause-serves
returns-in-Ok-answer_taken-clause-serves g c = λ s stands.
    let m0 = g.M.Disk.medium c.args.module.now in
    let d0 = g.D.Disk.medium c.args.store.now in
    let t0 = g.T.Disk.medium c.args.trail.now in
    let left = c.in-Ok-answer_taken.ensures.left in
    line_after_append g.A.Desk.machine g.W.Scribe.entry_of s (g.A.Desk.knows c.answer_taken.new.desk)
    c.in-Ok.taken c.read_line.new.buffer c.in_default.not-End c.answer_taken.new.reply
    (world m0 d0 (g.E.Entropy.left c.args.entropy.now))
    (world (g.M.Disk.medium c.answer_taken.new.module) (g.D.Disk.medium c.answer_taken.new.store) (g.E.Entropy.left c.answer_taken.new.entropy))
    (left.module_left.settled refl) (left.store_left.settled refl)
    (c.in-Ok-answer_taken.ensures.serves s.state (stands_off g.A.Desk.machine g.W.Scribe.entry_of s (g.A.Desk.knows c.args.desk.now) t0 m0 d0 stands))
    c.args.held.now c.entry_taken-entry.result (λ line is. c.entry_taken-entry.ensures.entry line is ∙ ap (g.W.Scribe.entry_of line) c.bytes-bytes.ensures.bytes)
    c.args.lines.now (g.S.Source.left c.args.source.now) (g.S.Source.left c.read_line.new.source) c.in-Ok.ensures.answer
    _ _ g.T.Disk.medium c.args.trail.now c.append_and_send.new.trail c.args.sink.now c.append_and_send.new.sink c.append_and_send.result _ _
    (g.K.Sink.held c.args.sink.now) (g.K.Sink.held c.append_and_send.new.sink) _ _
    (subst (λ (bytes : List ℕ). EntrySent c.args.held.now c.entry_taken-entry.result bytes c.append_and_send.result t0 (g.T.Disk.medium c.append_and_send.new.trail)
    (g.T.Disk.faults c.args.trail.now) (g.T.Disk.faults c.append_and_send.new.trail) (g.K.Sink.held c.args.sink.now) (g.K.Sink.held c.append_and_send.new.sink)
    (g.K.Sink.faults c.args.sink.now) (g.K.Sink.faults c.append_and_send.new.sink)) c.bytes-bytes.ensures.bytes c.append_and_send.ensures.sent)
    c.append_and_send.ensures.failed c.requires.trail.settled stands.agrees.1

pub returns-in-Ok-answer_taken-clause-kept : goal.returns-in-Ok-answer_taken-clause-kept
returns-in-Ok-answer_taken-clause-kept g c =
    sent_kept g.A.Desk.machine (g.A.Desk.ready c.answer_taken.new.desk (g.M.Disk.medium c.answer_taken.new.module) (g.D.Disk.medium c.answer_taken.new.store))
    (Told (g.T.Disk.medium c.append_and_send.new.trail) (λ image. StandsForTrail image c.append_and_send.new.held))
    (record {
      old = outside (g.S.Source.left c.args.source.now) (g.S.Source.faults c.args.source.now) (g.K.Sink.held c.args.sink.now) (g.K.Sink.faults c.args.sink.now)
          (devices (g.M.Disk.medium c.args.module.now) (g.M.Disk.faults c.args.module.now) (g.D.Disk.medium c.args.store.now) (g.D.Disk.faults c.args.store.now) (g.E.Entropy.left c.args.entropy.now) (g.E.Entropy.faults c.args.entropy.now));
      new = outside (g.S.Source.left c.read_line.new.source) (g.S.Source.faults c.read_line.new.source) (g.K.Sink.held c.append_and_send.new.sink) (g.K.Sink.faults c.append_and_send.new.sink)
          (devices (g.M.Disk.medium c.answer_taken.new.module) (g.M.Disk.faults c.answer_taken.new.module) (g.D.Disk.medium c.answer_taken.new.store) (g.D.Disk.faults c.answer_taken.new.store) (g.E.Entropy.left c.answer_taken.new.entropy) (g.E.Entropy.faults c.answer_taken.new.entropy));
    })
    c.args.lines.now c.read_line.new.buffer c.in-Ok.taken c.in_default.not-End c.in-Ok.ensures.answer c.in-Ok.ensures.shown c.in-Ok.ensures.advances c.in-Ok.ensures.end
    c.read_line.ensures.ended c.read_line.ensures.at_end c.read_line.ensures.counted c.read_line.ensures.within
    c.in-Ok.ensures.limit c.read_line.ensures.later (c.in-Ok.ensures.quiet (λ h. no_err h))
    c.append_and_send.result c.args.held.now c.entry_taken-entry.result _ (g.T.Disk.medium c.args.trail.now) (g.T.Disk.medium c.append_and_send.new.trail)
    (g.T.Disk.faults c.args.trail.now) (g.T.Disk.faults c.append_and_send.new.trail) c.append_and_send.ensures.sent
    (subst EndsInNewline (sym c.bytes-bytes.ensures.bytes) (c.in-Ok-answer_taken.ensures.line c.in_default.not-End)) c.in-Ok-answer_taken.ensures.left c.in-Ok-answer_taken.ensures.ready c.append_and_send.ensures.held

pub returns-in-Ok-answer_taken-clause-unmoved : goal.returns-in-Ok-answer_taken-clause-unmoved
returns-in-Ok-answer_taken-clause-unmoved g c =
    let answered = sent_answered c.append_and_send.result c.append_and_send.ensures.sent.answers in
    record {
      sink_unmoved = sent_unmoved c.append_and_send.result c.append_and_send.ensures.sent.answers _ _ c.append_and_send.ensures.failed.unsent;
      module_unmoved = λ h. absurd (answered h);
      store_unmoved = λ h. absurd (answered h);
      entropy_unmoved = λ h. absurd (answered h);
      desk_unmoved = λ h. absurd (answered h);
    }

pub returns-in-Ok-answer_taken-clause-untrailed : goal.returns-in-Ok-answer_taken-clause-untrailed
returns-in-Ok-answer_taken-clause-untrailed g c = λ unreplied uncut. absurd (⊎_elim unreplied uncut (sent_part c.append_and_send.result c.append_and_send.ensures.sent.answers))

pub returns-in-Err-clause-kept : goal.returns-in-Err-clause-kept
returns-in-Err-clause-kept g c =
    stopped_kept g.A.Desk.machine (g.A.Desk.ready c.answer_taken.new.desk (g.M.Disk.medium c.answer_taken.new.module) (g.D.Disk.medium c.answer_taken.new.store))
    (Told (g.T.Disk.medium c.args.trail.now) (λ image. StandsForTrail image c.args.held.now))
    (record {
      old = outside (g.S.Source.left c.args.source.now) (g.S.Source.faults c.args.source.now) (g.K.Sink.held c.args.sink.now) (g.K.Sink.faults c.args.sink.now)
          (devices (g.M.Disk.medium c.args.module.now) (g.M.Disk.faults c.args.module.now) (g.D.Disk.medium c.args.store.now) (g.D.Disk.faults c.args.store.now) (g.E.Entropy.left c.args.entropy.now) (g.E.Entropy.faults c.args.entropy.now));
      new = outside (g.S.Source.left c.read_line.new.source) (g.S.Source.faults c.read_line.new.source) (g.K.Sink.held c.args.sink.now) (g.K.Sink.faults c.args.sink.now)
          (devices (g.M.Disk.medium c.answer_taken.new.module) (g.M.Disk.faults c.answer_taken.new.module) (g.D.Disk.medium c.answer_taken.new.store) (g.D.Disk.faults c.answer_taken.new.store) (g.E.Entropy.left c.answer_taken.new.entropy) (g.E.Entropy.faults c.answer_taken.new.entropy));
    })
    c.args.lines.now c.read_line.new.buffer c.in-Ok.taken c.in_default.not-End c.in-Ok.ensures.answer c.in-Ok.ensures.shown c.in-Ok.ensures.advances c.in-Ok.ensures.end
    c.read_line.ensures.ended c.read_line.ensures.at_end c.read_line.ensures.counted c.read_line.ensures.within
    c.in-Ok.ensures.limit c.read_line.ensures.later (c.in-Ok.ensures.quiet (λ h. no_err h))
    c.in-Err.stop c.in-Err.ensures.stops c.in-Err.ensures.left c.in-Err.ensures.undamaged refl refl (g.T.Disk.medium c.args.trail.now) (g.T.Disk.faults c.args.trail.now) c.requires.trail.settled c.requires.held

pub returns-in-End-clause-serves : goal.returns-in-End-clause-serves
returns-in-End-clause-serves g c = λ s stands.
    at_end_recorded g.A.Desk.machine g.W.Scribe.entry_of s (g.A.Desk.knows c.args.desk.now) (g.T.Disk.medium c.args.trail.now)
    (world (g.M.Disk.medium c.args.module.now) (g.D.Disk.medium c.args.store.now) (g.E.Entropy.left c.args.entropy.now))
    (g.S.Source.left c.args.source.now) (g.S.Source.left c.read_line.new.source) (g.K.Sink.held c.args.sink.now) c.args.lines.now c.read_line.new.buffer _ c.read_line.ensures.counted
    stands c.requires.disks.module_settled c.requires.disks.store_settled c.requires.trail.settled

pub returns-in-Err-ReadFault-clause-serves : goal.returns-in-Err-ReadFault-clause-serves
returns-in-Err-ReadFault-clause-serves g c = λ s stands.
    unread_recorded g.A.Desk.machine g.W.Scribe.entry_of s (g.A.Desk.knows c.args.desk.now) (g.T.Disk.medium c.args.trail.now)
    (world (g.M.Disk.medium c.args.module.now) (g.D.Disk.medium c.args.store.now) (g.E.Entropy.left c.args.entropy.now))
    (g.S.Source.left c.args.source.now) (g.S.Source.left c.read_line.new.source) (g.K.Sink.held c.args.sink.now) c.args.lines.now c.read_line.new.buffer _ c.read_line.ensures.counted
    stands c.requires.disks.module_settled c.requires.disks.store_settled c.requires.trail.settled

pub returns-in-Err-InputLimit-clause-serves : goal.returns-in-Err-InputLimit-clause-serves
returns-in-Err-InputLimit-clause-serves g c = λ s stands.
    over_recorded g.A.Desk.machine g.W.Scribe.entry_of s (g.A.Desk.knows c.args.desk.now) (g.T.Disk.medium c.args.trail.now)
    (world (g.M.Disk.medium c.args.module.now) (g.D.Disk.medium c.args.store.now) (g.E.Entropy.left c.args.entropy.now))
    (g.S.Source.left c.args.source.now) (g.S.Source.left c.read_line.new.source) (g.K.Sink.held c.args.sink.now) c.args.lines.now c.read_line.new.buffer _ c.read_line.ensures.counted
    stands c.requires.disks.module_settled c.requires.disks.store_settled c.requires.trail.settled

pub returns-in-Err-clause-serves : goal.returns-in-Err-clause-serves
returns-in-Err-clause-serves g c = λ s stands.
    let m0 = g.M.Disk.medium c.args.module.now in
    let d0 = g.D.Disk.medium c.args.store.now in
    let t0 = g.T.Disk.medium c.args.trail.now in
    line_failed g.A.Desk.machine g.W.Scribe.entry_of s (g.A.Desk.knows c.answer_taken.new.desk) t0
    c.in-Ok.taken c.read_line.new.buffer c.in_default.not-End c.answer_taken.new.reply
    (world m0 d0 (g.E.Entropy.left c.args.entropy.now))
    (world (g.M.Disk.medium c.answer_taken.new.module) (g.D.Disk.medium c.answer_taken.new.store) (g.E.Entropy.left c.answer_taken.new.entropy))
    c.in-Err.stop
    (c.in-Err.ensures.serves s.state (stands_off g.A.Desk.machine g.W.Scribe.entry_of s (g.A.Desk.knows c.args.desk.now) t0 m0 d0 stands))
    c.requires.trail.settled stands.agrees.1 c.args.lines.now (g.S.Source.left c.args.source.now) (g.S.Source.left c.read_line.new.source) (g.K.Sink.held c.args.sink.now) (g.K.Sink.held c.args.sink.now)
    c.in-Ok.ensures.answer

pub returns-in-End-clause-kept : goal.returns-in-End-clause-kept
returns-in-End-clause-kept g c =
    unread_kept g.A.Desk.machine (g.A.Desk.ready c.args.desk.now (g.M.Disk.medium c.args.module.now) (g.D.Disk.medium c.args.store.now))
    (Told (g.T.Disk.medium c.args.trail.now) (λ image. StandsForTrail image c.args.held.now))
    (devices (g.M.Disk.medium c.args.module.now) (g.M.Disk.faults c.args.module.now) (g.D.Disk.medium c.args.store.now) (g.D.Disk.faults c.args.store.now) (g.E.Entropy.left c.args.entropy.now) (g.E.Entropy.faults c.args.entropy.now))
    (g.S.Source.left c.args.source.now) (g.S.Source.left c.read_line.new.source) (g.K.Sink.held c.args.sink.now) (g.S.Source.faults c.args.source.now) (g.S.Source.faults c.read_line.new.source) (g.K.Sink.faults c.args.sink.now)
    (g.T.Disk.medium c.args.trail.now) (g.T.Disk.faults c.args.trail.now) c.args.lines.now c.read_line.new.buffer (Ok c.in-Ok.taken) (Ok Ended) (read_ended _ c.in-End.is)
    c.in-Ok.ensures.answer c.in-Ok.ensures.shown c.in-Ok.ensures.end c.read_line.ensures.ended c.in-Ok.ensures.ends c.read_line.ensures.at_end c.read_line.ensures.counted c.read_line.ensures.within c.read_line.ensures.early c.in-Ok.ensures.limit c.in-Ok.ensures.full c.in-Ok.ensures.short tt tt
    (record { later = c.read_line.ensures.later; fault = λ h. absurd (no_err h); quiet = λ none. c.in-Ok.ensures.quiet (λ h. no_err h) })
    c.requires.disks.module_settled c.requires.disks.store_settled c.requires.trail.settled c.requires.held

pub returns-in-Err-ReadFault-clause-kept : goal.returns-in-Err-ReadFault-clause-kept
returns-in-Err-ReadFault-clause-kept g c =
    unread_kept g.A.Desk.machine (g.A.Desk.ready c.args.desk.now (g.M.Disk.medium c.args.module.now) (g.D.Disk.medium c.args.store.now))
    (Told (g.T.Disk.medium c.args.trail.now) (λ image. StandsForTrail image c.args.held.now))
    (devices (g.M.Disk.medium c.args.module.now) (g.M.Disk.faults c.args.module.now) (g.D.Disk.medium c.args.store.now) (g.D.Disk.faults c.args.store.now) (g.E.Entropy.left c.args.entropy.now) (g.E.Entropy.faults c.args.entropy.now))
    (g.S.Source.left c.args.source.now) (g.S.Source.left c.read_line.new.source) (g.K.Sink.held c.args.sink.now) (g.S.Source.faults c.args.source.now) (g.S.Source.faults c.read_line.new.source) (g.K.Sink.faults c.args.sink.now)
    (g.T.Disk.medium c.args.trail.now) (g.T.Disk.faults c.args.trail.now) c.args.lines.now c.read_line.new.buffer (Err c.in-Err-ReadFault.field-0) (Err ReadFault) (read_failed _ c.in-Err-ReadFault.field-0-is)
    tt tt c.in-Err-ReadFault.ensures.end c.read_line.ensures.ended c.in-Err-ReadFault.ensures.ends c.read_line.ensures.at_end c.read_line.ensures.counted c.read_line.ensures.within c.read_line.ensures.early c.in-Err-ReadFault.ensures.limit c.in-Err-ReadFault.ensures.full c.in-Err-ReadFault.ensures.short c.in-Err-ReadFault.ensures.emptied c.in-Err-ReadFault.ensures.kept
    (record { later = c.read_line.ensures.later; fault = λ h. c.in-Err-ReadFault.ensures.fault (ap Err c.in-Err-ReadFault.field-0-is); quiet = λ none. absurd (none refl) })
    c.requires.disks.module_settled c.requires.disks.store_settled c.requires.trail.settled c.requires.held

pub returns-in-Err-InputLimit-clause-kept : goal.returns-in-Err-InputLimit-clause-kept
returns-in-Err-InputLimit-clause-kept g c =
    unread_kept g.A.Desk.machine (g.A.Desk.ready c.args.desk.now (g.M.Disk.medium c.args.module.now) (g.D.Disk.medium c.args.store.now))
    (Told (g.T.Disk.medium c.args.trail.now) (λ image. StandsForTrail image c.args.held.now))
    (devices (g.M.Disk.medium c.args.module.now) (g.M.Disk.faults c.args.module.now) (g.D.Disk.medium c.args.store.now) (g.D.Disk.faults c.args.store.now) (g.E.Entropy.left c.args.entropy.now) (g.E.Entropy.faults c.args.entropy.now))
    (g.S.Source.left c.args.source.now) (g.S.Source.left c.read_line.new.source) (g.K.Sink.held c.args.sink.now) (g.S.Source.faults c.args.source.now) (g.S.Source.faults c.read_line.new.source) (g.K.Sink.faults c.args.sink.now)
    (g.T.Disk.medium c.args.trail.now) (g.T.Disk.faults c.args.trail.now) c.args.lines.now c.read_line.new.buffer (Err c.in-Err-InputLimit.field-0) (Err InputLimit) (read_over _ c.in-Err-InputLimit.field-0-is)
    tt tt c.in-Err-InputLimit.ensures.end c.read_line.ensures.ended c.in-Err-InputLimit.ensures.ends c.read_line.ensures.at_end c.read_line.ensures.counted c.read_line.ensures.within c.read_line.ensures.early c.in-Err-InputLimit.ensures.limit c.in-Err-InputLimit.ensures.full c.in-Err-InputLimit.ensures.short c.in-Err-InputLimit.ensures.emptied c.in-Err-InputLimit.ensures.kept
    (record {
      later = c.read_line.ensures.later;
      fault = λ h. absurd (over_not_unread h);
      quiet = λ none. c.in-Err-InputLimit.ensures.quiet (over_not_failed c.in-Err-InputLimit.field-0 c.in-Err-InputLimit.field-0-is);
    })
    c.requires.disks.module_settled c.requires.disks.store_settled c.requires.trail.settled c.requires.held

pub returns-in-End-clause-unmoved : goal.returns-in-End-clause-unmoved
returns-in-End-clause-unmoved g c = unmoved_untouched (Ok Ended) c.args.sink.now c.args.module.now c.args.store.now c.args.entropy.now c.args.desk.now

pub returns-in-End-clause-failed : goal.returns-in-End-clause-failed
returns-in-End-clause-failed g c = unappended (Ok Ended) c.args.held.now c.args.trail.now c.args.sink.now

pub returns-in-End-clause-untrailed : goal.returns-in-End-clause-untrailed
returns-in-End-clause-untrailed g c = λ unreplied uncut. refl

pub returns-in-Err-ReadFault-clause-unmoved : goal.returns-in-Err-ReadFault-clause-unmoved
returns-in-Err-ReadFault-clause-unmoved g c =
    unmoved_untouched (Err ReadFault) c.args.sink.now c.args.module.now c.args.store.now c.args.entropy.now c.args.desk.now

pub returns-in-Err-ReadFault-clause-failed : goal.returns-in-Err-ReadFault-clause-failed
returns-in-Err-ReadFault-clause-failed g c = unappended (Err ReadFault) c.args.held.now c.args.trail.now c.args.sink.now

pub returns-in-Err-ReadFault-clause-untrailed : goal.returns-in-Err-ReadFault-clause-untrailed
returns-in-Err-ReadFault-clause-untrailed g c = λ unreplied uncut. refl

pub returns-in-Err-InputLimit-clause-unmoved : goal.returns-in-Err-InputLimit-clause-unmoved
returns-in-Err-InputLimit-clause-unmoved g c =
    unmoved_untouched (Err InputLimit) c.args.sink.now c.args.module.now c.args.store.now c.args.entropy.now c.args.desk.now

pub returns-in-Err-InputLimit-clause-failed : goal.returns-in-Err-InputLimit-clause-failed
returns-in-Err-InputLimit-clause-failed g c = unappended (Err InputLimit) c.args.held.now c.args.trail.now c.args.sink.now

pub returns-in-Err-InputLimit-clause-untrailed : goal.returns-in-Err-InputLimit-clause-untrailed
returns-in-Err-InputLimit-clause-untrailed g c = λ unreplied uncut. refl

pub returns-in-Err-clause-unmoved : goal.returns-in-Err-clause-unmoved
returns-in-Err-clause-unmoved g c =
    unmoved_stopped c.args.sink.now c.args.sink.now c.args.module.now c.answer_taken.new.module c.args.store.now c.answer_taken.new.store c.args.entropy.now c.answer_taken.new.entropy c.args.desk.now c.answer_taken.new.desk c.in-Err.stop c.in-Err.ensures.stops

pub returns-in-Err-clause-failed : goal.returns-in-Err-clause-failed
returns-in-Err-clause-failed g c = unappended (Err c.in-Err.stop) c.args.held.now c.args.trail.now c.args.sink.now

pub returns-in-Err-clause-untrailed : goal.returns-in-Err-clause-untrailed
returns-in-Err-clause-untrailed g c = λ unreplied uncut. refl

pub read_line-requires : goal.read_line-requires
read_line-requires g c = c.requires.at_end

pub returns-in-End-clause-bench : goal.returns-in-End-clause-bench
returns-in-End-clause-bench g c = c.requires.bench

pub returns-in-Err-ReadFault-clause-bench : goal.returns-in-Err-ReadFault-clause-bench
returns-in-Err-ReadFault-clause-bench g c = c.requires.bench

pub returns-in-Err-InputLimit-clause-bench : goal.returns-in-Err-InputLimit-clause-bench
returns-in-Err-InputLimit-clause-bench g c = c.requires.bench

pub returns-in-Ok-answer_taken-clause-failed : goal.returns-in-Ok-answer_taken-clause-failed
returns-in-Ok-answer_taken-clause-failed g c = c.append_and_send.ensures.failed

pub returns-in-Ok-answer_taken-clause-bench : goal.returns-in-Ok-answer_taken-clause-bench
returns-in-Ok-answer_taken-clause-bench g c = c.answer_taken.ensures.bench

pub returns-in-Err-clause-bench : goal.returns-in-Err-clause-bench
returns-in-Err-clause-bench g c = c.answer_taken.ensures.bench

pub append_and_send-requires-clause-trail : goal.append_and_send-requires-clause-trail
append_and_send-requires-clause-trail g c = c.requires.trail

pub append_and_send-requires-clause-held : goal.append_and_send-requires-clause-held
append_and_send-requires-clause-held g c = c.requires.held

pub append_and_send-requires-clause-entry : goal.append_and_send-requires-clause-entry
append_and_send-requires-clause-entry g c = c.entry_taken-entry.ensures.whole

pub answer_taken-requires-clause-shown : goal.answer_taken-requires-clause-shown
answer_taken-requires-clause-shown g c = c.in-Ok.ensures.shown

pub answer_taken-requires-clause-disks : goal.answer_taken-requires-clause-disks
answer_taken-requires-clause-disks g c = c.requires.disks

pub answer_taken-requires-clause-ready : goal.answer_taken-requires-clause-ready
answer_taken-requires-clause-ready g c = c.requires.ready

pub answer_taken-requires-clause-bench : goal.answer_taken-requires-clause-bench
answer_taken-requires-clause-bench g c = c.requires.bench

pub entry_taken-entry-requires : goal.entry_taken-entry-requires
entry_taken-entry-requires g c = c.in-Ok.ensures.shown

pub bytes-bytes-requires : goal.bytes-bytes-requires
bytes-bytes-requires g c = tt
