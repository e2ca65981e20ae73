-- What a line leaves, by how far it came.
use Rattle.std.proofs.Common.{◌≡◌, ◌++◌, ℕ, List, None, Ok, Err, ap, subst, sym, refl, inl, inr}
use Rattle.device_cells.specs.WhereTold.{WhereTold}
use Rattle.line_service.specs.Devices.{devices, outside}
use Rattle.line_service.specs.Machine.{world}
use Rattle.line_service.specs.Sending.{GotPart}
use Rattle.line_service.specs.declared.serving.Served.TheVariants.{Replied, Ended}
use Rattle.line_service.specs.declared.stops.Stop.TheVariants.{ReadFault, WriteFault, InputLimit}
use Rattle.line_service.proofs.AnsweredLemmas.{cut_undamaged, done_undamaged, outside_cut, outside_replied, outside_stopped, outside_untouched, cut_of_sink, replied_of_sink, spares_else, spares_on, unanswered_undamaged, undamaged_answered, undamaged_stopped, undamaged_untouched, unmoved_cut, unmoved_replied, unmoved_stopped, unmoved_untouched}
use Rattle.line_service.proofs.LineLemmas.{line_replied, line_cut, line_lost, line_ended, line_unread, line_over}
use Rattle.line_service.proofs.TakenLemmas.{line_was_taken, no_line_was_taken, over_not_failed, answered_replied, answered_cut, answered_stop, read_ended, read_failed, read_over}
use Rattle.line_service.proofs.serving.serve_one.Goals as goal
use Rattle.key_cells.proofs.AnswerLemmas.{no_err}
use Rattle.line_service.proofs.RepliedLemmas.{got_reply}
use Rattle.line_service.proofs.StopLemmas.{ended_unsent, over_not_unread}

pub returns-in-Ok-send-clause-serves : goal.returns-in-Ok-send-clause-serves
returns-in-Ok-send-clause-serves g c = λ s stands.
    line_replied g.A.Desk.machine s (g.A.Desk.knows c.answer_taken.new.desk) c.in-Ok.taken c.read_line.new.buffer c.in_default.not-End c.answer_taken.new.reply
    (world (g.M.Disk.medium c.args.module.now) (g.D.Disk.medium c.args.store.now) (g.E.Entropy.left c.args.entropy.now))
    (world (g.M.Disk.medium c.answer_taken.new.module) (g.D.Disk.medium c.answer_taken.new.store) (g.E.Entropy.left c.answer_taken.new.entropy))
    tt (c.in-Ok-answer_taken.ensures.serves s stands) c.args.lines.now
    (g.S.Source.left c.args.source.now) (g.S.Source.left c.read_line.new.source) (g.K.Sink.held c.args.sink.now) (g.K.Sink.held c.send.new.sink)
    c.in-Ok.ensures.answer
    (subst (λ (bytes : List ℕ). WhereTold (g.K.Sink.held c.args.sink.now) (g.K.Sink.held c.send.new.sink) (λ x y. y ≡ x ++ bytes)) c.bytes.ensures.bytes c.in-Ok-send.ensures.all)

pub returns-in-Err-send-clause-serves : goal.returns-in-Err-send-clause-serves
returns-in-Err-send-clause-serves g c = λ s stands.
    line_cut g.A.Desk.machine s (g.A.Desk.knows c.answer_taken.new.desk) c.in-Ok.taken c.read_line.new.buffer c.in_default.not-End c.answer_taken.new.reply
    (world (g.M.Disk.medium c.args.module.now) (g.D.Disk.medium c.args.store.now) (g.E.Entropy.left c.args.entropy.now))
    (world (g.M.Disk.medium c.answer_taken.new.module) (g.D.Disk.medium c.answer_taken.new.store) (g.E.Entropy.left c.answer_taken.new.entropy))
    tt (c.in-Ok-answer_taken.ensures.serves s stands) c.args.lines.now
    (g.S.Source.left c.args.source.now) (g.S.Source.left c.read_line.new.source) (g.K.Sink.held c.args.sink.now) (g.K.Sink.held c.send.new.sink)
    c.in-Ok.ensures.answer
    (subst (λ (bytes : List ℕ). WhereTold (g.K.Sink.held c.args.sink.now) (g.K.Sink.held c.send.new.sink) (λ x y. GotPart x y bytes)) c.bytes.ensures.bytes c.in-Err-send.ensures.part)

pub returns-in-Err-clause-serves : goal.returns-in-Err-clause-serves
returns-in-Err-clause-serves g c = λ s stands.
    line_lost g.A.Desk.machine s (g.A.Desk.knows c.answer_taken.new.desk) c.in-Ok.taken c.read_line.new.buffer c.in_default.not-End c.answer_taken.new.reply
    (world (g.M.Disk.medium c.args.module.now) (g.D.Disk.medium c.args.store.now) (g.E.Entropy.left c.args.entropy.now))
    (world (g.M.Disk.medium c.answer_taken.new.module) (g.D.Disk.medium c.answer_taken.new.store) (g.E.Entropy.left c.answer_taken.new.entropy))
    c.in-Err.stop (c.in-Err.ensures.serves s stands) c.args.lines.now
    (g.S.Source.left c.args.source.now) (g.S.Source.left c.read_line.new.source) (g.K.Sink.held c.args.sink.now) (g.K.Sink.held c.args.sink.now)
    c.in-Ok.ensures.answer

pub returns-in-End-clause-serves : goal.returns-in-End-clause-serves
returns-in-End-clause-serves g c = λ s stands.
    line_ended g.A.Desk.machine s (g.A.Desk.knows c.args.desk.now) (world (g.M.Disk.medium c.args.module.now) (g.D.Disk.medium c.args.store.now) (g.E.Entropy.left c.args.entropy.now))
    (g.S.Source.left c.args.source.now) (g.S.Source.left c.read_line.new.source) (g.K.Sink.held c.args.sink.now) (g.K.Sink.held c.args.sink.now)
    c.args.lines.now c.read_line.new.buffer _ c.read_line.ensures.counted stands c.requires.disks.module_settled c.requires.disks.store_settled

pub returns-in-Err-ReadFault-clause-serves : goal.returns-in-Err-ReadFault-clause-serves
returns-in-Err-ReadFault-clause-serves g c = λ s stands.
    line_unread g.A.Desk.machine s (g.A.Desk.knows c.args.desk.now) (world (g.M.Disk.medium c.args.module.now) (g.D.Disk.medium c.args.store.now) (g.E.Entropy.left c.args.entropy.now))
    (g.S.Source.left c.args.source.now) (g.S.Source.left c.read_line.new.source) (g.K.Sink.held c.args.sink.now) (g.K.Sink.held c.args.sink.now)
    c.args.lines.now c.read_line.new.buffer _ c.read_line.ensures.counted stands c.requires.disks.module_settled c.requires.disks.store_settled

pub returns-in-Err-InputLimit-clause-serves : goal.returns-in-Err-InputLimit-clause-serves
returns-in-Err-InputLimit-clause-serves g c = λ s stands.
    line_over g.A.Desk.machine s (g.A.Desk.knows c.args.desk.now) (world (g.M.Disk.medium c.args.module.now) (g.D.Disk.medium c.args.store.now) (g.E.Entropy.left c.args.entropy.now))
    (g.S.Source.left c.args.source.now) (g.S.Source.left c.read_line.new.source) (g.K.Sink.held c.args.sink.now) (g.K.Sink.held c.args.sink.now)
    c.args.lines.now c.read_line.new.buffer _ c.read_line.ensures.counted stands c.requires.disks.module_settled c.requires.disks.store_settled

pub returns-in-Ok-send-clause-taken : goal.returns-in-Ok-send-clause-taken
returns-in-Ok-send-clause-taken g c =
    line_was_taken c.in-Ok.taken c.in_default.not-End _ c.args.lines.now c.read_line.new.buffer c.in-Ok.ensures.answer c.in-Ok.ensures.shown c.in-Ok.ensures.advances c.in-Ok.ensures.end
    c.read_line.ensures.ended c.read_line.ensures.at_end c.read_line.ensures.counted c.read_line.ensures.within c.in-Ok.ensures.limit _ answered_replied

pub returns-in-Err-send-clause-taken : goal.returns-in-Err-send-clause-taken
returns-in-Err-send-clause-taken g c =
    line_was_taken c.in-Ok.taken c.in_default.not-End _ c.args.lines.now c.read_line.new.buffer c.in-Ok.ensures.answer c.in-Ok.ensures.shown c.in-Ok.ensures.advances c.in-Ok.ensures.end
    c.read_line.ensures.ended c.read_line.ensures.at_end c.read_line.ensures.counted c.read_line.ensures.within c.in-Ok.ensures.limit _ answered_cut

pub returns-in-Err-clause-taken : goal.returns-in-Err-clause-taken
returns-in-Err-clause-taken g c =
    line_was_taken c.in-Ok.taken c.in_default.not-End _ c.args.lines.now c.read_line.new.buffer c.in-Ok.ensures.answer c.in-Ok.ensures.shown c.in-Ok.ensures.advances c.in-Ok.ensures.end
    c.read_line.ensures.ended c.read_line.ensures.at_end c.read_line.ensures.counted c.read_line.ensures.within c.in-Ok.ensures.limit _ (answered_stop c.in-Err.stop c.in-Err.ensures.stops)

pub returns-in-End-clause-taken : goal.returns-in-End-clause-taken
returns-in-End-clause-taken g c =
    no_line_was_taken (Ok c.in-Ok.taken) _ c.args.lines.now c.read_line.new.buffer _ (read_ended _ c.in-End.is) c.in-Ok.ensures.answer c.in-Ok.ensures.shown c.in-Ok.ensures.end c.read_line.ensures.ended c.in-Ok.ensures.ends
    c.read_line.ensures.at_end c.read_line.ensures.counted c.read_line.ensures.within c.read_line.ensures.early c.in-Ok.ensures.limit c.in-Ok.ensures.full c.in-Ok.ensures.short tt tt

pub returns-in-Err-ReadFault-clause-taken : goal.returns-in-Err-ReadFault-clause-taken
returns-in-Err-ReadFault-clause-taken g c =
    no_line_was_taken (Err c.in-Err-ReadFault.field-0) _ c.args.lines.now c.read_line.new.buffer _ (read_failed _ c.in-Err-ReadFault.field-0-is) tt tt c.in-Err-ReadFault.ensures.end c.read_line.ensures.ended c.in-Err-ReadFault.ensures.ends
    c.read_line.ensures.at_end c.read_line.ensures.counted c.read_line.ensures.within c.read_line.ensures.early c.in-Err-ReadFault.ensures.limit c.in-Err-ReadFault.ensures.full c.in-Err-ReadFault.ensures.short c.in-Err-ReadFault.ensures.emptied c.in-Err-ReadFault.ensures.kept

pub returns-in-Err-InputLimit-clause-taken : goal.returns-in-Err-InputLimit-clause-taken
returns-in-Err-InputLimit-clause-taken g c =
    no_line_was_taken (Err c.in-Err-InputLimit.field-0) _ c.args.lines.now c.read_line.new.buffer _ (read_over _ c.in-Err-InputLimit.field-0-is) tt tt c.in-Err-InputLimit.ensures.end c.read_line.ensures.ended c.in-Err-InputLimit.ensures.ends
    c.read_line.ensures.at_end c.read_line.ensures.counted c.read_line.ensures.within c.read_line.ensures.early c.in-Err-InputLimit.ensures.limit c.in-Err-InputLimit.ensures.full c.in-Err-InputLimit.ensures.short c.in-Err-InputLimit.ensures.emptied c.in-Err-InputLimit.ensures.kept

pub returns-in-Ok-send-clause-left : goal.returns-in-Ok-send-clause-left
returns-in-Ok-send-clause-left g c =
    outside_replied (record {
      old = outside (g.S.Source.left c.args.source.now) (g.S.Source.faults c.args.source.now) (g.K.Sink.held c.args.sink.now) (g.K.Sink.faults c.args.sink.now)
          (devices (g.M.Disk.medium c.args.module.now) (g.M.Disk.faults c.args.module.now) (g.D.Disk.medium c.args.store.now) (g.D.Disk.faults c.args.store.now) (g.E.Entropy.left c.args.entropy.now) (g.E.Entropy.faults c.args.entropy.now));
      new = outside (g.S.Source.left c.read_line.new.source) (g.S.Source.faults c.read_line.new.source) (g.K.Sink.held c.send.new.sink) (g.K.Sink.faults c.send.new.sink)
          (devices (g.M.Disk.medium c.answer_taken.new.module) (g.M.Disk.faults c.answer_taken.new.module) (g.D.Disk.medium c.answer_taken.new.store) (g.D.Disk.faults c.answer_taken.new.store) (g.E.Entropy.left c.answer_taken.new.entropy) (g.E.Entropy.faults c.answer_taken.new.entropy));
    })
    c.read_line.ensures.later (c.in-Ok.ensures.quiet (λ h. no_err h)) c.in-Ok-answer_taken.ensures.left
    c.send.ensures.cause.later _ c.in-Ok-send.ensures.cause.quiet c.in-Ok-send.ensures.all

pub returns-in-Err-send-clause-left : goal.returns-in-Err-send-clause-left
returns-in-Err-send-clause-left g c =
    outside_cut (record {
      old = outside (g.S.Source.left c.args.source.now) (g.S.Source.faults c.args.source.now) (g.K.Sink.held c.args.sink.now) (g.K.Sink.faults c.args.sink.now)
          (devices (g.M.Disk.medium c.args.module.now) (g.M.Disk.faults c.args.module.now) (g.D.Disk.medium c.args.store.now) (g.D.Disk.faults c.args.store.now) (g.E.Entropy.left c.args.entropy.now) (g.E.Entropy.faults c.args.entropy.now));
      new = outside (g.S.Source.left c.read_line.new.source) (g.S.Source.faults c.read_line.new.source) (g.K.Sink.held c.send.new.sink) (g.K.Sink.faults c.send.new.sink)
          (devices (g.M.Disk.medium c.answer_taken.new.module) (g.M.Disk.faults c.answer_taken.new.module) (g.D.Disk.medium c.answer_taken.new.store) (g.D.Disk.faults c.answer_taken.new.store) (g.E.Entropy.left c.answer_taken.new.entropy) (g.E.Entropy.faults c.answer_taken.new.entropy));
    })
    c.read_line.ensures.later (c.in-Ok.ensures.quiet (λ h. no_err h)) c.in-Ok-answer_taken.ensures.left
    c.send.ensures.cause.later _ c.in-Err-send.ensures.cause.failed c.in-Err-send.ensures.part

pub returns-in-Err-clause-left : goal.returns-in-Err-clause-left
returns-in-Err-clause-left g c =
    outside_stopped g.A.Desk.machine c.in-Err.stop c.in-Err.ensures.stops
    (record { old = (devices (g.M.Disk.medium c.args.module.now) (g.M.Disk.faults c.args.module.now) (g.D.Disk.medium c.args.store.now) (g.D.Disk.faults c.args.store.now) (g.E.Entropy.left c.args.entropy.now) (g.E.Entropy.faults c.args.entropy.now)); new = (devices (g.M.Disk.medium c.answer_taken.new.module) (g.M.Disk.faults c.answer_taken.new.module) (g.D.Disk.medium c.answer_taken.new.store) (g.D.Disk.faults c.answer_taken.new.store) (g.E.Entropy.left c.answer_taken.new.entropy) (g.E.Entropy.faults c.answer_taken.new.entropy)) })
    (g.S.Source.left c.args.source.now) (g.S.Source.left c.read_line.new.source) (g.K.Sink.held c.args.sink.now)
    (g.S.Source.faults c.args.source.now) (g.S.Source.faults c.read_line.new.source) (g.K.Sink.faults c.args.sink.now)
    c.read_line.ensures.later (c.in-Ok.ensures.quiet (λ h. no_err h)) c.in-Err.ensures.left

pub returns-in-End-clause-left : goal.returns-in-End-clause-left
returns-in-End-clause-left g c =
    outside_untouched (devices (g.M.Disk.medium c.args.module.now) (g.M.Disk.faults c.args.module.now) (g.D.Disk.medium c.args.store.now) (g.D.Disk.faults c.args.store.now) (g.E.Entropy.left c.args.entropy.now) (g.E.Entropy.faults c.args.entropy.now))
    (g.S.Source.left c.args.source.now) (g.S.Source.left c.read_line.new.source) (g.K.Sink.held c.args.sink.now) (g.S.Source.faults c.args.source.now) (g.S.Source.faults c.read_line.new.source) (g.K.Sink.faults c.args.sink.now) (Ok Ended) (inl refl) c.requires.disks.module_settled c.requires.disks.store_settled
    (record { later = c.read_line.ensures.later; fault = λ h. absurd (no_err h); quiet = λ none. c.in-Ok.ensures.quiet (λ h. no_err h) })

pub returns-in-Err-ReadFault-clause-left : goal.returns-in-Err-ReadFault-clause-left
returns-in-Err-ReadFault-clause-left g c =
    outside_untouched (devices (g.M.Disk.medium c.args.module.now) (g.M.Disk.faults c.args.module.now) (g.D.Disk.medium c.args.store.now) (g.D.Disk.faults c.args.store.now) (g.E.Entropy.left c.args.entropy.now) (g.E.Entropy.faults c.args.entropy.now))
    (g.S.Source.left c.args.source.now) (g.S.Source.left c.read_line.new.source) (g.K.Sink.held c.args.sink.now) (g.S.Source.faults c.args.source.now) (g.S.Source.faults c.read_line.new.source) (g.K.Sink.faults c.args.sink.now) (Err ReadFault) (inr (inl refl)) c.requires.disks.module_settled c.requires.disks.store_settled
    (record { later = c.read_line.ensures.later; fault = λ h. c.in-Err-ReadFault.ensures.fault (ap Err c.in-Err-ReadFault.field-0-is); quiet = λ none. absurd (none refl) })

pub returns-in-Err-InputLimit-clause-left : goal.returns-in-Err-InputLimit-clause-left
returns-in-Err-InputLimit-clause-left g c =
    outside_untouched (devices (g.M.Disk.medium c.args.module.now) (g.M.Disk.faults c.args.module.now) (g.D.Disk.medium c.args.store.now) (g.D.Disk.faults c.args.store.now) (g.E.Entropy.left c.args.entropy.now) (g.E.Entropy.faults c.args.entropy.now))
    (g.S.Source.left c.args.source.now) (g.S.Source.left c.read_line.new.source) (g.K.Sink.held c.args.sink.now) (g.S.Source.faults c.args.source.now) (g.S.Source.faults c.read_line.new.source) (g.K.Sink.faults c.args.sink.now) (Err InputLimit) (inr (inr refl)) c.requires.disks.module_settled c.requires.disks.store_settled
    (record {
      later = c.read_line.ensures.later;
      fault = λ h. absurd (over_not_unread h);
      quiet = λ none. c.in-Err-InputLimit.ensures.quiet (over_not_failed c.in-Err-InputLimit.field-0 c.in-Err-InputLimit.field-0-is);
    })

pub returns-in-Ok-send-clause-undamaged : goal.returns-in-Ok-send-clause-undamaged
returns-in-Ok-send-clause-undamaged g c =
    undamaged_answered g.A.Desk.machine (devices (g.M.Disk.medium c.args.module.now) (g.M.Disk.faults c.args.module.now) (g.D.Disk.medium c.args.store.now) (g.D.Disk.faults c.args.store.now) None 0) (Ok Replied) replied_of_sink

pub returns-in-Err-send-clause-undamaged : goal.returns-in-Err-send-clause-undamaged
returns-in-Err-send-clause-undamaged g c =
    undamaged_answered g.A.Desk.machine (devices (g.M.Disk.medium c.args.module.now) (g.M.Disk.faults c.args.module.now) (g.D.Disk.medium c.args.store.now) (g.D.Disk.faults c.args.store.now) None 0) (Err WriteFault) cut_of_sink

pub returns-in-Err-clause-undamaged : goal.returns-in-Err-clause-undamaged
returns-in-Err-clause-undamaged g c =
    undamaged_stopped g.A.Desk.machine (devices (g.M.Disk.medium c.args.module.now) (g.M.Disk.faults c.args.module.now) (g.D.Disk.medium c.args.store.now) (g.D.Disk.faults c.args.store.now) None 0) c.in-Err.stop c.in-Err.ensures.undamaged

pub returns-in-End-clause-undamaged : goal.returns-in-End-clause-undamaged
returns-in-End-clause-undamaged g c =
    undamaged_untouched g.A.Desk.machine (devices (g.M.Disk.medium c.args.module.now) (g.M.Disk.faults c.args.module.now) (g.D.Disk.medium c.args.store.now) (g.D.Disk.faults c.args.store.now) None 0) (Ok Ended) (inl refl)

pub returns-in-Err-ReadFault-clause-undamaged : goal.returns-in-Err-ReadFault-clause-undamaged
returns-in-Err-ReadFault-clause-undamaged g c =
    undamaged_untouched g.A.Desk.machine (devices (g.M.Disk.medium c.args.module.now) (g.M.Disk.faults c.args.module.now) (g.D.Disk.medium c.args.store.now) (g.D.Disk.faults c.args.store.now) None 0) (Err ReadFault) (inr (inl refl))

pub returns-in-Err-InputLimit-clause-undamaged : goal.returns-in-Err-InputLimit-clause-undamaged
returns-in-Err-InputLimit-clause-undamaged g c =
    undamaged_untouched g.A.Desk.machine (devices (g.M.Disk.medium c.args.module.now) (g.M.Disk.faults c.args.module.now) (g.D.Disk.medium c.args.store.now) (g.D.Disk.faults c.args.store.now) None 0) (Err InputLimit) (inr (inr refl))

pub returns-in-Ok-send-clause-unmoved : goal.returns-in-Ok-send-clause-unmoved
returns-in-Ok-send-clause-unmoved g c =
    unmoved_replied c.args.sink.now c.send.new.sink c.args.module.now c.answer_taken.new.module c.args.store.now c.answer_taken.new.store c.args.entropy.now c.answer_taken.new.entropy c.args.desk.now c.answer_taken.new.desk

pub returns-in-Err-send-clause-unmoved : goal.returns-in-Err-send-clause-unmoved
returns-in-Err-send-clause-unmoved g c =
    unmoved_cut c.args.sink.now c.send.new.sink c.args.module.now c.answer_taken.new.module c.args.store.now c.answer_taken.new.store c.args.entropy.now c.answer_taken.new.entropy c.args.desk.now c.answer_taken.new.desk

pub returns-in-Err-clause-unmoved : goal.returns-in-Err-clause-unmoved
returns-in-Err-clause-unmoved g c =
    unmoved_stopped c.args.sink.now c.args.sink.now c.args.module.now c.answer_taken.new.module c.args.store.now c.answer_taken.new.store c.args.entropy.now c.answer_taken.new.entropy c.args.desk.now c.answer_taken.new.desk c.in-Err.stop c.in-Err.ensures.stops

pub returns-in-End-clause-unmoved : goal.returns-in-End-clause-unmoved
returns-in-End-clause-unmoved g c =
    unmoved_untouched (Ok Ended) c.args.sink.now c.args.module.now c.args.store.now c.args.entropy.now c.args.desk.now

pub returns-in-Err-ReadFault-clause-unmoved : goal.returns-in-Err-ReadFault-clause-unmoved
returns-in-Err-ReadFault-clause-unmoved g c =
    unmoved_untouched (Err ReadFault) c.args.sink.now c.args.module.now c.args.store.now c.args.entropy.now c.args.desk.now

pub returns-in-Err-InputLimit-clause-unmoved : goal.returns-in-Err-InputLimit-clause-unmoved
returns-in-Err-InputLimit-clause-unmoved g c =
    unmoved_untouched (Err InputLimit) c.args.sink.now c.args.module.now c.args.store.now c.args.entropy.now c.args.desk.now

pub returns-in-Ok-send-clause-unread : goal.returns-in-Ok-send-clause-unread
returns-in-Ok-send-clause-unread g c = c.read_line.ensures.ready

pub returns-in-Err-send-clause-unread : goal.returns-in-Err-send-clause-unread
returns-in-Err-send-clause-unread g c = c.read_line.ensures.ready

pub returns-in-Err-clause-unread : goal.returns-in-Err-clause-unread
returns-in-Err-clause-unread g c = c.read_line.ensures.ready

pub returns-in-End-clause-unread : goal.returns-in-End-clause-unread
returns-in-End-clause-unread g c = c.read_line.ensures.ready

pub returns-in-Err-ReadFault-clause-unread : goal.returns-in-Err-ReadFault-clause-unread
returns-in-Err-ReadFault-clause-unread g c = c.read_line.ensures.ready

pub returns-in-Err-InputLimit-clause-unread : goal.returns-in-Err-InputLimit-clause-unread
returns-in-Err-InputLimit-clause-unread g c = c.read_line.ensures.ready

pub returns-in-Ok-send-clause-replied : goal.returns-in-Ok-send-clause-replied
returns-in-Ok-send-clause-replied g c = λ is.
    got_reply (g.K.Sink.held c.args.sink.now) (g.K.Sink.held c.send.new.sink) c.bytes.result.now c.answer_taken.new.reply c.bytes.ensures.bytes
    (c.in-Ok-answer_taken.ensures.line c.in_default.not-End) c.in-Ok-send.ensures.all

pub returns-in-Err-send-clause-replied : goal.returns-in-Err-send-clause-replied
returns-in-Err-send-clause-replied g c = λ is. absurd (no_err (sym is))

pub returns-in-Err-clause-replied : goal.returns-in-Err-clause-replied
returns-in-Err-clause-replied g c = λ is. absurd (no_err (sym is))

pub returns-in-End-clause-replied : goal.returns-in-End-clause-replied
returns-in-End-clause-replied g c = λ is. absurd (ended_unsent (Ok Ended) refl is)

pub returns-in-Err-ReadFault-clause-replied : goal.returns-in-Err-ReadFault-clause-replied
returns-in-Err-ReadFault-clause-replied g c = λ is. absurd (no_err (sym is))

pub returns-in-Err-InputLimit-clause-replied : goal.returns-in-Err-InputLimit-clause-replied
returns-in-Err-InputLimit-clause-replied g c = λ is. absurd (no_err (sym is))

pub returns-in-Ok-send-clause-damaged : goal.returns-in-Ok-send-clause-damaged
returns-in-Ok-send-clause-damaged g c = spares_else (Ok Replied) (done_undamaged Replied)

pub returns-in-Err-send-clause-damaged : goal.returns-in-Err-send-clause-damaged
returns-in-Err-send-clause-damaged g c = spares_else (Err WriteFault) cut_undamaged

pub returns-in-Err-clause-damaged : goal.returns-in-Err-clause-damaged
returns-in-Err-clause-damaged g c = spares_on c.in-Err.stop c.in-Err.ensures.damaged

pub returns-in-End-clause-damaged : goal.returns-in-End-clause-damaged
returns-in-End-clause-damaged g c = spares_else (Ok Ended) (done_undamaged Ended)

pub returns-in-Err-ReadFault-clause-damaged : goal.returns-in-Err-ReadFault-clause-damaged
returns-in-Err-ReadFault-clause-damaged g c = spares_else (Err ReadFault) (unanswered_undamaged (Err ReadFault) (inr (inl refl)))

pub returns-in-Err-InputLimit-clause-damaged : goal.returns-in-Err-InputLimit-clause-damaged
returns-in-Err-InputLimit-clause-damaged g c = spares_else (Err InputLimit) (unanswered_undamaged (Err InputLimit) (inr (inr refl)))
