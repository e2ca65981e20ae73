-- Each clause from what was gathered.
use Rattle.std.proofs.Common.{◌<◌, ℕ, sym, ap, subst, ◌∙◌}
use Rattle.line_service.specs.Reading.{IsReady, bytes_ahead, input_limit}
use Rattle.line_service.specs.declared.lines.LineFault.TheVariants.{ReadFault, InputLimit}
use Rattle.line_service.specs.declared.lines.Taken.TheVariants.{End}
use Rattle.line_service.proofs.AnswerLemmas.{ok_not_err, err_not_ok, err_as, told-answers, told-end, told-no-end, told-counted, told-kept, told-no-limit, told-limit, judged-taken, judged-ended, shown, advances, emptied}
use Rattle.line_service.proofs.lines.read_line.Goals as goal

pub returns-in-Ok-clause-answer : goal.returns-in-Ok-clause-answer
returns-in-Ok-clause-answer g c =
    told-answers _ _ c.args.buffer.now c.drop_line.new.self c.gather.new.buffer c.judge.new.self c.in-Ok.whole c.judge.result
    (sym (ap (λ r. r.pending) c.drop_line.ensures.dropped)) c.in-Ok.ensures.gathered c.in-Ok.ensures.end c.judge.ensures

pub returns-in-Ok-clause-limit : goal.returns-in-Ok-clause-limit
returns-in-Ok-clause-limit g c =
    told-no-limit _ _ c.args.buffer.now c.drop_line.new.self c.gather.new.buffer c.judge.new.self c.in-Ok.whole c.judge.result
    (sym (ap (λ r. r.pending) c.drop_line.ensures.dropped)) (judged-taken c.in-Ok.whole c.judge.result _ _ c.judge.ensures)
    c.in-Ok.ensures.gathered c.in-Ok.ensures.end

pub returns-in-Err-clause-limit : goal.returns-in-Err-clause-limit
returns-in-Err-clause-limit g c =
    told-limit _ _ c.args.buffer.now c.drop_line.new.self c.gather.new.buffer c.put_back.new.self c.in-Err.fault
    (sym (ap (λ r. r.pending) c.drop_line.ensures.dropped)) (ap (λ r. r.taken) c.put_back.ensures.back)
    c.in-Err.ensures.gathered c.in-Err.ensures.going.1 c.in-Err.ensures.full c.in-Err.ensures.short

pub returns-in-Ok-clause-shown : goal.returns-in-Ok-clause-shown
returns-in-Ok-clause-shown g c = shown c.in-Ok.whole c.judge.result c.gather.new.buffer c.judge.new.self c.in-Ok.ensures.gathered.clean c.judge.ensures

pub returns-in-Ok-clause-advances : goal.returns-in-Ok-clause-advances
returns-in-Ok-clause-advances g c =
    advances _ _ c.in-Ok.whole c.judge.result c.args.buffer.now c.drop_line.new.self c.gather.new.buffer c.judge.new.self
    (ap bytes_ahead c.drop_line.ensures.dropped) c.in-Ok.ensures.gathered c.judge.ensures

pub returns-in-Ok-clause-end : goal.returns-in-Ok-clause-end
returns-in-Ok-clause-end g c =
    told-end _ _ c.args.buffer.now c.drop_line.new.self c.gather.new.buffer c.judge.new.self c.in-Ok.whole c.judge.result
    (sym (ap (λ r. r.pending) c.drop_line.ensures.dropped)) c.in-Ok.ensures.gathered c.in-Ok.ensures.end c.judge.ensures

pub returns-in-Ok-clause-ready : goal.returns-in-Ok-clause-ready
returns-in-Ok-clause-ready g c = λ ready. c.in-Ok.ensures.ready (subst IsReady (sym c.drop_line.ensures.dropped) ready)

pub returns-in-Ok-clause-ended : goal.returns-in-Ok-clause-ended
returns-in-Ok-clause-ended g c = λ is.
    judged-ended c.in-Ok.whole c.judge.result _ _ c.judge.ensures
    ∙ c.in-Ok.ensures.gathered.ended (ap (λ r. r.ended) c.drop_line.ensures.dropped ∙ is)

pub returns-in-Ok-clause-at_end : goal.returns-in-Ok-clause-at_end
returns-in-Ok-clause-at_end g c = λ is.
    c.in-Ok.ensures.gathered.at_end (sym (judged-ended c.in-Ok.whole c.judge.result _ _ c.judge.ensures) ∙ is)

pub returns-in-Ok-clause-counted : goal.returns-in-Ok-clause-counted
returns-in-Ok-clause-counted g c =
    told-counted _ _ _ c.args.buffer.now c.drop_line.new.self c.gather.new.buffer c.judge.new.self
    (sym (ap (λ r. r.taken) c.drop_line.ensures.dropped)) (judged-taken c.in-Ok.whole c.judge.result _ _ c.judge.ensures)
    c.in-Ok.ensures.gathered

pub returns-in-Err-clause-end : goal.returns-in-Err-clause-end
returns-in-Err-clause-end g c =
    told-no-end _ _ _ c.args.buffer.now c.drop_line.new.self c.gather.new.buffer c.put_back.new.self c.in-Err.fault
    (ap (λ r. r.ended) c.put_back.ensures.back ∙ c.in-Err.ensures.going.0) c.in-Err.ensures.gathered

pub returns-in-Err-clause-ready : goal.returns-in-Err-clause-ready
returns-in-Err-clause-ready g c = λ ready. c.in-Err.ensures.ready (subst IsReady (sym c.drop_line.ensures.dropped) ready)

pub returns-in-Err-clause-counted : goal.returns-in-Err-clause-counted
returns-in-Err-clause-counted g c =
    told-counted _ _ _ c.args.buffer.now c.drop_line.new.self c.gather.new.buffer c.put_back.new.self
    (sym (ap (λ r. r.taken) c.drop_line.ensures.dropped)) (ap (λ r. r.taken) c.put_back.ensures.back)
    c.in-Err.ensures.gathered

pub returns-in-Err-clause-emptied : goal.returns-in-Err-clause-emptied
returns-in-Err-clause-emptied g c =
    emptied c.gather.new.buffer c.put_back.new.self c.put_back.ensures.back c.in-Err.ensures.going.0

pub returns-in-Err-clause-kept : goal.returns-in-Err-clause-kept
returns-in-Err-clause-kept g c =
    told-kept _ _ c.args.buffer.now c.drop_line.new.self c.gather.new.buffer c.put_back.new.self
    (sym (ap (λ r. r.pending) c.drop_line.ensures.dropped)) c.in-Err.ensures.gathered c.in-Err.ensures.going.1 c.put_back.ensures.back

pub gather-requires-clause-at_end : goal.gather-requires-clause-at_end
gather-requires-clause-at_end g c = λ is. c.requires (sym (ap (λ r. r.ended) c.drop_line.ensures.dropped) ∙ is)

pub gather-requires-clause-empty : goal.gather-requires-clause-empty
gather-requires-clause-empty g c = ap (λ r. r.line) c.drop_line.ensures.dropped

pub gather-requires-clause-bounded : goal.gather-requires-clause-bounded
gather-requires-clause-bounded g c = c.drop_line.ensures.bounded

pub returns-in-Ok-clause-fault : goal.returns-in-Ok-clause-fault
returns-in-Ok-clause-fault g c h = absurd (ok_not_err c.judge.result ReadFault h)

pub returns-in-Ok-clause-later : goal.returns-in-Ok-clause-later
returns-in-Ok-clause-later g c = c.gather.ensures.later

pub returns-in-Ok-clause-quiet : goal.returns-in-Ok-clause-quiet
returns-in-Ok-clause-quiet g c never = c.in-Ok.ensures.quiet (ok_not_err c.in-Ok.whole ReadFault)

pub returns-in-Ok-clause-full : goal.returns-in-Ok-clause-full
returns-in-Ok-clause-full g c h = absurd (ok_not_err c.judge.result InputLimit h)

pub returns-in-Ok-clause-short : goal.returns-in-Ok-clause-short
returns-in-Ok-clause-short g c h = absurd (ok_not_err c.judge.result ReadFault h)

pub returns-in-Ok-clause-emptied : goal.returns-in-Ok-clause-emptied
returns-in-Ok-clause-emptied g c = tt

pub returns-in-Ok-clause-kept : goal.returns-in-Ok-clause-kept
returns-in-Ok-clause-kept g c = tt

pub returns-in-Err-clause-answer : goal.returns-in-Err-clause-answer
returns-in-Err-clause-answer g c = tt

pub returns-in-Err-clause-shown : goal.returns-in-Err-clause-shown
returns-in-Err-clause-shown g c = tt

pub returns-in-Err-clause-advances : goal.returns-in-Err-clause-advances
returns-in-Err-clause-advances g c = tt

pub returns-in-Err-clause-ends : goal.returns-in-Err-clause-ends
returns-in-Err-clause-ends g c h = absurd (err_not_ok c.in-Err.fault End h)

pub returns-in-Err-clause-fault : goal.returns-in-Err-clause-fault
returns-in-Err-clause-fault g c h = c.in-Err.ensures.fault (err_as c.in-Err.fault ReadFault h)

pub returns-in-Err-clause-later : goal.returns-in-Err-clause-later
returns-in-Err-clause-later g c = c.gather.ensures.later

pub returns-in-Err-clause-quiet : goal.returns-in-Err-clause-quiet
returns-in-Err-clause-quiet g c never = c.in-Err.ensures.quiet (λ h. never (err_as c.in-Err.fault ReadFault h))

pub returns-in-Err-clause-full : goal.returns-in-Err-clause-full
returns-in-Err-clause-full g c h = ap (λ r. r.taken) c.put_back.ensures.back ∙ c.in-Err.ensures.full (err_as c.in-Err.fault InputLimit h)

pub returns-in-Err-clause-short : goal.returns-in-Err-clause-short
returns-in-Err-clause-short g c h = subst (λ (n : ℕ). n < input_limit) (sym (ap (λ r. r.taken) c.put_back.ensures.back)) (c.in-Err.ensures.short (err_as c.in-Err.fault ReadFault h))

pub put_back-requires : goal.put_back-requires
put_back-requires g c = c.in-Err.ensures.going.1
