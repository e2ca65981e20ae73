-- Each part that moves and each read grow what was gathered.
use Rattle.std.proofs.Common.{◌≤◌, true, false, refl, sym, ap, subst, ◌∙◌, inl, inr}
use Rattle.std.proofs.lemmas.Bool.{iff_false}
use Rattle.device_cells.specs.Faults.{Rose}
use Rattle.line_service.specs.declared.lines.LineFault.TheVariants.{ReadFault, InputLimit}
use Rattle.line_service.proofs.AnswerLemmas.{ok_not_err, err_not_ok, true_not_false, limit_not_fault, fault_not_limit}
use Rattle.line_service.proofs.GatheringLemmas.{same-later, gathering-none, gathering-moved, gathering-cut, gathering-refilled, gathering-failed, not-ready}
use Rattle.line_service.proofs.lines.gather.Goals as goal

pub parts-init : goal.parts-init
parts-init g c = (
  gathering-none _ c.args.buffer.now c.requires.empty c.requires.at_end c.requires.bounded,
  refl,
  inl (refl, refl),
)

pub returns-then-move_part-clause-gathered : goal.returns-then-move_part-clause-gathered
returns-then-move_part-clause-gathered g c = gathering-cut _ _ _ _ _ c.parts.invariant.0 c.if-move_part.ensures

pub returns-then-has_ended-clause-gathered : goal.returns-then-has_ended-clause-gathered
returns-then-has_ended-clause-gathered g c = gathering-moved _ _ _ _ _ c.parts.invariant.0 c.if-move_part.ensures

pub returns-then-is_full-clause-gathered : goal.returns-then-is_full-clause-gathered
returns-then-is_full-clause-gathered g c = gathering-moved _ _ _ _ _ c.parts.invariant.0 c.if-move_part.ensures

pub returns-in-Err-clause-gathered : goal.returns-in-Err-clause-gathered
returns-in-Err-clause-gathered g c =
    gathering-failed _ _ _ _ _ (gathering-moved _ _ _ _ _ c.parts.invariant.0 c.if-move_part.ensures) _
    (sym c.has_ended.ensures ∙ c.if-has_ended.false) c.in-Err.ensures.kept c.in-Err.ensures.same

pub parts-preserved : goal.parts-preserved
parts-preserved g c =
    let moves = c.if-move_part.ensures in
    let going = sym c.has_ended.ensures ∙ c.if-has_ended.false in
    let short = iff_false c.is_full.ensures c.if-is_full.false in (
      gathering-refilled _ _ _ _ _ (gathering-moved _ _ _ _ _ c.parts.invariant.0 moves) _ (ap (λ r. r.pending) moves.1) c.in-Ok.ensures.ok,
      c.in-Ok.ensures.cause.quiet ∙ c.parts.invariant.1,
      inr (elim c.parts.invariant.2 [
        | inl unread ↦ not-ready c.args.buffer.now _ _ unread.1 moves going short
        | inr read ↦ read
      ]),
    )

-- the other clauses of each return
pub returns-then-move_part-clause-quiet : goal.returns-then-move_part-clause-quiet
returns-then-move_part-clause-quiet g c = λ other. c.parts.invariant.1

pub returns-then-move_part-clause-later : goal.returns-then-move_part-clause-later
returns-then-move_part-clause-later g c = same-later _ _ c.parts.invariant.1

pub returns-then-move_part-clause-ready : goal.returns-then-move_part-clause-ready
returns-then-move_part-clause-ready g c = λ ready. elim c.parts.invariant.2 [ inl unread ↦ unread.0 | inr read ↦ absurd (read ready) ]

pub returns-then-has_ended-clause-quiet : goal.returns-then-has_ended-clause-quiet
returns-then-has_ended-clause-quiet g c = λ other. c.parts.invariant.1

pub returns-then-has_ended-clause-later : goal.returns-then-has_ended-clause-later
returns-then-has_ended-clause-later g c = same-later _ _ c.parts.invariant.1

pub returns-then-has_ended-clause-ready : goal.returns-then-has_ended-clause-ready
returns-then-has_ended-clause-ready g c = λ ready. elim c.parts.invariant.2 [ inl unread ↦ unread.0 | inr read ↦ absurd (read ready) ]

pub returns-then-is_full-clause-quiet : goal.returns-then-is_full-clause-quiet
returns-then-is_full-clause-quiet g c = λ other. c.parts.invariant.1

pub returns-then-is_full-clause-later : goal.returns-then-is_full-clause-later
returns-then-is_full-clause-later g c = same-later _ _ c.parts.invariant.1

pub returns-then-is_full-clause-ready : goal.returns-then-is_full-clause-ready
returns-then-is_full-clause-ready g c = λ ready. elim c.parts.invariant.2 [ inl unread ↦ unread.0 | inr read ↦ absurd (read ready) ]

pub returns-then-has_ended-clause-end : goal.returns-then-has_ended-clause-end
returns-then-has_ended-clause-end g c = λ is. (sym c.has_ended.ensures ∙ c.if-has_ended.true, ap (λ r. r.pending) c.if-move_part.ensures.1)

pub returns-then-is_full-clause-going : goal.returns-then-is_full-clause-going
returns-then-is_full-clause-going g c = (sym c.has_ended.ensures ∙ c.if-has_ended.false, ap (λ r. r.pending) c.if-move_part.ensures.1)

pub returns-in-Err-clause-quiet : goal.returns-in-Err-clause-quiet
returns-in-Err-clause-quiet g c = λ other. absurd (other refl)

pub returns-in-Err-clause-later : goal.returns-in-Err-clause-later
returns-in-Err-clause-later g c = subst (λ count. count ≤ g.S.Source.faults c.refill.new.source) c.parts.invariant.1 c.in-Err.ensures.cause.later

pub returns-in-Err-clause-fault : goal.returns-in-Err-clause-fault
returns-in-Err-clause-fault g c = λ is. subst (λ count. Rose count (g.S.Source.faults c.refill.new.source)) c.parts.invariant.1 c.in-Err.ensures.cause.failed

pub returns-in-Err-clause-going : goal.returns-in-Err-clause-going
returns-in-Err-clause-going g c = (
  ap (λ r. r.ended) c.in-Err.ensures.same ∙ sym c.has_ended.ensures ∙ c.if-has_ended.false,
  ap (λ r. r.pending) (c.in-Err.ensures.same ∙ c.if-move_part.ensures.1),
)

pub returns-in-Err-clause-ready : goal.returns-in-Err-clause-ready
returns-in-Err-clause-ready g c = λ ready. absurd (elim c.parts.invariant.2 [
  | inl unread ↦ not-ready c.args.buffer.now _ _ unread.1 c.if-move_part.ensures (sym c.has_ended.ensures ∙ c.if-has_ended.false) (iff_false c.is_full.ensures c.if-is_full.false) ready
  | inr read ↦ read ready
])

pub returns-then-move_part-clause-end : goal.returns-then-move_part-clause-end
returns-then-move_part-clause-end g c h = absurd (true_not_false h)

pub returns-then-move_part-clause-going : goal.returns-then-move_part-clause-going
returns-then-move_part-clause-going g c = tt

pub returns-then-move_part-clause-full : goal.returns-then-move_part-clause-full
returns-then-move_part-clause-full g c h = absurd (ok_not_err true InputLimit h)

pub returns-then-move_part-clause-short : goal.returns-then-move_part-clause-short
returns-then-move_part-clause-short g c h = absurd (ok_not_err true ReadFault h)

pub returns-then-move_part-clause-fault : goal.returns-then-move_part-clause-fault
returns-then-move_part-clause-fault g c h = absurd (ok_not_err true ReadFault h)

pub returns-then-has_ended-clause-going : goal.returns-then-has_ended-clause-going
returns-then-has_ended-clause-going g c = tt

pub returns-then-has_ended-clause-full : goal.returns-then-has_ended-clause-full
returns-then-has_ended-clause-full g c h = absurd (ok_not_err false InputLimit h)

pub returns-then-has_ended-clause-short : goal.returns-then-has_ended-clause-short
returns-then-has_ended-clause-short g c h = absurd (ok_not_err false ReadFault h)

pub returns-then-has_ended-clause-fault : goal.returns-then-has_ended-clause-fault
returns-then-has_ended-clause-fault g c h = absurd (ok_not_err false ReadFault h)

pub returns-then-is_full-clause-end : goal.returns-then-is_full-clause-end
returns-then-is_full-clause-end g c h = absurd (err_not_ok InputLimit false h)

pub returns-then-is_full-clause-full : goal.returns-then-is_full-clause-full
returns-then-is_full-clause-full g c h = c.is_full.ensures.0 c.if-is_full.true

pub returns-then-is_full-clause-short : goal.returns-then-is_full-clause-short
returns-then-is_full-clause-short g c h = absurd (limit_not_fault h)

pub returns-then-is_full-clause-fault : goal.returns-then-is_full-clause-fault
returns-then-is_full-clause-fault g c h = absurd (limit_not_fault h)

pub returns-in-Err-clause-end : goal.returns-in-Err-clause-end
returns-in-Err-clause-end g c h = absurd (err_not_ok ReadFault false h)

pub returns-in-Err-clause-full : goal.returns-in-Err-clause-full
returns-in-Err-clause-full g c h = absurd (fault_not_limit h)

pub refill-requires-clause-used : goal.refill-requires-clause-used
refill-requires-clause-used g c = ap (λ r. r.pending) c.if-move_part.ensures.1

pub refill-requires-clause-going : goal.refill-requires-clause-going
refill-requires-clause-going g c = sym c.has_ended.ensures ∙ c.if-has_ended.false
