use Rattle.std.proofs.Common.{◌≡◌, ◌+◌, ◌-◌, ◌<◌, ◌≤◌, length, sym, ◌∙◌, subst, arith}
use borrow.Rule.Slice.PartMut.{put_mid}
use Rattle.device_cells.specs.Faults.{Rose}
use Rattle.key_transport.specs.declared.generating.GenerateFault.TheVariants.{Failed, Repeated}
use Rattle.key_transport.proofs.FailLaws.{failed_on, no_fault, not_drawn, not_quiet, not_repeated, other_fault}
use Rattle.key_transport.proofs.HalfLemmas.{HaveDrawn, drawn_again, drawn_apart, drawn_same, first_drawn}
use Rattle.key_transport.proofs.generating.fill_unique.Goals as goal

pub loop-again-init : goal.loop-again-init
loop-again-init g c = record {
  drawn = first_drawn (g.E.Entropy.left c.args.entropy.now) (g.E.Entropy.left c.fill.new.self) c.fill.new.out (omega (arith, c.told-key)) c.in_ok-fill.ensures.bytes;
  quiet = c.in_ok-fill.ensures.quiet;
}

pub returns-then-not-has_same_halves-clause-drawn : goal.returns-then-not-has_same_halves-clause-drawn
returns-then-not-has_same_halves-clause-drawn g c =
    let n = c.loop-again._again - 1 in
    let few : n < 8 = omega (arith, c.loop-again-test.true) in
    drawn_apart n (g.E.Entropy.left c.args.entropy.now) (g.E.Entropy.left c.loop-again.entropy) c.loop-again.key few
    (sym c.has_same_halves.ensures ∙ c.if-not-has_same_halves.true) c.loop-again.invariant.drawn

pub loop-again-preserved : goal.loop-again-preserved
loop-again-preserved g c =
    let key = c.loop-again.key in
    let right = c.fill-in-loop-again.new.out in
    let before = g.E.Entropy.left c.args.entropy.now in
    let between = g.E.Entropy.left c.loop-again.entropy in
    let after = g.E.Entropy.left c.fill-in-loop-again.new.self in
    let n = c.loop-again._again - 1 in
    let once_more : n + 1 ≡ c.loop-again._again + 1 - 1 = omega (arith, c.loop-again.auto._again) in
    let long : length right ≡ 8 = omega (arith, c.loop-again.invariant.drawn.long) in
    let drawn = drawn_again n before between after key right long
    (sym c.has_same_halves.ensures ∙ c.if-not-has_same_halves.false) c.loop-again.invariant.drawn c.in_ok-fill-2.ensures.bytes in
    record {
      drawn = subst (λ k. HaveDrawn k before after (put_mid 8 8 key right)) once_more drawn;
      quiet = c.in_ok-fill-2.ensures.quiet ∙ c.loop-again.invariant.quiet;
    }

pub returns-then-has_same_halves-clause-repeated : goal.returns-then-has_same_halves-clause-repeated
returns-then-has_same_halves-clause-repeated g c _ =
    let key = c.loop-again.key in
    let before = g.E.Entropy.left c.args.entropy.now in
    let after = g.E.Entropy.left c.loop-again.entropy in
    let seven : c.loop-again._again - 1 ≡ 7 = omega (arith, c.loop-again-test.false) in
    drawn_same before after key (sym c.has_same_halves-2.ensures ∙ c.if-has_same_halves.true)
    (subst (λ k. HaveDrawn k before after key) seven c.loop-again.invariant.drawn)

pub returns-clause-drawn : goal.returns-clause-drawn
returns-clause-drawn g c =
    let n = c.loop-again._again - 1 in
    let few : n < 8 = omega arith in
    drawn_apart n (g.E.Entropy.left c.args.entropy.now) (g.E.Entropy.left c.loop-again.entropy) c.loop-again.key few
    (sym c.has_same_halves-2.ensures ∙ c.if-has_same_halves.false) c.loop-again.invariant.drawn

pub returns-in_err-fill-clause-drawn : goal.returns-in_err-fill-clause-drawn
returns-in_err-fill-clause-drawn g c = not_drawn c.from_residual.result (failed_on c.from_residual.result c.from_residual.ensures) _

pub returns-in_err-fill-clause-repeated : goal.returns-in_err-fill-clause-repeated
returns-in_err-fill-clause-repeated g c = not_repeated c.from_residual.result (failed_on c.from_residual.result c.from_residual.ensures)

pub returns-in_err-fill-clause-later : goal.returns-in_err-fill-clause-later
returns-in_err-fill-clause-later g c = c.fill.ensures.cause.later

pub returns-in_err-fill-clause-failed : goal.returns-in_err-fill-clause-failed
returns-in_err-fill-clause-failed g c _ = c.in_err-fill.ensures.cause.failed

pub returns-in_err-fill-clause-quiet : goal.returns-in_err-fill-clause-quiet
returns-in_err-fill-clause-quiet g c = not_quiet c.from_residual.result (failed_on c.from_residual.result c.from_residual.ensures)

pub has_same_halves-requires : goal.has_same_halves-requires
has_same_halves-requires g c = tt

pub returns-then-not-has_same_halves-clause-repeated : goal.returns-then-not-has_same_halves-clause-repeated
returns-then-not-has_same_halves-clause-repeated g c = no_fault Repeated

pub returns-then-not-has_same_halves-clause-later : goal.returns-then-not-has_same_halves-clause-later
returns-then-not-has_same_halves-clause-later g c = omega (arith, c.loop-again.invariant.quiet)

pub returns-then-not-has_same_halves-clause-failed : goal.returns-then-not-has_same_halves-clause-failed
returns-then-not-has_same_halves-clause-failed g c = no_fault Failed

pub returns-then-not-has_same_halves-clause-quiet : goal.returns-then-not-has_same_halves-clause-quiet
returns-then-not-has_same_halves-clause-quiet g c _ = c.loop-again.invariant.quiet

pub slice_bounds-fill-count : goal.slice_bounds-fill-count
slice_bounds-fill-count g c = omega arith

pub slice_bounds-fill-start : goal.slice_bounds-fill-start
slice_bounds-fill-start g c = omega arith

pub slice_bounds-fill-end-in-loop-again : goal.slice_bounds-fill-end-in-loop-again
slice_bounds-fill-end-in-loop-again g c = omega arith

pub returns-in_err-fill-2-clause-drawn : goal.returns-in_err-fill-2-clause-drawn
returns-in_err-fill-2-clause-drawn g c = not_drawn c.from_residual-in_err-fill-2.result (failed_on c.from_residual-in_err-fill-2.result c.from_residual-in_err-fill-2.ensures) _

pub returns-in_err-fill-2-clause-repeated : goal.returns-in_err-fill-2-clause-repeated
returns-in_err-fill-2-clause-repeated g c = not_repeated c.from_residual-in_err-fill-2.result (failed_on c.from_residual-in_err-fill-2.result c.from_residual-in_err-fill-2.ensures)

pub returns-in_err-fill-2-clause-later : goal.returns-in_err-fill-2-clause-later
returns-in_err-fill-2-clause-later g c = subst (λ n. n ≤ g.E.Entropy.faults c.fill-in-loop-again.new.self) c.loop-again.invariant.quiet c.fill-in-loop-again.ensures.cause.later

pub returns-in_err-fill-2-clause-failed : goal.returns-in_err-fill-2-clause-failed
returns-in_err-fill-2-clause-failed g c _ = subst (λ n. Rose n (g.E.Entropy.faults c.fill-in-loop-again.new.self)) c.loop-again.invariant.quiet c.in_err-fill-2.ensures.cause.failed

pub returns-in_err-fill-2-clause-quiet : goal.returns-in_err-fill-2-clause-quiet
returns-in_err-fill-2-clause-quiet g c = not_quiet c.from_residual-in_err-fill-2.result (failed_on c.from_residual-in_err-fill-2.result c.from_residual-in_err-fill-2.ensures)

pub has_same_halves-requires-2 : goal.has_same_halves-requires-2
has_same_halves-requires-2 g c = tt

pub returns-then-has_same_halves-clause-drawn : goal.returns-then-has_same_halves-clause-drawn
returns-then-has_same_halves-clause-drawn g c = tt

pub returns-then-has_same_halves-clause-later : goal.returns-then-has_same_halves-clause-later
returns-then-has_same_halves-clause-later g c = omega (arith, c.loop-again.invariant.quiet)

pub returns-then-has_same_halves-clause-failed : goal.returns-then-has_same_halves-clause-failed
returns-then-has_same_halves-clause-failed g c = other_fault

pub returns-then-has_same_halves-clause-quiet : goal.returns-then-has_same_halves-clause-quiet
returns-then-has_same_halves-clause-quiet g c _ = c.loop-again.invariant.quiet

pub returns-clause-repeated : goal.returns-clause-repeated
returns-clause-repeated g c = no_fault Repeated

pub returns-clause-later : goal.returns-clause-later
returns-clause-later g c = omega (arith, c.loop-again.invariant.quiet)

pub returns-clause-failed : goal.returns-clause-failed
returns-clause-failed g c = no_fault Failed

pub returns-clause-quiet : goal.returns-clause-quiet
returns-clause-quiet g c _ = c.loop-again.invariant.quiet
