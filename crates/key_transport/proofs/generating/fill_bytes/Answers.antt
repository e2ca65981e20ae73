use Rattle.std.proofs.Common.{◌≡◌, ◌++◌, length, sym, subst, arith}
use borrow.Rule.Slice.PartMut.{post_of}
use Rattle.key_transport.specs.Generated.{DrawsBytes}
use Rattle.key_transport.specs.declared.generating.GenerateFault.TheVariants.{Failed, Repeated}
use Rattle.key_transport.proofs.FailLaws.{failed_on, no_fault, not_drawn, not_quiet, not_repeated}
use Rattle.key_transport.proofs.HalfLemmas.{eight_drawn, sixteen_drawn}
use Rattle.key_transport.proofs.generating.fill_bytes.Goals as goal

pub returns-in_ok-fill-in-Eight-clause-drawn : goal.returns-in_ok-fill-in-Eight-clause-drawn
returns-in_ok-fill-in-Eight-clause-drawn g c =
    let before = g.E.Entropy.left c.args.entropy.now in
    let after = g.E.Entropy.left c.fill.new.self in
    let bytes = c.fill.new.out in
    let rest = post_of 0 8 c.args.place.now in
    let long : length bytes ≡ 8 = omega (arith, c.told-place) in
    subst (λ l. DrawsBytes l before after (bytes ++ rest)) (sym c.in-Eight.is) (eight_drawn before after bytes rest long c.in_ok-fill-in-Eight.ensures.bytes)

pub returns-in_ok-fill-in-Sixteen-clause-drawn : goal.returns-in_ok-fill-in-Sixteen-clause-drawn
returns-in_ok-fill-in-Sixteen-clause-drawn g c =
    let before = g.E.Entropy.left c.args.entropy.now in
    let after = g.E.Entropy.left c.fill-in-Sixteen.new.self in
    let bytes = c.fill-in-Sixteen.new.out in
    let long : length bytes ≡ 16 = omega (arith, c.told-place) in
    subst (λ l. DrawsBytes l before after bytes) (sym c.in-Sixteen.is) (sixteen_drawn before after bytes long c.in_ok-fill-in-Sixteen.ensures.bytes)

pub slice_bounds-fill-end : goal.slice_bounds-fill-end
slice_bounds-fill-end g c = omega arith

pub returns-in_err-fill-in-Eight-clause-drawn : goal.returns-in_err-fill-in-Eight-clause-drawn
returns-in_err-fill-in-Eight-clause-drawn g c = not_drawn c.from_residual.result (failed_on c.from_residual.result c.from_residual.ensures) _

pub returns-in_err-fill-in-Eight-clause-repeated : goal.returns-in_err-fill-in-Eight-clause-repeated
returns-in_err-fill-in-Eight-clause-repeated g c = not_repeated c.from_residual.result (failed_on c.from_residual.result c.from_residual.ensures)

pub returns-in_err-fill-in-Eight-clause-later : goal.returns-in_err-fill-in-Eight-clause-later
returns-in_err-fill-in-Eight-clause-later g c = c.fill.ensures.cause.later

pub returns-in_err-fill-in-Eight-clause-failed : goal.returns-in_err-fill-in-Eight-clause-failed
returns-in_err-fill-in-Eight-clause-failed g c _ = c.in_err-fill-in-Eight.ensures.cause.failed

pub returns-in_err-fill-in-Eight-clause-quiet : goal.returns-in_err-fill-in-Eight-clause-quiet
returns-in_err-fill-in-Eight-clause-quiet g c = not_quiet c.from_residual.result (failed_on c.from_residual.result c.from_residual.ensures)

pub returns-in_err-fill-in-Sixteen-clause-drawn : goal.returns-in_err-fill-in-Sixteen-clause-drawn
returns-in_err-fill-in-Sixteen-clause-drawn g c = not_drawn c.from_residual-in_err-fill-in-Sixteen.result (failed_on c.from_residual-in_err-fill-in-Sixteen.result c.from_residual-in_err-fill-in-Sixteen.ensures) _

pub returns-in_err-fill-in-Sixteen-clause-repeated : goal.returns-in_err-fill-in-Sixteen-clause-repeated
returns-in_err-fill-in-Sixteen-clause-repeated g c = not_repeated c.from_residual-in_err-fill-in-Sixteen.result (failed_on c.from_residual-in_err-fill-in-Sixteen.result c.from_residual-in_err-fill-in-Sixteen.ensures)

pub returns-in_err-fill-in-Sixteen-clause-later : goal.returns-in_err-fill-in-Sixteen-clause-later
returns-in_err-fill-in-Sixteen-clause-later g c = c.fill-in-Sixteen.ensures.cause.later

pub returns-in_err-fill-in-Sixteen-clause-failed : goal.returns-in_err-fill-in-Sixteen-clause-failed
returns-in_err-fill-in-Sixteen-clause-failed g c _ = c.in_err-fill-in-Sixteen.ensures.cause.failed

pub returns-in_err-fill-in-Sixteen-clause-quiet : goal.returns-in_err-fill-in-Sixteen-clause-quiet
returns-in_err-fill-in-Sixteen-clause-quiet g c = not_quiet c.from_residual-in_err-fill-in-Sixteen.result (failed_on c.from_residual-in_err-fill-in-Sixteen.result c.from_residual-in_err-fill-in-Sixteen.ensures)

pub returns-in_ok-fill-in-Eight-clause-repeated : goal.returns-in_ok-fill-in-Eight-clause-repeated
returns-in_ok-fill-in-Eight-clause-repeated g c = no_fault Repeated

pub returns-in_ok-fill-in-Eight-clause-later : goal.returns-in_ok-fill-in-Eight-clause-later
returns-in_ok-fill-in-Eight-clause-later g c = c.fill.ensures.cause.later

pub returns-in_ok-fill-in-Eight-clause-failed : goal.returns-in_ok-fill-in-Eight-clause-failed
returns-in_ok-fill-in-Eight-clause-failed g c = no_fault Failed

pub returns-in_ok-fill-in-Eight-clause-quiet : goal.returns-in_ok-fill-in-Eight-clause-quiet
returns-in_ok-fill-in-Eight-clause-quiet g c _ = c.in_ok-fill-in-Eight.ensures.quiet

pub returns-in_ok-fill-in-Sixteen-clause-repeated : goal.returns-in_ok-fill-in-Sixteen-clause-repeated
returns-in_ok-fill-in-Sixteen-clause-repeated g c = no_fault Repeated

pub returns-in_ok-fill-in-Sixteen-clause-later : goal.returns-in_ok-fill-in-Sixteen-clause-later
returns-in_ok-fill-in-Sixteen-clause-later g c = c.fill-in-Sixteen.ensures.cause.later

pub returns-in_ok-fill-in-Sixteen-clause-failed : goal.returns-in_ok-fill-in-Sixteen-clause-failed
returns-in_ok-fill-in-Sixteen-clause-failed g c = no_fault Failed

pub returns-in_ok-fill-in-Sixteen-clause-quiet : goal.returns-in_ok-fill-in-Sixteen-clause-quiet
returns-in_ok-fill-in-Sixteen-clause-quiet g c _ = c.in_ok-fill-in-Sixteen.ensures.quiet

pub returns-in_ok-fill_unique-in-Unique-clause-drawn : goal.returns-in_ok-fill_unique-in-Unique-clause-drawn
returns-in_ok-fill_unique-in-Unique-clause-drawn g c =
    subst (λ l. DrawsBytes l (g.E.Entropy.left c.args.entropy.now) (g.E.Entropy.left c.fill_unique.new.entropy) c.fill_unique.new.key) (sym c.in-Unique.is) c.in_ok-fill_unique-in-Unique.ensures.drawn

pub returns-in_ok-fill_unique-in-Unique-clause-repeated : goal.returns-in_ok-fill_unique-in-Unique-clause-repeated
returns-in_ok-fill_unique-in-Unique-clause-repeated g c = no_fault Repeated

pub returns-in_ok-fill_unique-in-Unique-clause-later : goal.returns-in_ok-fill_unique-in-Unique-clause-later
returns-in_ok-fill_unique-in-Unique-clause-later g c = c.fill_unique.ensures.later

pub returns-in_ok-fill_unique-in-Unique-clause-failed : goal.returns-in_ok-fill_unique-in-Unique-clause-failed
returns-in_ok-fill_unique-in-Unique-clause-failed g c = no_fault Failed

pub returns-in_ok-fill_unique-in-Unique-clause-quiet : goal.returns-in_ok-fill_unique-in-Unique-clause-quiet
returns-in_ok-fill_unique-in-Unique-clause-quiet g c quiet = c.in_ok-fill_unique-in-Unique.ensures.quiet quiet
