use Rattle.std.proofs.Common.{Err, refl, ap, subst}
use Rattle.cca_machine.specs.Refusals.{HasRefused}
use Rattle.request_verbs.proofs.DrawnKeys.{refuses_early, refuses_late}
use Rattle.request_verbs.proofs.verbs.csnbkgn.draw.Goals as goal

pub returns-in-Some-clause-drawn : goal.returns-in-Some-clause-drawn
returns-in-Some-clause-drawn g c = λ v has.
    refuses_early v c.args.length (g.E.Entropy.left c.args.entropy.now) c.in-Some.refusal (subst (HasRefused v) c.in-Some.is has)

pub returns-in-Ok-clause-drawn : goal.returns-in-Ok-clause-drawn
returns-in-Ok-clause-drawn g c = λ v has. (subst (HasRefused v) c.in_default.is has, c.in-Ok.ensures.generated)

pub returns-in-Err-Repeated-clause-drawn : goal.returns-in-Err-Repeated-clause-drawn
returns-in-Err-Repeated-clause-drawn g c = λ v has.
    refuses_late v c.args.length (g.E.Entropy.left c.args.entropy.now) (g.E.Entropy.left c.generate.new.entropy) _ (subst (HasRefused v) c.in_default.is has)
    (c.in-Err-Repeated.ensures.repeated (ap Err c.in-Err-Repeated.field-0-is)) refl
