-- The first of two fields that name a label.
use Rattle.std.proofs.Common.{◌≡◌, ℕ, List, Option, None, Some, refl, sym, ap, ◌∙◌}
use Rattle.std.specs.Option.{option_or}
use Rattle.verb_script.specs.Named.{label_named}
use Rattle.verb_script.specs.Parts.{as_label, first_of_named}
use Rattle.verb_script.proofs.request.Request.first_label.Goals as goal

or_none : (o : Option (List ℕ)) → option_or o None ≡ o
or_none None = refl
or_none (Some text) = refl

pub returns-in-Keys-clause-first : goal.returns-in-Keys-clause-first
returns-in-Keys-clause-first c =
    c.first_in.ensures.text
    ∙ (ap (option_or (as_label (label_named c.in-Keys.first.now))) (sym (or_none (as_label (label_named c.in-Keys.second.now))))
    ∙ (ap first_of_named (sym c.in-Keys.is) ∙ c.parts.ensures.label))
