use Rattle.std.proofs.Common.{◌≡◌, ℕ, Option, Some, refl, sym, ap, subst, ◌∙◌, true≢false}
use Rattle.std.specs.Prelude.{IfSome, IsSome, is_some}
use Rattle.record_bodies.specs.Directory.{label_at}
use Rattle.record_bodies.specs.Entries.{row_directory}
use Rattle.reencipher.proofs.turns.place_in.Goals as goal
use Rattle.reencipher.proofs.turns.place_in.Goals.{After-drop-steps-inside}

found_is : (c : After-drop-steps-inside) → c.find.result ≡ Some c.args.cell
found_is c = c.find.ensures.found ∙ c.in-Some.ensures.found

pub returns-clause-place : goal.returns-clause-place
returns-clause-place c = subst (λ (o : Option ℕ). IfSome o (λ place. place ≡ c.args.cell)) (sym (found_is c)) refl

pub returns-clause-held : goal.returns-clause-held
returns-clause-held c =
    subst (λ (o : Option ℕ). IfSome o (λ place. IsSome (label_at (row_directory c.args.records.now) place))) (sym (found_is c))
    (ap is_some c.in-Some.ensures.label)

pub returns-clause-none : goal.returns-clause-none
returns-clause-none c none = absurd (true≢false (ap is_some (sym (found_is c)) ∙ none))
