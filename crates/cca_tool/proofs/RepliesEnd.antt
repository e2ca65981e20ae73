-- The replies end with a newline.
use Rattle.std.proofs.Common.{ℕ, List, [], ◌∷◌, ◌++◌, refl, sym, ap, ◌∙◌, subst, inl, inr, append_assoc, append-nil}
use Rattle.line_service.specs.Lines.{newline, EndsLine}
use Rattle.line_service.specs.Replies.{Reply, Refused, Done, spelled, refusal, written}
use Rattle.line_service.specs.Machine.{Outcome}
use Rattle.line_service.specs.Serving.{session, Runs}
use Rattle.cca_machine.specs.State.{State}
use Rattle.cca_machine.specs.Lines.{line_outcome}
use Rattle.cca_machine.specs.Session.{line_step}
use Rattle.cca_machine.specs.Coprocessor.{cca}

ends-append : (a b : List ℕ) → EndsLine a → EndsLine b → EndsLine (a ++ b)
ends-append a b ends (inl none) = subst EndsLine (sym (append-nil a) ∙ ap (λ x. a ++ x) (sym none)) ends
ends-append a b ends (inr more) = inr (a ++ more.0, ap (λ x. a ++ x) more.1 ∙ sym (append_assoc a more.0 (newline ∷ [])))

spelled-ends : (r : Reply) → EndsLine (spelled r)
spelled-ends (Refused rule operand) = inr (refusal rule operand, refl)
spelled-ends (Done fields) = inr (written fields, refl)

session-ends : (ls : List (List ℕ)) (s : State) (random : List ℕ) → EndsLine (session cca s random ls).reply
session-ends [] s random = inl refl
session-ends (l ∷ ls) s random =
    ends-append (line_step s random l).reply (session cca (line_step s random l).state (line_step s random l).random ls).reply
    (spelled-ends (line_outcome s random l).reply) (session-ends ls (line_step s random l).state (line_step s random l).random)

pub replies-end : (ls : List (List ℕ)) (s t : State) (drawn sent : List ℕ) → Runs cca s ls drawn t sent → EndsLine sent
replies-end ls s t drawn sent runs = subst (λ (o : Outcome State). EndsLine o.reply) (runs []) (session-ends ls s (drawn ++ []))
