-- What a chain of `&&` says, one step after the other.
use Rattle.std.proofs.Common.{◌≡◌, ◌↔◌, ℕ, Bool, true, false, List, sym, ◌∙◌}
use Rattle.std.specs.Prelude.{IsTrue, slice_range}
use Rattle.master_registers.specs.BodyForm.{HasBodyForm, HasStates, IsZeroWhereEmpty}
use Rattle.key_cells.specs.Bytes.{IsZero}

module _ {P Q : Type 0} where
  pub and_then : (u r v : Bool) → u ≡ true → v ≡ r → (IsTrue u ↔ P) → (IsTrue r ↔ Q) → IsTrue v ↔ (P × Q)
  and_then u r v is same first second = (
    (λ yes. (first.0 is, second.0 (sym same ∙ yes))),
    (λ both. same ∙ second.1 both.1),
  )

  pub and_else : (u v : Bool) → u ≡ false → v ≡ u → (IsTrue u ↔ P) → IsTrue v ↔ (P × Q)
  and_else u v is same first = (
    (λ yes. let wrong : false ≡ true = sym is ∙ sym same ∙ yes in absurd (cc)),
    (λ both. same ∙ first.1 both.0),
  )

-- the parts of a form in the order in which they are judged
abbrev pub InOrder : List ℕ → Type 0
InOrder body = ((((HasStates body × IsZero (slice_range body 4 8)) × IsZeroWhereEmpty body 1 8) × IsZeroWhereEmpty body 2 32) × IsZeroWhereEmpty body 3 56) × IsZero (slice_range body 80 192)

pub form_in_order : (v : Bool) (body : List ℕ) → IsTrue v ↔ InOrder body → IsTrue v ↔ HasBodyForm body
form_in_order v body judged = (
  (λ yes. let all : InOrder body = judged.0 yes in record {
    states = all.0.0.0.0.0;
    gap = all.0.0.0.0.1;
    coming = all.0.0.0.1;
    current = all.0.0.1;
    former = all.0.1;
    rest = all.1;
  }),
  (λ form. judged.1 (((((form.states, form.gap), form.coming), form.current), form.former), form.rest)),
)
