use Rattle.std.proofs.Common.{◌≡◌, true, false, Ordering, Less, Equal, Greater, Some, refl, sym, ap, ◌∙◌}
use Rattle.std.specs.Ordering.{is_eq}
use Rattle.record_bodies.specs.Entries.{row_label}
use Rattle.record_bodies.proofs.HalvingLaws.{equal_same}
use Rattle.record_bodies.proofs.directory.have_one_label.Goals as goal

is_equal : (o : Ordering) → is_eq o ≡ true → o ≡ Equal
is_equal Less is = let wrong : false ≡ true = is in absurd (cc)
is_equal Equal is = refl
is_equal Greater is = let wrong : false ≡ true = is in absurd (cc)

pub returns : goal.returns
returns c same =
    ap row_label c.in-Some-Some.is-0
    ∙ ap (λ l. Some l) (equal_same c.in-Some-Some.one.label c.in-Some-Some.other.label (sym c.compare.ensures.order ∙ is_equal c.compare.result (sym c.is_eq.ensures ∙ same)))
    ∙ sym (ap row_label c.in-Some-Some.is-1)
