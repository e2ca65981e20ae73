-- The definitions compute.
use Rattle.std.proofs.Common.{refl}
use Rattle.record_bodies.specs.Labels.{is_label}
use Rattle.record_rows.proofs.worked_labels.Goals as goal

pub returns : goal.returns
unfolding is_label
returns c = record {
  with_period = refl;
  digit_first = refl;
  period_first = refl;
  small_letter = refl;
  empty = refl;
  first = refl;
  second = refl;
  third = refl;
  last = refl;
}
