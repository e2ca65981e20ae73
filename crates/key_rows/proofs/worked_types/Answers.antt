-- The definitions compute.
use Rattle.std.proofs.Common.{refl}
use Rattle.key_rows.proofs.worked_types.Goals as goal

pub returns : goal.returns
returns c = record { by_name = refl; one_letter_more = refl; small_letters = refl; listed = refl; in_the_other_order = refl; apart = refl }
