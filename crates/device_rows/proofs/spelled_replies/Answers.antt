-- The definitions compute.
use Rattle.std.proofs.Common.{refl}
use Rattle.std.specs.Fmt.{digits}
use Rattle.hex.specs.Hex.{encode_with}
use Rattle.line_service.specs.Replies.{hex_field, text_field, number_field, field_name, ok_text, refusal}
use Rattle.device_rows.proofs.spelled_replies.Goals as goal

pub returns : goal.returns
unfolding hex_field text_field number_field field_name ok_text refusal encode_with digits
returns c = record {
  bare = refl;
  of_text = refl;
  of_number = refl;
  in_hexadecimal = refl;
  refused = refl;
  refused_for = refl;
}
