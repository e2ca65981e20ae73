-- The definitions compute.
use Rattle.std.proofs.Common.{refl}
use Rattle.std.specs.Fmt.{digits}
use lib.Count.{ones}
use Rattle.hex.specs.Hex.{encode_with, decode_pairs}
use Rattle.line_service.specs.Replies.{hex_field, text_field, number_field, field_name, ok_text, refusal}
use Rattle.cca_roles.specs.RoleNames.{is_role_name}
use Rattle.verb_script.specs.Requests.{request_of}
use Rattle.cca_machine.specs.Act.{performed}
use Rattle.cca_machine.specs.Lines.{line_outcome}
use Rattle.cca_rows.proofs.worked_ceremonies.Goals as goal

pub returns : goal.returns
unfolding line_outcome performed request_of decode_pairs encode_with hex_field text_field number_field field_name ok_text refusal digits ones is_role_name
returns c = record { in_order = refl; out_of_order = refl }
