-- The definitions compute.
use Rattle.std.proofs.Common.{refl}
use lib.Count.{ones}
use Rattle.hex.specs.Hex.{encode_with, decode_pairs}
use Rattle.cca_roles.specs.RoleNames.{is_role_name}
use Rattle.line_service.specs.Replies.{hex_field, text_field, number_field, field_name, ok_text, refusal}
use Rattle.verb_script.specs.Requests.{request_of}
use Rattle.cca_machine.specs.Act.{performed}
use Rattle.cca_machine.specs.Lines.{line_outcome}
use Rattle.cca_machine.proofs.worked_requests_for_unique_halves.Goals as goal

pub returns-clause-refusals : goal.returns-clause-refusals
unfolding line_outcome performed request_of decode_pairs encode_with hex_field text_field number_field field_name ok_text refusal is_role_name
returns-clause-refusals c = refl

pub returns-clause-taken : goal.returns-clause-taken
unfolding line_outcome performed request_of decode_pairs encode_with hex_field text_field number_field field_name ok_text refusal is_role_name
returns-clause-taken c = refl

pub returns-clause-key : goal.returns-clause-key
unfolding ones
returns-clause-key c = refl
