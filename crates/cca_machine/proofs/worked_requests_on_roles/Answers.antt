-- The definitions compute.
use Rattle.std.proofs.Common.{refl}
use Rattle.hex.specs.Hex.{encode_with, decode_pairs}
use Rattle.cca_roles.specs.Directory.{place_of, free_place}
use Rattle.cca_roles.specs.RoleNames.{is_role_name}
use Rattle.line_service.specs.Replies.{hex_field, text_field, number_field, field_name, ok_text, refusal}
use Rattle.verb_script.specs.Requests.{request_of}
use Rattle.cca_machine.specs.Act.{performed}
use Rattle.cca_machine.specs.Lines.{line_outcome}
use Rattle.cca_machine.proofs.worked_requests_on_roles.Goals as goal

pub returns-clause-roles : goal.returns-clause-roles
unfolding line_outcome performed request_of decode_pairs encode_with hex_field text_field number_field field_name ok_text refusal is_role_name place_of free_place
returns-clause-roles c = refl

pub returns-clause-full_table : goal.returns-clause-full_table
unfolding line_outcome performed request_of decode_pairs encode_with hex_field text_field number_field field_name ok_text refusal is_role_name place_of free_place
returns-clause-full_table c = refl
