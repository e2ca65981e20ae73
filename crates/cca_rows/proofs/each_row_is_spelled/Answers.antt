-- The definitions compute.
use Rattle.std.proofs.Common.{refl}
use Rattle.cca_roles.specs.RoleNames.{is_role_name}
use Rattle.hex.specs.Hex.{decode_pairs}
use Rattle.verb_script.specs.Requests.{request_of}
use Rattle.cca_rows.proofs.each_row_is_spelled.Goals as goal

pub returns-clause-text_lines : goal.returns-clause-text_lines
unfolding request_of is_role_name
returns-clause-text_lines c = refl

pub returns-clause-code_lines : goal.returns-clause-code_lines
unfolding request_of is_role_name
returns-clause-code_lines c = refl

pub returns-clause-single_key_lines : goal.returns-clause-single_key_lines
unfolding request_of is_role_name
returns-clause-single_key_lines c = refl

pub returns-clause-key_lines : goal.returns-clause-key_lines
unfolding request_of is_role_name
returns-clause-key_lines c = refl

pub returns-clause-record_lines : goal.returns-clause-record_lines
unfolding request_of is_role_name
returns-clause-record_lines c = refl

pub returns-clause-control_lines : goal.returns-clause-control_lines
unfolding request_of decode_pairs is_role_name
returns-clause-control_lines c = refl

pub returns-clause-form_lines : goal.returns-clause-form_lines
unfolding request_of is_role_name
returns-clause-form_lines c = refl
