-- The definitions compute.
use Rattle.std.proofs.Common.{refl}
use Rattle.cca_roles.specs.RoleNames.{is_role_name}
use Rattle.verb_script.specs.Requests.{request_of}
use Rattle.cca_rows.proofs.worked_lines.Goals as goal

pub returns : goal.returns
unfolding request_of is_role_name
returns c = record { by_label = refl; into_reply = refl; out_of_order = refl; no_label = refl }
