-- How long labels and names of roles are, and of which characters.
use Rattle.std.proofs.Common.{◌≤◌, ℕ, List, length}
use Rattle.std.proofs.lemmas.Bool.{and_parts, leb-true}
use Rattle.std.specs.List.{list_all}
use Rattle.std.specs.Prelude.{nat_le, ◌&&◌}
use Rattle.cca_roles.specs.Characters.{is_label_byte}
use Rattle.cca_roles.specs.Names.{starts_label, is_label, IsLabel, starts_name, is_name_byte, is_role_name, IsRoleName}

pub label_short : (text : List ℕ) → IsLabel text → length text ≤ 64
unfolding is_label
label_short text is =
    let parts = and_parts (starts_label text && nat_le (length text) 64) (list_all is_label_byte text) is in
    leb-true (length text) 64 (and_parts (starts_label text) (nat_le (length text) 64) parts.0).1

pub role_short : (text : List ℕ) → IsRoleName text → length text ≤ 8
unfolding is_role_name
role_short text is =
    let parts = and_parts (starts_name text && nat_le (length text) 8) (list_all is_name_byte text) is in
    leb-true (length text) 8 (and_parts (starts_name text) (nat_le (length text) 8) parts.0).1
