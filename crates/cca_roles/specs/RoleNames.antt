-- Names of roles.
use Rattle.std.specs.Prelude.{ℕ, List, codes}
pub use Rattle.cca_roles.specs.Names.{is_name_byte, IsRoleName}
unfoldable pub use Rattle.cca_roles.specs.Names.{is_role_name}

-- the role that each module has
abbrev pub default_name : List ℕ
default_name = codes "DEFAULT"
