-- The roles of a module: 32 places, of which the one numbered n is cell n + 1.
use Rattle.std.specs.Prelude.{◌≡◌, ℕ, ◌==◌, Bool, ◌&&◌, List, [], ◌∷◌, length, map, get_or, set, replicate, Option, None, Some, is_none, unwrap_or, bytes_eq, if◌then◌else◌}
use Rattle.cca_roles.specs.Points.{every_point}
use Rattle.cca_roles.specs.RoleNames.{default_name}
use Rattle.cca_roles.specs.Directory.{name_at, AreApart, place_of, free_place}
use Rattle.cca_roles.specs.declared.roles.Role.{Role}

abbrev pub role : List ℕ → ℕ → Role
role name points = record { name = name; points = points }

abbrev pub role_at : List (Option Role) → ℕ → Option Role
role_at s n = get_or s n None

abbrev pub name_of : Option Role → Option (List ℕ)
name_of None = None
name_of (Some r) = Some r.name

abbrev pub names : List (Option Role) → List (Option (List ℕ))
names s = map name_of s

-- DEFAULT with every point, alone
abbrev pub blank_roles : List (Option Role)
blank_roles = Some (role default_name every_point) ∷ replicate 31 None

-- 32 places, DEFAULT first, each name in one place alone
pub record AreRoles (s : List (Option Role)) : Type 0 where
  pub size : length s ≡ 32
  pub first : name_at (names s) 0 ≡ Some default_name
  pub apart : AreApart (names s)

-- the points of a role, where it is held
abbrev pub points_of : List ℕ → List (Option Role) → Option ℕ
points_of name [] = None
points_of name (None ∷ s) = points_of name s
points_of name (Some r ∷ s) = if bytes_eq r.name name then Some r.points else points_of name s

-- ---- the changes

-- where a role is defined: in its place, or else in the lowest one that is free
abbrev pub define_place : List ℕ → List (Option Role) → ℕ
define_place name s = unwrap_or (place_of name (names s)) (free_place (names s))

-- DEFINE: the role has the points
abbrev pub after_define : List ℕ → ℕ → List (Option Role) → List (Option Role)
after_define name points s = set s (define_place name s) (Some (role name points))

-- DEFINE is refused where the name isn't held and no place is free
abbrev pub define_refused : List ℕ → List (Option Role) → Bool
define_refused name s = is_none (place_of name (names s)) && free_place (names s) == 32

abbrev pub without : Option ℕ → List (Option Role) → List (Option Role)
without None s = s
without (Some n) s = set s n None

-- REMOVE: the name is no longer held
abbrev pub after_remove : List ℕ → List (Option Role) → List (Option Role)
after_remove name s = without (place_of name (names s)) s

-- the place that a REMOVE changes
abbrev pub remove_place : List ℕ → List (Option Role) → ℕ
remove_place name s = unwrap_or (place_of name (names s)) 32

-- REMOVE is refused where the name isn't held
abbrev pub remove_refused : List ℕ → List (Option Role) → Bool
remove_refused name s = is_none (place_of name (names s))
