-- The table of roles.
use Rattle.std.proofs.Common.{◌≡◌, ◌≢◌, ◌<◌, ◌≤◌, ◌+◌, ⊎_elim, ℕ, zero, suc, List, [], ◌∷◌, length, get_or, drop, set, replicate, Option, None, Some, refl, sym, ap, subst, ◌∙◌, arith}
use Rattle.std.proofs.lemmas.Bool.{cases_eq}
use Rattle.std.proofs.lemmas.List.{get_or-set_same, get_or-set_other, length-set, length-map, map-set, get_or_read, drop_more, drop_all}
use Rattle.cca_roles.specs.Directory.{name_at, AreApart, place_of}
use Rattle.cca_roles.specs.RoleNames.{default_name}
use Rattle.cca_roles.specs.Roles.{AreRoles, names, name_of, role_at, blank_roles, points_of}
use Rattle.cca_roles.specs.declared.roles.Role.{Role}
use Rattle.cca_roles.proofs.DirectoryLaws.{none_some, apart_blank, apart_set, held_at}
use Rattle.std.proofs.lemmas.Option.{same_Some}

pub name_of_place : (s : List (Option Role)) (n : ℕ) → name_at (names s) n ≡ name_of (role_at s n)
name_of_place [] n = refl
name_of_place (r ∷ s) zero = refl
name_of_place (r ∷ s) (suc n) = name_of_place s n

-- the name of a place that was read
pub name_read : (s : List (Option Role)) (n : ℕ) (slot : Option Role) → n < length s → slot ≡ get_or s n slot → name_at (names s) n ≡ name_of slot
name_read s n slot within is = name_of_place s n ∙ ap name_of (sym (get_or_read s n slot within is None))

pub role_named : (slot : Option Role) (name : List ℕ) → name_of slot ≡ Some name → (r : Role) × (slot ≡ Some r) × (r.name ≡ name)
role_named None name is = absurd (none_some name is)
role_named (Some r) name is = (r, refl, cc)

-- ---- the table stays one

pub blank_table : AreRoles blank_roles
blank_table = record {
  size = refl;
  first = refl;
  apart = apart_set (replicate 32 None) 0 default_name (apart_blank 32) (λ k held. none_some default_name (sym (blank 32 k) ∙ held));
}
  where
    blank : (n m : ℕ) → name_at (replicate n None) m ≡ None
    blank zero m = refl
    blank (suc n) zero = refl
    blank (suc n) (suc m) = blank n m

-- a place of a table becomes another
pub table_set : (s now : List (Option Role)) (place : ℕ) (slot : Option Role) → AreRoles s → s ≡ now → (place ≡ 0 → name_of slot ≡ Some default_name) → AreApart (set (names now) place (name_of slot)) → AreRoles (set s place slot)
table_set s now place slot are is first apart = record {
  size = length-set s place slot ∙ are.size;
  first = ap (λ d. name_at d 0) (map-set name_of s place slot) ∙ ⊎_elim
      (λ (at : place ≡ 0). ap (λ (n : ℕ). name_at (set (names s) n (name_of slot)) 0) at ∙ get_or-set_same (names s) 0 (name_of slot) None (omega (arith, length-map s name_of, are.size)) ∙ first at)
      (λ (other : place ≡ 0 → ⊥). get_or-set_other (names s) place 0 (name_of slot) None (λ zero_is. other (sym zero_is)) ∙ are.first)
      (cases_eq place 0);
  apart = subst AreApart (sym (map-set name_of s place slot ∙ ap (λ r. set (names r) place (name_of slot)) is)) apart;
}

-- another name than DEFAULT stands in another place than the first
pub place_not_first : (s : List (Option Role)) (name : List ℕ) (n : ℕ) → AreRoles s → name ≢ default_name → place_of name (names s) ≡ Some n → n ≢ 0
place_not_first s name n are other is first =
    let held : name_at (names s) 0 ≡ Some name = ap (λ (k : ℕ). name_at (names s) k) (sym first) ∙ held_at name (names s) n is in
    let same : Some name ≡ Some default_name = sym held ∙ are.first in
    other (same_Some name default_name same)

-- the first place holds DEFAULT
pub first_is_default : (s : List (Option Role)) (name : List ℕ) (n : ℕ) → AreRoles s → place_of name (names s) ≡ Some n → n ≡ 0 → name ≡ default_name
first_is_default s name n are is first =
    let held : name_at (names s) 0 ≡ Some name = ap (λ (k : ℕ). name_at (names s) k) (sym first) ∙ held_at name (names s) n is in
    same_Some name default_name (sym held ∙ are.first)

-- ---- the points of a name, one place more

pub points_step : (name : List ℕ) (s : List (Option Role)) (at : ℕ) (slot : Option Role) → at < length s → slot ≡ role_at s at → points_of name (drop at s) ≡ points_of name (slot ∷ drop (at + 1) s)
points_step name s at slot within is = ap (points_of name) (drop_more s at None within) ∙ ap (λ x. points_of name (x ∷ drop (at + 1) s)) (sym is)

pub points_end : (name : List ℕ) (s : List (Option Role)) (at : ℕ) → length s ≤ at → points_of name (drop at s) ≡ None
points_end name s at past = ap (points_of name) (drop_all at s past)
