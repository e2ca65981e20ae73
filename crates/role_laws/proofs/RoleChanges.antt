-- The points of each name, once a place of the role table has changed.
use Rattle.std.proofs.Common.{◌≡◌, ◌≢◌, ◌<◌, ◌+◌, ◌⊎◌, inl, inr, ⊎_elim, ℕ, zero, suc, Bool, true, false, List, [], ◌∷◌, length, set, Option, None, Some, refl, sym, ap, subst, ◌∙◌, arith}
use Rattle.std.specs.Prelude.{bytes_eq, unwrap_or, if◌then◌else◌}
use Rattle.std.proofs.lemmas.Slice.Eq.{bytes_eq-Decides}
use Rattle.std.proofs.lemmas.List.{length-map}
use Rattle.std.proofs.lemmas.Option.{same_Some}
use Rattle.cca_roles.specs.Directory.{name_at, place_of, free_from, free_place}
use Rattle.cca_roles.specs.RoleNames.{default_name}
use Rattle.cca_roles.specs.Roles.{AreRoles, after_define, after_remove, define_place, define_refused, name_of, names, points_of, remove_refused, role, without}
use Rattle.cca_roles.specs.declared.roles.Role.{Role}
use Rattle.cca_roles.proofs.DirectoryLaws.{apart_none, apart_same, apart_set, free_first, held_at, none_some, place_found, place_missing}
use Rattle.cca_roles.proofs.TableLaws.{first_is_default, place_not_first, table_set}

-- ---- a place that doesn't have the name, or has it

pub is_other : (a b : List ℕ) → a ≢ b → bytes_eq a b ≡ false
is_other a b other = by_test (bytes_eq a b) refl
  where
    by_test : (t : Bool) → bytes_eq a b ≡ t → bytes_eq a b ≡ false
    by_test true is = absurd (other ((bytes_eq-Decides a b).0 is))
    by_test false is = is

passed : (name : List ℕ) (slot : Option Role) (s : List (Option Role)) → name_of slot ≢ Some name → points_of name (slot ∷ s) ≡ points_of name s
passed name None s other = refl
passed name (Some r) s other =
    ap (λ (t : Bool). if t then Some r.points else points_of name s) (is_other r.name name (λ is. other (ap (λ x. Some x) is)))

found : (name : List ℕ) (r : Role) (s : List (Option Role)) → r.name ≡ name → points_of name (Some r ∷ s) ≡ Some r.points
found name r s is = ap (λ (t : Bool). if t then Some r.points else points_of name s) ((bytes_eq-Decides r.name name).1 is)

missing : (name : List ℕ) (s : List (Option Role)) → ((k : ℕ) → name_at (names s) k ≢ Some name) → points_of name s ≡ None
missing name [] none = refl
missing name (slot ∷ s) none = passed name slot s (none 0) ∙ missing name s (λ k. none (suc k))

-- ---- a place becomes another

-- the name stands in this place, if in any
abbrev pub StandsAt : List ℕ → ℕ → List (Option Role) → Type 0
StandsAt name n s = (k : ℕ) → k ≢ n → name_at (names s) k ≢ Some name

pub put : (name : List ℕ) (s : List (Option Role)) (n : ℕ) (r : Role) → n < length s → r.name ≡ name → StandsAt name n s
    → points_of name (set s n (Some r)) ≡ Some r.points
put name [] n r within is only = absurd (omega (arith, within))
put name (slot ∷ s) zero r within is only = found name r s is
put name (slot ∷ s) (suc n) r within is only =
    passed name slot (set s n (Some r)) (only 0 (λ zero_is. omega (arith, zero_is)))
    ∙ put name s n r (omega (arith, within)) is (λ k other. only (suc k) (λ same. other (omega (arith, same))))

pub gone : (name : List ℕ) (s : List (Option Role)) (n : ℕ) → StandsAt name n s → points_of name (set s n None) ≡ None
gone name [] n only = refl
gone name (slot ∷ s) zero only = missing name s (λ k. only (suc k) (λ same. omega (arith, same)))
gone name (slot ∷ s) (suc n) only =
    passed name slot (set s n None) (only 0 (λ zero_is. omega (arith, zero_is)))
    ∙ gone name s n (λ k other. only (suc k) (λ same. other (omega (arith, same))))

-- a name that the place neither had nor has
pub kept : (name : List ℕ) (s : List (Option Role)) (n : ℕ) (slot : Option Role) → name_of slot ≢ Some name → name_at (names s) n ≢ Some name
    → points_of name (set s n slot) ≡ points_of name s
kept name [] n slot new old = refl
kept name (now ∷ s) zero slot new old = passed name slot s new ∙ sym (passed name now s old)
kept name (None ∷ s) (suc n) slot new old = kept name s n slot new old
kept name (Some r ∷ s) (suc n) slot new old =
    ap (λ (p : Option ℕ). if bytes_eq r.name name then Some r.points else p) (kept name s n slot new old)

-- ---- where a role is defined

-- a place of the table that no other name stands in
pub record IsPlaceFor (name : List ℕ) (n : ℕ) (s : List (Option Role)) : Type 0 where
  pub within : n < length s
  pub only : StandsAt name n s
  pub alone : (other : List ℕ) → other ≢ name → name_at (names s) n ≢ Some other

pub held_place : (s : List (Option Role)) (name : List ℕ) (n : ℕ) → AreRoles s → place_of name (names s) ≡ Some n → IsPlaceFor name n s
unfolding place_of
held_place s name n are is = record {
  within = let at = place_found name (names s) 0 n is in omega (arith, at.1, at.2, length-map s name_of);
  only = λ k other there. other (are.apart k n name there held);
  alone = λ other differs there. differs (same_Some other name (sym there ∙ held));
}
  where
    held : name_at (names s) n ≡ Some name
    held = held_at name (names s) n is

free_is : (d : List (Option (List ℕ))) (at : ℕ) → (free_from at d ≡ at + length d) ⊎ ((k : ℕ) × (free_from at d ≡ at + k) × (k < length d) × (name_at d k ≡ None))
free_is [] at = inl (omega arith)
free_is (None ∷ d) at = inr (0, omega arith, omega arith, refl)
free_is (Some name ∷ d) at = ⊎_elim
    (λ (all : free_from (at + 1) d ≡ at + 1 + length d). inl (omega (arith, all)))
    (λ (some : (k : ℕ) × (free_from (at + 1) d ≡ at + 1 + k) × (k < length d) × (name_at d k ≡ None)).
    inr (suc some.0, omega (arith, some.1), omega (arith, some.2), some.3))
    (free_is d (at + 1))

-- a place that is free
pub record IsFree (n : ℕ) (s : List (Option Role)) : Type 0 where
  pub within : n < length s
  pub empty : name_at (names s) n ≡ None

free_in : (s : List (Option Role)) → AreRoles s → (free_place (names s) ≡ 32 → ⊥) → IsFree (free_place (names s)) s
unfolding free_place
free_in s are room = ⊎_elim
    (λ (all : free_from 0 (names s) ≡ 0 + length (names s)). absurd (room (omega (arith, all, length-map s name_of, are.size))))
    (λ (some : (k : ℕ) × (free_from 0 (names s) ≡ 0 + k) × (k < length (names s)) × (name_at (names s) k ≡ None)).
    record {
      within = omega (arith, some.1, some.2, length-map s name_of);
      empty = let at : free_from 0 (names s) ≡ some.0 = omega (arith, some.1) in ap (name_at (names s)) at ∙ some.3;
    })
    (free_is (names s) 0)

pub free_for : (s : List (Option Role)) (name : List ℕ) → AreRoles s → place_of name (names s) ≡ None → (free_place (names s) ≡ 32 → ⊥)
    → IsPlaceFor name (free_place (names s)) s
unfolding place_of
free_for s name are is room = record {
  within = (free_in s are room).within;
  only = λ k other there. place_missing name (names s) 0 is k there;
  alone = λ other differs there. none_some other (sym (free_in s are room).empty ∙ there);
}

-- DEFINE isn't refused
room_is : (s : List (Option Role)) (name : List ℕ) → place_of name (names s) ≡ None → define_refused name s ≡ false → free_place (names s) ≡ 32 → ⊥
room_is s name is permits full = cc (is, permits, full)

pub defined_at : (s : List (Option Role)) (name : List ℕ) → AreRoles s → define_refused name s ≡ false → IsPlaceFor name (define_place name s) s
defined_at s name are permits = by_place (place_of name (names s)) refl
  where
    by_place : (o : Option ℕ) → place_of name (names s) ≡ o → IsPlaceFor name (define_place name s) s
    by_place None is = rw is (free_for s name are is (room_is s name is permits))
    by_place (Some n) is = rw is (held_place s name n are is)

-- ---- the changes

-- the name has these points now, or is no role, and every other name has what it had
pub record Changed (s now : List (Option Role)) (name : List ℕ) (points : Option ℕ) : Type 0 where
  pub role : points_of name now ≡ points
  pub others : (other : List ℕ) → other ≢ name → points_of other now ≡ points_of other s

other_name : (name other : List ℕ) → other ≢ name → Some name ≢ Some other
other_name name other differs same = differs (same_Some other name (sym same))

pub defined_change : (s : List (Option Role)) (name : List ℕ) (points : ℕ) → AreRoles s → define_refused name s ≡ false
    → Changed s (after_define name points s) name (Some points)
defined_change s name points are permits =
    let at : IsPlaceFor name (define_place name s) s = defined_at s name are permits in
    record {
      role = put name s (define_place name s) (role name points) at.within refl at.only;
      others = λ other differs. kept other s (define_place name s) (Some (role name points)) (other_name name other differs) (at.alone other differs);
    }

pub removed_change : (s : List (Option Role)) (name : List ℕ) → AreRoles s → remove_refused name s ≡ false → Changed s (after_remove name s) name None
removed_change s name are permits = by_place (place_of name (names s)) refl
  where
    by_place : (o : Option ℕ) → place_of name (names s) ≡ o → Changed s (after_remove name s) name None
    by_place None is = cc (is, permits)
    by_place (Some n) is =
        let at : IsPlaceFor name n s = held_place s name n are is in
        subst (λ (o : Option ℕ). Changed s (without o s) name None) (sym is)
        (record {
          role = gone name s n at.only;
          others = λ other differs. kept other s n None (none_some other) (at.alone other differs);
        })

-- ---- the table stays one

nowhere : (s : List (Option Role)) (name : List ℕ) → place_of name (names s) ≡ None → (k : ℕ) → name_at (names s) k ≢ Some name
unfolding place_of
nowhere s name none k = place_missing name (names s) 0 none k

pub defined_table : (s : List (Option Role)) (name : List ℕ) (points : ℕ) → AreRoles s → define_refused name s ≡ false → AreRoles (after_define name points s)
defined_table s name points are permits = by_place (place_of name (names s)) refl
  where
    by_place : (o : Option ℕ) → place_of name (names s) ≡ o → AreRoles (after_define name points s)
    by_place None is =
        subst (λ (o : Option ℕ). AreRoles (set s (unwrap_or o (free_place (names s))) (Some (role name points)))) (sym is)
        (table_set s s (free_place (names s)) (Some (role name points)) are refl
        (λ first. absurd (free_first (names s) default_name first are.first))
        (apart_set (names s) (free_place (names s)) name are.apart (nowhere s name is)))
    by_place (Some n) is =
        subst (λ (o : Option ℕ). AreRoles (set s (unwrap_or o (free_place (names s))) (Some (role name points)))) (sym is)
        (table_set s s n (Some (role name points)) are refl
        (λ first. ap (λ x. Some x) (first_is_default s name n are is first))
        (apart_same (names s) n name are.apart (held_at name (names s) n is)))

pub removed_table : (s : List (Option Role)) (name : List ℕ) → AreRoles s → name ≢ default_name → remove_refused name s ≡ false → AreRoles (after_remove name s)
removed_table s name are other permits = by_place (place_of name (names s)) refl
  where
    by_place : (o : Option ℕ) → place_of name (names s) ≡ o → AreRoles (after_remove name s)
    by_place None is = cc (is, permits)
    by_place (Some n) is =
        subst (λ (o : Option ℕ). AreRoles (without o s)) (sym is)
        (table_set s s n None are refl (λ first. absurd (place_not_first s name n are other is first)) (apart_none (names s) n are.apart))
