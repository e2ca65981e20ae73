-- Names in their places.
use Rattle.std.proofs.Common.{◌≡◌, ◌≢◌, ◌≤◌, ◌<◌, ℕ, zero, suc, ◌+◌, Bool, true, false, List, [], ◌∷◌, length, drop, set, replicate, Option, None, Some, refl, sym, ap, subst, ◌∙◌, ⊎_elim, ◌⊎◌, inl, inr, arith}
use Rattle.std.specs.Prelude.{is_some, if◌then◌else◌}
use Rattle.std.proofs.lemmas.Slice.Eq.{bytes_eq-Decides}
use Rattle.std.proofs.lemmas.Bool.{cases_eq, cases_lt}
use Rattle.std.proofs.lemmas.List.{get_or-set_same, get_or-set_other, get_or_past, length-set, drop_more, drop_all, set-get_or}
use Rattle.cca_roles.specs.Directory.{name_at, AreApart, has_name, place_from, place_of, free_from, free_place, IsFresh}

pub none_some : {X : Type 0} (x : X) → None ≡ Some x → ⊥
none_some x is = cc

-- ---- apart

pub apart_blank : (n : ℕ) → AreApart (replicate n None)
apart_blank n = λ m k name here there. absurd (none_some name (sym (blank n m) ∙ here))
  where
    blank : (n m : ℕ) → name_at (replicate n None) m ≡ None
    blank zero m = refl
    blank (suc n) zero = refl
    blank (suc n) (suc m) = blank n m

-- a name that no place holds may be put into any place
pub apart_set : (d : List (Option (List ℕ))) (n : ℕ) (name : List ℕ) → AreApart d → ((k : ℕ) → name_at d k ≢ Some name) → AreApart (set d n (Some name))
apart_set d n name apart fresh i j other at_i at_j =
    ⊎_elim
    (λ (i_is : i ≡ n). ⊎_elim (λ (j_is : j ≡ n). i_is ∙ sym j_is) (λ (j_not : j ≡ n → ⊥). absurd (one_side j i j_not i_is at_j at_i)) (cases_eq j n))
    (λ (i_not : i ≡ n → ⊥). ⊎_elim (λ (j_is : j ≡ n). absurd (one_side i j i_not j_is at_i at_j))
    (λ (j_not : j ≡ n → ⊥). apart i j other (sym (get_or-set_other d n i (Some name) None i_not) ∙ at_i) (sym (get_or-set_other d n j (Some name) None j_not) ∙ at_j)) (cases_eq j n))
    (cases_eq i n)
  where
    some_same : (a b : List ℕ) → Some a ≡ Some b → a ≡ b
    some_same a b is = cc

    one_side : (a b : ℕ) → (a ≡ n → ⊥) → b ≡ n → name_at (set d n (Some name)) a ≡ Some other → name_at (set d n (Some name)) b ≡ Some other → ⊥
    one_side a b a_not b_is at_a at_b =
        ⊎_elim
        (λ (within : n < length d).
        let put : Some name ≡ Some other = sym (get_or-set_same d n (Some name) None within) ∙ ap (λ k. name_at (set d n (Some name)) k) (sym b_is) ∙ at_b in
        let here : name_at d a ≡ Some other = sym (get_or-set_other d n a (Some name) None a_not) ∙ at_a in
        fresh a (here ∙ sym put))
        (λ (past : length d ≤ n).
        none_some other (sym (get_or_past (set d n (Some name)) b None (omega (arith, length-set d n (Some name)))) ∙ at_b))
        (cases_lt n (length d))

-- a place may lose its name
pub apart_none : (d : List (Option (List ℕ))) (n : ℕ) → AreApart d → AreApart (set d n None)
apart_none d n apart i j name at_i at_j = apart i j name (stood i at_i) (stood j at_j)
  where
    stood : (k : ℕ) → name_at (set d n None) k ≡ Some name → name_at d k ≡ Some name
    stood k at_k = ⊎_elim
        (λ (is : k ≡ n). absurd (none_some name (sym (gone k is) ∙ at_k)))
        (λ (other : k ≡ n → ⊥). sym (get_or-set_other d n k None None other) ∙ at_k)
        (cases_eq k n)
      where
        gone : (k : ℕ) → k ≡ n → name_at (set d n None) k ≡ None
        gone k is = ⊎_elim
            (λ (within : n < length d). ap (λ i. name_at (set d n None) i) is ∙ get_or-set_same d n None None within)
            (λ (past : length d ≤ n). get_or_past (set d n None) k None (omega (arith, length-set d n None)))
            (cases_lt n (length d))

-- ---- the place of a name

no_place : (at n : ℕ) (test : Bool) (o : Option ℕ) → (if test then Some at else o) ≡ Some n → ((test ≡ true) × (n ≡ at)) ⊎ ((test ≡ false) × (o ≡ Some n))
no_place at n true o is = inl (refl, cc)
no_place at n false o is = inr (refl, is)

pub has_name_is : (name : List ℕ) (l : Option (List ℕ)) → has_name name l ≡ true → l ≡ Some name
has_name_is name None is = cc
has_name_is name (Some other) is = ap (λ x. Some x) ((bytes_eq-Decides other name).0 is)

pub has_name_not : (name : List ℕ) (l : Option (List ℕ)) → has_name name l ≡ false → l ≢ Some name
has_name_not name None is held = none_some name held
has_name_not name (Some other) is held = let both : true ≡ false = sym ((bytes_eq-Decides other name).1 (some_same other name held)) ∙ is in cc
  where
    some_same : (a b : List ℕ) → Some a ≡ Some b → a ≡ b
    some_same a b is = cc

pub place_found : (name : List ℕ) (d : List (Option (List ℕ))) (at n : ℕ) → place_from at name d ≡ Some n → (k : ℕ) × (n ≡ at + k) × (k < length d) × (name_at d k ≡ Some name)
place_found name [] at n is = absurd (none_some n is)
place_found name (l ∷ ls) at n is =
    ⊎_elim
    (λ (here : (has_name name l ≡ true) × (n ≡ at)). (0, omega (arith, here.1), omega arith, has_name_is name l here.0))
    (λ (further : (has_name name l ≡ false) × (place_from (at + 1) name ls ≡ Some n)). let more = place_found name ls (at + 1) n further.1 in (suc more.0, omega (arith, more.1), omega (arith, more.2), more.3))
    (no_place at n (has_name name l) (place_from (at + 1) name ls) is)

no_none : (at : ℕ) (test : Bool) (o : Option ℕ) → (if test then Some at else o) ≡ None → (test ≡ false) × (o ≡ None)
no_none at true o is = absurd (none_some at (sym is))
no_none at false o is = (refl, is)

pub place_missing : (name : List ℕ) (d : List (Option (List ℕ))) (at : ℕ) → place_from at name d ≡ None → (k : ℕ) → name_at d k ≢ Some name
place_missing name [] at is k held = none_some name held
place_missing name (l ∷ ls) at is zero held = has_name_not name l (no_none at (has_name name l) (place_from (at + 1) name ls) is).0 held
place_missing name (l ∷ ls) at is (suc k) held = place_missing name ls (at + 1) (no_none at (has_name name l) (place_from (at + 1) name ls) is).1 k held

-- one place more
pub place_step : (name : List ℕ) (d : List (Option (List ℕ))) (at : ℕ) (l : Option (List ℕ)) → at < length d → l ≡ name_at d at
    → place_from at name (drop at d) ≡ (if has_name name l then Some at else place_from (at + 1) name (drop (at + 1) d))
place_step name d at l within is = ap (place_from at name) (drop_more d at None within) ∙ ap (λ x. if has_name name x then Some at else place_from (at + 1) name (drop (at + 1) d)) (sym is)

pub place_end : (name : List ℕ) (d : List (Option (List ℕ))) (at : ℕ) → length d ≤ at → place_from at name (drop at d) ≡ None
place_end name d at past = ap (place_from at name) (drop_all at d past)

-- ---- the free place

pub free_step : (d : List (Option (List ℕ))) (at : ℕ) (name : List ℕ) → at < length d → name_at d at ≡ Some name → free_from at (drop at d) ≡ free_from (at + 1) (drop (at + 1) d)
free_step d at name within is = ap (free_from at) (drop_more d at None within) ∙ ap (λ l. free_from at (l ∷ drop (at + 1) d)) is

pub free_here : (d : List (Option (List ℕ))) (at : ℕ) → at < length d → name_at d at ≡ None → free_from at (drop at d) ≡ at
free_here d at within is = ap (free_from at) (drop_more d at None within) ∙ ap (λ l. free_from at (l ∷ drop (at + 1) d)) is

pub free_end : (d : List (Option (List ℕ))) (at : ℕ) → length d ≤ at → free_from at (drop at d) ≡ at
free_end d at past = ap (free_from at) (drop_all at d past)

-- ---- whether a name is held

pub none_of : {X : Type 0} (o : Option X) → is_some o ≡ false → o ≡ None
none_of None is = refl
none_of (Some x) is = let both : true ≡ false = is in cc

pub some_of : {X : Type 0} (o : Option X) → is_some o ≡ true → (x : X) × (o ≡ Some x)
some_of None is = let both : false ≡ true = is in absurd (cc)
some_of (Some x) is = (x, refl)

pub held_somewhere : (name : List ℕ) (d : List (Option (List ℕ))) → is_some (place_of name d) ≡ true → (k : ℕ) × (name_at d k ≡ Some name)
unfolding place_of
held_somewhere name d is =
    let at = some_of (place_from 0 name d) is in
    let found = place_found name d 0 at.0 at.1 in
    (found.0, found.3)

pub held_nowhere : (name : List ℕ) (d : List (Option (List ℕ))) → is_some (place_of name d) ≡ false → (k : ℕ) → name_at d k ≢ Some name
unfolding place_of
held_nowhere name d is = place_missing name d 0 (none_of (place_from 0 name d) is)

pub fresh_apart : (o : Option (List ℕ)) (d : List (Option (List ℕ))) (n : ℕ) → AreApart d → IsFresh o d → AreApart (set d n o)
fresh_apart None d n apart fresh = apart_none d n apart
fresh_apart (Some name) d n apart fresh = apart_set d n name apart fresh

-- the same name again
pub apart_same : (d : List (Option (List ℕ))) (n : ℕ) (name : List ℕ) → AreApart d → name_at d n ≡ Some name → AreApart (set d n (Some name))
apart_same d n name apart held = subst AreApart (sym (set-get_or d n None) ∙ ap (set d n) held) apart

pub none_from : {X : Type 0} (o : Option X) → ((x : X) → o ≡ Some x → ⊥) → o ≡ None
none_from None other = refl
none_from (Some x) other = absurd (other x refl)

-- the place of a name that is held
pub place_is : (d : List (Option (List ℕ))) (n : ℕ) (name : List ℕ) → AreApart d → name_at d n ≡ Some name → place_of name d ≡ Some n
unfolding place_of
place_is d n name apart held = by_answer (place_from 0 name d) refl
  where
    by_answer : (o : Option ℕ) → place_from 0 name d ≡ o → place_from 0 name d ≡ Some n
    by_answer None is = absurd (place_missing name d 0 is n held)
    by_answer (Some k) is =
        let found = place_found name d 0 k is in
        let same : k ≡ n = omega (arith, found.1, apart found.0 n name found.3 held) in
        is ∙ ap (λ m. Some m) same

-- the first place is free only where it holds no name
pub free_first : (d : List (Option (List ℕ))) (name : List ℕ) → free_place d ≡ 0 → name_at d 0 ≢ Some name
unfolding free_place
free_first [] name is held = none_some name held
free_first (None ∷ ns) name is held = none_some name held
free_first (Some n ∷ ns) name is held = let past : 1 ≤ free_from 1 ns = free_past ns 1 in omega (arith, past, is)
  where
    free_past : (d : List (Option (List ℕ))) (at : ℕ) → at ≤ free_from at d
    free_past [] at = omega arith
    free_past (None ∷ ns) at = omega arith
    free_past (Some n ∷ ns) at = omega (arith, free_past ns (at + 1))

-- the place that is found holds the name
pub held_at : (name : List ℕ) (d : List (Option (List ℕ))) (n : ℕ) → place_of name d ≡ Some n → name_at d n ≡ Some name
unfolding place_of
held_at name d n is =
    let found = place_found name d 0 n is in
    let same : n ≡ found.0 = omega (arith, found.1) in
    ap (name_at d) same ∙ found.3
