-- Names in their places: a list with a name, or none, for each place.
use Rattle.std.specs.Prelude.{◌≡◌, ◌≢◌, ⊤, ℕ, ◌+◌, Bool, false, List, [], ◌∷◌, get_or, bytes_eq}
use Rattle.std.specs.Prelude.{Option, None, Some, if◌then◌else◌}

-- the name of a place, where it holds one
abbrev pub name_at : List (Option (List ℕ)) → ℕ → Option (List ℕ)
name_at d n = get_or d n None

-- a name stands in one place alone
abbrev pub AreApart : List (Option (List ℕ)) → Type 0
AreApart d =
    (m n : ℕ) (name : List ℕ) → name_at d m ≡ Some name → name_at d n ≡ Some name → m ≡ n

abbrev pub has_name : List ℕ → Option (List ℕ) → Bool
has_name name None = false
has_name name (Some other) = bytes_eq other name

-- the first of these places that holds the name, counted from `at`
abbrev pub place_from : ℕ → List ℕ → List (Option (List ℕ)) → Option ℕ
place_from at name [] = None
place_from at name (n ∷ ns) = if has_name name n then Some at else place_from (at + 1) name ns

-- the place of a name, where one holds it
unfoldable pub place_of : List ℕ → List (Option (List ℕ)) → Option ℕ
place_of name d = place_from 0 name d

-- the first of these places that holds no name, counted from `at`
abbrev pub free_from : ℕ → List (Option (List ℕ)) → ℕ
free_from at [] = at
free_from at (None ∷ ns) = at
free_from at (Some n ∷ ns) = free_from (at + 1) ns

-- the lowest place that holds no name; the number of places where each holds one
unfoldable pub free_place : List (Option (List ℕ)) → ℕ
free_place d = free_from 0 d

-- no place holds the name, where there is one
abbrev pub IsFresh : Option (List ℕ) → List (Option (List ℕ)) → Type 0
IsFresh None d = ⊤
IsFresh (Some name) d = (k : ℕ) → name_at d k ≢ Some name

-- some place holds the name, where there is one
abbrev pub IsHeld : Option (List ℕ) → List (Option (List ℕ)) → Type 0
IsHeld None d = ⊥
IsHeld (Some name) d = (k : ℕ) × (name_at d k ≡ Some name)
