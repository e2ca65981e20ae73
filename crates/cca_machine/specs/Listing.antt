-- The labels that begin with a prefix, in ascending order of their bytes.
use Rattle.std.specs.Prelude.{ℕ, Bool, false, ◌==◌, nat_eq, List, [], ◌∷◌, ◌++◌, length, map, filter, codes, Option, None, Some}
use Rattle.std.specs.List.{range_with_len, starts_with}
use Rattle.record_bodies.specs.Directory.{held_count}
use Rattle.record_bodies.specs.Rank.{smaller_count}
use Rattle.line_service.specs.Replies.{Field, Number, Text}

abbrev pub has_rank : ℕ → List (Option (List ℕ)) → Option (List ℕ) → Bool
has_rank index d None = false
has_rank index d (Some label) = smaller_count label d == index

abbrev pub first_label : List (Option (List ℕ)) → List ℕ
first_label [] = []
first_label (None ∷ ls) = first_label ls
first_label (Some label ∷ ls) = label

-- the label than which exactly so many labels are smaller
abbrev pub nth_label : List (Option (List ℕ)) → ℕ → List ℕ
nth_label d index = first_label (filter (has_rank index d) d)

-- all labels, in ascending order
abbrev pub ascending : List (Option (List ℕ)) → List (List ℕ)
ascending d = map (nth_label d) (range_with_len 0 (held_count d))

-- those that begin with the prefix
abbrev pub beginning : List ℕ → List (List ℕ) → List (List ℕ)
beginning prefix labels = filter (λ label. starts_with nat_eq label prefix) labels

-- with commas between
abbrev pub with_commas : List (List ℕ) → List ℕ
with_commas [] = []
with_commas (label ∷ []) = label
with_commas (label ∷ next ∷ labels) = label ++ (codes "," ++ with_commas (next ∷ labels))

abbrev pub counted : List (List ℕ) → List Field
counted labels = Number (codes "count") (length labels) ∷ Text (codes "labels") (with_commas labels) ∷ []

-- how many labels begin with the prefix, and which
unfoldable pub label_fields : List ℕ → List (Option (List ℕ)) → List Field
label_fields prefix d = counted (beginning prefix (ascending d))
