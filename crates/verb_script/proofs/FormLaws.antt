-- The rows that the parser holds are those of the grammar.
use Rattle.std.proofs.Common.{◌≡◌, ◌<◌, ℕ, zero, suc, List, [], ◌∷◌, length, map, get_or, refl, arith, ap, sym, ◌∙◌}
use Rattle.verb_script.specs.declared.rows.RequestName.{RequestName}
use Rattle.verb_script.specs.Rows.{AreRows, IsRow, NamedRow, form_seen, named_row, row_name}
use Rattle.verb_script.specs.declared.rows.RowForm.{RowForm}

same_head : {A : Type 0} (x y : A) (xs ys : List A) → x ∷ xs ≡ y ∷ ys → x ≡ y
same_head x y xs ys h = cc

same_tail : {A : Type 0} (x y : A) (xs ys : List A) → x ∷ xs ≡ y ∷ ys → xs ≡ ys
same_tail x y xs ys h = cc

-- each of them
pub is_row_at : (forms : List RowForm) (i : ℕ) (d : RowForm) → AreRows forms → i < length forms → IsRow (get_or forms i d)
is_row_at [] i d are lt = absurd (omega arith)
is_row_at (f ∷ fs) zero d are lt = same_head (form_seen f) (named_row (row_name f)) (map form_seen fs) (map named_row (map row_name fs)) are
is_row_at (f ∷ fs) (suc i) d are lt =
    let below : i < length fs = omega arith in
    is_row_at fs i d (same_tail (form_seen f) (named_row (row_name f)) (map form_seen fs) (map named_row (map row_name fs)) are) below

joined : (n m : RequestName) (ns ms : List RequestName) → n ≡ m → ns ≡ ms → n ∷ ns ≡ m ∷ ms
joined n m ns ms h others = cc

-- their names, where they are the rows of these
pub names_are : (forms : List RowForm) (names : List RequestName) → map form_seen forms ≡ map named_row names → map row_name forms ≡ names
names_are [] [] are = refl
names_are [] (n ∷ ns) are = cc
names_are (f ∷ fs) [] are = cc
names_are (f ∷ fs) (n ∷ ns) are =
    joined (row_name f) n (map row_name fs) ns
    (ap (λ (row : NamedRow). row.name) (same_head (form_seen f) (named_row n) (map form_seen fs) (map named_row ns) are))
    (names_are fs ns (same_tail (form_seen f) (named_row n) (map form_seen fs) (map named_row ns) are))

pub are_rows : (forms : List RowForm) (names : List RequestName) → map form_seen forms ≡ map named_row names → AreRows forms
are_rows forms names are = are ∙ ap (map named_row) (sym (names_are forms names are))
