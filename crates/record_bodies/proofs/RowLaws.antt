-- Rows of the memory.
use Rattle.std.proofs.Common.{◌≡◌, ◌<◌, ◌≤◌, ⊎_elim, ℕ, zero, suc, List, [], ◌∷◌, ◌++◌, length, get_or, take, drop, set, replicate, Option, None, Some, refl, sym, ap, subst, ◌∙◌, arith}
use Rattle.std.proofs.lemmas.Bool.{cases_lt}
use Rattle.std.proofs.lemmas.List.{take_at, length-set, length-replicate, map-set, length-map, get_or-replicate, get_or_past, get_or_read}
use Rattle.record_bodies.specs.Ascending.{Lists}
use Rattle.record_bodies.specs.Directory.{AreApart, label_at}
use Rattle.record_bodies.specs.Entries.{row_directory, row_label}
use Rattle.record_bodies.specs.Rows.{AreRows, AreListed}
use Rattle.record_bodies.specs.declared.rows.Row.{Row}
use Rattle.cca_roles.proofs.DirectoryLaws.{apart_blank, none_some}
use Rattle.record_bodies.proofs.ListedLaws.{lists_none}

-- ---- the label of a row

pub label_of_row : (rows : List (Option Row)) (n : ℕ) → label_at (row_directory rows) n ≡ row_label (get_or rows n None)
label_of_row [] n = refl
label_of_row (r ∷ rows) zero = refl
label_of_row (r ∷ rows) (suc n) = label_of_row rows n

-- the label of a row that was read
pub label_read : (rows : List (Option Row)) (n : ℕ) (r : Option Row) → n < length rows → r ≡ get_or rows n r → label_at (row_directory rows) n ≡ row_label r
label_read rows n r within is = label_of_row rows n ∙ ap row_label (sym (get_or_read rows n r within is None))

-- ---- no labels

blank_directory : (n : ℕ) → row_directory (replicate n None) ≡ replicate n None
blank_directory zero = refl
blank_directory (suc n) = ap (λ d. None ∷ d) (blank_directory n)

abbrev no_rows : ℕ → List (Option Row)
no_rows size = replicate size None

blank_at : (size n : ℕ) → get_or (no_rows size) n None ≡ None
blank_at size n = ⊎_elim
    (λ (within : n < size). get_or-replicate size n None None within)
    (λ (past : size ≤ n). get_or_past (no_rows size) n None (omega (arith, past, length-replicate {A = Option Row} size None)))
    (cases_lt n size)

pub blank_rows : (rows : List (Option Row)) (n : ℕ) → n ≡ 1024 → rows ≡ replicate n None → AreRows rows
blank_rows rows n all is = record {
  size = ap length is ∙ length-replicate n None ∙ all;
  apart = subst AreApart (sym (ap row_directory is ∙ blank_directory n)) (apart_blank n);
}

pub rows_set : (rows now : List (Option Row)) (cell : ℕ) (row : Option Row) → AreRows rows → rows ≡ now → AreApart (set (row_directory now) cell (row_label row)) → AreRows (set rows cell row)
rows_set rows now cell row are is apart = record {
  size = length-set rows cell row ∙ are.size;
  apart = subst AreApart (sym (map-set row_label rows cell row ∙ ap (λ r. set (row_directory r) cell (row_label row)) is)) apart;
}

-- one row became another, and the cells are listed for it
pub set_listed : (rows now : List (Option Row)) (cells : List ℕ) (cell : ℕ) (row : Option Row) → AreRows rows → rows ≡ now → AreApart (set (row_directory now) cell (row_label row)) → Lists (set (row_directory rows) cell (row_label row)) cells → AreListed (set rows cell row) cells
set_listed rows now cells cell row are is apart lists = record {
  are = rows_set rows now cell row are is apart;
  listed = subst (λ d. Lists d cells) (sym (map-set row_label rows cell row)) lists;
}

-- a vector whose slice became blank
pub cleared : (items new : List (Option Row)) (len : ℕ) → new ≡ replicate (length items) None → length items ≡ 1024 → len ≡ length items → take len (new ++ drop (length new) items) ≡ replicate 1024 None
cleared items new len is all long =
    take_at new (drop (length new) items) len (ap length is ∙ length-replicate (length items) None ∙ sym long) ∙ is ∙ ap (λ (n : ℕ). replicate n None) all

-- the rows and the directory of no labels
pub none_listed : (rows : List (Option Row)) (cells : List ℕ) → rows ≡ replicate 1024 None → cells ≡ [] → AreListed rows cells
none_listed rows cells is none = record {
  are = blank_rows rows 1024 refl is;
  listed = subst (Lists (row_directory rows)) (sym none) (lists_none (row_directory rows) blank);
}
  where
    blank : (n : ℕ) → label_at (row_directory rows) n ≡ None
    blank n = label_of_row rows n ∙ ap (λ r. row_label (get_or r n None)) is ∙ ap row_label (blank_at 1024 n)

-- a label that is held stands in one of the cells
pub held_within : (rows : List (Option Row)) (cell : ℕ) (label : List ℕ) → AreRows rows → label_at (row_directory rows) cell ≡ Some label → cell < 1024
held_within rows cell label are held =
    ⊎_elim (λ (within : cell < 1024). within)
    (λ (past : 1024 ≤ cell). absurd (none_some label (sym (get_or_past (row_directory rows) cell None (omega (arith, length-map rows row_label, are.size))) ∙ held)))
    (cases_lt cell 1024)

-- a vector whose slice was written
pub sliced : {A : Type 0} (items new : List A) (len : ℕ) → length new ≡ length items → len ≡ length items → take len (new ++ drop (length new) items) ≡ new
sliced items new len same long = take_at new (drop (length new) items) len (same ∙ sym long)
