-- The cells that the labels of a move take: those that aren't held take the free cells, both in ascending order.
use Rattle.std.proofs.Common.{◌≡◌, ◌≢◌, ◌⊎◌, inl, inr, ⊎_elim, ◌<◌, ◌+◌, ℕ, zero, suc, Bool, true, false, cond, List, [], ◌∷◌, ◌++◌, length, get_or, map, set, Option, None, Some, refl, sym, ap, subst, ◌∙◌, arith}
use Rattle.std.specs.Prelude.{◌==◌, ◌&&◌, ◌||◌, ⊤, Contains, filter, is_none, is_some, if◌then◌else◌}
use Rattle.std.specs.List.{AllByRecursion, flat_map, range_with_len}
use Rattle.std.proofs.lemmas.Bool.{eqb-true}
use Rattle.std.proofs.lemmas.List.{get_or-set_same}
use Rattle.cca_roles.specs.Directory.{AreApart, free_from, name_at}
use Rattle.cca_roles.proofs.DirectoryLaws.{apart_set, held_nowhere, place_is}
use Rattle.record_bodies.specs.LabelChanges.{created}
use Rattle.record_bodies.specs.Directory.{cell_of, free_cell, held_count}
use Rattle.record_bodies.specs.Entries.{Entry, directory, entry_label}
use Rattle.record_bodies.specs.Rank.{smaller_count}
use Rattle.record_bodies.specs.StoreStands.{entry_at}
use Rattle.key_tokens.specs.Denotes.{Denoted}
use Rattle.cca_machine.specs.Listing.{ascending, first_label, has_rank, nth_label}
use Rattle.cca_laws.specs.Moving.{free_cells_from}
use Rattle.cca_laws.proofs.LabelLists.{free_at, name_of_entry}
use Rattle.cca_laws.proofs.MoveLists.{create_elsewhere, create_held, created_names, import_directory}
use Rattle.cca_laws.proofs.MoveRoom.{HasRoom, is_created, low_cell, room_created, room_imported}
use Rattle.cca_laws.proofs.MoveRuns.{Step, Creates, Imports, carried_all, steps_by, steps_for, steps_stay}
use Rattle.cca_laws.proofs.MoveSteps.{after_create, after_import}

-- ---- free cells

-- one of them is taken
taken : (d : List (Option (List ℕ))) (at n : ℕ) (label : List ℕ) → free_from at d ≡ at + n → n < length d → free_cells_from at d ≡ (at + n) ∷ free_cells_from at (set d n (Some label))
taken [] at n label is within = absurd (omega (arith, within))
taken (None ∷ ns) at zero label is within = ap (λ (k : ℕ). k ∷ free_cells_from (at + 1) ns) (omega arith)
taken (None ∷ ns) at (suc n) label is within = absurd (omega (arith, is))
taken (Some l ∷ ns) at zero label is within = let found = free_at ns (at + 1) in absurd (omega (arith, is, found.1))
taken (Some l ∷ ns) at (suc n) label is within =
    taken ns (at + 1) n label (omega (arith, is)) (omega (arith, within)) ∙ ap (λ (k : ℕ). k ∷ free_cells_from (at + 1) (set ns n (Some label))) (omega arith)

first_taken : (d : List (Option (List ℕ))) (label : List ℕ) → free_cell d < length d
    → free_cells_from 0 d ≡ free_cell d ∷ free_cells_from 0 (set d (free_cell d) (Some label))
unfolding free_cell
first_taken d label low =
    taken d 0 (free_from 0 d) label (omega arith) low
    ∙ ap (λ (k : ℕ). k ∷ free_cells_from 0 (set d (free_from 0 d) (Some label))) (none (free_from 0 d))
  where
    none : (k : ℕ) → 0 + k ≡ k
    none k = omega arith

-- ---- labels stay apart

apart_created : (label : List ℕ) (es : List (Option Entry)) → AreApart (directory es) → AreApart (directory (after_create label es))
unfolding cell_of
apart_created label es apart = by_known (is_some (cell_of label (directory es))) (free_cell (directory es) == 1024) refl
  where
    by_known : (known full : Bool) → is_some (cell_of label (directory es)) ≡ known → AreApart (directory (if known || full then es else created label es))
    by_known true full is = apart
    by_known false true is = apart
    by_known false false is =
        subst AreApart (sym (created_names label es)) (apart_set (directory es) (free_cell (directory es)) label apart (held_nowhere label (directory es) is))

module _ (key : List ℕ → Denoted) where
  apart_step : (x : Step) (es : List (Option Entry)) → AreApart (directory es) → AreApart (directory (carried_all key (x ∷ []) es))
  apart_step (Creates label) es apart = apart_created label es apart
  apart_step (Imports label) es apart = subst AreApart (sym (import_directory label (key label) es)) apart

  pub apart_steps : (xs : List Step) (es : List (Option Entry)) → AreApart (directory es) → AreApart (directory (carried_all key xs es))
  apart_steps [] es apart = apart
  apart_steps (x ∷ xs) es apart = apart_steps xs (carried_all key (x ∷ []) es) (apart_step x es apart)

-- a cell of no label has nothing
pub no_other : (es : List (Option Entry)) → AreApart (directory es) → (cell : ℕ) → ((label : List ℕ) → cell_of label (directory es) ≢ Some cell) → entry_at es cell ≡ None
unfolding cell_of
no_other es apart cell never = by_entry (entry_at es cell) refl
  where
    by_entry : (o : Option Entry) → entry_at es cell ≡ o → o ≡ None
    by_entry None is = refl
    by_entry (Some e) is = absurd (never e.label (place_is (directory es) cell e.label apart (name_of_entry es cell ∙ ap entry_label is)))

-- ---- labels in order

-- a label that moves isn't listed twice
abbrev pub AreDistinct : (List ℕ → Bool) → List (List ℕ) → Type 0
AreDistinct moves [] = ⊤
AreDistinct moves (label ∷ labels) = (moves label ≡ true → AllByRecursion (λ other. other ≢ label) labels) × AreDistinct moves labels

module _ (moves : List ℕ → Bool) (f : ℕ → List ℕ) (rank : List ℕ → ℕ) (ranks : (i : ℕ) → moves (f i) ≡ true → rank (f i) ≡ i) where
  later : (n at from : ℕ) → at < from → moves (f at) ≡ true → AllByRecursion (λ other. other ≢ f at) (map f (range_with_len from n))
  later zero at from behind moved = tt
  later (suc n) at from behind moved = (
    λ same. let other : rank (f from) ≡ from = ranks from (ap moves same ∙ moved) in absurd (omega (arith, behind, ranks at moved, ap rank same, other)),
    later n at (from + 1) (omega (arith, behind)) moved,
  )

  by_rank : (n at : ℕ) → AreDistinct moves (map f (range_with_len at n))
  by_rank zero at = tt
  by_rank (suc n) at = (λ moved. later n at (at + 1) (omega arith) moved, by_rank n (at + 1))

-- the first label that passes a test, where there is one
module _ (test : Option (List ℕ) → Bool) (blank : test None ≡ false) where
  abbrev Passes : List (Option (List ℕ)) → Type 0
  Passes l = (first_label l ≡ []) ⊎ (test (Some (first_label l)) ≡ true)

  first_passes : (d : List (Option (List ℕ))) → Passes (filter test d)
  first_passes [] = inl refl
  first_passes (None ∷ rest) = subst (λ t. Passes (cond t (None ∷ filter test rest) (filter test rest))) (sym blank) (first_passes rest)
  first_passes (Some label ∷ rest) = by_test (test (Some label)) refl (first_passes rest)
    where
      by_test : (t : Bool) → test (Some label) ≡ t → Passes (filter test rest) → Passes (cond t (Some label ∷ filter test rest) (filter test rest))
      by_test true is others = inr is
      by_test false is others = others

nth_rank : (d : List (Option (List ℕ))) (i : ℕ) → (nth_label d i ≡ []) ⊎ (smaller_count (nth_label d i) d ≡ i)
nth_rank d i = ⊎_elim
    (λ (none : nth_label d i ≡ []). inl none)
    (λ (is : has_rank i d (Some (nth_label d i)) ≡ true). inr (eqb-true (smaller_count (nth_label d i) d) i is))
    (first_passes (has_rank i d) refl d)

pub distinct : (d : List (Option (List ℕ))) (moves : List ℕ → Bool) → moves [] ≡ false → AreDistinct moves (ascending d)
distinct d moves none = by_rank moves (nth_label d) (λ label. smaller_count label d) ranks (held_count d) 0
  where
    ranks : (i : ℕ) → moves (nth_label d i) ≡ true → smaller_count (nth_label d i) d ≡ i
    ranks i moved = ⊎_elim
        (λ (empty : nth_label d i ≡ []). let both : true ≡ false = sym moved ∙ (ap moves empty ∙ none) in cc)
        (λ (is : smaller_count (nth_label d i) d ≡ i). is)
        (nth_rank d i)

-- ---- the cells that they take

filter_same : (p q : List ℕ → Bool) (labels : List (List ℕ)) → AllByRecursion (λ label. p label ≡ q label) labels → filter p labels ≡ filter q labels
filter_same p q [] each = refl
filter_same p q (label ∷ labels) each =
    ap (λ t. cond t (label ∷ filter p labels) (filter p labels)) each.0 ∙ ap (λ ls. cond (q label) (label ∷ ls) ls) (filter_same p q labels each.1)

all_weaker : (P Q : List ℕ → Type 0) → ((label : List ℕ) → P label → Q label) → (labels : List (List ℕ)) → AllByRecursion P labels → AllByRecursion Q labels
all_weaker P Q weaker [] each = tt
all_weaker P Q weaker (label ∷ labels) each = (weaker label each.0, all_weaker P Q weaker labels each.1)

some_or : (o : Option ℕ) → is_none o ≡ false → is_some o ≡ true
some_or None is = cc is
some_or (Some n) is = refl

none_or : (o : Option ℕ) → is_none o ≡ true → is_some o ≡ false
none_or None is = refl
none_or (Some n) is = cc is

module _ (moves : List ℕ → Bool) (key : List ℕ → Denoted) (all : List (List ℕ)) where
  -- what the steps of these labels make of the places
  abbrev after_all : List (List ℕ) → List (Option Entry) → List (Option Entry)
  after_all labels es = carried_all key (flat_map (steps_for moves) labels) es

  -- the labels that move and aren't held in a directory
  abbrev new_in : List (Option (List ℕ)) → List (List ℕ) → List (List ℕ)
  new_in d labels = filter (λ label. moves label && is_none (cell_of label d)) labels

  -- each of these takes the free cell of its number
  abbrev TakeCells : List (List ℕ) → List (Option (List ℕ)) → List (Option Entry) → Type 0
  TakeCells labels d now =
      (n : ℕ) → n < length labels → cell_of (get_or labels n []) (directory now) ≡ Some (get_or (free_cells_from 0 d) n 0)

  -- the first one takes the lowest
  one_more : (label : List ℕ) (labels : List (List ℕ)) (cell : ℕ) (d next : List (Option (List ℕ))) (now : List (Option Entry))
      → free_cells_from 0 d ≡ cell ∷ free_cells_from 0 next → cell_of label (directory now) ≡ Some cell → TakeCells labels next now → TakeCells (label ∷ labels) d now
  one_more label labels cell d next now cells here others zero within = here ∙ ap (λ (ks : List ℕ). Some (get_or ks 0 0)) (sym cells)
  one_more label labels cell d next now cells here others (suc n) within = others n (omega (arith, within)) ∙ ap (λ (ks : List ℕ). Some (get_or ks (suc n) 0)) (sym cells)

  module _ (label : List ℕ) (labels : List (List ℕ)) (es : List (Option Entry)) where
    -- once the label's record is created and its key imported
    abbrev next : List (Option Entry)
    next = after_import label (key label) (after_create label es)

    held_next : is_some (cell_of label (directory es)) ≡ true → directory next ≡ directory es
    held_next held = import_directory label (key label) (after_create label es) ∙ ap directory (create_held label es held)

    module _ (room : HasRoom moves all es) (apart : AreApart (directory es)) (moved : moves label ≡ true) (among : Contains all label)
        (new : is_some (cell_of label (directory es)) ≡ false) where
      new_next : directory next ≡ set (directory es) (free_cell (directory es)) (Some label)
      new_next =
          import_directory label (key label) (after_create label es)
          ∙ (ap directory (is_created moves all label es room moved among new) ∙ created_names label es)

      low : free_cell (directory es) < length (directory es)
      low = low_cell moves all label es room moved among new

      put : name_at (directory next) (free_cell (directory es)) ≡ Some label
      put = ap (λ d. name_at d (free_cell (directory es))) new_next ∙ get_or-set_same (directory es) (free_cell (directory es)) (Some label) None low

      apart_next : AreApart (directory next)
      apart_next = subst AreApart (sym (import_directory label (key label) (after_create label es))) (apart_created label es apart)

      cell_next : cell_of label (directory next) ≡ Some (free_cell (directory es))
      unfolding cell_of
      cell_next = place_is (directory next) (free_cell (directory es)) label apart_next put

      still : (other : List ℕ) → other ≢ label → cell_of other (directory next) ≡ cell_of other (directory es)
      still other different =
          ap (cell_of other) (import_directory label (key label) (after_create label es)) ∙ (create_elsewhere other label es (λ same. different (sym same))).cell

      same_new : AllByRecursion (λ other. other ≢ label) labels → new_in (directory next) labels ≡ new_in (directory es) labels
      same_new others = filter_same _ _ labels
          (all_weaker (λ other. other ≢ label) _ (λ other different. ap (λ (o : Option ℕ). moves other && is_none o) (still other different)) labels others)

  others_among : (label : List ℕ) (labels : List (List ℕ)) → ((l : List ℕ) → Contains (label ∷ labels) l → Contains all l) → (l : List ℕ) → Contains labels l → Contains all l
  others_among label labels among l there = among l (suc there.0, omega (arith, there.1), there.2)

  pub take_cells : (labels : List (List ℕ)) → ((l : List ℕ) → Contains labels l → Contains all l) → AreDistinct moves labels
      → (es : List (Option Entry)) → HasRoom moves all es → AreApart (directory es) → TakeCells (new_in (directory es) labels) (directory es) (after_all labels es)
  take_cells [] among one es room apart = λ n within. absurd (omega (arith, within))
  take_cells (label ∷ labels) among one es room apart =
      by_test (moves label) (is_none (cell_of label (directory es))) refl refl
      (take_cells labels (others_among label labels among) one.1)
    where
      here : Contains all label
      here = among label (0, omega arith, refl)

      by_test : (m f : Bool) → moves label ≡ m → is_none (cell_of label (directory es)) ≡ f
          → ((fs : List (Option Entry)) → HasRoom moves all fs → AreApart (directory fs) → TakeCells (new_in (directory fs) labels) (directory fs) (after_all labels fs))
          → TakeCells (cond (m && f) (label ∷ new_in (directory es) labels) (new_in (directory es) labels)) (directory es)
          (carried_all key (steps_by moves m label ++ flat_map (steps_for moves) labels) es)
      by_test false f stays is rest = rest es room apart
      by_test true false moved is rest =
          let same : directory (next label labels es) ≡ directory es = held_next label labels es (some_or (cell_of label (directory es)) is) in
          subst (λ d. TakeCells (new_in d labels) d (after_all labels (next label labels es))) same
          (rest (next label labels es)
          (room_imported moves all label (key label) (after_create label es) (room_created moves all label es room moved here))
          (subst AreApart (sym same) apart))
      by_test true true moved is rest =
          let new : is_some (cell_of label (directory es)) ≡ false = none_or (cell_of label (directory es)) is in
          let fs : List (Option Entry) = next label labels es in
          let later = rest fs (room_imported moves all label (key label) (after_create label es) (room_created moves all label es room moved here))
          (apart_next label labels es room apart moved here new) in
          let cells : free_cells_from 0 (directory es) ≡ free_cell (directory es) ∷ free_cells_from 0 (directory fs) =
          first_taken (directory es) label (low label labels es room apart moved here new)
          ∙ ap (λ d. free_cell (directory es) ∷ free_cells_from 0 d) (sym (new_next label labels es room apart moved here new)) in
          one_more label (new_in (directory es) labels) (free_cell (directory es)) (directory es) (directory fs) (after_all labels fs) cells
          (steps_stay key label (free_cell (directory es)) (flat_map (steps_for moves) labels) fs (cell_next label labels es room apart moved here new))
          (subst (λ ls. TakeCells ls (directory fs) (after_all labels fs)) (same_new label labels es room apart moved here new (one.0 moved)) later)
