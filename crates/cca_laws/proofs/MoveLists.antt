-- What the requests of a move do to a list of places: a record is created, and a key is imported into it.
use Rattle.std.proofs.Common.{◌≡◌, ◌≢◌, ◌⊎◌, inl, inr, ⊎_elim, ◌<◌, ◌+◌, ℕ, Bool, true, false, cond, List, [], ◌∷◌, length, get_or, set, Option, None, Some, refl, sym, ap, subst, ◌∙◌, arith}
use Rattle.std.specs.Prelude.{◌==◌, ◌||◌, is_some, if◌then◌else◌}
use Rattle.std.proofs.lemmas.List.{get_or-set_same, length-map, map-set, set-get_or}
use Rattle.std.proofs.lemmas.List.Sums.{sum_by-cons, sum_by-set}
use Rattle.std.proofs.lemmas.Option.{same_Some}
use Rattle.cca_roles.specs.Directory.{has_name, name_at, free_from}
use Rattle.cca_roles.proofs.DirectoryLaws.{has_name_is, has_name_not, held_at, held_nowhere, none_some, place_found}
use Rattle.record_bodies.specs.LabelChanges.{created, null_entry, with_what}
use Rattle.record_bodies.specs.Directory.{cell_of, free_cell, held_count}
use Rattle.record_bodies.specs.Entries.{Entry, directory, entry, entry_label}
use Rattle.record_bodies.specs.StoreStands.{entry_at}
use Rattle.key_tokens.specs.Denotes.{Denoted}
use Rattle.cca_machine.specs.Act.{written_in}
use Rattle.cca_machine.specs.Keys.{what_at, what_in}
use Rattle.cca_laws.specs.EachLabel.{entry_where}
use Rattle.cca_laws.proofs.LabelLists.{Alike, Same, alike_itself, alike_set, entries_compare, entry_is, free_has_none, has_other, label_kept, name_of_entry, place_free, place_other, same_cell, what_where}
use Rattle.cca_laws.proofs.MoveSteps.{after_create, after_import}

-- ---- what a label finds

-- the entry that a label finds
abbrev pub entry_found : List ℕ → List (Option Entry) → Option Entry
entry_found label es = entry_where es (cell_of label (directory es))

-- the key that a label finds
abbrev pub found : List ℕ → List (Option Entry) → Option Denoted
found label es = what_at es (cell_of label (directory es))

pub key_found : (label : List ℕ) (es : List (Option Entry)) (e : Option Entry) → entry_found label es ≡ e → found label es ≡ what_in e
key_found label es e is = what_where es (cell_of label (directory es)) ∙ ap what_in is

abbrev pub IsHeld : List ℕ → List (Option Entry) → Type 0
IsHeld label es = is_some (cell_of label (directory es)) ≡ true

-- two lists in which the label stands in one cell and finds the same
pub record Finds (label : List ℕ) (es fs : List (Option Entry)) : Type 0 where
  pub cell : cell_of label (directory fs) ≡ cell_of label (directory es)
  pub same : entry_found label fs ≡ entry_found label es

pub finds_itself : (label : List ℕ) (es : List (Option Entry)) → Finds label es es
finds_itself label es = record { cell = refl; same = refl }

-- and one key
pub finds_key : (label : List ℕ) (es fs : List (Option Entry)) → Finds label es fs → found label fs ≡ found label es
finds_key label es fs finds = key_found label fs (entry_found label es) finds.same ∙ sym (key_found label es (entry_found label es) refl)

pub finds_further : (label : List ℕ) (es fs gs : List (Option Entry)) → Finds label es fs → Finds label fs gs → Finds label es gs
finds_further label es fs gs one two = record { cell = two.cell ∙ one.cell; same = two.same ∙ one.same }

finds_alike : (label : List ℕ) (es fs : List (Option Entry)) → Alike label Same es fs → Finds label es fs
unfolding cell_of
finds_alike label es fs alike = record {
  cell = same_cell label Same es fs alike;
  same = entry_is label fs ∙ (sym (entries_compare label Same refl es fs alike) ∙ sym (entry_is label es));
}

pub same_or_other : (a b : List ℕ) → (a ≡ b) ⊎ (a ≢ b)
same_or_other a b = by_test (has_name b (Some a)) refl
  where
    by_test : (t : Bool) → has_name b (Some a) ≡ t → (a ≡ b) ⊎ (a ≢ b)
    by_test true is = inl (same_Some a b (has_name_is b (Some a) is))
    by_test false is = inr (λ same. has_name_not b (Some a) is (ap (λ l. Some l) same))

pub held_with_entry : (label : List ℕ) (es : List (Option Entry)) (e : Entry) → entry_found label es ≡ Some e → IsHeld label es
held_with_entry label es e is = by_cell (cell_of label (directory es)) is
  where
    by_cell : (o : Option ℕ) → entry_where es o ≡ Some e → is_some o ≡ true
    by_cell None is = cc
    by_cell (Some n) is = refl

-- ---- a record is created

abbrev create_test : List ℕ → List (Option Entry) → Bool
create_test label es = is_some (cell_of label (directory es)) || free_cell (directory es) == 1024

-- of another label nothing changes
pub create_elsewhere : (label other : List ℕ) (es : List (Option Entry)) → other ≢ label → Finds label es (after_create other es)
unfolding free_cell
create_elsewhere label other es apart = finds_alike label es (after_create other es) (by_test (create_test other es))
  where
    by_test : (t : Bool) → Alike label Same es (if t then es else created other es)
    by_test true = alike_itself label es
    by_test false = alike_set label es (free_cell (directory es)) (Some (null_entry other)) (place_free label es) (has_other label other apart)

-- and nothing at all, where the label is held
pub create_held : (label : List ℕ) (es : List (Option Entry)) → IsHeld label es → after_create label es ≡ es
create_held label es held = ap (λ t. if t || free_cell (directory es) == 1024 then es else created label es) held

-- a label that is held stays, with its key
pub create_stays : (label other : List ℕ) (es : List (Option Entry)) → IsHeld label es → Finds label es (after_create other es)
create_stays label other es held = ⊎_elim
    (λ (same : other ≡ label). subst (λ (fs : List (Option Entry)). Finds label es fs)
    (sym (create_held label es held) ∙ ap (λ l. after_create l es) (sym same)) (finds_itself label es))
    (λ (apart : other ≢ label). create_elsewhere label other es apart)
    (same_or_other other label)

pub created_names : (label : List ℕ) (es : List (Option Entry)) → directory (created label es) ≡ set (directory es) (free_cell (directory es)) (Some label)
created_names label es = map-set entry_label es (free_cell (directory es)) (Some (null_entry label))

-- ---- room

count_more : (o : Option (List ℕ)) (d : List (Option (List ℕ))) → held_count (o ∷ d) ≡ cond (is_some o) 1 0 + held_count d
count_more o d = sum_by-cons (λ l. cond (is_some l) 1 0) o d

free_low_from : (d : List (Option (List ℕ))) (at : ℕ) → held_count d < length d → free_from at d < at + length d
free_low_from [] at room = absurd (omega arith)
free_low_from (None ∷ ns) at room = omega arith
free_low_from (Some n ∷ ns) at room = omega (arith, count_more (Some n) ns, free_low_from ns (at + 1) (omega (arith, room, count_more (Some n) ns)))

-- where fewer labels are held than there are places, one is free
pub free_low : (d : List (Option (List ℕ))) → held_count d < length d → free_cell d < length d
unfolding free_cell
free_low d room = omega (arith, free_low_from d 0 room)

module _ (label : List ℕ) (es : List (Option Entry)) (low : free_cell (directory es) < length (directory es)) where
  put_there : name_at (directory (created label es)) (free_cell (directory es)) ≡ Some label
  put_there = ap (λ d. name_at d (free_cell (directory es))) (created_names label es)
      ∙ get_or-set_same (directory es) (free_cell (directory es)) (Some label) None low

  pub held_where_put : IsHeld label (created label es)
  unfolding cell_of
  held_where_put = by_test (is_some (cell_of label (directory (created label es)))) refl
    where
      by_test : (t : Bool) → is_some (cell_of label (directory (created label es))) ≡ t → IsHeld label (created label es)
      by_test true is = is
      by_test false is = absurd (held_nowhere label (directory (created label es)) is (free_cell (directory es)) put_there)

  pub one_more_held : held_count (directory (created label es)) ≡ held_count (directory es) + 1
  unfolding free_cell
  one_more_held =
      let d : List (Option (List ℕ)) = directory es in
      let none : get_or d (free_cell d) None ≡ None = free_has_none d in
      let nothing : ◌≡◌ {A = ℕ} (cond (is_some (get_or d (free_cell d) None)) 1 0) 0 = ap (λ o. cond (is_some o) 1 0) none in
      ap (λ x. held_count x) (created_names label es)
      ∙ omega (arith, sum_by-set (λ (o : Option (List ℕ)). cond (is_some o) 1 0) d (free_cell d) (Some label) None low, nothing)

-- ---- a key is imported

pub import_directory : (label : List ℕ) (key : Denoted) (es : List (Option Entry)) → directory (after_import label key es) ≡ directory es
import_directory label key es = by_cell (cell_of label (directory es))
  where
    by_cell : (o : Option ℕ) → directory (written_in o key es) ≡ directory es
    by_cell None = refl
    by_cell (Some n) =
        map-set entry_label es n (with_what key (entry_at es n))
        ∙ (ap (set (directory es) n) (label_kept key (entry_at es n) ∙ sym (name_of_entry es n)) ∙ set-get_or (directory es) n None)

pub import_elsewhere : (label other : List ℕ) (key : Denoted) (es : List (Option Entry)) → other ≢ label → Finds label es (after_import other key es)
unfolding cell_of
import_elsewhere label other key es apart = finds_alike label es (after_import other key es) (by_cell (cell_of other (directory es)) refl)
  where
    by_cell : (o : Option ℕ) → cell_of other (directory es) ≡ o → Alike label Same es (written_in o key es)
    by_cell None is = alike_itself label es
    by_cell (Some n) is =
        let before : has_name label (entry_label (entry_at es n)) ≡ false = place_other label other es n apart is in
        alike_set label es n (with_what key (entry_at es n)) before (ap (has_name label) (label_kept key (entry_at es n)) ∙ before)

-- the entry in the cell of a label
entry_there : (label : List ℕ) (es : List (Option Entry)) (n : ℕ) → cell_of label (directory es) ≡ Some n
    → (e : Entry) × (entry_at es n ≡ Some e) × (e.label ≡ label) × (n < length es)
unfolding cell_of
entry_there label es n is =
    let place = place_found label (directory es) 0 n is in
    let at : n ≡ place.0 = omega (arith, place.1) in
    let e = entry_of (entry_at es n) (sym (name_of_entry es n) ∙ held_at label (directory es) n is) in
    (e.0, e.1.0, e.1.1, omega (arith, place.2, at, length-map es entry_label))
  where
    entry_of : (o : Option Entry) → entry_label o ≡ Some label → (e : Entry) × ((o ≡ Some e) × (e.label ≡ label))
    entry_of None named = absurd (none_some label named)
    entry_of (Some e) named = (e, (refl, same_Some e.label label named))

-- the label has the key afterwards, where it is held, and nothing else
pub import_gives : (label : List ℕ) (key : Denoted) (es : List (Option Entry)) → IsHeld label es → entry_found label (after_import label key es) ≡ Some (entry label (Some key))
import_gives label key es held =
    ap (λ d. entry_where (after_import label key es) (cell_of label d)) (import_directory label key es) ∙ by_cell (cell_of label (directory es)) refl held
  where
    by_cell : (o : Option ℕ) → cell_of label (directory es) ≡ o → is_some o ≡ true → entry_where (written_in o key es) o ≡ Some (entry label (Some key))
    by_cell None is some = cc
    by_cell (Some n) is some =
        let e = entry_there label es n is in
        get_or-set_same es n (with_what key (entry_at es n)) None e.3 ∙ (ap (with_what key) e.1 ∙ ap (λ l. Some (entry l (Some key))) e.2)

-- nothing changes where it has it already, and nothing else
pub import_again : (label : List ℕ) (key : Denoted) (es : List (Option Entry)) → entry_found label es ≡ Some (entry label (Some key)) → after_import label key es ≡ es
import_again label key es has = by_cell (cell_of label (directory es)) has
  where
    by_cell : (o : Option ℕ) → entry_where es o ≡ Some (entry label (Some key)) → written_in o key es ≡ es
    by_cell None has = refl
    by_cell (Some n) has = ap (set es n) (ap (with_what key) has ∙ sym has) ∙ set-get_or es n None
