-- Room in a list of places for the labels of a move that it doesn't hold.
use Rattle.std.proofs.Common.{◌≡◌, ◌≤◌, ◌<◌, ◌+◌, ℕ, Bool, true, false, cond, List, length, get_or, Option, None, Some, refl, sym, ap, subst, ◌∙◌, true≢false, arith}
use Rattle.std.specs.Prelude.{◌==◌, ◌&&◌, ◌||◌, is_none, is_some, if◌then◌else◌, Contains, filter, count_by}
use Rattle.std.proofs.lemmas.Bool.{eqb-true}
use Rattle.std.proofs.lemmas.List.{length-map, length-set}
use Rattle.std.proofs.lemmas.List.Sums.{get_or-le-sum_by, length-filter}
use Rattle.record_bodies.specs.LabelChanges.{created, null_entry}
use Rattle.record_bodies.specs.Directory.{cell_of, free_cell, held_count}
use Rattle.record_bodies.specs.Entries.{Entry, directory, entry_label}
use Rattle.key_tokens.specs.Denotes.{Denoted}
use Rattle.cca_machine.proofs.RankLemmas.{count_lt}
use Rattle.cca_laws.proofs.MoveLists.{IsHeld, create_held, create_stays, free_low, held_where_put, import_directory, one_more_held}
use Rattle.cca_laws.proofs.MoveSteps.{after_create, after_import}

-- ---- room for the labels that a list doesn't hold

module _ (moves : List ℕ → Bool) (all : List (List ℕ)) where
  -- the label moves, and isn't held
  abbrev pub is_further : List (Option Entry) → List ℕ → Bool
  is_further es label = moves label && is_none (cell_of label (directory es))

  pub record HasRoom (es : List (Option Entry)) : Type 0 where
    pub size : length es ≡ 1024
    pub room : held_count (directory es) + length (filter (is_further es) all) ≤ 1024

  counted : (es : List (Option Entry)) → HasRoom es → held_count (directory es) + count_by (is_further es) all ≤ 1024
  counted es room = omega (arith, room.room, length-filter (is_further es) all)

  none_or : (o : Option ℕ) → is_none o ≡ true → is_some o ≡ false
  none_or None is = refl
  none_or (Some n) is = cc is

  or_none : (o : Option ℕ) → is_some o ≡ false → is_none o ≡ true
  or_none None is = refl
  or_none (Some n) is = cc is

  not_none : (o : Option ℕ) → is_some o ≡ true → is_none o ≡ false
  not_none None is = cc is
  not_none (Some n) is = refl

  and_parts : (a b : Bool) → (a && b) ≡ true → (a ≡ true) × (b ≡ true)
  and_parts true b is = (refl, is)
  and_parts false b is = cc is

  and_false : (a b : Bool) → b ≡ false → (a && b) ≡ false
  and_false true b is = is
  and_false false b is = refl

  -- a label that isn't held after a record was created wasn't held before
  fewer : (label : List ℕ) (es : List (Option Entry)) (other : List ℕ) → is_further (after_create label es) other ≡ true → is_further es other ≡ true
  fewer label es other is = by_held (is_some (cell_of other (directory es))) refl
    where
      parts : (moves other ≡ true) × (is_none (cell_of other (directory (after_create label es))) ≡ true)
      parts = and_parts (moves other) (is_none (cell_of other (directory (after_create label es)))) is

      by_held : (t : Bool) → is_some (cell_of other (directory es)) ≡ t → is_further es other ≡ true
      by_held true held =
          absurd (true≢false (sym held ∙ (ap is_some (sym (create_stays other label es held).cell) ∙ none_or _ parts.1)))
      by_held false free = ap (λ t. t && is_none (cell_of other (directory es))) parts.0 ∙ or_none _ free

  module _ (label : List ℕ) (es : List (Option Entry)) (room : HasRoom es) (moved : moves label ≡ true) (among : Contains all label) where
    long : length (directory es) ≡ 1024
    long = length-map es entry_label ∙ room.size

    abbrev is_new : Type 0
    is_new = is_some (cell_of label (directory es)) ≡ false

    further_here : is_new → is_further es (get_or all among.0 label) ≡ true
    further_here new = ap (is_further es) among.2 ∙ (ap (λ t. t && is_none (cell_of label (directory es))) moved ∙ or_none _ new)

    low_held : is_new → held_count (directory es) < 1024
    low_held new =
        let one : ◌≡◌ {A = ℕ} (cond (is_further es (get_or all among.0 label)) 1 0) 1 = ap (λ t. cond t 1 0) (further_here new) in
        omega (arith, counted es room, one, get_or-le-sum_by (λ l. cond (is_further es l) 1 0) all among.0 label among.1)

    pub low_cell : is_new → free_cell (directory es) < length (directory es)
    low_cell new = free_low (directory es) (omega (arith, low_held new, long))

    not_full : is_new → (free_cell (directory es) == 1024) ≡ false
    not_full new = by_test (free_cell (directory es) == 1024) refl
      where
        by_test : (t : Bool) → (free_cell (directory es) == 1024) ≡ t → (free_cell (directory es) == 1024) ≡ false
        by_test true is = absurd (omega (arith, eqb-true (free_cell (directory es)) 1024 is, low_cell new, long))
        by_test false is = is

    pub is_created : is_new → after_create label es ≡ created label es
    is_created new =
        ap (λ t. if t || free_cell (directory es) == 1024 then es else created label es) new
        ∙ ap (λ t. if t then es else created label es) (not_full new)

    held_new : is_new → IsHeld label (after_create label es)
    held_new new = subst (λ (fs : List (Option Entry)). IsHeld label fs) (sym (is_created new)) (held_where_put label es (low_cell new))

    -- the label is held once its record is created
    pub held_after : IsHeld label (after_create label es)
    held_after = by_test (is_some (cell_of label (directory es))) refl
      where
        by_test : (t : Bool) → is_some (cell_of label (directory es)) ≡ t → IsHeld label (after_create label es)
        by_test true held = subst (λ (fs : List (Option Entry)). IsHeld label fs) (sym (create_held label es held)) held
        by_test false new = held_new new

    room_new : is_new → HasRoom (after_create label es)
    room_new new =
        let after : List (Option Entry) = after_create label es in
        let one : held_count (directory after) ≡ held_count (directory es) + 1 = ap (λ fs. held_count (directory fs)) (is_created new) ∙ one_more_held label es (low_cell new) in
        let gone : is_further after (get_or all among.0 label) ≡ false =
        ap (is_further after) among.2 ∙ and_false (moves label) (is_none (cell_of label (directory after))) (not_none _ (held_new new)) in
        let less = count_lt (is_further after) (is_further es) (fewer label es) all among.0 label among.1 gone (further_here new) in
        record {
          size = ap length (is_created new) ∙ (length-set es (free_cell (directory es)) (Some (null_entry label)) ∙ room.size);
          room = omega (arith, counted es room, one, less, length-filter (is_further after) all);
        }

    pub room_created : HasRoom (after_create label es)
    room_created = by_test (is_some (cell_of label (directory es))) refl
      where
        by_test : (t : Bool) → is_some (cell_of label (directory es)) ≡ t → HasRoom (after_create label es)
        by_test true held = subst HasRoom (sym (create_held label es held)) room
        by_test false new = room_new new

  pub room_imported : (label : List ℕ) (key : Denoted) (es : List (Option Entry)) → HasRoom es → HasRoom (after_import label key es)
  room_imported label key es room =
      let same : directory (after_import label key es) ≡ directory es = import_directory label key es in
      record {
        size = sym (length-map (after_import label key es) entry_label) ∙ (ap length same ∙ (length-map es entry_label ∙ room.size));
        room = subst (λ (d : List (Option (List ℕ))). held_count d + length (filter (λ l. moves l && is_none (cell_of l d)) all) ≤ 1024) (sym same) room.room;
      }
