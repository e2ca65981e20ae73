-- The cells that hold labels, in ascending order of these: one more, one less, and a look-up.
use Rattle.std.proofs.Common.{◌≡◌, ◌≢◌, ◌≤◌, ◌<◌, ◌+◌, ◌⊎◌, inl, inr, ⊎_elim, ℕ, zero, suc, true, false, List, [], ◌∷◌, length, get_or, set, Option, None, Some, refl, sym, ap, subst, ◌∙◌, arith}
use Rattle.std.specs.Prelude.{IsSome, is_some, unwrap_or}
use Rattle.std.specs.List.{insert, remove}
use Rattle.std.proofs.lemmas.Bool.{cases_eq, cases_lt}
use Rattle.std.proofs.lemmas.List.{get_or-map, get_or_past, get_or-set_same, get_or-set_other, length-map, set-get_or}
use Rattle.std.proofs.lemmas.List.Edits.{get_or-remove_below, get_or-remove_above, length-remove}
use Rattle.record_bodies.specs.Ascending.{AreAscending, IsAmong, IsPlace, Lists, labels_of, text_at, text_in}
use Rattle.record_bodies.specs.Directory.{AreApart, cell_of, label_at}
use Rattle.cca_roles.proofs.DirectoryLaws.{none_some, place_found, place_is}
use Rattle.record_bodies.proofs.SortedLaws.{ascending_insert, ascending_remove, map_insert, map_remove, not_itself}

-- ---- labels of places

pub is_held : (o : Option (List ℕ)) (label : List ℕ) → o ≡ Some label → IsSome o
is_held o label is = ap (λ x. is_some x) is

pub not_held : (o : Option (List ℕ)) → o ≡ None → IsSome o → ⊥
not_held o none some = let wrong : false ≡ true = sym (ap (λ x. is_some x) none) ∙ some in cc

pub held_text : (o : Option (List ℕ)) → IsSome o → o ≡ Some (unwrap_or o [])
held_text None some = let wrong : false ≡ true = some in absurd (cc)
held_text (Some label) some = refl

pub blank_or_held : (o : Option (List ℕ)) → (IsSome o → ⊥) → o ≡ None
blank_or_held None blank = refl
blank_or_held (Some label) blank = absurd (blank refl)

pub held_below : (d : List (Option (List ℕ))) (n : ℕ) → IsSome (label_at d n) → n < length d
held_below d n held = ⊎_elim (λ (below : n < length d). below) (λ (past : length d ≤ n). absurd (not_held (label_at d n) (get_or_past d n None past) held)) (cases_lt n (length d))

-- ---- what is among the cells

pub among_at : (cells : List ℕ) (k : ℕ) → k < length cells → IsAmong cells (get_or cells k 0)
among_at [] k within = absurd (omega arith)
among_at (c ∷ cells) zero within = inl refl
among_at (c ∷ cells) (suc k) within = inr (among_at cells k (omega arith))

pub at_among : (cells : List ℕ) (n : ℕ) → IsAmong cells n → (k : ℕ) × (k < length cells) × (get_or cells k 0 ≡ n)
at_among [] n among = absurd among
at_among (c ∷ cells) n (inl is) = (0, omega arith, is)
at_among (c ∷ cells) n (inr among) = let rest = at_among cells n among in (suc rest.0, omega (arith, rest.1), rest.2)

among_insert : (cells : List ℕ) (at cell n : ℕ) → IsAmong (insert cells at cell) n → (cell ≡ n) ⊎ IsAmong cells n
among_insert cells zero cell n among = among
among_insert [] (suc at) cell n among = among
among_insert (c ∷ cells) (suc at) cell n (inl is) = inr (inl is)
among_insert (c ∷ cells) (suc at) cell n (inr among) = ⊎_elim (λ (here : cell ≡ n). inl here) (λ (rest : IsAmong cells n). inr (inr rest)) (among_insert cells at cell n among)

insert_among : (cells : List ℕ) (at cell n : ℕ) → (cell ≡ n) ⊎ IsAmong cells n → IsAmong (insert cells at cell) n
insert_among cells zero cell n among = among
insert_among [] (suc at) cell n among = among
insert_among (c ∷ cells) (suc at) cell n (inl here) = inr (insert_among cells at cell n (inl here))
insert_among (c ∷ cells) (suc at) cell n (inr (inl is)) = inl is
insert_among (c ∷ cells) (suc at) cell n (inr (inr rest)) = inr (insert_among cells at cell n (inr rest))

among_before : (cells : List ℕ) (at n : ℕ) → at < length cells → IsAmong (remove cells at) n → IsAmong cells n
among_before [] at n within among = absurd (omega arith)
among_before (c ∷ cells) zero n within among = inr among
among_before (c ∷ cells) (suc at) n within (inl is) = inl is
among_before (c ∷ cells) (suc at) n within (inr among) = inr (among_before cells at n (omega arith) among)

still_among : (cells : List ℕ) (at n : ℕ) → at < length cells → n ≢ get_or cells at 0 → IsAmong cells n → IsAmong (remove cells at) n
still_among [] at n within other among = absurd (omega arith)
still_among (c ∷ cells) zero n within other (inl is) = absurd (other (sym is))
still_among (c ∷ cells) zero n within other (inr among) = among
still_among (c ∷ cells) (suc at) n within other (inl is) = inl is
still_among (c ∷ cells) (suc at) n within other (inr among) = inr (still_among cells at n (omega arith) other among)

-- ---- their labels

pub text_is : (d : List (Option (List ℕ))) (cells : List ℕ) (k : ℕ) → k < length cells → text_at (labels_of d cells) k ≡ text_in d (get_or cells k 0)
text_is d cells k within = get_or-map (λ n. text_in d n) cells k 0 [] within

-- the label of a cell that was read
pub text_of : (d : List (Option (List ℕ))) (cells : List ℕ) (k : ℕ) (label : List ℕ) → k < length cells → label_at d (get_or cells k 0) ≡ Some label → text_at (labels_of d cells) k ≡ label
text_of d cells k label within held = text_is d cells k within ∙ ap (λ o. unwrap_or o []) held

-- another directory with the same labels in these cells
module _ (d e : List (Option (List ℕ))) where
  pub labels_same : (cells : List ℕ) → ((n : ℕ) → IsAmong cells n → label_at e n ≡ label_at d n) → labels_of e cells ≡ labels_of d cells
  labels_same [] same = refl
  labels_same (c ∷ cells) same =
      ap (λ o. unwrap_or o [] ∷ labels_of e cells) (same c (inl refl))
      ∙ ap (λ l. text_in d c ∷ l) (labels_same cells (λ n among. same n (inr among)))

  pub lists_same : (cells : List ℕ) → ((n : ℕ) → label_at e n ≡ label_at d n) → Lists d cells → Lists e cells
  lists_same cells same lists = record {
    held = λ n. (λ among. subst (λ (o : Option (List ℕ)). IsSome o) (sym (same n)) ((lists.held n).0 among), λ held. (lists.held n).1 (subst (λ (o : Option (List ℕ)). IsSome o) (same n) held));
    ascending = subst AreAscending (sym (labels_same cells (λ n among. same n))) lists.ascending;
  }

pub lists_none : (d : List (Option (List ℕ))) → ((n : ℕ) → label_at d n ≡ None) → Lists d []
lists_none d blank = record {
  held = λ n. (λ among. absurd among, λ held. not_held (label_at d n) (blank n) held);
  ascending = record { each = λ i j below inside. absurd (omega (arith, inside)) };
}

module _ (d : List (Option (List ℕ))) (cells : List ℕ) (lists : Lists d cells) where
  pub label_listed : (k : ℕ) → k < length cells → label_at d (get_or cells k 0) ≡ Some (text_at (labels_of d cells) k)
  label_listed k within =
      held_text (label_at d (get_or cells k 0)) ((lists.held (get_or cells k 0)).0 (among_at cells k within))
      ∙ ap (λ l. Some l) (sym (text_is d cells k within))

  inside : (k : ℕ) → k < length cells → k < length (labels_of d cells)
  inside k within = omega (arith, within, length-map cells (λ n. text_in d n))

  -- a cell is listed once
  pub listed_once : (i j : ℕ) → i < length cells → j < length cells → get_or cells i 0 ≡ get_or cells j 0 → i ≡ j
  listed_once i j i_within j_within same =
      let texts : text_at (labels_of d cells) i ≡ text_at (labels_of d cells) j = text_is d cells i i_within ∙ ap (text_in d) same ∙ sym (text_is d cells j j_within) in
      ⊎_elim
      (λ (is : i ≡ j). is)
      (λ (other : i ≡ j → ⊥). ⊎_elim
      (λ (below : i < j). absurd (not_itself _ _ texts (lists.ascending.each i j below (inside j j_within))))
      (λ (above : j ≤ i). absurd (not_itself _ _ (sym texts) (lists.ascending.each j i (omega (arith, above, other)) (inside i i_within))))
      (cases_lt i j))
      (cases_eq i j)

  -- a label that would stand elsewhere is held nowhere
  pub find_missing : (at : ℕ) (label : List ℕ) → IsPlace (labels_of d cells) label at → (n : ℕ) → label_at d n ≢ Some label
  find_missing at label place n held =
      let found = at_among cells n ((lists.held n).1 (is_held (label_at d n) label held)) in
      let text : text_at (labels_of d cells) found.0 ≡ label = text_is d cells found.0 found.1 ∙ ap (text_in d) found.2 ∙ ap (λ o. unwrap_or o []) held in
      ⊎_elim
      (λ (below : found.0 < at). not_itself _ _ text (place.before found.0 below))
      (λ (above : at ≤ found.0). not_itself _ _ (sym text) (place.after found.0 above (inside found.0 found.1)))
      (cases_lt found.0 at)

  -- ---- one more

  module _ (e : List (Option (List ℕ))) (cell : ℕ) (label : List ℕ) (free : label_at d cell ≡ None) (put : label_at e cell ≡ Some label) (others : (n : ℕ) → n ≢ cell → label_at e n ≡ label_at d n) where
    not_free : (n : ℕ) → IsSome (label_at d n) → n ≢ cell
    not_free n held is = not_held (label_at d n) (ap (label_at d) is ∙ free) held

    held_more : (n : ℕ) → (cell ≡ n) ⊎ IsAmong cells n → IsSome (label_at e n)
    held_more n (inl is) = is_held (label_at e n) label (ap (label_at e) (sym is) ∙ put)
    held_more n (inr among) =
        let held = (lists.held n).0 among in
        subst (λ (o : Option (List ℕ)). IsSome o) (sym (others n (not_free n held))) held

    listed_more : (n : ℕ) → IsSome (label_at e n) → (cell ≡ n) ⊎ IsAmong cells n
    listed_more n held = ⊎_elim
        (λ (is : n ≡ cell). inl (sym is))
        (λ (other : n ≡ cell → ⊥). inr ((lists.held n).1 (subst (λ (o : Option (List ℕ)). IsSome o) (others n other) held)))
        (cases_eq n cell)

    labels_more : (at : ℕ) → labels_of e (insert cells at cell) ≡ insert (labels_of d cells) at label
    labels_more at =
        map_insert (λ n. text_in e n) cells at cell
        ∙ ap (λ l. insert l at (text_in e cell)) (labels_same d e cells (λ n among. others n (not_free n ((lists.held n).0 among))))
        ∙ ap (λ o. insert (labels_of d cells) at (unwrap_or o [])) put

    pub lists_insert : (at : ℕ) → IsPlace (labels_of d cells) label at → Lists e (insert cells at cell)
    lists_insert at place = record {
      held = λ n. (λ among. held_more n (among_insert cells at cell n among), λ held. insert_among cells at cell n (listed_more n held));
      ascending = subst AreAscending (sym (labels_more at)) (ascending_insert (labels_of d cells) at label lists.ascending place);
    }

  -- ---- one less

  module _ (e : List (Option (List ℕ))) (at : ℕ) (within : at < length cells) (gone : label_at e (get_or cells at 0) ≡ None) (others : (n : ℕ) → n ≢ get_or cells at 0 → label_at e n ≡ label_at d n) where
    moved_on : (n : ℕ) → IsAmong (remove cells at) n → n ≢ get_or cells at 0
    moved_on n among is =
        let left = at_among (remove cells at) n among in
        let count = length-remove cells at within in
        ⊎_elim
        (λ (below : left.0 < at). omega (arith, below, listed_once left.0 at (omega (arith, below, within)) within (sym (get_or-remove_below cells at 0 left.0 below within) ∙ left.2 ∙ is)))
        (λ (above : at ≤ left.0). omega (arith, above, listed_once (left.0 + 1) at (omega (arith, left.1, count)) within (sym (get_or-remove_above cells at 0 left.0 above within) ∙ left.2 ∙ is)))
        (cases_lt left.0 at)

    held_less : (n : ℕ) → IsAmong (remove cells at) n → IsSome (label_at e n)
    held_less n among =
        subst (λ (o : Option (List ℕ)). IsSome o) (sym (others n (moved_on n among)))
        ((lists.held n).0 (among_before cells at n within among))

    listed_less : (n : ℕ) → IsSome (label_at e n) → IsAmong (remove cells at) n
    listed_less n held =
        let other : n ≢ get_or cells at 0 = λ is. not_held (label_at e n) (ap (label_at e) is ∙ gone) held in
        still_among cells at n within other ((lists.held n).1 (subst (λ (o : Option (List ℕ)). IsSome o) (others n other) held))

    labels_less : labels_of e (remove cells at) ≡ remove (labels_of d cells) at
    labels_less =
        labels_same d e (remove cells at) (λ n among. others n (moved_on n among))
        ∙ map_remove (λ n. text_in d n) cells at

    pub lists_remove : Lists e (remove cells at)
    lists_remove = record {
      held = λ n. (λ among. held_less n among, λ held. listed_less n held);
      ascending = subst AreAscending (sym labels_less) (ascending_remove (labels_of d cells) at lists.ascending (inside at within));
    }

-- ---- a row of one cell becomes another one

module _ (d : List (Option (List ℕ))) (cell : ℕ) (within : cell < length d) where
  taken : label_at (set d cell None) cell ≡ None
  taken = get_or-set_same d cell None None within

  -- a cell without a label is made free
  pub lists_still : (cells : List ℕ) (o : Option (List ℕ)) → label_at d cell ≡ o → Lists d cells → Lists (set d cell o) cells
  lists_still cells o is lists = subst (λ (x : List (Option (List ℕ))). Lists x cells) (sym (set-get_or d cell None) ∙ ap (set d cell) is) lists

  pub lists_taken : (cells : List ℕ) (at : ℕ) → Lists d cells → at < length cells → get_or cells at 0 ≡ cell → Lists (set d cell None) (remove cells at)
  lists_taken cells at lists inside is =
      lists_remove d cells lists (set d cell None) at inside (ap (label_at (set d cell None)) is ∙ taken)
      (λ n other. get_or-set_other d cell n None None (λ here. other (here ∙ sym is)))

  -- the cells that are left have the labels that they had
  left_as : (cells : List ℕ) → Lists (set d cell None) cells → (n : ℕ) → IsAmong cells n → label_at (set d cell None) n ≡ label_at d n
  left_as cells lists n among =
      get_or-set_other d cell n None None
      (λ is. not_held (label_at (set d cell None) n) (ap (label_at (set d cell None)) is ∙ taken) ((lists.held n).0 among))

  left_labels : (cells : List ℕ) → Lists (set d cell None) cells → labels_of (set d cell None) cells ≡ labels_of d cells
  left_labels cells lists = labels_same d (set d cell None) cells (left_as cells lists)

  pub left_ascending : (cells : List ℕ) → Lists (set d cell None) cells → AreAscending (labels_of d cells)
  left_ascending cells lists = subst AreAscending (left_labels cells lists) lists.ascending

  pub lists_put : (cells : List ℕ) (at : ℕ) (label : List ℕ) → Lists (set d cell None) cells → IsPlace (labels_of d cells) label at → Lists (set d cell (Some label)) (insert cells at cell)
  lists_put cells at label lists place =
      lists_insert (set d cell None) cells lists (set d cell (Some label)) cell label taken (get_or-set_same d cell (Some label) None within)
      (λ n other. get_or-set_other d cell n (Some label) None other ∙ sym (get_or-set_other d cell n None None other)) at
      (subst (λ (l : List (List ℕ)). IsPlace l label at) (sym (left_labels cells lists)) place)

  -- a label that stands nowhere else isn't found
  pub not_left : (cells : List ℕ) (at : ℕ) (label : List ℕ) → Lists (set d cell None) cells → at < length cells → label_at d (get_or cells at 0) ≡ Some label → ((n : ℕ) → label_at (set d cell None) n ≢ Some label) → ⊥
  not_left cells at label lists inside held fresh = fresh (get_or cells at 0) (left_as cells lists (get_or cells at 0) (among_at cells at inside) ∙ held)

  -- a label that is to stand in the cell stands in no other one
  pub fresh_after : (label : List ℕ) → AreApart (set d cell (Some label)) → (n : ℕ) → label_at (set d cell None) n ≢ Some label
  fresh_after label apart n held = ⊎_elim
      (λ (is : n ≡ cell). none_some label (sym taken ∙ sym (ap (label_at (set d cell None)) is) ∙ held))
      (λ (other : n ≡ cell → ⊥). other (apart n cell label (get_or-set_other d cell n (Some label) None other ∙ sym (get_or-set_other d cell n None None other) ∙ held) (get_or-set_same d cell (Some label) None within)))
      (cases_eq n cell)

-- ---- a look-up

pub find_found : (d : List (Option (List ℕ))) (cells : List ℕ) (at : ℕ) (label : List ℕ) → AreApart d → label_at d (get_or cells at 0) ≡ Some label → cell_of label d ≡ Some (get_or cells at 0)
find_found d cells at label apart held = place_is d (get_or cells at 0) label apart held

pub cell_none : (label : List ℕ) (d : List (Option (List ℕ))) → ((n : ℕ) → label_at d n ≢ Some label) → cell_of label d ≡ None
unfolding cell_of
cell_none label d fresh = by_answer (cell_of label d) refl
  where
    by_answer : (o : Option ℕ) → cell_of label d ≡ o → cell_of label d ≡ None
    by_answer None is = is
    by_answer (Some n) is = let found = place_found label d 0 n is in absurd (fresh found.0 found.3)
