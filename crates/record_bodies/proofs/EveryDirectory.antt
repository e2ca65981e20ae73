-- The labels of every directory whose labels are apart can be listed in ascending order: so for each index below the count there is one.
use Rattle.std.proofs.Common.{◌≡◌, ◌≢◌, ◌≤◌, ◌<◌, ⊎_elim, ℕ, zero, suc, Less, Equal, Greater, Ordering, List, [], length, get_or, take, Option, None, Some, refl, sym, ap, subst, ◌∙◌, arith}
use Rattle.std.specs.Cmp.Lexicographic.{slice_cmp}
use Rattle.std.specs.List.{insert}
use Rattle.std.specs.Ordering.{nat_cmp}
use Rattle.std.proofs.lemmas.Bool.{cases_eq, cases_lt}
use Rattle.std.proofs.lemmas.List.{get_or-take, get_or_past, length-take, length-map, take_all}
use Rattle.record_bodies.specs.Ascending.{AreAscending, IsBefore, IsPlace, Lists, labels_of, text_at, text_in}
use Rattle.record_bodies.specs.Directory.{AreApart, label_at, held_count}
use Rattle.record_bodies.specs.Rank.{IsNth}
use Rattle.cca_roles.proofs.DirectoryLaws.{none_some}
use Rattle.record_bodies.proofs.HalvingLaws.{greater_before, equal_same, before_middle}
use Rattle.record_bodies.proofs.ListedLaws.{label_listed, lists_insert, lists_none, lists_same}
use Rattle.record_bodies.proofs.RankLaws.{count_listed, nth_listed}

module _ (labels : List (List ℕ)) (ascending : AreAscending labels) (label : List ℕ) (fresh : (k : ℕ) → k < length labels → text_at labels k ≢ label) where
  place_from : (n : ℕ) → n ≤ length labels → ((k : ℕ) → n ≤ k → k < length labels → IsBefore label (text_at labels k)) → (at : ℕ) × IsPlace labels label at
  place_from zero within after = (0, record { within = omega arith; before = λ k low. absurd (omega arith); after = after })
  place_from (suc n) within after = by_order (λ all. place_from n (omega (arith, within)) all) (slice_cmp nat_cmp label (text_at labels n)) refl
    where
      by_order : (((k : ℕ) → n ≤ k → k < length labels → IsBefore label (text_at labels k)) → (at : ℕ) × IsPlace labels label at) → (o : Ordering) → slice_cmp nat_cmp label (text_at labels n) ≡ o → (at : ℕ) × IsPlace labels label at
      by_order lower Less is = lower (λ k above below. ⊎_elim
          (λ (here : k ≡ n). subst (λ (m : ℕ). IsBefore label (text_at labels m)) (sym here) is)
          (λ (other : k ≡ n → ⊥). after k (omega (arith, above, other)) below) (cases_eq k n))
      by_order lower Equal is = absurd (fresh n (omega (arith, within)) (sym (equal_same label (text_at labels n) is)))
      by_order lower Greater is = (suc n, record { within = within; before = λ k low. before_middle labels ascending label n (omega (arith, within)) (greater_before label (text_at labels n) is) k (omega (arith, low)); after = after })

module _ (d : List (Option (List ℕ))) (apart : AreApart d) where
  -- the labels of the first places
  taken_below : (n k : ℕ) → k < n → label_at (take n d) k ≡ label_at d k
  taken_below n k below = get_or-take n d k None below

  taken_past : (n k : ℕ) → n ≤ length d → n ≤ k → label_at (take n d) k ≡ None
  taken_past n k within past = get_or_past (take n d) k None (omega (arith, past, length-take n d, within))

  taken_more : (n : ℕ) → n < length d → (k : ℕ) → k ≢ n → label_at (take (suc n) d) k ≡ label_at (take n d) k
  taken_more n within k other = ⊎_elim
      (λ (below : k < n). taken_below (suc n) k (omega (arith, below)) ∙ sym (taken_below n k below))
      (λ (past : n ≤ k). taken_past (suc n) k (omega (arith, within)) (omega (arith, past, other)) ∙ sym (taken_past n k (omega (arith, within)) past))
      (cases_lt k n)

  one_more : (n : ℕ) (o : Option (List ℕ)) → n < length d → label_at d n ≡ o → (cells : List ℕ) → Lists (take n d) cells → (more : List ℕ) × Lists (take (suc n) d) more
  one_more n None within is cells lists = (cells, lists_same (take n d) (take (suc n) d) cells same lists)
    where
      same : (k : ℕ) → label_at (take (suc n) d) k ≡ label_at (take n d) k
      same k = ⊎_elim
          (λ (here : k ≡ n). ap (label_at (take (suc n) d)) here ∙ taken_below (suc n) n (omega arith) ∙ is ∙ sym (ap (label_at (take n d)) here ∙ taken_past n n (omega (arith, within)) (omega arith)))
          (λ (other : k ≡ n → ⊥). taken_more n within k other) (cases_eq k n)
  one_more n (Some label) within is cells lists =
      let place = place_from (labels_of (take n d) cells) lists.ascending label fresh (length (labels_of (take n d) cells)) (omega arith) (λ k above below. absurd (omega (arith, above, below))) in
      (insert cells place.0 n, lists_insert (take n d) cells lists (take (suc n) d) n label (taken_past n n (omega (arith, within)) (omega arith)) (taken_below (suc n) n (omega arith) ∙ is) (taken_more n within) place.0 place.1)
    where
      fresh : (k : ℕ) → k < length (labels_of (take n d) cells) → text_at (labels_of (take n d) cells) k ≢ label
      fresh k inside same =
          let listed = label_listed (take n d) cells lists k (omega (arith, inside, length-map cells (λ c. text_in (take n d) c))) ∙ ap (λ l. Some l) same in
          ⊎_elim
          (λ (below : get_or cells k 0 < n). let here = apart (get_or cells k 0) n label (sym (taken_below n (get_or cells k 0) below) ∙ listed) is in omega (arith, below, here))
          (λ (past : n ≤ get_or cells k 0). none_some label (sym (taken_past n (get_or cells k 0) (omega (arith, within)) past) ∙ listed))
          (cases_lt (get_or cells k 0) n)

  list_first : (n : ℕ) → n ≤ length d → (cells : List ℕ) × Lists (take n d) cells
  list_first zero within = ([], lists_none (take 0 d) (λ n. refl))
  list_first (suc n) within =
      let first = list_first n (omega (arith, within)) in
      one_more n (label_at d n) (omega (arith, within)) refl first.0 first.1

  pub nth_label : (index : ℕ) → index < held_count d → (label : List ℕ) × IsNth index d label
  nth_label index below =
      let all = list_first (length d) (omega arith) in
      let lists : Lists d all.0 = subst (λ (x : List (Option (List ℕ))). Lists x all.0) (take_all (length d) d (omega arith)) all.1 in
      (text_at (labels_of d all.0) index, nth_listed d all.0 lists index (omega (arith, below, count_listed d all.0 lists)))
