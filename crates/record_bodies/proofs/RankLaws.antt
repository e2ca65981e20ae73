-- How many labels are held, and the label with this many smaller ones.
use Rattle.std.proofs.Common.{◌≡◌, ◌≤◌, ◌<◌, ◌+◌, inl, inr, ⊎_elim, ℕ, zero, suc, cond, List, [], ◌∷◌, length, get_or, set, Option, None, Some, refl, sym, ap, ◌∙◌, arith}
use Rattle.std.specs.Prelude.{is_some}
use Rattle.std.specs.Cmp.Lexicographic.{slice_cmp}
use Rattle.std.specs.List.{sum_by}
use Rattle.std.specs.Ordering.{nat_cmp, is_lt, ordering_reverse}
use Rattle.std.proofs.lemmas.Bool.{cases_eq}
use Rattle.std.proofs.lemmas.Cmp.{nat_list_cmp_total, tied_itself}
use Rattle.std.proofs.lemmas.Grind.{common_steps}
use Rattle.std.proofs.lemmas.List.{get_or-set_same, get_or-set_other, length-map}
use Rattle.std.proofs.lemmas.List.Sums.{sum_by-cons, sum_by-set}
use Rattle.record_bodies.specs.Ascending.{IsAmong, Lists, labels_of, text_at, text_in}
use Rattle.record_bodies.specs.Directory.{label_at, held_count}
use Rattle.record_bodies.specs.Rank.{is_smaller, smaller_count, IsNth}
use Rattle.cca_roles.proofs.DirectoryLaws.{none_some}
use Rattle.record_bodies.proofs.ListedLaws.{blank_or_held, held_below, label_listed, lists_remove, not_held}

-- ---- a sum over the places is one over the cells that hold a label

module _ (f : Option (List ℕ) → ℕ) (nothing : f None ≡ 0) where
  sum_zero : (d : List (Option (List ℕ))) → ((n : ℕ) → label_at d n ≡ None) → sum_by f d ≡ 0
  sum_zero [] blank = refl
  sum_zero (o ∷ d) blank = let first : f o ≡ 0 = ap f (blank 0) ∙ nothing in sum_by-cons f o d ∙ omega (arith, first, sum_zero d (λ n. blank (suc n)))

  sum_same : (d e : List (Option (List ℕ))) (cells : List ℕ) → ((n : ℕ) → IsAmong cells n → label_at e n ≡ label_at d n) → sum_by (λ n. f (label_at e n)) cells ≡ sum_by (λ n. f (label_at d n)) cells
  sum_same d e [] same = refl
  sum_same d e (c ∷ cells) same =
      let first : f (label_at e c) ≡ f (label_at d c) = ap f (same c (inl refl)) in
      omega (arith, first, sum_same d e cells (λ n among. same n (inr among)), sum_by-cons (λ n. f (label_at e n)) c cells, sum_by-cons (λ n. f (label_at d n)) c cells)

  pub sum_listed : (cells : List ℕ) (d : List (Option (List ℕ))) → Lists d cells → sum_by f d ≡ sum_by (λ n. f (label_at d n)) cells
  sum_listed [] d lists = sum_zero d (λ n. blank_or_held (label_at d n) (λ held. (lists.held n).1 held))
  sum_listed (c ∷ cells) d lists =
      let within : c < length d = held_below d c ((lists.held c).0 (inl refl)) in
      let gone : label_at (set d c None) c ≡ None = get_or-set_same d c None None within in
      let rest : Lists (set d c None) cells = lists_remove d (c ∷ cells) lists (set d c None) 0 (omega arith) gone (λ n other. get_or-set_other d c n None None other) in
      let less = sum_by-set f d c None None within in
      let same = sum_same d (set d c None) cells (λ n among. get_or-set_other d c n None None (λ is. not_held (label_at (set d c None) n) (ap (label_at (set d c None)) is ∙ gone) ((rest.held n).0 among))) in
      omega (arith, less, nothing, sum_listed cells (set d c None) rest, same, sum_by-cons (λ n. f (label_at d n)) c cells)

-- one for each of the first k
count_split : (f : ℕ → ℕ) (cells : List ℕ) (k : ℕ) → k ≤ length cells → ((i : ℕ) → i < k → f (get_or cells i 0) ≡ 1) → ((i : ℕ) → k ≤ i → i < length cells → f (get_or cells i 0) ≡ 0) → sum_by f cells ≡ k
count_split f [] k within ones none = omega (arith, within)
count_split f (c ∷ cells) zero within ones none = sum_by-cons f c cells ∙ omega (arith, none 0 (omega arith) (omega arith), count_split f cells zero (omega arith) (λ i low. absurd (omega arith)) (λ i above below. none (suc i) (omega arith) (omega (arith, below))))
count_split f (c ∷ cells) (suc k) within ones none = sum_by-cons f c cells ∙ omega (arith, ones 0 (omega arith), count_split f cells k (omega (arith, within)) (λ i low. ones (suc i) (omega (arith, low))) (λ i above below. none (suc i) (omega (arith, above)) (omega (arith, below))))

module _ (d : List (Option (List ℕ))) (cells : List ℕ) (lists : Lists d cells) where
  pub count_listed : held_count d ≡ length cells
  count_listed =
      sum_listed (λ o. cond (is_some o) 1 0) refl cells d lists
      ∙ count_split (λ n. cond (is_some (label_at d n)) 1 0) cells (length cells) (omega arith)
      (λ i low. ap (λ o. cond (is_some o) 1 0) (label_listed d cells lists i low))
      (λ i above below. absurd (omega (arith, above, below)))

  module _ (k : ℕ) (within : k < length cells) where
    abbrev text : ℕ → List ℕ
    text i = text_at (labels_of d cells) i

    inside : (i : ℕ) → i < length cells → i < length (labels_of d cells)
    inside i below = omega (arith, below, length-map cells (λ n. text_in d n))

    test : (i : ℕ) → i < length cells → ◌≡◌ {A = ℕ} (cond (is_smaller (text k) (label_at d (get_or cells i 0))) 1 0) (cond (is_lt (slice_cmp nat_cmp (text i) (text k))) 1 0)
    test i below = ap (λ o. cond (is_smaller (text k) o) 1 0) (label_listed d cells lists i below)

    as_smaller : smaller_count (text k) d ≡ k
    as_smaller = sum_listed (λ o. cond (is_smaller (text k) o) 1 0) refl cells d lists
        ∙ count_split (λ n. cond (is_smaller (text k) (label_at d n)) 1 0) cells k (omega (arith, within))
        (λ i low. test i (omega (arith, within, low)) ∙ ap (λ o. cond (is_lt o) 1 0) (lists.ascending.each i k low (inside k within)))
        (λ i above below. test i below ∙ ⊎_elim
        (λ (is : i ≡ k). ap (λ n. cond (is_lt (slice_cmp nat_cmp (text n) (text k))) 1 0) is ∙ ap (λ o. cond (is_lt o) 1 0) (tied_itself nat_list_cmp_total (text k)))
        (λ (other : i ≡ k → ⊥). ap (λ o. cond (is_lt o) 1 0) (nat_list_cmp_total.antisymm (text i) (text k) ∙ ap ordering_reverse (lists.ascending.each k i (omega (arith, above, other)) (inside i below))))
        (cases_eq i k))

    pub nth_listed : IsNth k d (text k)
    nth_listed = record { place = get_or cells k 0; held = label_listed d cells lists k within; smaller = as_smaller }

-- ---- a free place isn't counted

count_more : (o : Option (List ℕ)) (d : List (Option (List ℕ))) → held_count (o ∷ d) ≡ held_count d + cond (is_some o) 1 0
count_more o d = grind (arith, common_steps)

pub count_bound : (d : List (Option (List ℕ))) → held_count d ≤ length d
count_bound [] = omega arith
count_bound (None ∷ d) = omega (arith, count_more None d, count_bound d)
count_bound (Some l ∷ d) = omega (arith, count_more (Some l) d, count_bound d)

pub count_free : (d : List (Option (List ℕ))) (n : ℕ) → n < length d → label_at d n ≡ None → held_count d < length d
count_free [] n within free = absurd (omega arith)
count_free (None ∷ d) zero within free = omega (arith, count_more None d, count_bound d)
count_free (Some l ∷ d) zero within free = absurd (none_some l (sym free))
count_free (None ∷ d) (suc n) within free = omega (arith, count_more None d, count_free d n (omega (arith, within)) free)
count_free (Some l ∷ d) (suc n) within free = omega (arith, count_more (Some l) d, count_free d n (omega (arith, within)) free)
