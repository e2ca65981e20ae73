-- Labels in ascending order, one after another.
use Rattle.std.proofs.Common.{◌≡◌, ◌+◌, ℕ, Bool, true, false, cond, List, [], ◌∷◌, ◌++◌, length, map, Option, refl, sym, ap, ◌∙◌, codes, arith}
use Rattle.std.specs.Prelude.{nat_eq, if◌then◌else◌}
use Rattle.std.specs.List.{range_with_len, starts_with}
use Rattle.std.proofs.lemmas.List.{append_assoc, append-nil, length-append}
use Rattle.std.proofs.lemmas.List.FromFn.{filter_of_map_range_with_len_more}
use Rattle.record_bodies.specs.Rank.{IsNth}
use Rattle.line_service.specs.Replies.{Number, Text, field_name, number_field, ok_text, text_field, written}
use Rattle.cca_machine.specs.Listing.{beginning, nth_label, with_commas}
use Rattle.cca_machine.proofs.RankLemmas.{nth_is}

-- ---- those that begin with a prefix

abbrev pub so_far : List ℕ → List (Option (List ℕ)) → ℕ → List (List ℕ)
so_far prefix d index = beginning prefix (map (nth_label d) (range_with_len 0 index))

module _ (prefix : List ℕ) (d : List (Option (List ℕ))) (index : ℕ) (label : List ℕ) (nth : IsNth index d label) where
  one_more : so_far prefix d (index + 1) ≡ so_far prefix d index ++ cond (starts_with nat_eq label prefix) (label ∷ []) []
  one_more =
      filter_of_map_range_with_len_more (λ l. starts_with nat_eq l prefix) (nth_label d) 0 index index (omega arith)
      ∙ ap (λ l. so_far prefix d index ++ cond (starts_with nat_eq l prefix) (l ∷ []) []) (nth_is index d label nth)

  pub with_one : starts_with nat_eq label prefix ≡ true → so_far prefix d (index + 1) ≡ so_far prefix d index ++ label ∷ []
  with_one holds = one_more ∙ ap (λ t. so_far prefix d index ++ cond t (label ∷ []) []) holds

  pub without_one : starts_with nat_eq label prefix ≡ false → so_far prefix d (index + 1) ≡ so_far prefix d index
  without_one fails = one_more ∙ ap (λ t. so_far prefix d index ++ cond t (label ∷ []) []) fails ∙ append-nil (so_far prefix d index)

  pub count_one : starts_with nat_eq label prefix ≡ true → length (so_far prefix d (index + 1)) ≡ length (so_far prefix d index) + 1
  count_one holds = ap length (with_one holds) ∙ length-append (so_far prefix d index) (label ∷ [])

-- ---- commas

abbrev pub are_none : List (List ℕ) → Bool
are_none [] = true
are_none (l ∷ ls) = false

pub commas_more : (labels : List (List ℕ)) (label : List ℕ)
    → with_commas (labels ++ label ∷ []) ≡ with_commas labels ++ (if are_none labels then label else codes "," ++ label)
commas_more [] label = refl
commas_more (l ∷ []) label = refl
commas_more (l ∷ next ∷ labels) label =
    ap (λ rest. l ++ (codes "," ++ rest)) (commas_more (next ∷ labels) label)
    ∙ sym (append_assoc l (codes "," ++ with_commas (next ∷ labels)) (codes "," ++ label))

pub none_more : (labels : List (List ℕ)) (label : List ℕ) → are_none (labels ++ label ∷ []) ≡ false
none_more [] label = refl
none_more (l ∷ labels) label = refl

-- ---- the reply

pieces : (ok count name commas : List ℕ) → ((ok ++ count) ++ (name ++ [])) ++ commas ≡ ok ++ (count ++ ((name ++ commas) ++ []))
pieces ok count name commas = simp (append_assoc, append-nil)

-- the count, and the labels as they are written one after another
pub counted_labels : (count : ℕ) (commas : List ℕ)
    → ((ok_text ++ number_field (codes "count") count) ++ text_field (codes "labels") []) ++ commas
    ≡ written (Number (codes "count") count ∷ Text (codes "labels") commas ∷ [])
unfolding text_field
counted_labels count commas = pieces ok_text (number_field (codes "count") count) (field_name (codes "labels")) commas
