-- A list with other bytes from a place on.
use Rattle.std.proofs.Common.{◌≡◌, ◌≤◌, ◌<◌, ◌⊎◌, inl, inr, ◌-◌, min, ℕ, zero, suc, ◌+◌, List, [], ◌∷◌, ◌++◌, length, take, drop, get_or, refl, sym, ◌∙◌, ap, arith}
use Rattle.std.proofs.lemmas.Bool.{cases_lt}
use Rattle.std.proofs.lemmas.List.{length-take, get_or-take}
use Rattle.std.proofs.lemmas.Grind.{same_number_lists}
use Rattle.device_cells.specs.Ranges.{overwrite, SameOutside, HoldsPiece}
use Rattle.slot_disk.specs.StageLaws.{length-overwrite, get_or-overwrite_before, get_or-overwrite_after}

suc_first : (a b : ℕ) → suc a + b ≡ suc (a + b)
suc_first a b = omega arith

suc_last : (b : ℕ) → 0 + suc b ≡ suc (0 + b)
suc_last b = omega arith

pub get_or-overwrite_here : (xs : List ℕ) (at : ℕ) (bytes : List ℕ) (k : ℕ) → at + k < length xs → k < length bytes → get_or (overwrite xs at bytes) (at + k) 0 ≡ get_or bytes k 0
unfolding overwrite
get_or-overwrite_here [] at bytes k within inside = absurd (omega arith)
get_or-overwrite_here (x ∷ xs) (suc at) bytes k within inside = ap (λ (i : ℕ). get_or (x ∷ overwrite xs at bytes) i 0) (suc_first at k) ∙ get_or-overwrite_here xs at bytes k (omega arith) inside
get_or-overwrite_here (x ∷ xs) zero [] k within inside = absurd (omega arith)
get_or-overwrite_here (x ∷ xs) zero (b ∷ bytes) zero within inside = refl
get_or-overwrite_here (x ∷ xs) zero (b ∷ bytes) (suc k) within inside = ap (λ (i : ℕ). get_or (b ∷ overwrite xs zero bytes) i 0) (suc_last k) ∙ get_or-overwrite_here xs zero bytes k (omega arith) (omega arith)

-- as a slice is written
pub overwrite-within : (xs : List ℕ) (at : ℕ) (bytes : List ℕ) → at + length bytes ≤ length xs → overwrite xs at bytes ≡ take at xs ++ bytes ++ drop (at + length bytes) xs
unfolding overwrite
overwrite-within [] zero [] within = refl
overwrite-within [] (suc at) [] within = absurd (omega arith)
overwrite-within [] at (b ∷ bytes) within = absurd (omega arith)
overwrite-within (x ∷ xs) (suc at) bytes within =
    ap (λ (l : List ℕ). x ∷ l) (overwrite-within xs at bytes (omega arith)) ∙ ap (λ (i : ℕ). (x ∷ take at xs) ++ bytes ++ drop i (x ∷ xs)) (sym (suc_first at (length bytes)))
overwrite-within (x ∷ xs) zero [] within = refl
overwrite-within (x ∷ xs) zero (b ∷ bytes) within =
    ap (λ (l : List ℕ). b ∷ l) (overwrite-within xs zero bytes (omega arith)) ∙ ap (λ (i : ℕ). (b ∷ bytes) ++ drop i (x ∷ xs)) (sym (suc_last (length bytes)))

-- the same where the bytes go past the end
pub overwrite-clipped : (xs : List ℕ) (at : ℕ) (bytes : List ℕ) (start count : ℕ) → start ≡ min at (length xs) → count ≡ min (length bytes) (length xs - start)
    → overwrite xs at bytes ≡ take start xs ++ take count bytes ++ drop (start + count) xs
overwrite-clipped xs at bytes start count start_is count_is =
    let cut = take count bytes in
    let cut_long : length cut ≡ count = length-take count bytes ∙ omega arith in
    same_number_lists (overwrite xs at bytes) (overwrite xs start cut)
    (length-overwrite xs at bytes ∙ sym (length-overwrite xs start cut))
    (λ k below. let inside : k < length xs = omega (arith, length-overwrite xs at bytes) in each k inside cut_long)
    ∙ overwrite-within xs start cut (omega arith)
    ∙ ap (λ (n : ℕ). take start xs ++ cut ++ drop (start + n) xs) cut_long
  where
    from_at : (k : ℕ) → k < length xs → at ≤ k → length (take count bytes) ≡ count → (k < at + length bytes) ⊎ (at + length bytes ≤ k) → get_or (overwrite xs at bytes) k 0 ≡ get_or (overwrite xs start (take count bytes)) k 0
    from_at k inside behind cut_long (inl here) =
        let split : k ≡ at + (k - at) = omega arith in
        let split_start : k ≡ start + (k - start) = omega arith in
        let same : k - start ≡ k - at = omega arith in
        ap (λ (i : ℕ). get_or (overwrite xs at bytes) i 0) split
        ∙ get_or-overwrite_here xs at bytes (k - at) (omega arith) (omega arith)
        ∙ sym (ap (λ (i : ℕ). get_or (overwrite xs start (take count bytes)) i 0) split_start
        ∙ get_or-overwrite_here xs start (take count bytes) (k - start) (omega arith) (omega arith)
        ∙ get_or-take count bytes (k - start) 0 (omega arith)
        ∙ ap (λ (i : ℕ). get_or bytes i 0) same)
    from_at k inside behind cut_long (inr past) = get_or-overwrite_after xs at bytes k past ∙ sym (get_or-overwrite_after xs start (take count bytes) k (omega arith))

    each : (k : ℕ) → k < length xs → length (take count bytes) ≡ count → get_or (overwrite xs at bytes) k 0 ≡ get_or (overwrite xs start (take count bytes)) k 0
    each k inside cut_long = elim (cases_lt k at) [
      | inl before ↦ get_or-overwrite_before xs at bytes k before ∙ sym (get_or-overwrite_before xs start (take count bytes) k (omega arith))
      | inr behind ↦ from_at k inside behind cut_long (cases_lt k (at + length bytes))
    ]

pub overwrite_outside : (xs : List ℕ) (at : ℕ) (bytes : List ℕ) → SameOutside at (length bytes) xs (overwrite xs at bytes)
overwrite_outside xs at bytes = record {
  size = length-overwrite xs at bytes;
  before = get_or-overwrite_before xs at bytes;
  after = get_or-overwrite_after xs at bytes;
}

pub overwrite_holds : (xs : List ℕ) (at : ℕ) (bytes : List ℕ) → at + length bytes ≤ length xs → HoldsPiece at bytes xs (overwrite xs at bytes)
overwrite_holds xs at bytes within = record { outside = overwrite_outside xs at bytes; here = λ k inside. get_or-overwrite_here xs at bytes k (omega arith) inside }
