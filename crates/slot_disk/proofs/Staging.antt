-- What one call more does to what a stop may leave.
use Rattle.std.proofs.Common.{◌≡◌, ◌≤◌, ◌<◌, ◌⊎◌, inl, inr, ℕ, ◌+◌, ◌-◌, Bool, false, ◌&&◌, ◌||◌, List, [], ◌∷◌, ◌++◌, length, get_or, slice_range, refl, sym, ◌∙◌, ap, subst, arith}
use Rattle.std.specs.Prelude.{nat_le, nat_lt}
use Rattle.std.proofs.lemmas.Bool.{cases_lt, and_left, and_right, or_from}
use Rattle.std.proofs.lemmas.Bool.Decides.{nat_tests}
use Rattle.std.proofs.lemmas.List.Sums.{fold-append}
use Rattle.std.proofs.lemmas.List.Folds.{list_any-append}
use Rattle.std.proofs.lemmas.Grind.{same_number_lists}
use Rattle.device_cells.specs.Ranges.{SameOutside, overwrite}
use Rattle.slot_disk.specs.declared.call.Call.{Call}
use Rattle.slot_disk.specs.declared.call.Call.TheVariants.{Written, Synced}
use Rattle.slot_disk.specs.Stages.{settled, noting, stage, covers, IsTorn}
use Rattle.slot_disk.specs.StageLaws.{length-stage, content_torn, length-overwrite, get_or-overwrite_before, get_or-overwrite_after}
use Rattle.device_cells.proofs.CellSteps.{get_or-range, length-range}
use Rattle.slot_disk.proofs.Overwriting.{get_or-overwrite_here}

-- one call more
pub stage-push : (first : List ℕ) (calls : List Call) (call : Call) → stage first (calls ++ call ∷ []) ≡ noting (stage first calls) call
unfolding stage
stage-push first calls call = fold-append noting (settled first) calls (call ∷ [])

outside : (at n k : ℕ) → (k < at) ⊎ (at + n ≤ k) → (nat_le at k && nat_lt k (at + n)) ≡ false
outside at n k (inl before) = let short : nat_le at k ≡ false = grind (arith, nat_tests) in and_left (nat_le at k) (nat_lt k (at + n)) short
outside at n k (inr after) = let long : nat_lt k (at + n) ≡ false = grind (arith, nat_tests) in and_right (nat_le at k) (nat_lt k (at + n)) long

-- one range more, which doesn't have the byte
covers_more : (ranges : List (ℕ × ℕ)) (at n k : ℕ) → covers ranges k ≡ false → (k < at) ⊎ (at + n ≤ k) → covers (ranges ++ (at, n) ∷ []) k ≡ false
covers_more ranges at n k none apart = list_any-append (λ (r : ℕ × ℕ). nat_le r.0 k && nat_lt k (r.0 + r.1)) ranges ((at, n) ∷ []) ∙ no_part (covers ranges k) at n k none apart
  where
    no_part : (b : Bool) (at n k : ℕ) → b ≡ false → (k < at) ⊎ (at + n ≤ k) → (b || ((nat_le at k && nat_lt k (at + n)) || false)) ≡ false
    no_part b at n k none apart = or_from b ((nat_le at k && nat_lt k (at + n)) || false) none (or_from (nat_le at k && nat_lt k (at + n)) false (outside at n k apart) refl)

-- ---- one write more

-- what a stop may leave of one write more is what it might have left before, but for the range
pub written_torn : (first : List ℕ) (calls : List Call) (at : ℕ) (bytes c : List ℕ) → at + length bytes ≤ length first → IsTorn (noting (stage first calls) (Written at bytes)) c
    → (d : List ℕ) × IsTorn (stage first calls) d × SameOutside at (length bytes) d c
written_torn first calls at bytes c within torn =
    let s = stage first calls in
    let n = length bytes in
    let old = slice_range s.synced at (at + n) in
    let long : length s.synced ≡ length first = sym (content_torn first calls).size ∙ length-stage first calls in
    let old_long : length old ≡ n = length-range s.synced at n ∙ omega arith in
    let d = overwrite c at old in (
      d,
      record {
        size = length-overwrite c at old ∙ torn.size;
        elsewhere = λ k none. elim (cases_lt k at) [
          | inl before ↦ get_or-overwrite_before c at old k before ∙ torn.elsewhere k (covers_more s.unsynced at n k none (inl before))
          | inr behind ↦ elim (cases_lt k (at + n)) [
            | inl inside ↦ here s.synced c at n k behind inside old_long (omega (arith, torn.size))
            | inr after ↦ get_or-overwrite_after c at old k (omega arith) ∙ torn.elsewhere k (covers_more s.unsynced at n k none (inr after))
          ]
        ];
      },
      record {
        size = sym (length-overwrite c at old);
        before = λ k below. sym (get_or-overwrite_before c at old k below);
        after = λ k above. sym (get_or-overwrite_after c at old k (omega arith));
      },
    )
  where
    here : (synced c : List ℕ) (at n k : ℕ) → at ≤ k → k < at + n → length (slice_range synced at (at + n)) ≡ n → at + n ≤ length c → get_or (overwrite c at (slice_range synced at (at + n))) k 0 ≡ get_or synced k 0
    here synced c at n k low high long within =
        let split : k ≡ at + (k - at) = omega arith in
        ap (λ (i : ℕ). get_or (overwrite c at (slice_range synced at (at + n))) i 0) split
        ∙ get_or-overwrite_here c at (slice_range synced at (at + n)) (k - at) (omega arith) (omega arith)
        ∙ get_or-range synced at n (k - at) (omega arith)
        ∙ ap (λ (i : ℕ). get_or synced i 0) (sym split)

-- ---- one sync more

pub settled_only : (image c : List ℕ) → IsTorn (settled image) c → c ≡ image
settled_only image c torn = same_number_lists c image torn.size (λ k below. torn.elsewhere k refl)

pub synced_torn : (first : List ℕ) (calls : List Call) (c : List ℕ) → IsTorn (noting (stage first calls) Synced) c → IsTorn (stage first calls) c
synced_torn first calls c torn = subst (IsTorn (stage first calls)) (sym (settled_only (stage first calls).content c torn)) (content_torn first calls)
