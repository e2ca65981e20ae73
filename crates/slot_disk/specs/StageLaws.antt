-- What is read of a disk in memory is among what a stop may leave of it, which makes a medium of its calls.
use Rattle.std.proofs.Common.{◌≡◌, ◌≤◌, ◌<◌, ◌⊎◌, inl, inr, ⊎_elim, ℕ, zero, suc, ◌+◌, Bool, false, ◌&&◌, ◌||◌, List, [], ◌∷◌, ◌++◌, length, take, get_or, fold, Some, refl, sym, ◌∙◌, ap, subst, arith}
use Rattle.std.specs.Prelude.{nat_le, nat_lt}
use Rattle.std.proofs.lemmas.Bool.{and_cases, or_parts}
use Rattle.std.proofs.lemmas.Bool.Decides.{nat_tests}
use Rattle.std.proofs.lemmas.List.{take_all}
use Rattle.std.proofs.lemmas.List.Folds.{list_any-append}
use Rattle.std.proofs.lemmas.Option.{same_Some}
use Rattle.device_cells.specs.Ranges.{overwrite}
use Rattle.slot_disk.specs.declared.call.Call.{Call}
use Rattle.slot_disk.specs.declared.call.Call.TheVariants.{Written, Synced}
use Rattle.slot_disk.specs.Stages.{Stage, settled, noting, stage, covers, IsTorn}

pub length-overwrite : (xs : List ℕ) (at : ℕ) (bytes : List ℕ) → length (overwrite xs at bytes) ≡ length xs
unfolding overwrite
length-overwrite [] at bytes = refl
length-overwrite (x ∷ xs) (suc at) bytes = ap suc (length-overwrite xs at bytes)
length-overwrite (x ∷ xs) zero [] = refl
length-overwrite (x ∷ xs) zero (b ∷ bytes) = ap suc (length-overwrite xs zero bytes)

pub get_or-overwrite_before : (xs : List ℕ) (at : ℕ) (bytes : List ℕ) (k : ℕ) → k < at → get_or (overwrite xs at bytes) k 0 ≡ get_or xs k 0
unfolding overwrite
get_or-overwrite_before [] at bytes k before = refl
get_or-overwrite_before (x ∷ xs) (suc at) bytes zero before = refl
get_or-overwrite_before (x ∷ xs) (suc at) bytes (suc k) before = get_or-overwrite_before xs at bytes k (omega arith)
get_or-overwrite_before (x ∷ xs) zero bytes k before = absurd (omega arith)

pub get_or-overwrite_after : (xs : List ℕ) (at : ℕ) (bytes : List ℕ) (k : ℕ) → at + length bytes ≤ k → get_or (overwrite xs at bytes) k 0 ≡ get_or xs k 0
unfolding overwrite
get_or-overwrite_after [] at bytes k after = refl
get_or-overwrite_after (x ∷ xs) (suc at) bytes zero after = refl
get_or-overwrite_after (x ∷ xs) (suc at) bytes (suc k) after = get_or-overwrite_after xs at bytes k (omega arith)
get_or-overwrite_after (x ∷ xs) zero [] k after = refl
get_or-overwrite_after (x ∷ xs) zero (b ∷ bytes) zero after = absurd (omega arith)
get_or-overwrite_after (x ∷ xs) zero (b ∷ bytes) (suc k) after = get_or-overwrite_after xs zero bytes k (omega arith)

-- what is read is among what a stop may leave
record IsSound (first : List ℕ) (s : Stage) : Type 0 where
  size : length s.content ≡ length first
  torn : IsTorn s s.content

-- a byte that no range covers, one more range included
not_covered : (ranges : List (ℕ × ℕ)) (at n k : ℕ) → covers (ranges ++ (at, n) ∷ []) k ≡ false → (covers ranges k ≡ false) × ((k < at) ⊎ (at + n ≤ k))
not_covered ranges at n k none =
    let parts : (covers ranges k || ((nat_le at k && nat_lt k (at + n)) || false)) ≡ false = sym (list_any-append (λ (r : ℕ × ℕ). nat_le r.0 k && nat_lt k (r.0 + r.1)) ranges ((at, n) ∷ [])) ∙ none in
    no_part (covers ranges k) at n k parts
  where
    no_part : (b : Bool) (at n k : ℕ) → (b || ((nat_le at k && nat_lt k (at + n)) || false)) ≡ false → (b ≡ false) × ((k < at) ⊎ (at + n ≤ k))
    no_part b at n k parts =
        let first = or_parts b ((nat_le at k && nat_lt k (at + n)) || false) parts in
        let second = or_parts (nat_le at k && nat_lt k (at + n)) false first.1 in
        (first.0, ⊎_elim (λ left. inl (grind (arith, nat_tests))) (λ right. inr (grind (arith, nat_tests))) (and_cases (nat_le at k) (nat_lt k (at + n)) second.0))

sound_start : (first : List ℕ) → IsSound first (settled first)
sound_start first = record { size = refl; torn = record { size = refl; elsewhere = λ k none. refl } }

sound_step : (first : List ℕ) (s : Stage) (call : Call) → IsSound first s → IsSound first (noting s call)
sound_step first s (Written at bytes) sound = record {
  size = length-overwrite s.content at bytes ∙ sound.size;
  torn = record {
    size = length-overwrite s.content at bytes ∙ sound.torn.size;
    elsewhere = λ k none. let apart = not_covered s.unsynced at (length bytes) k none in
        ⊎_elim (get_or-overwrite_before s.content at bytes k) (get_or-overwrite_after s.content at bytes k) apart.1 ∙ sound.torn.elsewhere k apart.0;
  };
}
sound_step first s Synced sound = record { size = sound.size; torn = record { size = refl; elsewhere = λ k none. refl } }

sound_all : (first : List ℕ) (calls : List Call) (s : Stage) → IsSound first s → IsSound first (fold noting s calls)
sound_all first [] s sound = sound
sound_all first (call ∷ calls) s sound = sound_all first calls (noting s call) (sound_step first s call sound)

sound : (first : List ℕ) (calls : List Call) → IsSound first (stage first calls)
unfolding stage
sound first calls = sound_all first calls (settled first) (sound_start first)

pub length-stage : (first : List ℕ) (calls : List Call) → length (stage first calls).content ≡ length first
length-stage first calls = (sound first calls).size

pub content_torn : (first : List ℕ) (calls : List Call) → IsTorn (stage first calls) (stage first calls).content
content_torn first calls = (sound first calls).torn

-- ---- the medium

pub sized_log : (first : List ℕ) (calls : List Call) (c : List ℕ) → Some (stage first calls).content ≡ Some c → length c ≡ length first
sized_log first calls c is = ap length (sym (same_Some (stage first calls).content c is)) ∙ length-stage first calls

pub torn_log : (first : List ℕ) (calls : List Call) (c : List ℕ) → Some (stage first calls).content ≡ Some c → IsTorn (stage first calls) c
torn_log first calls c is = subst (IsTorn (stage first calls)) (same_Some (stage first calls).content c is) (content_torn first calls)

pub all_made : (n : ℕ) → n ≤ n
all_made n = omega arith

pub now_log : (first : List ℕ) (calls : List Call) (c : List ℕ) → IsTorn (stage first calls) c → IsTorn (stage first (take (length calls) calls)) c
now_log first calls c torn = subst (λ (l : List Call). IsTorn (stage first l) c) (sym (take_all (length calls) calls (omega arith))) torn

pub only_log : (first : List ℕ) (calls : List Call) (noted : ℕ) (c : List ℕ) → length calls ≤ noted → noted ≤ length calls → IsTorn (stage first (take noted calls)) c → IsTorn (stage first calls) c
only_log first calls noted c from made torn = subst (λ (l : List Call). IsTorn (stage first l) c) (take_all noted calls from) torn
