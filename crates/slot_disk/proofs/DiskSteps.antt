-- A disk in memory holds what its noted calls left, and what a stop leaves of it is torn.
use Rattle.std.proofs.Common.{Some, ◌≡◌, ◌≤◌, ◌<◌, ◌⊎◌, inl, inr, ℕ, ◌+◌, false, ◌&&◌, List, [], ◌∷◌, ◌++◌, length, take, get_or, replicate, fold, refl, sym, ◌∙◌, ap, subst, arith, length-append}
use Rattle.std.specs.Prelude.{nat_le, nat_lt}
use Rattle.std.proofs.lemmas.Bool.{and_cases, or_parts}
use Rattle.std.proofs.lemmas.Bool.Decides.{nat_tests}
use Rattle.std.proofs.lemmas.List.{length-replicate, take_more}
use Rattle.device_cells.specs.Ranges.{overwrite}
use Rattle.slot_disk.specs.declared.call.Call.{Call}
use Rattle.slot_disk.specs.Stages.{Stage, settled, noting, stage, covers, IsTorn}
use Rattle.slot_disk.specs.StageLaws.{length-stage, content_torn, length-overwrite, get_or-overwrite_before, get_or-overwrite_after}
use Rattle.slot_disk.specs.declared.memory_disk.Torn.{Torn}
use Rattle.slot_disk.specs.declared.memory_disk.Torn.TheVariants.{Old, New, Fill}
use Rattle.slot_disk.specs.TornImage.{torn_image}
use Rattle.slot_disk.specs.DiskState.{IsDisk, blank_image}
use Rattle.slot_disk.specs.LogMedium.{log_medium}
use Rattle.device_cells.specs.Medium.{IsSettled}
use Rattle.slot_disk.proofs.Staging.{stage-push, settled_only}

pub stage-nil : (image : List ℕ) → stage image [] ≡ settled image
unfolding stage
stage-nil image = refl

-- ---- what is in memory

pub is_disk_new : (first content : List ℕ) (calls : List Call) (room capacity : ℕ) → content ≡ first → calls ≡ [] → room ≡ capacity → IsDisk first content calls room capacity
is_disk_new first content calls room capacity same none exact = record {
  size = ap length same;
  replayed = same ∙ sym (ap (λ (s : Stage). s.content) (stage-nil first)) ∙ ap (λ (l : List Call). (stage first l).content) (sym none);
  noted = subst (λ (l : List Call). length l ≤ room) (sym none) (omega arith);
  reserved = omega arith;
}

pub is_disk_more : (first content new : List ℕ) (calls more : List Call) (call : Call) (room capacity : ℕ) → IsDisk first content calls room capacity → length calls < room → more ≡ calls ++ call ∷ []
    → new ≡ (noting (stage first calls) call).content → IsDisk first new more room capacity
is_disk_more first content new calls more call room capacity disk room_left more_is new_is =
    let replayed : new ≡ (stage first more).content = new_is ∙ sym (ap (λ (s : Stage). s.content) (stage-push first calls call)) ∙ ap (λ (l : List Call). (stage first l).content) (sym more_is) in
    record {
      size = ap length replayed ∙ length-stage first more;
      replayed = replayed;
      noted = subst (λ (l : List Call). length l ≤ room) (sym more_is) (omega (arith, length-append calls (call ∷ [])));
      reserved = disk.reserved;
    }

pub blank-replicate : (size : ℕ) → replicate size 0 ≡ blank_image size
unfolding blank_image
blank-replicate size = refl

-- ---- what a stop leaves

-- filling ranges leaves what none of them covers
filled_elsewhere : (byte : ℕ) (ranges : List (ℕ × ℕ)) (image : List ℕ) (k : ℕ) → covers ranges k ≡ false → get_or (fold (λ xs (r : ℕ × ℕ). overwrite xs r.0 (replicate r.1 byte)) image ranges) k 0 ≡ get_or image k 0
filled_elsewhere byte [] image k none = refl
filled_elsewhere byte (r ∷ ranges) image k none =
    let parts = or_parts (nat_le r.0 k && nat_lt k (r.0 + r.1)) (covers ranges k) none in
    filled_elsewhere byte ranges (overwrite image r.0 (replicate r.1 byte)) k parts.1 ∙ apart r.0 r.1 (and_cases (nat_le r.0 k) (nat_lt k (r.0 + r.1)) parts.0)
  where
    apart : (at n : ℕ) → (nat_le at k ≡ false) ⊎ (nat_lt k (at + n) ≡ false) → get_or (overwrite image at (replicate n byte)) k 0 ≡ get_or image k 0
    apart at n (inl before) = let below : k < at = grind (arith, nat_tests) in get_or-overwrite_before image at (replicate n byte) k below
    apart at n (inr behind) = let above : at + n ≤ k = grind (arith, nat_tests) in get_or-overwrite_after image at (replicate n byte) k (omega (arith, length-replicate n byte))

length-filled : (byte : ℕ) (ranges : List (ℕ × ℕ)) (image : List ℕ) → length (fold (λ xs (r : ℕ × ℕ). overwrite xs r.0 (replicate r.1 byte)) image ranges) ≡ length image
length-filled byte [] image = refl
length-filled byte (r ∷ ranges) image = length-filled byte ranges (overwrite image r.0 (replicate r.1 byte)) ∙ length-overwrite image r.0 (replicate r.1 byte)

pub torn_is_torn : (torn : Torn) (first : List ℕ) (calls : List Call) → IsTorn (stage first calls) (torn_image torn (stage first calls))
torn_is_torn Old first calls = record { size = refl; elsewhere = λ k none. refl }
torn_is_torn New first calls = content_torn first calls
torn_is_torn (Fill byte) first calls = record {
  size = length-filled byte (stage first calls).unsynced (stage first calls).synced;
  elsewhere = λ k none. filled_elsewhere byte (stage first calls).unsynced (stage first calls).synced k none;
}

-- ---- making the calls over again

pub torn_image-settled : (torn : Torn) (image : List ℕ) → torn_image torn (settled image) ≡ image
torn_image-settled Old image = refl
torn_image-settled New image = refl
torn_image-settled (Fill byte) image = refl

pub stage-take_more : (first : List ℕ) (calls : List Call) (i : ℕ) (call : Call) → i < length calls → call ≡ get_or calls i call → stage first (take (i + 1) calls) ≡ noting (stage first (take i calls)) call
stage-take_more first calls i call within is =
    ap (stage first) (take_more calls i call within ∙ ap (λ (c : Call). take i calls ++ c ∷ []) (sym is)) ∙ stage-push first (take i calls) call

-- ---- a disk that is new

-- nothing is unsynced before the first call
pub new_settled : (image : List ℕ) → IsSettled (log_medium image [])
new_settled image = record {
  only = λ c torn.
      let now : IsTorn (settled image) c = subst (λ (s : Stage). IsTorn s c) (stage-nil image) torn in
      ap (λ (s : Stage). Some s.content) (stage-nil image) ∙ ap (λ (l : List ℕ). Some l) (sym (settled_only image c now));
}

pub length-blank : (size : ℕ) → length (blank_image size) ≡ size
length-blank size = ap length (sym (blank-replicate size)) ∙ length-replicate size 0

pub length-torn : (torn : Torn) (first : List ℕ) (calls : List Call) → length (torn_image torn (stage first calls)) ≡ length first
length-torn torn first calls = (torn_is_torn torn first calls).size ∙ sym (content_torn first calls).size ∙ length-stage first calls
