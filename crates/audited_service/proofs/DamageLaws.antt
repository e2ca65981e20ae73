-- What opening a trail tells of its damage.
use Rattle.std.proofs.Common.{◌≡◌, ◌⊎◌, ◌<◌, ◌%◌, inl, inr, ℕ, List, ◌++◌, Option, Some, Result, Ok, Err, sym, ap, ◌∙◌, arith}
use Rattle.std.proofs.lemmas.List.{append-nil}
use Rattle.std.specs.Prelude.{IfErr}
use Rattle.device_cells.specs.Medium.{Medium, Told}
use Rattle.device_cells.proofs.Media.{told_from, told_at}
use Rattle.device_cells.proofs.WhereToldLemmas.{told_same}
use Rattle.audit_trail.specs.TrailStands.{IsTrail, StandsForTrail, IsFirstDamaged}
use Rattle.audit_trail.specs.declared.entries.Entry.{Entry}
use Rattle.audit_trail.specs.declared.faults.TrailFault.{TrailFault}
use Rattle.audit_trail.specs.declared.faults.TrailFault.TheVariants.{DiskFault, Damaged}
use Rattle.audit_trail.proofs.OpeningLaws.{trail_undamaged}
use Rattle.audited_service.specs.Listing.{GotLines, Listed}
use Rattle.audited_service.specs.Sending.{IsFault}
use Rattle.audited_service.specs.declared.listing.ListFault.{ListFault}
use Rattle.audited_service.specs.declared.listing.ListFault.TheVariants.{Trail, WriteFault}
use Rattle.audited_service.proofs.LineLaws.{lines_below_first}

abbrev pub Ends : Type 0
Ends = Result (Unit {0}) ListFault

abbrev pub Opens : Type 0
Opens = Result (Unit {0}) TrailFault

-- ---- one fault in the other

pub opening_fault : {T : Type 0} (a b : TrailFault) → ◌≡◌ {A = Ends} (Err (Trail a)) (Err (Trail b)) → ◌≡◌ {A = Result T TrailFault} (Err a) (Err b)
opening_fault a b is = cc

pub listing_fault : {T : Type 0} (a b : TrailFault) → ◌≡◌ {A = Result T TrailFault} (Err a) (Err b) → ◌≡◌ {A = Ends} (Err (Trail a)) (Err (Trail b))
listing_fault a b is = cc

pub sent_no_fault : (fault : ListFault) → ◌≡◌ {A = Ends} (Ok tt) (Err fault) → ⊥
sent_no_fault fault is = cc is

pub read_no_fault : {T : Type 0} (x : T) (fault : TrailFault) → ◌≡◌ {A = Result T TrailFault} (Ok x) (Err fault) → ⊥
read_no_fault x fault is = cc is

pub write_not_trail : (fault : TrailFault) → ◌≡◌ {A = Ends} (Err WriteFault) (Err (Trail fault)) → ⊥
write_not_trail fault is = cc is

pub trail_not_write : (fault : TrailFault) → ◌≡◌ {A = Ends} (Err (Trail fault)) (Err WriteFault) → ⊥
trail_not_write fault is = cc is

same_cell : (a b : ℕ) → ◌≡◌ {A = Ends} (Err (Trail (Damaged a))) (Err (Trail (Damaged b))) → a ≡ b
same_cell a b is = cc

-- reading a record fails by the faults of a listing
pub read_fault : (number : ℕ) (fault : TrailFault) → (fault ≡ DiskFault) ⊎ (fault ≡ Damaged (number % 4096)) → IsFault (Trail fault)
read_fault number fault (inl failed) = inr (inl (ap Trail failed))
read_fault number fault (inr damaged) = inr (inr (number % 4096, omega arith, ap Trail damaged))

-- a cell that is named is one of the trail
pub within_trail : (fault : ListFault) → IsFault fault → (cell : ℕ) → ◌≡◌ {A = Ends} (Err fault) (Err (Trail (Damaged cell))) → cell < 4096
within_trail fault (inl write) cell is = let wrong : ◌≡◌ {A = Ends} (Err WriteFault) (Err (Trail (Damaged cell))) = ap Err (sym write) ∙ is in cc
within_trail fault (inr (inl disk)) cell is = let wrong : ◌≡◌ {A = Ends} (Err (Trail DiskFault)) (Err (Trail (Damaged cell))) = ap Err (sym disk) ∙ is in cc
within_trail fault (inr (inr named)) cell is = let same : named.0 ≡ cell = same_cell named.0 cell (ap Err (sym named.2) ∙ is) in omega (arith, named.1)

pub each_within : (result : Ends) → IfErr result IsFault → (cell : ℕ) → result ≡ Err (Trail (Damaged cell)) → cell < 4096
each_within (Ok done) faults cell is = cc
each_within (Err fault) faults cell is = within_trail fault faults cell is

-- ---- a trail that was opened

-- a trail that stands for entries has no damaged cell
pub opened_undamaged : (m0 m1 : Medium) (next : ℕ) (P : ℕ → Type 0) → m1.content ≡ m0.content → Told m1 (λ image. StandsForTrail image next) → Told m0 (λ image. (cell : ℕ) → IsFirstDamaged image cell → P cell)
opened_undamaged m0 m1 next P same stands =
    told_from m0.content (λ image. (cell : ℕ) → IsFirstDamaged image cell → P cell) (λ image is cell damaged.
    let some : StandsForTrail image next = told_at m1.content (λ c. StandsForTrail c next) image (same ∙ is) stands in
    absurd (trail_undamaged image some.0 some.2 cell damaged))

-- and what can't be is nowhere told
pub told_never : (m0 m1 : Medium) (P : List ℕ → Type 0) → m1.content ≡ m0.content → Told m1 (λ image. ⊥) → Told m0 P
told_never m0 m1 P same never = told_from m0.content P (λ image is. absurd (told_at m1.content (λ c. ⊥) image (same ∙ is) never))

-- ---- a trail that wasn't

module _ (m : Medium) (fault : TrailFault) (damaged : (cell : ℕ) → ◌≡◌ {A = Opens} (Err fault) (Err (Damaged cell)) → Told m (λ image. IsFirstDamaged image cell)) where
  sound_at : (image : List ℕ) (es : List Entry) → m.content ≡ Some image → IsTrail image es → (cell : ℕ) → fault ≡ Damaged cell → ⊥
  sound_at image es is trail cell named = trail_undamaged image es trail cell (told_at m.content (λ c. IsFirstDamaged c cell) image is (damaged cell (ap Err named)))

  -- only a disk's fault keeps a sound trail from being opened
  pub sound_opened : (fault ≡ DiskFault → ⊥) → (fault ≡ DiskFault) ⊎ ((cell : ℕ) × (cell < 4096) × (fault ≡ Damaged cell)) → Told m (λ image. (es : List Entry) → IsTrail image es → ⊥)
  sound_opened works (inl failed) = absurd (works failed)
  sound_opened works (inr named) = told_from m.content (λ image. (es : List Entry) → IsTrail image es → ⊥) (λ image is es trail. sound_at image es is trail named.0 named.2)

  -- nothing was sent
  pub listed_none : (held : Option (List ℕ)) → Told m (λ image. (es : List Entry) → IsTrail image es → Listed es (Err (Trail fault)) held held)
  listed_none held =
      told_from m.content (λ image. (es : List Entry) → IsTrail image es → Listed es (Err (Trail fault)) held held) (λ image is es trail. record {
        done = tt;
        cut = λ wrong. cc;
        lost = λ failed. told_same held (GotLines es) (λ x. record { next = 0; within = omega arith; held = sym (append-nil x) ∙ ap (λ bytes. x ++ bytes) (sym (lines_below_first es 0 (omega arith))) });
        undamaged = λ cell named. sound_at image es is trail cell (fault_is fault (Damaged cell) named);
      })
    where
      fault_is : (a b : TrailFault) → ◌≡◌ {A = Ends} (Err (Trail a)) (Err (Trail b)) → a ≡ b
      fault_is a b same = cc
