-- The status of a listing tells how it ended.
use Rattle.std.proofs.Common.{◌≡◌, ◌∙◌, ℕ, List, Result, Ok, Err, refl, sym, ap, subst, arith, inl, inr}
use Rattle.std.specs.Prelude.{◌⊎◌, ◌↔◌, ◌<◌, IsOk}
use Rattle.device_cells.specs.Medium.{Medium, Told}
use Rattle.device_cells.proofs.Media.{told_from, told_map}
use Rattle.audit_trail.specs.Changes.{TrailLeft}
use Rattle.audit_trail.specs.TrailStands.{IsTrail}
use Rattle.audit_trail.specs.declared.entries.Entry.{Entry}
use Rattle.audit_trail.specs.declared.faults.TrailFault.TheVariants.{DiskFault, Full, Damaged}
use Rattle.line_service.specs.Devices.{TellsFault}
use Rattle.audited_service.specs.declared.listing.ListFault.{ListFault}
use Rattle.audited_service.specs.declared.listing.ListFault.TheVariants.{WriteFault, Trail}
use Rattle.cca_tool.specs.Auditing.{AuditCallsNone}
use Rattle.cca_tool.specs.Showing.{listing_status, IsListingStatus, ListingEnded}
use Rattle.store_unload.specs.Statuses.{CallsNone}
use Rattle.cca_tool.specs.declared.auditing.AuditStatus.{AuditStatus}
use Rattle.cca_tool.specs.declared.auditing.AuditStatus.TheVariants as audit_status
use Rattle.store_unload.specs.declared.status.Status.{Status}
use Rattle.store_unload.specs.declared.status.Status.TheVariants as status

-- ---- no device was called

pub runs_none : (told : Status) → CallsNone told → AuditCallsNone (audit_status.Run told)
runs_none told (inl usage) = inl (ap audit_status.Run usage)
runs_none told (inr memory) = inr (ap audit_status.Run memory)

run_told : (a b : Status) → audit_status.Run a ≡ audit_status.Run b → a ≡ b
run_told a b h = cc h

-- the words were faulty exactly where no memory was taken for that
pub usage_as : {T : Type 0} (r : Result T Status) (told : Status) (X : Type 0) → r ≡ Err told → (r ≡ Err status.Usage) ↔ X
    → (audit_status.Run told ≡ audit_status.Run status.Usage) ↔ X
usage_as r told X is usage = (
  λ h. usage.0 (is ∙ ap Err (run_told told status.Usage h)),
  λ faulty. let same : told ≡ status.Usage = cc (is, usage.1 faulty) in ap audit_status.Run same,
)

pub usage_never : {T : Type 0} (r : Result T Status) (taken : T) (X : Type 0) (outcome : AuditStatus) → r ≡ Ok taken
    → (r ≡ Err status.Usage) ↔ X → (AuditCallsNone outcome → ⊥) → (outcome ≡ audit_status.Run status.Usage) ↔ X
usage_never r taken X outcome is usage called = (
  λ h. absurd (called (inl h)),
  λ faulty. absurd (cc (is, usage.1 faulty)),
)

devices_called : (r : Result (Unit {0}) ListFault) → AuditCallsNone (listing_status r) → ⊥
devices_called (Ok done) (inl h) = cc h
devices_called (Ok done) (inr h) = cc h
devices_called (Err WriteFault) (inl h) = cc h
devices_called (Err WriteFault) (inr h) = cc h
devices_called (Err (Trail DiskFault)) (inl h) = cc h
devices_called (Err (Trail DiskFault)) (inr h) = cc h
devices_called (Err (Trail (Damaged cell))) (inl h) = cc h
devices_called (Err (Trail (Damaged cell))) (inr h) = cc h
devices_called (Err (Trail Full)) (inl h) = cc h
devices_called (Err (Trail Full)) (inr h) = cc h

module _ (outcome : AuditStatus) (none : AuditCallsNone outcome) where
  -- it tells of no listing
  pub unlisted : (P : Result (Unit {0}) ListFault → Type 0) → ListingEnded outcome P
  unlisted P = λ r h. absurd (devices_called r (subst AuditCallsNone h none))

  pub none_listed : (m : Medium) (P : List Entry → Result (Unit {0}) ListFault → Type 0)
      → Told m (λ image. (es : List Entry) → IsTrail image es → ListingEnded outcome (P es))
  none_listed m P = told_from m.content _ (λ c is es stands. unlisted (P es))

  never_done : (r : Result (Unit {0}) ListFault) → outcome ≡ listing_status r → ⊥
  never_done r h = devices_called r (subst AuditCallsNone h none)

  pub trail_uncalled : (m : Medium) (count : ℕ)
      → TrailLeft m m count count ((outcome ≡ audit_status.Run status.Done) ⊎ (outcome ≡ audit_status.Run status.WriteFault)) (outcome ≡ audit_status.TrailFault)
  trail_uncalled m count = record {
    size = refl;
    still = λ some. some;
    settled = λ done. absurd (never_settled done);
    later = omega arith;
    fault = λ h. absurd (never_done (Err (Trail DiskFault)) h);
    quiet = λ never. refl;
  }
    where
      never_settled : (outcome ≡ audit_status.Run status.Done) ⊎ (outcome ≡ audit_status.Run status.WriteFault) → ⊥
      never_settled (inl h) = never_done (Ok tt) h
      never_settled (inr h) = never_done (Err WriteFault) h

  pub sink_uncalled : (count : ℕ) → TellsFault count count (outcome ≡ audit_status.Run status.WriteFault)
  sink_uncalled count = record { later = omega arith; fault = λ h. absurd (never_done (Err WriteFault) h); quiet = λ never. refl }

-- ---- of which outcome it tells

abbrev told_listing : Status → Result (Unit {0}) ListFault
told_listing status.WriteFault = Err WriteFault
told_listing _ = Ok tt

abbrev listing_of : AuditStatus → Result (Unit {0}) ListFault
listing_of (audit_status.Run told) = told_listing told
listing_of audit_status.TrailFault = Err (Trail DiskFault)
listing_of (audit_status.TrailDamaged cell) = Err (Trail (Damaged cell))
listing_of audit_status.TrailFull = Err (Trail Full)

listing_is : (r : Result (Unit {0}) ListFault) → listing_of (listing_status r) ≡ r
listing_is (Ok done) = refl
listing_is (Err WriteFault) = refl
listing_is (Err (Trail DiskFault)) = refl
listing_is (Err (Trail (Damaged cell))) = refl
listing_is (Err (Trail Full)) = refl

kind_of : (r : Result (Unit {0}) ListFault) → ((cell : ℕ) → r ≡ Err (Trail (Damaged cell)) → cell < 4096) → (r ≡ Err (Trail Full) → ⊥)
    → IsListingStatus (listing_status r)
kind_of (Ok done) within never_full = inl refl
kind_of (Err WriteFault) within never_full = inr (inr (inl refl))
kind_of (Err (Trail DiskFault)) within never_full = inr (inr (inr (inr (inl refl))))
kind_of (Err (Trail (Damaged cell))) within never_full = inr (inr (inr (inr (inr (cell, within cell refl, refl)))))
kind_of (Err (Trail Full)) within never_full = absurd (never_full refl)

module _ (r : Result (Unit {0}) ListFault) (outcome : AuditStatus) (is : outcome ≡ listing_status r) where
  pub listing_called : AuditCallsNone outcome → ⊥
  listing_called none = devices_called r (subst AuditCallsNone is none)

  as_listed : (told : AuditStatus) → outcome ≡ told → r ≡ listing_of told
  as_listed told h = sym (listing_is r) ∙ (ap listing_of (sym is) ∙ ap listing_of h)

  pub listed_as : (P : Result (Unit {0}) ListFault → Type 0) → P r → ListingEnded outcome P
  listed_as P p = λ q h. subst P (sym (listing_is r) ∙ (ap listing_of (sym is ∙ h) ∙ listing_is q)) p

  pub listing_kind : ((cell : ℕ) → r ≡ Err (Trail (Damaged cell)) → cell < 4096) → (r ≡ Err (Trail Full) → ⊥) → IsListingStatus outcome
  listing_kind within never_full = subst IsListingStatus (sym is) (kind_of r within never_full)

  pub lines_listed : (m : Medium) (P : List Entry → Result (Unit {0}) ListFault → Type 0)
      → Told m (λ image. (es : List Entry) → IsTrail image es → P es r)
      → Told m (λ image. (es : List Entry) → IsTrail image es → ListingEnded outcome (P es))
  lines_listed m P told = told_map m _ _ told (λ c each es stands. listed_as (P es) (each es stands))

  pub all_listed : (m : Medium) → Told m (λ image. (es : List Entry) → IsTrail image es → IsOk r)
      → Told m (λ image. (es : List Entry) → IsTrail image es → (outcome ≡ audit_status.Run status.Done) ⊎ (outcome ≡ audit_status.Run status.NoMemory))
  all_listed m told = told_map m _ _ told (λ c each es stands. inl (is ∙ of_ok r (each es stands)))
    where
      of_ok : (q : Result (Unit {0}) ListFault) → IsOk q → listing_status q ≡ audit_status.Run status.Done
      of_ok (Ok done) ok = refl
      of_ok (Err fault) ok = absurd (cc ok)

  pub trail_as : (m0 m1 : Medium) (before now : ℕ) → TrailLeft m0 m1 before now (IsOk r ⊎ (r ≡ Err WriteFault)) (r ≡ Err (Trail DiskFault))
      → TrailLeft m0 m1 before now ((outcome ≡ audit_status.Run status.Done) ⊎ (outcome ≡ audit_status.Run status.WriteFault)) (outcome ≡ audit_status.TrailFault)
  trail_as m0 m1 before now left = record {
    size = left.size;
    still = left.still;
    settled = λ done. left.settled (ended done);
    later = left.later;
    fault = λ h. left.fault (as_listed audit_status.TrailFault h);
    quiet = λ never. left.quiet (λ h. never (is ∙ ap listing_status h));
  }
    where
      ended : (outcome ≡ audit_status.Run status.Done) ⊎ (outcome ≡ audit_status.Run status.WriteFault) → IsOk r ⊎ (r ≡ Err WriteFault)
      ended (inl h) = inl (subst IsOk (sym (as_listed (audit_status.Run status.Done) h)) refl)
      ended (inr h) = inr (as_listed (audit_status.Run status.WriteFault) h)

  pub sink_as : (before now : ℕ) → TellsFault before now (r ≡ Err WriteFault) → TellsFault before now (outcome ≡ audit_status.Run status.WriteFault)
  sink_as before now left = record {
    later = left.later;
    fault = λ h. left.fault (as_listed (audit_status.Run status.WriteFault) h);
    quiet = λ never. left.quiet (λ h. never (is ∙ ap listing_status h));
  }
