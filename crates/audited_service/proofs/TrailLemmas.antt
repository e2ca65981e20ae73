-- What calls that may append leave of a trail.
use Rattle.std.proofs.Common.{◌≡◌, ◌<◌, ℕ, Result, Ok, Err, ap, refl, subst, sym, inl, inr, ◌∙◌, arith}
use Rattle.std.specs.Prelude.{◌⊎◌, IfErr, IsOk}
use Rattle.device_cells.specs.Faults.{Rose}
use Rattle.device_cells.specs.Medium.{Medium, IsSettled, Becomes}
use Rattle.device_cells.proofs.Media.{keeps_still}
use Rattle.audit_trail.specs.Changes.{AppendsEntry, TrailLeft}
use Rattle.audit_trail.specs.declared.entries.Entry.{Entry}
use Rattle.audit_trail.specs.declared.faults.TrailFault.{TrailFault}
use Rattle.audit_trail.specs.declared.faults.TrailFault.TheVariants as trail_fault
use Rattle.audit_trail.proofs.MediumLaws.{same_fault}
use Rattle.line_service.specs.declared.stops.Stop.{Stop}
use Rattle.audited_service.specs.Answers.{AuditsLines}
use Rattle.audited_service.specs.EachLine.{TrailAppended}
use Rattle.audited_service.specs.Growing.{Grown}
use Rattle.audited_service.proofs.FullLemmas.{audits_full, not_full}
use Rattle.audited_service.proofs.GrowingLemmas.{grows_appended, grows_kept, grows_then}
use Rattle.audited_service.proofs.RestingLemmas.{grown_appended, grown_kept, grown_on}
use Rattle.audited_service.proofs.RunLemmas.{fault_is}

-- the trail wasn't called
pub trail_still : (t : Medium) (count : ℕ) (failed : Type 0) → IsSettled t → (failed → ⊥) → TrailAppended t t count count failed
trail_still t count failed settled never = record {
  left = record {
    size = refl;
    still = λ some. some;
    settled = λ unfailed. settled;
    later = omega arith;
    fault = λ h. absurd (never h);
    quiet = λ unfailed. refl;
  };
  grows = grows_kept t t (keeps_still t);
  rests = λ unfailed. grown_kept t t (keeps_still t);
}

-- an entry was appended, or its append failed
module _ (n : ℕ) (e : Entry) (t0 t1 : Medium) (before now : ℕ) (failed : Type 0) (was_settled : IsSettled t0) where
  pub trail_appended : (r : Result (Unit {0}) TrailFault) → AppendsEntry n e t0 t1 r → TrailLeft t0 t1 before now (IsOk r) (r ≡ Err trail_fault.DiskFault)
      → IfErr r (λ fault. (fault ≡ trail_fault.DiskFault) ⊎ (fault ≡ trail_fault.Full)) → (r ≡ Err trail_fault.Full → t1 ≡ t0)
      → (failed → r ≡ Err trail_fault.DiskFault) → (r ≡ Err trail_fault.DiskFault → failed) → TrailAppended t0 t1 before now failed
  trail_appended r appends left faults untouched tells told = record {
    left = record {
      size = left.size;
      still = left.still;
      settled = λ unfailed. at_rest r left.settled faults untouched (λ h. unfailed (told h));
      later = left.later;
      fault = λ h. left.fault (tells h);
      quiet = λ unfailed. left.quiet (λ h. unfailed (told h));
    };
    grows = grows_appended n e t0 t1 r appends;
    rests = λ unfailed. rests r appends faults untouched (λ h. unfailed (told h));
  }
    where
      at_rest : (r : Result (Unit {0}) TrailFault) → (IsOk r → IsSettled t1) → IfErr r (λ fault. (fault ≡ trail_fault.DiskFault) ⊎ (fault ≡ trail_fault.Full))
          → (r ≡ Err trail_fault.Full → t1 ≡ t0) → (r ≡ Err trail_fault.DiskFault → ⊥) → IsSettled t1
      at_rest (Ok x) settled faults untouched unfailed = settled refl
      at_rest (Err fault) settled (inl is) untouched unfailed = absurd (unfailed (ap Err is))
      at_rest (Err fault) settled (inr is) untouched unfailed = subst IsSettled (sym (untouched (ap Err is))) was_settled

      rests : (r : Result (Unit {0}) TrailFault) → AppendsEntry n e t0 t1 r → IfErr r (λ fault. (fault ≡ trail_fault.DiskFault) ⊎ (fault ≡ trail_fault.Full))
          → (r ≡ Err trail_fault.Full → t1 ≡ t0) → (r ≡ Err trail_fault.DiskFault → ⊥) → Becomes Grown t0 t1
      rests (Ok x) appends faults untouched unfailed = grown_appended n e t0 t1 x appends
      rests (Err fault) appends (inl is) untouched unfailed = absurd (unfailed (ap Err is))
      rests (Err fault) appends (inr is) untouched unfailed = subst (λ (t : Medium). Becomes Grown t0 t) (sym (untouched (ap Err is))) (grown_kept t0 t0 (keeps_still t0))

-- one call after others, in which the trail didn't fail
pub trail_then : (t0 t1 t2 : Medium) (f0 f1 f2 : ℕ) (line run : Type 0) → (run → line) → (line → run) → TrailAppended t0 t1 f0 f1 ⊥ → TrailAppended t1 t2 f1 f2 line → TrailAppended t0 t2 f0 f2 run
trail_then t0 t1 t2 f0 f1 f2 line run back on one two =
    let same : f1 ≡ f0 = one.left.quiet (λ h. h) in
    record {
      left = record {
        size = two.left.size ∙ one.left.size;
        still = λ some. two.left.still (one.left.still some);
        settled = λ unfailed. two.left.settled (λ h. unfailed (on h));
        later = omega (arith, one.left.later, two.left.later);
        fault = λ h. subst (λ (n : ℕ). Rose n f2) same (two.left.fault (back h));
        quiet = λ unfailed. two.left.quiet (λ h. unfailed (on h)) ∙ same;
      };
      grows = grows_then t0 t1 t2 one.grows two.grows;
      rests = λ unfailed. grown_on t0 t1 t2 (one.rests (λ h. h)) (two.rests (λ h. unfailed (on h)));
    }

-- ---- the trail was opened first

pub opened_left : (t0 t1 t2 : Medium) (f0 f1 f2 : ℕ) (done failed : Type 0) (result : Result (Result (Unit {0}) Stop) TrailFault) → TrailLeft t0 t1 f0 f1 done failed → (failed → ⊥)
    → TrailLeft t1 t2 f1 f2 (result ≡ Err trail_fault.DiskFault → ⊥) (result ≡ Err trail_fault.DiskFault) → TrailLeft t0 t2 f0 f2 (AuditsLines result) (result ≡ Err trail_fault.DiskFault)
opened_left t0 t1 t2 f0 f1 f2 done failed result one never two =
    let same : f1 ≡ f0 = one.quiet never in
    record {
      size = two.size ∙ one.size;
      still = λ some. two.still (one.still some);
      settled = λ audits. two.settled (λ h. subst AuditsLines h audits);
      later = omega (arith, one.later, two.later);
      fault = λ h. subst (λ (n : ℕ). Rose n f2) same (two.fault h);
      quiet = λ unfailed. two.quiet unfailed ∙ same;
    }

pub unopened_trail : (t0 t1 : Medium) (f0 f1 : ℕ) (fault : TrailFault) → (fault ≡ trail_fault.DiskFault) ⊎ ((cell : ℕ) × (cell < 4096) × (fault ≡ trail_fault.Damaged cell))
    → TrailLeft t0 t1 f0 f1 (IsOk {T = Unit {0}} (Err fault)) (◌≡◌ {A = Result (Unit {0}) TrailFault} (Err fault) (Err trail_fault.DiskFault))
    → TrailLeft t0 t1 f0 f1 (AuditsLines (Err fault)) (◌≡◌ {A = Result (Result (Unit {0}) Stop) TrailFault} (Err fault) (Err trail_fault.DiskFault))
unopened_trail t0 t1 f0 f1 fault kinds left = record {
  size = left.size;
  still = left.still;
  settled = λ audits. absurd (not_full fault kinds (audits_full fault audits));
  later = left.later;
  fault = λ h. left.fault (ap Err (fault_is fault trail_fault.DiskFault h));
  quiet = λ unfailed. left.quiet (λ h. unfailed (ap Err (same_fault fault trail_fault.DiskFault h)));
}
