-- What opening leaves of a trail, over plain values: it was settled, and its cells were read then.
use Rattle.std.proofs.Common.{◌≡◌, ◌≤◌, ℕ, Result, Ok, Err, IsSome, true, false, OnOk, OnErr, ◌∙◌, subst, sym, arith}
use Rattle.std.specs.Result.{is_err}
use Rattle.device_cells.specs.Faults.{HasCause, Rose}
use Rattle.device_cells.specs.Medium.{Medium, IsSettled, EachImage, Keeps}
use Rattle.device_cells.proofs.Media.{keeps_then, settled_kept, settled_keeps}
use Rattle.audit_trail.specs.Changes.{TrailLeft}

on_ok : {T E P : Type 0} (r : Result T E) → false ≡ is_err r → OnOk r P → P
on_ok (Ok x) is holds = holds
on_ok (Err e) is holds = absurd (cc is)

on_err : {T E P : Type 0} (r : Result T E) → true ≡ is_err r → OnErr r P → P
on_err (Err e) is holds = holds
on_err (Ok x) is holds = absurd (cc is)

-- settling failed
module _ {T E : Type 0} (m0 m1 : Medium) (f0 f1 : ℕ) (r : Result T E) (broken : true ≡ is_err r) (cause : HasCause f0 f1 r) where
  pub unsettled_rose : Rose f0 f1
  unsettled_rose = on_err r broken cause.failed

  pub unsettled_left : (done failed : Type 0) → (done → ⊥) → failed → m1.content ≡ m0.content → EachImage m0 m1 m0.images
      → TrailLeft m0 m1 f0 f1 done failed
  unsettled_left done failed undone holds content moments = record {
    size = moments.size;
    still = λ some. subst IsSome (sym content) some;
    settled = λ h. absurd (undone h);
    later = cause.later;
    fault = λ h. unsettled_rose;
    quiet = λ unfailed. absurd (unfailed holds);
  }

module _ {T E : Type 0} (m0 m1 m2 : Medium) (f0 f1 f2 : ℕ) (r : Result T E) (sound : false ≡ is_err r) (settled : OnOk r (IsSettled m1)) (content : m1.content ≡ m0.content)
    (moments : EachImage m0 m1 m0.images) (cause : HasCause f0 f1 r) (kept : Keeps m1 m2) where
  pub opened_kept : Keeps m0 m2
  opened_kept = keeps_then m0 m1 m2 (settled_keeps m0 m1 content moments) kept

  pub opened_left : (done failed : Type 0) → f1 ≤ f2 → (failed → Rose f1 f2) → ((failed → ⊥) → f2 ≡ f1) → TrailLeft m0 m2 f0 f2 done failed
  opened_left done failed later fault quiet =
      let same : f1 ≡ f0 = on_ok r sound cause.quiet in
      record {
        size = kept.moments.size ∙ moments.size;
        still = λ some. subst IsSome (sym opened_kept.content) some;
        settled = λ h. settled_kept m1 m2 kept (on_ok r sound settled);
        later = omega (arith, cause.later, later);
        fault = λ h. subst (λ (n : ℕ). Rose n f2) same (fault h);
        quiet = λ unfailed. quiet unfailed ∙ same;
      }

-- the second step, after a first one in which the disk didn't fail
pub failed_then : (f1 f2 f3 : ℕ) (failed : Type 0) → f2 ≡ f1 → (failed → Rose f2 f3) → failed → Rose f1 f3
failed_then f1 f2 f3 failed same fault h = subst (λ (n : ℕ). Rose n f3) same (fault h)
