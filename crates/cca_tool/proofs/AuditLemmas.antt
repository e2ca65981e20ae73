-- The status of an audited run tells how its lines ended.
use Rattle.std.proofs.Common.{◌≡◌, ℕ, None, Result, Ok, Err, refl, sym, ap, ◌∙◌, subst, inl, inr}
use Rattle.std.specs.Prelude.{◌⊎◌}
use Rattle.audit_trail.specs.declared.faults.TrailFault.{TrailFault}
use Rattle.audit_trail.specs.declared.faults.TrailFault.TheVariants.{DiskFault, Full, Damaged}
use Rattle.audited_service.specs.Growing.{TrailGrows}
use Rattle.audited_service.proofs.GrowingLemmas.{grows_kept}
use Rattle.device_cells.specs.Medium.{Medium}
use Rattle.device_cells.proofs.Media.{keeps_still}
use Rattle.line_service.specs.Devices.{devices}
use Rattle.line_service.specs.Running.{Untouched}
use Rattle.line_service.specs.declared.stops.Stop.{Stop}
use Rattle.cca_tool.specs.Auditing.{audit_status_of_lem, AllUncalled, AuditEnded, AuditCallsNone}
use Rattle.store_unload.specs.Statuses.{status_of_lem}
use Rattle.store_unload.specs.declared.status.Status.{Status}
use Rattle.store_unload.specs.declared.status.Status.TheVariants as status
use Rattle.cca_tool.specs.declared.auditing.AuditStatus.{AuditStatus}
use Rattle.cca_tool.specs.declared.auditing.AuditStatus.TheVariants as audit_status
use Rattle.cca_tool.proofs.StatusLemmas.{never_told, outcome_of, outcome_is}

-- the outcome of which a status tells
abbrev outcome_audited : AuditStatus → Result (Result (Unit {0}) Stop) TrailFault
outcome_audited (audit_status.Run told) = Ok (outcome_of told)
outcome_audited audit_status.TrailFault = Err DiskFault
outcome_audited (audit_status.TrailDamaged cell) = Err (Damaged cell)
outcome_audited audit_status.TrailFull = Err Full

audited_is : (r : Result (Result (Unit {0}) Stop) TrailFault) → outcome_audited (audit_status_of_lem r) ≡ r
audited_is (Ok r) = ap Ok (outcome_is r)
audited_is (Err DiskFault) = refl
audited_is (Err (Damaged cell)) = refl
audited_is (Err Full) = refl

-- what holds of the outcome of which a status tells
pub audited_as : (P : Result (Result (Unit {0}) Stop) TrailFault → Type 0) (r : Result (Result (Unit {0}) Stop) TrailFault) (outcome : AuditStatus)
    → outcome ≡ audit_status_of_lem r → P r → AuditEnded outcome P
audited_as P r outcome is p = λ q h. subst P (sym (audited_is r) ∙ (ap outcome_audited (sym is ∙ h) ∙ audited_is q)) p

run_told : (a b : Status) → audit_status.Run a ≡ audit_status.Run b → a ≡ b
run_told a b h = cc h

-- the words are right, but there was no memory
pub no_usage_audited : audit_status.Run status.NoMemory ≡ audit_status.Run status.Usage → ⊥
no_usage_audited h = cc h

never_audited : (r : Result (Result (Unit {0}) Stop) TrailFault) → (audit_status.Run status.NoMemory ≡ audit_status_of_lem r) ⊎ (audit_status.Run status.Usage ≡ audit_status_of_lem r) → ⊥
never_audited (Ok r) (inl h) = never_told r (inl (run_told status.NoMemory (status_of_lem r) h))
never_audited (Ok r) (inr h) = never_told r (inr (run_told status.Usage (status_of_lem r) h))
never_audited (Err DiskFault) (inl h) = cc h
never_audited (Err DiskFault) (inr h) = cc h
never_audited (Err (Damaged cell)) (inl h) = cc h
never_audited (Err (Damaged cell)) (inr h) = cc h
never_audited (Err Full) (inl h) = cc h
never_audited (Err Full) (inr h) = cc h

pub no_memory_audited : (P : Result (Result (Unit {0}) Stop) TrailFault → Type 0) → AuditEnded (audit_status.Run status.NoMemory) P
no_memory_audited P = λ r h. absurd (never_audited r (inl h))

pub usage_audited : (P : Result (Result (Unit {0}) Stop) TrailFault → Type 0) → AuditEnded (audit_status.Run status.Usage) P
usage_audited P = λ r h. absurd (never_audited r (inr h))

-- where the status tells how lines ended, devices were called
pub audits_some : (outcome : AuditStatus) (r : Result (Result (Unit {0}) Stop) TrailFault) → outcome ≡ audit_status_of_lem r → AuditCallsNone outcome → ⊥
audits_some outcome r is (inl usage) = never_audited r (inr (sym usage ∙ is))
audits_some outcome r is (inr memory) = never_audited r (inl (sym memory ∙ is))

-- ---- nothing was called

pub none_called : {S K M D E T : Type 0} (source : S) (sink : K) (m : M) (d : D) (entropy : E) (trail : T)
    → AllUncalled source source sink sink m m d d entropy entropy trail trail
none_called source sink m d entropy trail = record {
  devices = record { no_source = refl; no_sink = refl; no_module = refl; no_store = refl; no_entropy = refl };
  no_trail = refl;
}

pub all_as_before : {S K E : Type 0} (source : S) (sink : K) (entropy : E) (m : Medium) (m_count : ℕ) (d : Medium) (d_count : ℕ)
    → Untouched source source sink sink entropy entropy (record { old = devices m m_count d d_count None 0; new = devices m m_count d d_count None 0 })
all_as_before source sink entropy m m_count d d_count = record {
  unsound_source = refl;
  unsound_sink = refl;
  unsound_entropy = refl;
  unsound_module = keeps_still m;
  unsound_store = keeps_still d;
}

pub trail_as_before : (t : Medium) → TrailGrows t t
trail_as_before t = grows_kept t t (keeps_still t)
