-- The status of a run tells how its lines ended.
use Rattle.std.proofs.Common.{◌≡◌, Result, Ok, Err, refl, sym, ap, ◌∙◌, subst, inl, inr}
use Rattle.std.specs.Prelude.{◌⊎◌}
use Rattle.line_service.specs.declared.stops.Stop.{Stop}
use Rattle.line_service.specs.declared.stops.Stop.TheVariants.{ReadFault, WriteFault, EntropyFault, ModuleFault, StoreFault, Damaged, InputLimit}
use Rattle.cca_tool.specs.Running.{Ended}
use Rattle.store_unload.specs.Statuses.{status_of_lem, CallsNone}
use Rattle.store_unload.specs.declared.status.Status.{Status}
use Rattle.store_unload.specs.declared.status.Status.TheVariants as status

-- the outcome of which a status tells
abbrev pub outcome_of : Status → Result (Unit {0}) Stop
outcome_of status.Done = Ok tt
outcome_of status.ReadFault = Err ReadFault
outcome_of status.WriteFault = Err WriteFault
outcome_of status.EntropyFault = Err EntropyFault
outcome_of status.ModuleFault = Err ModuleFault
outcome_of status.StoreFault = Err StoreFault
outcome_of (status.Damaged device cell) = Err (Damaged device cell)
outcome_of status.InputLimit = Err InputLimit
outcome_of status.Usage = Ok tt
outcome_of status.NoMemory = Ok tt

pub outcome_is : (r : Result (Unit {0}) Stop) → outcome_of (status_of_lem r) ≡ r
outcome_is (Ok done) = refl
outcome_is (Err ReadFault) = refl
outcome_is (Err WriteFault) = refl
outcome_is (Err EntropyFault) = refl
outcome_is (Err ModuleFault) = refl
outcome_is (Err StoreFault) = refl
outcome_is (Err (Damaged device cell)) = refl
outcome_is (Err InputLimit) = refl

module _ (r : Result (Unit {0}) Stop) (outcome : Status) (is : outcome ≡ status_of_lem r) where
  pub as_told : (told : Status) → outcome ≡ told → r ≡ outcome_of told
  as_told told h = sym (outcome_is r) ∙ (ap outcome_of (sym is) ∙ ap outcome_of h)

-- the words are right, but there was no memory
pub not_usage : status.NoMemory ≡ status.Usage → ⊥
not_usage h = cc h

-- ---- what holds of the outcome of which a status tells

pub ended_as : (P : Result (Unit {0}) Stop → Type 0) (r : Result (Unit {0}) Stop) (outcome : Status) → outcome ≡ status_of_lem r → P r → Ended outcome P
ended_as P r outcome is p = λ q h. subst P (sym (outcome_is r) ∙ (ap outcome_of (sym is ∙ h) ∙ outcome_is q)) p

pub never_told : (r : Result (Unit {0}) Stop) → (status.NoMemory ≡ status_of_lem r) ⊎ (status.Usage ≡ status_of_lem r) → ⊥
never_told (Ok done) (inl h) = cc h
never_told (Ok done) (inr h) = cc h
never_told (Err ReadFault) (inl h) = cc h
never_told (Err ReadFault) (inr h) = cc h
never_told (Err WriteFault) (inl h) = cc h
never_told (Err WriteFault) (inr h) = cc h
never_told (Err EntropyFault) (inl h) = cc h
never_told (Err EntropyFault) (inr h) = cc h
never_told (Err ModuleFault) (inl h) = cc h
never_told (Err ModuleFault) (inr h) = cc h
never_told (Err StoreFault) (inl h) = cc h
never_told (Err StoreFault) (inr h) = cc h
never_told (Err (Damaged device cell)) (inl h) = cc h
never_told (Err (Damaged device cell)) (inr h) = cc h
never_told (Err InputLimit) (inl h) = cc h
never_told (Err InputLimit) (inr h) = cc h

pub no_memory_ended : (P : Result (Unit {0}) Stop → Type 0) → Ended status.NoMemory P
no_memory_ended P = λ r h. absurd (never_told r (inl h))

pub usage_ended : (P : Result (Unit {0}) Stop → Type 0) → Ended status.Usage P
usage_ended P = λ r h. absurd (never_told r (inr h))

-- where the status tells how lines ended, devices were called
pub calls_some : (outcome : Status) (r : Result (Unit {0}) Stop) → outcome ≡ status_of_lem r → CallsNone outcome → ⊥
calls_some outcome r is (inl usage) = never_told r (inr (sym usage ∙ is))
calls_some outcome r is (inr memory) = never_told r (inl (sym memory ∙ is))
