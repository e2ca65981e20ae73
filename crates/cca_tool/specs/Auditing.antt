-- How the status of an audited run tells of its lines and of its trail.
use Rattle.std.specs.Prelude.{◌≡◌, ◌⊎◌, ◌++◌, ℕ, List, Result, Ok, Err}
use Rattle.audited_service.specs.LineEntries.{entry_of}
use Rattle.audit_trail.specs.declared.entries.Entry.{Entry}
use Rattle.audit_trail.specs.declared.faults.TrailFault.{TrailFault}
use Rattle.audit_trail.specs.declared.faults.TrailFault.TheVariants.{DiskFault, Full, Damaged}
use Rattle.audited_service.specs.Noting.{Noted, entries_of}
use Rattle.line_service.specs.Serving.{session}
use Rattle.line_service.specs.declared.stops.Stop.{Stop}
use Rattle.cca_machine.specs.State.{State}
use Rattle.cca_machine.specs.Coprocessor.{cca}
use Rattle.cca_tool.specs.Running.{Uncalled}
use Rattle.store_unload.specs.Statuses.{status_of_lem}
use Rattle.cca_tool.specs.declared.auditing.AuditStatus.{AuditStatus}
use Rattle.cca_tool.specs.declared.auditing.AuditStatus.TheVariants as audit_status
use Rattle.store_unload.specs.declared.status.Status.TheVariants as status

-- the trail ended it, or it ended as a run does
abbrev pub audit_status_of_lem : Result (Result (Unit {0}) Stop) TrailFault → AuditStatus
audit_status_of_lem (Ok r) = audit_status.Run (status_of_lem r)
audit_status_of_lem (Err DiskFault) = audit_status.TrailFault
audit_status_of_lem (Err (Damaged cell)) = audit_status.TrailDamaged cell
audit_status_of_lem (Err Full) = audit_status.TrailFull

-- where the status tells how lines ended, P holds of that
abbrev pub AuditEnded : AuditStatus → (Result (Result (Unit {0}) Stop) TrailFault → Type 0) → Type 0
AuditEnded outcome P =
    (r : Result (Result (Unit {0}) Stop) TrailFault) → outcome ≡ audit_status_of_lem r → P r

-- no device was called
abbrev pub AuditCallsNone : AuditStatus → Type 0
AuditCallsNone outcome =
    (outcome ≡ audit_status.Run status.Usage) ⊎ (outcome ≡ audit_status.Run status.NoMemory)

-- neither a device nor the trail was called
pub record AllUncalled {S K M D E T : Type 0} (source0 source1 : S) (sink0 sink1 : K)
    (module0 module1 : M) (store0 store1 : D) (entropy0 entropy1 : E) (trail0 trail1 : T)
    : Type 0 where
  pub devices : Uncalled source0 source1 sink0 sink1 module0 module1 store0 store1 entropy0 entropy1
  pub no_trail : trail1 ≡ trail0

-- What lines lead to that take these random bytes, in the machine that notes entries: the state and the replies of the
-- coprocessor's own session, and the entries before with one behind them for each line, of the line and of its own reply.
pub record HaveNoted (s : State) (es : List Entry) (lines : List (List ℕ)) (drawn : List ℕ)
    (t : Noted State) (sent : List ℕ) : Type 0 where
  pub entries : t.entries ≡ es ++ entries_of cca entry_of s drawn lines
  pub state : t.state ≡ (session cca s drawn lines).state
  pub replies : sent ≡ (session cca s drawn lines).reply
