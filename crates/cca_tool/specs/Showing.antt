-- How the status of a listing tells of it.
use Rattle.std.specs.Prelude.{◌≡◌, ◌⊎◌, ◌<◌, ℕ, Result, Ok, Err}
use Rattle.audit_trail.specs.declared.faults.TrailFault.TheVariants.{DiskFault, Full, Damaged}
use Rattle.audited_service.specs.declared.listing.ListFault.{ListFault}
use Rattle.audited_service.specs.declared.listing.ListFault.TheVariants.{WriteFault, Trail}
use Rattle.cca_tool.specs.declared.auditing.AuditStatus.{AuditStatus}
use Rattle.cca_tool.specs.declared.auditing.AuditStatus.TheVariants as audit_status
use Rattle.store_unload.specs.declared.status.Status.TheVariants as status

abbrev pub listing_status : Result (Unit {0}) ListFault → AuditStatus
listing_status (Ok done) = audit_status.Run status.Done
listing_status (Err WriteFault) = audit_status.Run status.WriteFault
listing_status (Err (Trail DiskFault)) = audit_status.TrailFault
listing_status (Err (Trail (Damaged cell))) = audit_status.TrailDamaged cell
listing_status (Err (Trail Full)) = audit_status.TrailFull

-- where the status tells how a listing ended, P holds of that
abbrev pub ListingEnded : AuditStatus → (Result (Unit {0}) ListFault → Type 0) → Type 0
ListingEnded outcome P = (r : Result (Unit {0}) ListFault) → outcome ≡ listing_status r → P r

-- the statuses of a listing
abbrev pub IsListingStatus : AuditStatus → Type 0
IsListingStatus outcome =
    (outcome ≡ audit_status.Run status.Done) ⊎ ((outcome ≡ audit_status.Run status.Usage)
    ⊎ ((outcome ≡ audit_status.Run status.WriteFault)
    ⊎ ((outcome ≡ audit_status.Run status.NoMemory) ⊎ ((outcome ≡ audit_status.TrailFault)
    ⊎ ((cell : ℕ) × (cell < 4096) × (outcome ≡ audit_status.TrailDamaged cell))))))

-- neither device was called
pub record ListingUncalled {K T : Type 0} (sink0 sink1 : K) (trail0 trail1 : T) : Type 0 where
  pub no_sink : sink1 ≡ sink0
  pub no_trail : trail1 ≡ trail0
