-- The answers of a run beside a trail: a session's own, or the trail's fault.
use Rattle.std.specs.Prelude.{⊤, Result, Ok, Err}
use Rattle.audit_trail.specs.declared.faults.TrailFault.{TrailFault}
use Rattle.audit_trail.specs.declared.faults.TrailFault.TheVariants.{DiskFault, Full, Damaged}
use Rattle.line_service.specs.Stops.{AnswersLines}
use Rattle.line_service.specs.declared.stops.Stop.{Stop}

-- How a run ended, to all devices but the trail. A trail's fault leaves of them what a run leaves that came to its end.
abbrev pub run_part : Result (Result (Unit {0}) Stop) TrailFault → Result (Unit {0}) Stop
run_part (Ok r) = r
run_part (Err fault) = Ok tt

-- lines were served, each with its entry, and no failure of module, store, random source or trail ended that
abbrev pub AuditsLines : Result (Result (Unit {0}) Stop) TrailFault → Type 0
AuditsLines (Ok r) = AnswersLines r
AuditsLines (Err Full) = ⊤
AuditsLines (Err DiskFault) = ⊥
AuditsLines (Err (Damaged cell)) = ⊥
