-- What the reading of a line leaves, told as the taking of one.
use Rattle.std.proofs.Common.{◌≡◌, ℕ, List, [], ◌++◌, ◌+◌, ◌<◌, ◌≤◌, length, Option, Result, Ok, Err, refl, ⊎_elim}
use Rattle.std.specs.Prelude.{◌↔◌, IfOk, IsTrue, OnErr}
use Rattle.std.specs.Io.KnownBytes.{IsAtEnd}
use Rattle.device_cells.specs.Faults.{Rose}
use Rattle.device_cells.specs.WhereTold.{WhereTold}
use Rattle.device_cells.proofs.WhereToldLemmas.{told_weaker}
use Rattle.line_service.specs.Lines.{NoNewline}
use Rattle.line_service.specs.Reading.{Advances, KeepsPart, Reading, Shows, Takes, blank, given, input_limit}
use Rattle.line_service.specs.declared.lines.LineFault.{LineFault}
use Rattle.line_service.specs.declared.lines.LineFault.TheVariants as line_fault
use Rattle.line_service.specs.declared.lines.Taken.{Taken}
use Rattle.line_service.specs.declared.lines.Taken.TheVariants.{End}
use Rattle.line_service.specs.Devices.{TellsFault}
use Rattle.line_service.specs.declared.stops.Stop.{Stop}
use Rattle.line_service.specs.declared.stops.Stop.TheVariants.{InputLimit, ReadFault}
use Rattle.cca_tool.specs.Sessions.{InputRead}

-- the taking of a line ends as the reading does
pub record IsTold (f : Result Taken LineFault) (q : Result Taken Stop) : Type 0 where
  pub ended : (q ≡ Ok End) ↔ (f ≡ Ok End)
  pub limit : (q ≡ Err InputLimit) ↔ (f ≡ Err line_fault.InputLimit)
  pub failed : q ≡ Err ReadFault → f ≡ Err line_fault.ReadFault

pub line_told : (f : Result Taken LineFault) (taken : Taken) → f ≡ Ok taken → IsTold f (Ok taken)
line_told f taken is = record {
  ended = (λ h. cc (is, h), λ h. cc (is, h));
  limit = (λ h. absurd (cc h), λ h. absurd (cc (is, h)));
  failed = λ h. absurd (cc h);
}

pub fault_told : (f : Result Taken LineFault) → f ≡ Err line_fault.ReadFault → IsTold f (Err ReadFault)
fault_told f is = record {
  ended = (λ h. absurd (cc h), λ h. absurd (cc (is, h)));
  limit = (λ h. absurd (cc h), λ h. absurd (cc (is, h)));
  failed = λ h. is;
}

pub limit_told : (f : Result Taken LineFault) → f ≡ Err line_fault.InputLimit → IsTold f (Err InputLimit)
limit_told f is = record {
  ended = (λ h. absurd (cc h), λ h. absurd (cc (is, h)));
  limit = (λ h. is, λ h. refl);
  failed = λ h. absurd (cc h);
}

module _ (f : Result Taken LineFault) (q : Result Taken Stop) (told : IsTold f q) (input rest : Option (List ℕ)) (r0 r1 : Reading) where
  pub input_read : IfOk q (λ taken. WhereTold input rest (λ i r. Takes taken (r0.pending ++ i) r1 (r1.pending ++ r)))
      → IfOk q (λ taken. Shows taken r1) → IfOk q (λ taken. Advances taken r0 r1)
      → WhereTold input rest (λ i r. (f ≡ Ok End) ↔ (IsTrue r1.ended × (r0.pending ++ i ≡ [])))
      → (f ≡ Ok End → IsTrue r1.ended)
      → WhereTold input rest (λ i r. (f ≡ Err line_fault.InputLimit) ↔ ((r1.taken ≡ input_limit) × NoNewline (r0.pending ++ given i r)))
      → OnErr q (WhereTold input rest (λ i r. KeepsPart (r0.pending ++ i) r1.pending r))
      → (IsTrue r0.ended → IsTrue r1.ended) → (IsTrue r1.ended → IsAtEnd rest)
      → WhereTold input rest (λ i r. r1.taken + length r ≡ r0.taken + length i)
      → r1.taken ≤ input_limit → (f ≡ Err line_fault.InputLimit → r1.taken ≡ input_limit)
      → (f ≡ Err line_fault.ReadFault → r1.taken < input_limit) → (IsTrue r1.ended → r1.taken < input_limit)
      → OnErr q (r1 ≡ record blank { pending = r1.pending; taken = r1.taken }) → InputRead q input rest r0 r1
  input_read takes shows advances end ends limit kept still at_end counted within full short early emptied = record {
    takes = takes;
    shows = shows;
    advances = advances;
    ended = told_weaker input rest _ _ (λ i r is. (λ h. is.0 (told.ended.0 h), λ h. told.ended.1 (is.1 h))) end;
    ends = λ h. ends (told.ended.0 h);
    limit = told_weaker input rest _ _ (λ i r is. (λ h. is.0 (told.limit.0 h), λ h. told.limit.1 (is.1 h))) limit;
    kept = kept;
    still_ended = still;
    at_end = at_end;
    counted = counted;
    within = within;
    full = λ h. full (told.limit.0 h);
    short = ⊎_elim (λ h. short (told.failed h)) (λ h. early (ends (told.ended.0 h)));
    emptied = emptied;
  }

-- ---- the faults of the source

module _ (f : Result Taken LineFault) (before now : ℕ) (later : before ≤ now) (quiet : (f ≡ Err line_fault.ReadFault → ⊥) → now ≡ before) where
  pub line_left : (taken : Taken) → f ≡ Ok taken → TellsFault before now (◌≡◌ {A = Result Taken Stop} (Ok taken) (Err ReadFault))
  line_left taken is = record { later = later; fault = λ h. absurd (cc h); quiet = λ never. quiet (λ h. cc (is, h)) }

  pub limit_left : f ≡ Err line_fault.InputLimit → TellsFault before now (◌≡◌ {A = Result Taken Stop} (Err InputLimit) (Err ReadFault))
  limit_left is = record { later = later; fault = λ h. absurd (cc h); quiet = λ never. quiet (λ h. cc (is, h)) }

  pub fault_left : Rose before now → TellsFault before now (◌≡◌ {A = Result Taken Stop} (Err ReadFault) (Err ReadFault))
  fault_left rose = record { later = later; fault = λ h. rose; quiet = λ never. absurd (never refl) }
