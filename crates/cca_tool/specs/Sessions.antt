-- What a session holds in memory, and how it takes a line.
use Rattle.std.specs.Prelude.{⊤, ◌≡◌, ◌⊎◌, ◌↔◌, ◌+◌, ◌<◌, ◌≤◌, ◌++◌, ℕ, List, [], length, Option, Some, None, IsTrue, IfOk, OnErr, replicate, Result, Ok, Err}
use Rattle.std.specs.Io.KnownBytes.{IsAtEnd}
use Rattle.device_cells.specs.WhereTold.{WhereTold}
use Rattle.line_service.specs.Lines.{NoNewline}
use Rattle.line_service.specs.Reading.{Reading, blank, given, input_limit, Takes, Shows, Advances, KeepsPart}
use Rattle.line_service.specs.declared.lines.Taken.{Taken}
use Rattle.line_service.specs.declared.lines.Taken.TheVariants.{Line, TooLong, End}
use Rattle.line_service.specs.Serving.{IsTheLine}
use Rattle.line_service.specs.declared.stops.Stop.{Stop}
use Rattle.line_service.specs.declared.stops.Stop.TheVariants.{ReadFault, WriteFault, EntropyFault, ModuleFault, StoreFault, Damaged, InputLimit}
use Rattle.cca_roles.specs.Roles.{blank_roles}
use Rattle.request_rules.specs.Standing.{Tables, tables}

pub record Memory : Type 0 where
  -- of the lines
  pub reading : Reading
  -- the roles of the module, and what is known of the labels of the store
  pub tables : Tables
  -- to the line that was answered last
  pub reply : List ℕ
  -- a line that was taken and isn't answered yet, by how it was taken
  pub waiting : Option Taken

-- nothing was taken and no disk was opened yet
abbrev pub blank_memory : Memory
blank_memory = record {
  reading = blank;
  tables = tables blank_roles (replicate 1024 None);
  reply = [];
  waiting = None;
}

-- ---- one line taken

-- a line that waits is shown, unless it is too long
abbrev pub ShowsWaiting : Option Taken → Reading → Type 0
ShowsWaiting None reading = ⊤
ShowsWaiting (Some Line) reading = Shows Line reading
ShowsWaiting (Some TooLong) reading = Shows TooLong reading
ShowsWaiting (Some End) reading = ⊥

-- the line that waits for its answer
abbrev pub IsWaitingLine : Memory → List ℕ → Type 0
IsWaitingLine memory line =
    (taken : Taken) × (memory.waiting ≡ Some taken) × IsTheLine taken memory.reading line

-- a line that was taken waits; at the end of the input and after a stop none does
abbrev pub waiting_after : Result Taken Stop → Option Taken
waiting_after (Ok Line) = Some Line
waiting_after (Ok TooLong) = Some TooLong
waiting_after (Ok End) = None
waiting_after (Err stop) = None

-- the source failed, or the input is too long
abbrev pub IsReadingStop : Stop → Type 0
IsReadingStop ReadFault = ⊤
IsReadingStop InputLimit = ⊤
IsReadingStop WriteFault = ⊥
IsReadingStop EntropyFault = ⊥
IsReadingStop ModuleFault = ⊥
IsReadingStop StoreFault = ⊥
IsReadingStop (Damaged device cell) = ⊥

-- How far the input was taken, by the reading of lines before and after. The options are what the source had left and
-- has left, where it tells it.
pub record InputRead (result : Result Taken Stop) (input rest : Option (List ℕ))
    (r0 r1 : Reading) : Type 0 where
  -- the first line of the bytes ahead was taken, and the others are ahead then
  pub takes : IfOk result
      (λ taken. WhereTold input rest (λ i r. Takes taken (r0.pending ++ i) r1 (r1.pending ++ r)))
  pub shows : IfOk result (λ taken. Shows taken r1)
  pub advances : IfOk result (λ taken. Advances taken r0 r1)
  pub ended : WhereTold input rest (λ i r.
      (result ≡ Ok End) ↔ (IsTrue r1.ended × (r0.pending ++ i ≡ [])))
  pub ends : result ≡ Ok End → IsTrue r1.ended
  pub limit : WhereTold input rest (λ i r.
      (result ≡ Err InputLimit) ↔ ((r1.taken ≡ input_limit)
      × NoNewline (r0.pending ++ given i r)))
  -- after a stop the part of a line that was taken is pending
  pub kept : OnErr result
      (WhereTold input rest (λ i r. KeepsPart (r0.pending ++ i) r1.pending r))
  pub still_ended : IsTrue r0.ended → IsTrue r1.ended
  pub at_end : IsTrue r1.ended → IsAtEnd rest
  pub counted : WhereTold input rest (λ i r. r1.taken + length r ≡ r0.taken + length i)
  pub within : r1.taken ≤ input_limit
  pub full : result ≡ Err InputLimit → r1.taken ≡ input_limit
  pub short : (result ≡ Err ReadFault) ⊎ (result ≡ Ok End) → r1.taken < input_limit
  -- and no line is shown
  pub emptied : OnErr result (r1 ≡ record blank { pending = r1.pending; taken = r1.taken })
