-- What a session shows of a line that its desk has served.
use Rattle.std.proofs.Common.{◌≡◌, ℕ, Option, None, Some, Result, Ok, Err, refl, sym, ap, subst, ◌∙◌}
use Rattle.std.specs.Prelude.{IfErr}
use Rattle.cca_machine.specs.Coprocessor.{IsCell, IsStop}
use Rattle.line_service.specs.Devices.{Outside, Span}
use Rattle.line_service.specs.Running.{LineTaken, Unmoved}
use Rattle.line_service.specs.declared.serving.Served.{Served}
use Rattle.line_service.specs.declared.stops.Device.{Device}
use Rattle.line_service.specs.declared.stops.Stop.{Stop}
use Rattle.line_service.specs.declared.stops.Stop.TheVariants.{ReadFault, WriteFault, EntropyFault, ModuleFault, StoreFault, Damaged, InputLimit}
use Rattle.line_service.specs.Reading.{Reading}
use Rattle.line_service.specs.declared.lines.Taken.{Taken}
use Rattle.line_service.specs.declared.lines.Taken.TheVariants.{End}
use Rattle.cca_tool.specs.Sessions.{Memory, ShowsWaiting}

-- a stop names a cell of its device
pub served_stops : (r : Result Served Stop) → ((device : Device) (cell : ℕ) → r ≡ Err (Damaged device cell) → IsCell device cell) → IfErr r IsStop
served_stops (Ok served) cells = tt
served_stops (Err ReadFault) cells = tt
served_stops (Err WriteFault) cells = tt
served_stops (Err EntropyFault) cells = tt
served_stops (Err ModuleFault) cells = tt
served_stops (Err StoreFault) cells = tt
served_stops (Err InputLimit) cells = tt
served_stops (Err (Damaged device cell)) cells = cells device cell refl

-- where no line was answered, what is shown of the desk is as before
pub unmoved_shown : {K M D E A B : Type 0} (shown : A → B) (r : Result Served Stop) (sink0 sink1 : K) (module0 module1 : M) (store0 store1 : D)
    (entropy0 entropy1 : E) (desk0 desk1 : A) (before : B) → shown desk0 ≡ before
    → Unmoved r sink0 sink1 module0 module1 store0 store1 entropy0 entropy1 desk0 desk1
    → Unmoved r sink0 sink1 module0 module1 store0 store1 entropy0 entropy1 before (shown desk1)
unmoved_shown shown r sink0 sink1 module0 module1 store0 store1 entropy0 entropy1 desk0 desk1 before is unmoved = record {
  sink_unmoved = unmoved.sink_unmoved;
  module_unmoved = unmoved.module_unmoved;
  store_unmoved = unmoved.store_unmoved;
  entropy_unmoved = unmoved.entropy_unmoved;
  desk_unmoved = λ none. ap shown (unmoved.desk_unmoved none) ∙ is;
}

-- the lines that are shown are those that were read
pub taken_shown : (r : Result Served Stop) (o : Span Outside) (inside shown : Memory) (later : Reading) → inside ≡ shown
    → LineTaken r o inside.reading later → LineTaken r o shown.reading later
taken_shown r o inside shown later is taken = subst (λ (memory : Memory). LineTaken r o memory.reading later) is taken

pub idle_inside : (inside shown : Memory) → inside ≡ shown → shown.waiting ≡ None → inside.waiting ≡ None
idle_inside inside shown is idle = ap (λ (memory : Memory). memory.waiting) is ∙ idle

-- where no line waits, any reading will do
pub idle_shows : (waiting : Option Taken) (reading : Reading) → waiting ≡ None → ShowsWaiting waiting reading
idle_shows waiting reading idle = subst (λ (o : Option Taken). ShowsWaiting o reading) (sym idle) tt

-- a line that waits isn't the end of the input
pub waits_at_no_end : (waiting : Option Taken) (taken : Taken) (reading : Reading) → ShowsWaiting waiting reading → waiting ≡ Some taken → taken ≡ End → ⊥
waits_at_no_end waiting taken reading shows is end = subst (λ (o : Option Taken). ShowsWaiting o reading) (is ∙ ap Some end) shows
