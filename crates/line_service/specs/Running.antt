-- What a call that serves lines leaves, in a few records.
use Rattle.std.specs.Prelude.{◌≡◌, ◌⊎◌, ◌↔◌, ℕ, ◌+◌, ◌<◌, ◌≤◌, List, [], ◌++◌, length, Option, IsTrue, Result, Ok, Err, IsOk}
use Rattle.std.specs.Io.KnownBytes.{IsAtEnd}
use Rattle.device_cells.specs.Faults.{Rose}
use Rattle.device_cells.specs.Medium.{Keeps}
use Rattle.device_cells.specs.WhereTold.{WhereTold}
use Rattle.line_service.specs.Lines.{NoNewline, lines}
use Rattle.line_service.specs.Reading.{Reading, blank, given, input_limit, Takes, Shows, LosesPart, bytes_ahead}
use Rattle.line_service.specs.declared.lines.Taken.{Taken}
use Rattle.line_service.specs.declared.lines.Taken.TheVariants.{End}
use Rattle.line_service.specs.Machine.{Machine}
use Rattle.line_service.specs.Answering.{IsSound, OnDisks, Stands}
use Rattle.line_service.specs.Devices.{Span, Devices, BothSettled, DamageTold, Undamaged, Outside, OutsideLeft, behind}
use Rattle.line_service.specs.Sending.{GotReplies}
use Rattle.line_service.specs.Serving.{LineServed, RunServed, PrefixSent}
use Rattle.line_service.specs.Stops.{AnswersLines, IsUnanswered, IsFaultless}
use Rattle.line_service.specs.declared.serving.Served.{Served}
use Rattle.line_service.specs.declared.serving.Served.TheVariants.{Replied, Ended}
use Rattle.line_service.specs.declared.stops.Stop.{Stop}
use Rattle.line_service.specs.declared.stops.Stop.TheVariants.{ReadFault, WriteFault, InputLimit}

-- ---- all lines

-- no device has failed
pub record NoneFailed (o : Span Outside) : Type 0 where
  pub reads : Rose o.old.source_faults o.new.source_faults → ⊥
  pub writes : Rose o.old.sink_faults o.new.sink_faults → ⊥
  pub on_module : Rose o.old.devices.module_faults o.new.devices.module_faults → ⊥
  pub on_store : Rose o.old.devices.store_faults o.new.devices.store_faults → ⊥
  pub draws : Rose o.old.devices.entropy_faults o.new.devices.entropy_faults → ⊥

-- how a run ended that began with this, in the words of RunServed
abbrev pub RunLeaves : (A : Machine) → A.State → Result (Unit {0}) Stop → Span Outside → Type 0
RunLeaves A s result o =
    RunServed A s result o.old.devices.world o.new.devices.world
    o.old.input o.new.input o.old.output o.new.output

-- What the lines come to, from the state s for which the disks stand.
pub record LinesServed (A : Machine) (s : A.State) (result : Result (Unit {0}) Stop)
    (o : Span Outside) : Type 0 where
  pub serves : RunLeaves A s result o
  -- the sink got the first bytes of the replies, however it ended
  pub prefix : WhereTold o.old.input o.new.input
      (λ i r. PrefixSent A s o.old.devices.world.random i o.old.output o.new.output)
  -- where no device fails and the input is short enough, every line is answered
  pub complete : NoneFailed o
      → WhereTold o.old.input o.new.input (λ i r. length i < input_limit → result ≡ Ok tt)

-- How far the input was taken.
pub record InputTaken (result : Result (Unit {0}) Stop) (o : Span Outside) : Type 0 where
  pub at_end : IsOk result → IsAtEnd o.new.input
  pub limit : WhereTold o.old.input o.new.input (λ i r.
      (result ≡ Err InputLimit) ↔ ((length i ≡ length r + input_limit) × IsFaultless result))
  -- and never beyond the limit
  pub within : WhereTold o.old.input o.new.input (λ i r. length i ≤ length r + input_limit)

-- The sink got one reply for each of some first lines of the input, whatever the disks tell: for all of them where the call
-- is done. It got no more, unless it failed.
pub record EachReplied (done failed : Type 0) (input : List ℕ) (before now : Option (List ℕ))
    : Type 0 where
  pub first : List (List ℕ)
  pub others : List (List ℕ)
  pub lines_are : lines input ≡ first ++ others
  pub all : done → others ≡ []
  pub held : (failed → ⊥) → WhereTold before now (GotReplies (length first))

abbrev pub RepliesTo : Result (Unit {0}) Stop → Span Outside → Type 0
RepliesTo result o = WhereTold o.old.input o.new.input
    (λ i r. EachReplied (IsOk result) (result ≡ Err WriteFault) i o.old.output o.new.output)

-- Lines are served only where the disks stand for a state, and nothing is unsynced after them.
pub record ServesSound (A : Machine) (result : Result (Unit {0}) Stop) (d : Span Devices)
    : Type 0 where
  pub sound : AnswersLines result → IsSound A d.old.world.module_ d.old.world.store
  pub settled : AnswersLines result → BothSettled d.new

-- What a call leaves that opens the disks and serves lines to the end of the input.
pub record SessionLeft (A : Machine) (result : Result (Unit {0}) Stop) (o : Span Outside)
    : Type 0 where
  -- what the lines come to, from each state for which the disks stand
  pub lines : (s : A.State) → OnDisks A s o.old.devices.world.module_ o.old.devices.world.store
      → LinesServed A s result o
  pub taken : InputTaken result o
  pub each : RepliesTo result o
  pub sound : ServesSound A result (behind o)
  -- damage is told where a cell is broken, and then always, unless a disk failed
  pub damage : DamageTold A result (behind o)
  -- what is left of each device, and why it stopped
  pub left : OutsideLeft result o

-- What serving lines leaves once the disks are opened. Memory agrees with the states that have K.
pub record LinesLeft (A : Machine) (K : A.State → Type 0) (result : Result (Unit {0}) Stop)
    (o : Span Outside) : Type 0 where
  pub serves : (s : A.State)
      → Stands A s K o.old.devices.world.module_ o.old.devices.world.store
      → RunLeaves A s result o
  pub taken : InputTaken result o
  pub each : RepliesTo result o
  pub settled : AnswersLines result → BothSettled o.new.devices
  pub undamaged : Undamaged A result o.old.devices
  pub left : OutsideLeft result o

-- Source, sink and random source are as before, and so is what a disk holds and what a stop may leave of it.
pub record Untouched {S K E : Type 0} (source0 source1 : S) (sink0 sink1 : K)
    (entropy0 entropy1 : E) (d : Span Devices) : Type 0 where
  pub unsound_source : source1 ≡ source0
  pub unsound_sink : sink1 ≡ sink0
  pub unsound_entropy : entropy1 ≡ entropy0
  pub unsound_module : Keeps d.old.world.module_ d.new.world.module_
  pub unsound_store : Keeps d.old.world.store d.new.world.store

-- ---- one line

-- what a line leaves, in the words of LineServed, by the reading of lines before and after
abbrev pub LineLeaves : (A : Machine) → A.State → (A.State → Type 0) → Result Served Stop
    → Span Outside → Reading → Reading → Type 0
LineLeaves A s K result o r0 r1 =
    LineServed A s K result o.old.devices.world o.new.devices.world
    o.old.input o.new.input o.old.output o.new.output r0 r1

-- A line was taken from the bytes ahead. It is shown, unless it is too long.
pub record LineShown (input rest : Option (List ℕ)) (r0 r1 : Reading) : Type 0 where
  pub taken : Taken
  pub some : taken ≡ End → ⊥
  pub takes : WhereTold input rest
      (λ i r. Takes taken (r0.pending ++ i) r1 (r1.pending ++ r))
  pub shows : Shows taken r1

-- How far the input was taken, and which line is shown, by the reading of lines before and after.
pub record LineTaken (result : Result Served Stop) (o : Span Outside) (r0 r1 : Reading)
    : Type 0 where
  pub ended : WhereTold o.old.input o.new.input (λ i r.
      (result ≡ Ok Ended) ↔ (IsTrue r1.ended × (r0.pending ++ i ≡ [])))
  pub all_taken : result ≡ Ok Ended → WhereTold o.old.input o.new.input
      (λ i r. (r0.pending ++ i ≡ []) × (r1.pending ++ r ≡ []))
  pub ends : result ≡ Ok Ended → IsTrue r1.ended
  pub limit : WhereTold o.old.input o.new.input (λ i r.
      (result ≡ Err InputLimit) ↔ ((r1.taken ≡ input_limit)
      × NoNewline (r0.pending ++ given i r)))
  pub part_lost : (result ≡ Err ReadFault) ⊎ (result ≡ Err InputLimit)
      → WhereTold o.old.input o.new.input (λ i r. LosesPart (r0.pending ++ i) r)
  pub still_ended : IsTrue r0.ended → IsTrue r1.ended
  pub at_end : IsTrue r1.ended → IsAtEnd o.new.input
  pub advances : result ≡ Ok Replied → bytes_ahead r1 < bytes_ahead r0
  pub counted : WhereTold o.old.input o.new.input
      (λ i r. r1.taken + length r ≡ r0.taken + length i)
  pub within : r1.taken ≤ input_limit
  pub full : result ≡ Err InputLimit → r1.taken ≡ input_limit
  pub short : (result ≡ Err ReadFault) ⊎ (result ≡ Ok Ended) → r1.taken < input_limit
  -- where no line was answered none is shown, and where the source stopped no more is pending than the part
  pub unshown : IsUnanswered result → r1.line ≡ []
  pub emptied : (result ≡ Err ReadFault) ⊎ (result ≡ Err InputLimit)
      → r1 ≡ record blank { pending = r1.pending; taken = r1.taken }
  -- after a reply, and after each other stop, the line is shown that was taken
  pub shown : (IsUnanswered result → ⊥) → LineShown o.old.input o.new.input r0 r1

-- Where no reply is sent, the sink is as before; and where no line was answered, so is all else.
pub record Unmoved {K M D E A : Type 0} (result : Result Served Stop) (sink0 sink1 : K)
    (module0 module1 : M) (store0 store1 : D) (entropy0 entropy1 : E) (desk0 desk1 : A)
    : Type 0 where
  pub sink_unmoved : (result ≡ Ok Replied → ⊥) → (result ≡ Err WriteFault → ⊥) → sink1 ≡ sink0
  pub module_unmoved : IsUnanswered result → module1 ≡ module0
  pub store_unmoved : IsUnanswered result → store1 ≡ store0
  pub entropy_unmoved : IsUnanswered result → entropy1 ≡ entropy0
  pub desk_unmoved : IsUnanswered result → desk1 ≡ desk0
