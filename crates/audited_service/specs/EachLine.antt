-- For the functions of this crate alone: what one line leaves that is recorded before its reply is sent, and what all
-- lines leave once disks and trail are opened.
use Rattle.std.specs.Prelude.{⊤, ◌≡◌, ◌⊎◌, ◌+◌, ◌^◌, ◌<◌, ℕ, List, ◌++◌, Bool, Option, Ok, Err, Result, OnOk, OnErr, IfErr, IfOk, IsSome, length}
use Rattle.std.specs.Io.KnownBytes.{Consumes}
use Rattle.device_cells.specs.Medium.{Medium, Told, IsSettled, Becomes, EachImage}
use Rattle.device_cells.specs.WhereTold.{WhereTold}
use Rattle.line_service.specs.Lines.{lines}
use Rattle.line_service.specs.Reading.{TakesLine, Reading}
use Rattle.audit_trail.specs.Changes.{AppendsEntry, TrailLeft}
use Rattle.audit_trail.specs.TrailStands.{IsTrail}
use Rattle.audit_trail.specs.declared.entries.Entry.{Entry}
use Rattle.audit_trail.specs.declared.faults.TrailFault.{TrailFault}
use Rattle.audit_trail.specs.declared.faults.TrailFault.TheVariants.{DiskFault, Full, Damaged}
use Rattle.line_service.specs.Machine.{Machine, World}
use Rattle.line_service.specs.Answering.{Steps, OnDisks, Stands, Turns}
use Rattle.line_service.specs.Devices.{Span, BothSettled, Outside, OutsideLeft, TellsFault, Undamaged}
use Rattle.line_service.specs.Running.{LineTaken}
use Rattle.line_service.specs.Sending.{GotPart, GotReply, Grows}
use Rattle.line_service.specs.Serving.{EachPairStands, LineServed, IsAroundLine, KeepsSpare}
use Rattle.line_service.specs.Stops.{AnswersLines}
use Rattle.line_service.specs.declared.serving.Served.{Served}
use Rattle.line_service.specs.declared.serving.Served.TheVariants.{Replied}
use Rattle.line_service.specs.declared.stops.Stop.{Stop}
use Rattle.line_service.specs.declared.stops.Stop.TheVariants.{WriteFault}
use Rattle.audited_service.specs.Answers.{run_part}
use Rattle.audited_service.specs.Auditing.{AuditTaken, RepliesToAudited}
use Rattle.audited_service.specs.Growing.{TrailGrows, Grown}
use Rattle.audited_service.specs.Noting.{Noted, noting, Recorded, RecordedEither}
use Rattle.audited_service.specs.Recording.{RunRecorded}

-- ---- answers

-- How a line came out, to all devices but the trail. A trail's fault leaves of source and disks what a line leaves
-- whose reply was sent.
abbrev pub line_part : Result (Result Served Stop) TrailFault → Result Served Stop
line_part (Ok r) = r
line_part (Err fault) = Ok Replied

-- the faults of a record that is appended
abbrev pub IsAppendFault : TrailFault → Type 0
IsAppendFault DiskFault = ⊤
IsAppendFault Full = ⊤
IsAppendFault (Damaged cell) = ⊥

-- ---- trail and memory

-- a trail of this size, in bytes, of which nothing is unsynced
pub record IsSettledTrail (size : ℕ) (t : Medium) : Type 0 where
  pub size_is : t.size ≡ size
  pub settled : IsSettled t

-- memory agrees with the state, and the trail stands for its entries
abbrev pub Agrees : {S : Type 0} → (S → Type 0) → Medium → Noted S → Type 0
Agrees K trail t = K t.state × Told trail (λ c. IsTrail c t.entries)

-- What calls that may append leave of a trail, which is `t0` before and `t1` now, and has failed so often: entries are
-- only added, and it is at rest unless its disk failed.
pub record TrailAppended (t0 t1 : Medium) (before now : ℕ) (failed : Type 0) : Type 0 where
  pub left : TrailLeft t0 t1 before now (failed → ⊥) failed
  pub grows : TrailGrows t0 t1
  pub rests : (failed → ⊥) → Becomes Grown t0 t1

-- what the trail holds after this answer: the entries before a line, or these and perhaps the line's too
abbrev pub RecordedBy : TrailFault → Medium → List Entry → List Entry → Type 0
RecordedBy Full trail es next = Recorded trail es
RecordedBy DiskFault trail es next = RecordedEither trail es next
RecordedBy (Damaged cell) trail es next = ⊥

-- ---- the line

module _ (A : Machine) (entry : List ℕ → List ℕ → Entry) where
  -- One line was taken from the bytes ahead and answered. The disks stand for the state after it, and so does each pair
  -- of their images. No byte of the reply was sent.
  pub record LineUnsent (s : Noted A.State) (old new : World) (ahead rest : List ℕ) (ended : Bool)
      : Type 0 where
    pub line : List ℕ
    pub takes : TakesLine ahead line rest ended
    pub drawn : List ℕ
    pub next : Noted A.State
    pub reply : List ℕ
    pub steps : Steps (noting A entry) s line drawn next reply
    pub consumed : Consumes old.random new.random drawn
    pub stands : OnDisks (noting A entry) next new.module_ new.store
    pub pairs : EachPairStands (noting A entry) next new

  -- What a line leaves that is recorded before its reply is sent. `t0` and `t1` are the trail before and now.
  pub record LineRecorded (s : Noted A.State) (K : Noted A.State → Type 0)
      (result : Result (Result Served Stop) TrailFault) (old new : World) (t0 t1 : Medium)
      (input rest before now : Option (List ℕ)) (r0 r1 : Reading) : Type 0 where
    pub served : IfOk result
        (λ r. LineServed (noting A entry) s K r old new input rest before now r0 r1)
    pub unsent : (fault : TrailFault) → result ≡ Err fault → WhereTold input rest (λ i r.
        (unsent : LineUnsent s old new (r0.pending ++ i) (r1.pending ++ r) r1.ended)
        × RecordedBy fault t1 s.entries unsent.next.entries)
    pub on_module : WhereTold input rest (λ i r. EachImage old.module_ new.module_
        (λ c. IsAroundLine (noting A entry) s old.random (r0.pending ++ i)
        (λ t. A.InModule t.state c)))
    pub on_store : WhereTold input rest (λ i r. EachImage old.store new.store
        (λ d. IsAroundLine (noting A entry) s old.random (r0.pending ++ i)
        (λ t. A.InStore t.state d)))
    pub on_trail : WhereTold input rest (λ i r. EachImage t0 t1
        (λ c. IsAroundLine (noting A entry) s old.random (r0.pending ++ i)
        (λ t. IsTrail c t.entries)))
    pub spare : KeepsSpare old new
    pub turns : OnErr result (Turns (noting A entry) old new)

-- what a line leaves, in the words of LineRecorded, by the reading of lines before and after
abbrev pub LineAudited : (A : Machine) → (List ℕ → List ℕ → Entry) → Noted A.State
    → (Noted A.State → Type 0) → Result (Result Served Stop) TrailFault → Span Outside
    → Medium → Medium → Reading → Reading → Type 0
LineAudited A entry s K result o t0 t1 r0 r1 =
    LineRecorded A entry s K result o.old.devices.world o.new.devices.world t0 t1
    o.old.input o.new.input o.old.output o.new.output r0 r1

-- A line whose record isn't appended ends without its reply: the disk of the trail failed, or the trail is full. It is full
-- only where no number is left, and isn't called then.
pub record AppendFails {T K : Type 0} (result : Result (Result Served Stop) TrailFault)
    (next : ℕ) (trail0 trail1 : T) (sink0 sink1 : K) : Type 0 where
  pub kinds : IfErr result IsAppendFault
  pub unsent : OnErr result (sink1 ≡ sink0)
  pub number : result ≡ Err Full → next ≡ 2 ^ 63
  pub uncalled : result ≡ Err Full → trail1 ≡ trail0

-- how an append came out, where a call sends the reply after it
abbrev pub append_part : Result (Result Served Stop) TrailFault → Result (Unit {0}) TrailFault
append_part (Ok r) = Ok tt
append_part (Err fault) = Err fault

-- the answers of that call
abbrev pub IsSent : Result (Result Served Stop) TrailFault → Type 0
IsSent (Ok r) = (r ≡ Ok Replied) ⊎ (r ≡ Err WriteFault)
IsSent (Err fault) = ⊤

-- The entry of a line was appended, and then its reply was sent. A trail is `t0` before and `t1` now, and has failed so
-- often; a sink holds `o0` before and `o1` now.
pub record EntrySent (next : ℕ) (e : Entry) (reply : List ℕ)
    (result : Result (Result Served Stop) TrailFault) (t0 t1 : Medium) (before now : ℕ)
    (o0 o1 : Option (List ℕ)) (writes_before writes_now : ℕ) : Type 0 where
  pub answers : IsSent result
  pub appended : AppendsEntry next e t0 t1 (append_part result)
  pub trail : TrailAppended t0 t1 before now (result ≡ Err DiskFault)
  pub all : result ≡ Ok (Ok Replied) → WhereTold o0 o1 (λ x y. y ≡ x ++ reply)
  pub part : result ≡ Ok (Err WriteFault) → WhereTold o0 o1 (λ x y. GotPart x y reply)
  pub grows : WhereTold o0 o1 Grows
  pub count : TellsFault writes_before writes_now (line_part result ≡ Err WriteFault)

-- What a line leaves besides, whatever disks and trail stand for: how far the input was taken and which line is shown,
-- what is left of each device and why it stopped, and that the desk and the trail's number are right for a next line.
pub record LineKept (A : Machine) (Ready Holds : Type 0)
    (result : Result (Result Served Stop) TrailFault) (o : Span Outside) (t0 t1 : Medium)
    (before now : ℕ) (r0 r1 : Reading) : Type 0 where
  pub ready : result ≡ Ok (Ok Replied) → Ready
  pub held : OnOk result Holds
  pub taken : LineTaken (line_part result) o r0 r1
  pub replied : result ≡ Ok (Ok Replied) → WhereTold o.old.output o.new.output GotReply
  pub left : OutsideLeft (line_part result) o
  pub undamaged : Undamaged A (line_part result) o.old.devices
  pub cut : result ≡ Ok (Err WriteFault) → BothSettled o.new.devices
  pub trail : TrailAppended t0 t1 before now (result ≡ Err DiskFault)

-- ---- all lines

-- What serving lines leaves once disks and trail are opened. Memory agrees with the states that have K.
pub record RecordsLeft (A : Machine) (entry : List ℕ → List ℕ → Entry) (K : A.State → Type 0)
    (result : Result (Result (Unit {0}) Stop) TrailFault) (o : Span Outside)
    (t0 t1 : Medium) (before now : ℕ) : Type 0 where
  pub serves : (s : Noted A.State) → Stands (noting A entry) s (Agrees K t0)
      o.old.devices.world.module_ o.old.devices.world.store
      → RunRecorded A entry s result o.old.devices.world o.new.devices.world
      t0 t1 o.old.input o.new.input o.old.output o.new.output
  -- a trail that tells its content is full only where the entries come to 2^63
  pub full : (s : Noted A.State) → Stands (noting A entry) s (Agrees K t0)
      o.old.devices.world.module_ o.old.devices.world.store
      → IsSome t0.content → result ≡ Err Full
      → WhereTold o.old.input o.new.input (λ i r. 2 ^ 63 < length s.entries + length (lines i))
  pub taken : AuditTaken result o
  pub each : RepliesToAudited result o
  pub settled : AnswersLines (run_part result) → BothSettled o.new.devices
  pub undamaged : Undamaged A (run_part result) o.old.devices
  pub left : OutsideLeft (run_part result) o
  pub trail : TrailAppended t0 t1 before now (result ≡ Err DiskFault)
  pub kinds : IfErr result IsAppendFault
