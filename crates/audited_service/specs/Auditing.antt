-- What a call leaves that serves lines beside a trail, in a few records.
use Rattle.std.specs.Prelude.{◌≡◌, ◌+◌, ◌^◌, ◌<◌, ◌≤◌, ℕ, List, length, IsSome, Result, Ok, Err, IfOk}
use Rattle.device_cells.specs.Faults.{Rose}
use Rattle.device_cells.specs.Medium.{Medium, Told, Becomes}
use Rattle.device_cells.specs.WhereTold.{WhereTold}
use Rattle.line_service.specs.Lines.{lines}
use Rattle.line_service.specs.Reading.{input_limit}
use Rattle.audit_trail.specs.Changes.{TrailLeft}
use Rattle.audit_trail.specs.TrailStands.{IsTrail, IsFirstDamaged}
use Rattle.audit_trail.specs.declared.entries.Entry.{Entry}
use Rattle.audit_trail.specs.declared.faults.TrailFault.{TrailFault}
use Rattle.audit_trail.specs.declared.faults.TrailFault.TheVariants.{DiskFault, Full, Damaged}
use Rattle.line_service.specs.Machine.{Machine}
use Rattle.line_service.specs.Answering.{OnDisks, Holds}
use Rattle.line_service.specs.Devices.{Span, Devices, DamageTold, Outside, OutsideLeft, behind}
use Rattle.line_service.specs.Running.{EachReplied, NoneFailed, LinesServed, InputTaken, ServesSound}
use Rattle.line_service.specs.Serving.{PrefixSent}
use Rattle.line_service.specs.declared.stops.Stop.{Stop}
use Rattle.line_service.specs.declared.stops.Stop.TheVariants.{WriteFault}
use Rattle.audited_service.specs.Answers.{run_part, AuditsLines}
use Rattle.audited_service.specs.Growing.{Grown}
use Rattle.audited_service.specs.Noting.{noted}
use Rattle.audited_service.specs.Recording.{RunRecorded}

-- the trail tells its content, which stands for no entries
abbrev pub IsUnsoundTrail : Medium → Type 0
IsUnsoundTrail t = Holds t (λ c. (es : List Entry) → IsTrail c es → ⊥)

-- What the lines come to, from the state for which the disks stand and the entries for which the trail stands. The
-- trail is `t0` before and `t1` now, and has failed so often.
pub record LinesRecorded (A : Machine) (entry : List ℕ → List ℕ → Entry) (s : A.State)
    (es : List Entry) (result : Result (Result (Unit {0}) Stop) TrailFault) (o : Span Outside)
    (t0 t1 : Medium) (before now : ℕ) : Type 0 where
  pub recorded : RunRecorded A entry (noted s es) result o.old.devices.world o.new.devices.world
      t0 t1 o.old.input o.new.input o.old.output o.new.output
  -- all that a run leaves without a trail
  pub run : IfOk result (λ r. LinesServed A s r o)
  -- the sink got the first bytes of the replies, however it ended
  pub prefix : WhereTold o.old.input o.new.input
      (λ i r. PrefixSent A s o.old.devices.world.random i o.old.output o.new.output)
  -- where no device fails, the input is short enough and the numbers of the entries are low enough, every line is
  -- recorded and answered
  pub complete : NoneFailed o → (Rose before now → ⊥) → IsSome t0.content
      → WhereTold o.old.input o.new.input (λ i r. length i < input_limit
      → length es + length (lines i) ≤ 2 ^ 63 → result ≡ Ok (Ok tt))
  -- the trail is full only where they aren't
  pub full : IsSome t0.content → result ≡ Err Full
      → WhereTold o.old.input o.new.input (λ i r. 2 ^ 63 < length es + length (lines i))

-- How far the input was taken, where the trail didn't end that, and never beyond the limit.
pub record AuditTaken (result : Result (Result (Unit {0}) Stop) TrailFault) (o : Span Outside)
    : Type 0 where
  pub run : IfOk result (λ r. InputTaken r o)
  pub within : WhereTold o.old.input o.new.input (λ i r. length i ≤ length r + input_limit)

-- the sink got one reply for each line of the input, as RepliesTo says of a run without a trail
abbrev pub RepliesToAudited : Result (Result (Unit {0}) Stop) TrailFault → Span Outside → Type 0
RepliesToAudited result o = WhereTold o.old.input o.new.input (λ i r. EachReplied
    (result ≡ Ok (Ok tt)) (result ≡ Ok (Err WriteFault)) i o.old.output o.new.output)

-- Lines are served only where the disks stand for a state, and nothing of these is unsynced after them; and only where
-- the trail stands for some entries.
pub record AuditsSound (A : Machine) (result : Result (Result (Unit {0}) Stop) TrailFault)
    (d : Span Devices) (t0 : Medium) : Type 0 where
  pub disks : ServesSound A (run_part result) d
  pub trail : AuditsLines result → Told t0 (λ c. (es : List Entry) × IsTrail c es)

-- Damage of the trail is told where a cell is damaged; and then always, unless a disk failed or the disks are unsound.
pub record TrailDamageTold (A : Machine) (result : Result (Result (Unit {0}) Stop) TrailFault)
    (d : Span Devices) (t0 : Medium) (before now : ℕ) : Type 0 where
  pub damaged : (cell : ℕ) → result ≡ Err (Damaged cell) → Told t0 (λ c. IsFirstDamaged c cell)
  pub cells : (cell : ℕ) → result ≡ Err (Damaged cell) → cell < 4096
  pub judged : (Rose d.old.module_faults d.new.module_faults → ⊥)
      → (Rose d.old.store_faults d.new.store_faults → ⊥) → (Rose before now → ⊥)
      → (s : A.State) → OnDisks A s d.old.world.module_ d.old.world.store
      → Told t0 (λ c. (cell : ℕ) → IsFirstDamaged c cell → result ≡ Err (Damaged cell))

-- What a call leaves that opens disks and trail, and serves lines to the end of the input, each recorded. The trail is
-- `t0` before and `t1` now, and has failed so often.
pub record AuditLeft (A : Machine) (entry : List ℕ → List ℕ → Entry)
    (result : Result (Result (Unit {0}) Stop) TrailFault) (o : Span Outside)
    (t0 t1 : Medium) (before now : ℕ) : Type 0 where
  -- what the lines come to, from each state for which the disks stand and the entries for which the trail stands
  pub lines : (s : A.State) (es : List Entry)
      → OnDisks A s o.old.devices.world.module_ o.old.devices.world.store
      → Told t0 (λ c. IsTrail c es) → LinesRecorded A entry s es result o t0 t1 before now
  pub taken : AuditTaken result o
  pub each : RepliesToAudited result o
  pub sound : AuditsSound A result (behind o) t0
  -- damage of the module is told first, then that of the store, then that of the trail
  pub damage : DamageTold A (run_part result) (behind o)
  pub trail_damage : TrailDamageTold A result (behind o) t0 before now
  -- what is left of each device, and why it stopped
  pub left : OutsideLeft (run_part result) o
  pub trail_left : TrailLeft t0 t1 before now (AuditsLines result) (result ≡ Err DiskFault)
  -- where its disk doesn't fail, the bodies that aren't selected are those that were there, or older records
  pub rests : (result ≡ Err DiskFault → ⊥) → Becomes Grown t0 t1
