-- What the verb of a request decided, whole: in every state that the memory and the bench stand for.
use Rattle.std.specs.Prelude.{◌≡◌, true, false, IsTrue, IsSome, OnErr, IfErr, IfOk, ℕ, List, [], Option, Result, Ok, Err}
use Rattle.key_cells.specs.Bench.{Bench}
use Rattle.key_cells.specs.Lease.{bench_of}
use Rattle.key_cells.specs.declared.leases.Lease.{Lease}
use Rattle.record_bodies.specs.declared.rows.Row.{Row}
use Rattle.line_service.specs.Devices.{TellsFault}
use Rattle.line_service.specs.declared.stops.Stop.{Stop}
use Rattle.line_service.specs.declared.stops.Stop.TheVariants.{EntropyFault}
use Rattle.master_registers.specs.Loaded.{IsLoaded, Loaded}
use Rattle.master_registers.specs.Masters.{Masters}
use Rattle.master_registers.specs.declared.registers.Registers.{Registers}
use Rattle.verb_rules.specs.Keys.{HasHalves}
use Rattle.verb_rules.specs.declared.judging.Judged.{Judged}
use Rattle.verb_script.specs.Grammar.{Request, accepts, hex_text}
use Rattle.verb_script.specs.declared.rows.RequestName.{RequestName}
use Rattle.verb_script.specs.Named.{label_named}
use Rattle.cca_machine.specs.Draws.{draws_random}
use Rattle.cca_machine.specs.Operands.{operands, is_reencipher, needs_store}
use Rattle.cca_machine.specs.State.{State}
use Rattle.cca_machine.specs.Verdict.{needs_master, verb_verdict}
use Rattle.cca_machine.specs.Deciding.{ChangesPlaces, GoesThrough, IsReady, IsRecorded, MayDecide, WritesStore}
use Rattle.cca_machine.specs.Granted.{AreGranted, AreKeyed, HasSomeJudged, HaveShapes, IsAccepted, IsPlaceFor}
use Rattle.cca_machine.specs.declared.effects.Effect.{Effect as CodeEffect}
use Rattle.cca_machine.specs.declared.granted.Granted.{Granted}

-- a request by its name and its values
abbrev pub asked : RequestName → List (List ℕ) → Request
asked name values = record { name = name; values = values }

-- the bench has the registers of the state, the memory its labels, and the operands of the request were granted in it
pub record IsGrantedIn (s : State) (request : Request) (granted : Granted) (held : Registers)
    (rows : List (Option Row)) (bench : Bench) : Type 0 where
  pub loaded : Loaded s.registers held bench
  pub recorded : IsRecorded s rows
  pub grants : AreGranted s bench (operands request) granted

-- What was decided is the machine's in each such state, and can be carried out. The store is written only where the
-- request needs it, and gone through only where the request goes through it. Only the random source stops a verb.
pub record HasDecided (request : Request) (granted : Granted) (held : Registers)
    (rows : List (Option Row)) (old new : Bench) (result : Result CodeEffect Stop) (reply : List ℕ)
    (before now : Option (List ℕ)) : Type 0 where
  pub decides : (s : State) → IsGrantedIn s request granted held rows old
      → MayDecide s new request result reply before now
  pub ready : IfOk result (λ effect. IsReady held new rows effect reply)
  pub named : IfOk result (λ effect. WritesStore effect → IsTrue (needs_store request))
  pub through : IfOk result (λ effect. GoesThrough effect
      → IsTrue (is_reencipher request.name))
  pub silent : OnErr result (reply ≡ [])
  pub stops : IfErr result (λ stop. stop ≡ EntropyFault)

-- The same of a verb that draws nothing, over operands that have their shapes. Of the lease no more
-- than the places of a verb changed.
pub record Settles (request : Request) (granted : Granted) (held : Registers)
    (rows : List (Option Row)) (old new : Lease) (e : CodeEffect) (reply : List ℕ) : Type 0 where
  pub decided : HaveShapes rows (operands request) granted → (left : Option (List ℕ))
      → HasDecided request granted held rows (bench_of old) (bench_of new) (Ok e) reply left left
  pub places : ChangesPlaces old new

-- the same whatever the registers hold and the memory knows
abbrev pub SettlesOver : Request → Granted → Lease → Lease → CodeEffect → List ℕ → Type 0
SettlesOver request granted old new e reply =
    (held : Registers) (rows : List (Option Row)) → Settles request granted held rows old new e reply

-- a random source, with the bytes that are left where they are known, and the count of its faults
pub record Source (E : Type 0) : Type 0 where
  pub state : E
  pub left : Option (List ℕ)
  pub faults : ℕ

abbrev pub source : {E : Type 0} → E → Option (List ℕ) → ℕ → Source E
source state left faults = record { state = state; left = left; faults = faults }

-- Random bytes are taken only where no rule of the verb that is asked before refuses the request, and where the request
-- draws some; the random source fails only there too.
pub record TakesOnly {E T : Type 0} (request : Request) (result : Result T Stop)
    (before now : Source E) : Type 0 where
  pub entropy : TellsFault before.faults now.faults (result ≡ Err EntropyFault)
  pub untouched : (s : State) → IsSome (verb_verdict s request) → now.state ≡ before.state
  pub undrawn : draws_random request ≡ false → now.state ≡ before.state
  pub drawing : result ≡ Err EntropyFault → draws_random request ≡ true

-- what was decided, what it took of the random source, and what it left of the lease
pub record Decision {E : Type 0} (request : Request) (granted : Granted) (held : Registers)
    (rows : List (Option Row)) (old new : Lease) (result : Result CodeEffect Stop)
    (reply : List ℕ) (before now : Source E) : Type 0 where
  pub decided : HasDecided request granted held rows (bench_of old) (bench_of new) result reply
      before.left now.left
  pub takes : TakesOnly request result before now
  pub places : ChangesPlaces old new

-- the same of a verb that may draw, decided over operands that have their shapes
pub record SettlesDrawing {E : Type 0} (request : Request) (granted : Granted) (held : Registers)
    (rows : List (Option Row)) (old new : Lease) (result : Result CodeEffect Stop)
    (reply : List ℕ) (before now : Source E) : Type 0 where
  pub decided : HaveShapes rows (operands request) granted
      → HasDecided request granted held rows (bench_of old) (bench_of new) result reply
      before.left now.left
  pub takes : TakesOnly request result before now
  pub places : ChangesPlaces old new

-- ---- what a verb rests on

-- What a request and its operands were judged to meet before its verb decides.
pub record HasPassed (request : Request) (granted : Granted) (held : Registers)
    (rows : List (Option Row)) (bench : Bench) : Type 0 where
  -- the fields say what they may
  pub accepted : IsAccepted request
  pub shaped : HaveShapes rows (operands request) granted
  -- a token that is asked for as one stands for a key
  pub keyed : (m : Masters) → Loaded m held bench → AreKeyed m (operands request)
  -- the current master key is there, where it is needed
  pub master : IsTrue (needs_master request.name) → IsSome held.current_pattern

-- the same, the registers being loaded, before a reply is written
pub record CanDecide (request : Request) (granted : Granted) (held : Registers)
    (rows : List (Option Row)) (bench : Bench) (reply : List ℕ) : Type 0 where
  pub passed : HasPassed request granted held rows bench
  pub loaded : IsLoaded held bench
  pub empty : reply ≡ []

-- A key can be delivered under the current master key: where it goes is known, and no reply is
-- written yet.
pub record CanDeliver (held : Registers) (bench : Bench) (to : List ℕ) (place : Option ℕ)
    (reply : List ℕ) : Type 0 where
  pub target : IsPlaceFor (label_named to) place
  pub master : IsSome held.current_pattern
  pub loaded : IsLoaded held bench
  pub empty : reply ≡ []

-- A text that digits spell stands beside a key, which has its halves; no reply is written yet.
pub record HasText (key : Judged) (text reply : List ℕ) : Type 0 where
  pub halves : HasHalves key
  pub digits : IsTrue (accepts hex_text text)
  pub empty : reply ≡ []

-- the same where the first operand was granted as the key
pub record HasTextFor (granted : Granted) (text reply : List ℕ) : Type 0 where
  pub key : HasSomeJudged granted.first
  pub digits : IsTrue (accepts hex_text text)
  pub empty : reply ≡ []
