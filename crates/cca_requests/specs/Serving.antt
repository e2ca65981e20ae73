-- What a request leaves of the disks, in a few records.
use Rattle.std.specs.Prelude.{◌≡◌, ◌≢◌, ◌⊎◌, ◌≤◌, ◌<◌, ℕ, List, [], length, true, false, Option, Result, Err, OnOk, OnErr, IfErr, IsOk, IsSome, IsTrue, ⊤}
use Rattle.device_cells.specs.Medium.{Medium, Told, From, Becomes, EachImage, EachPair}
use Rattle.device_cells.specs.SpareBytes.{Turned}
use Rattle.line_service.specs.Reading.{line_limit}
use Rattle.line_service.specs.Replies.{spelled}
use Rattle.cca_roles.specs.RolesStand.{StandsForRoles}
use Rattle.cca_roles.specs.declared.roles.Role.{Role}
use Rattle.key_cells.specs.Bench.{Bench}
use Rattle.key_cells.specs.Lease.{loan_of}
use Rattle.key_cells.specs.declared.leases.Lease.{Lease}
use Rattle.record_bodies.specs.StoreStands.{HasStore, HoldsRows}
use Rattle.record_bodies.specs.Entries.{row_directory}
use Rattle.record_bodies.specs.declared.rows.Row.{Row}
use Rattle.master_registers.specs.declared.registers.Registers.{Registers}
use Rattle.line_service.specs.Answering.{Unwritten}
use Rattle.line_service.specs.Devices.{Span, Devices, DiskLeft, TellsFault, ModuleLeft, StoreLeft}
use Rattle.line_service.specs.Lines.{EndsInNewline}
use Rattle.line_service.specs.Machine.{World}
use Rattle.line_service.specs.declared.stops.Device.{Device}
use Rattle.line_service.specs.declared.stops.Device.TheVariants.{Module, Store}
use Rattle.line_service.specs.declared.stops.Stop.{Stop}
use Rattle.line_service.specs.declared.stops.Stop.TheVariants.{ReadFault, WriteFault, EntropyFault, ModuleFault, StoreFault, Damaged, InputLimit}
use Rattle.verb_script.specs.Grammar.{Request, Spells}
use Rattle.cca_machine.specs.State.{State, IsModuleOf, IsStoreOf}
use Rattle.cca_machine.specs.Operands.{is_reencipher, listed, needs_store, operands}
use Rattle.reencipher.specs.Runs.{IsLabelCell}
use Rattle.request_rules.specs.Judging.{IsCellOfAny, IsStoreStop}
use Rattle.request_rules.specs.Standing.{HasLoaded, Tables, StandsInModule, StandsInStore, Stands}
use Rattle.cca_machine.specs.Deciding.{GoesThrough, HasDrawn, WritesStore}
use Rattle.cca_machine.specs.declared.effects.Effect.{Effect}
use Rattle.cca_machine.specs.Act.{Outcome, NoCell, performed}
pub use Rattle.cca_machine.specs.Sound.{IsSound}
pub use Rattle.cca_machine.specs.Written.{SameBut, SameButCell}
use Rattle.cca_machine.specs.Draws.{draws_random}
use Rattle.cca_machine.specs.Lines.{MayDraw, taken_by}
use Rattle.cca_machine.specs.Verdict.{early_verdict}

-- some line spells the request
abbrev pub IsSpelled : Request → Type 0
IsSpelled request = (line : List ℕ) × Spells request line × (length line ≤ line_limit)

-- ---- an outcome, carried out

-- P holds of the state before or after, or of one between: where the labels below some cell are what the action makes of
-- them
abbrev pub IsAround : State → Outcome → (State → Type 0) → Type 0
IsAround s o P = P s ⊎ (P o.state ⊎ ((cell : ℕ) × (cell ≤ 1024) × P (o.between cell)))

-- an image stands for one of these states
abbrev pub IsEither : (State → List ℕ → Type 0) → State → Outcome → List ℕ → Type 0
IsEither Of s o image = IsAround s o (λ t. Of t image)

-- an image of the module with one of the store: both stand for the same of these states
abbrev pub ArePair : State → Outcome → List ℕ → List ℕ → Type 0
ArePair s o c d = IsAround s o (λ t. IsModuleOf t c × IsStoreOf t d)

-- a device failed
abbrev pub IsFault : Stop → Type 0
IsFault EntropyFault = ⊤
IsFault ModuleFault = ⊤
IsFault StoreFault = ⊤
IsFault ReadFault = ⊥
IsFault WriteFault = ⊥
IsFault InputLimit = ⊥
IsFault (Damaged device cell) = ⊥

-- the bench holds the registers of the module, and the memory has of both disks what they hold; nothing of them is unsynced
pub record HasDisks (held : Registers) (bench : Bench) (t : Tables) (m d : Medium) : Type 0 where
  pub at : HasLoaded held bench t.roles m
  pub store : HasStore t.rows d

-- ---- of the module alone

pub record IsDoneInModule (o : Outcome) (reply : List ℕ) (roles : List (Option Role))
    (module_ : Medium) : Type 0 where
  pub reply_is : reply ≡ spelled o.reply
  pub stands : StandsInModule o.state roles module_

pub record CarriesModule (o : Outcome) (s : State) (result : Result (Unit {0}) Stop)
    (reply : List ℕ) (roles : List (Option Role)) (m0 m1 : Medium) : Type 0 where
  pub done : OnOk result (IsDoneInModule o reply roles m1)
  -- whatever the answer, at each moment of the call
  pub moments : EachImage m0 m1 (IsEither IsModuleOf s o)
  pub outside : EachImage m0 m1 (From (SameBut o.module_cells) m0)
  pub stops : IfErr result IsFault

-- the same, where the module isn't called if no cell is to be written
pub record CallsModule {M : Type 0} (medium : M → Medium) (o : Outcome) (s : State)
    (result : Result (Unit {0}) Stop) (reply : List ℕ) (roles : List (Option Role)) (old new : M)
    : Type 0 where
  pub carries : CarriesModule o s result reply roles (medium old) (medium new)
  pub still : o.module_cells ≡ NoCell → new ≡ old

-- ---- of the store alone

pub record IsDoneInStore (o : Outcome) (reply : List ℕ) (rows : List (Option Row)) (store : Medium)
    : Type 0 where
  pub reply_is : reply ≡ spelled o.reply
  pub stands : StandsInStore o.state rows store

pub record CarriesStore (o : Outcome) (s : State) (result : Result (Unit {0}) Stop) (reply : List ℕ)
    (rows : List (Option Row)) (d0 d1 : Medium) : Type 0 where
  pub done : OnOk result (IsDoneInStore o reply rows d1)
  pub moments : EachImage d0 d1 (IsEither IsStoreOf s o)
  pub outside : EachImage d0 d1 (From (SameBut o.store_cells) d0)
  pub stops : IfErr result IsFault

-- ---- of both

-- the reply is the outcome's, and the disks stand for its state
pub record IsDone (o : Outcome) (reply : List ℕ) (t : Tables) (m d : Medium) : Type 0 where
  pub reply_is : reply ≡ spelled o.reply
  pub stands : Stands o.state t m d

-- Each image of one disk stands for the state before, and what stands for that stands for the state after too, and for
-- those between.
abbrev pub Rests : (State → List ℕ → Type 0) → State → Outcome → Medium → Medium → Type 0
Rests Of s o old new =
    EachImage old new (Of s)
    × ((c : List ℕ) → Of s c → Of o.state c × ((cell : ℕ) → Of (o.between cell) c))

-- one disk at most is written: the store, or the module, or none of them
abbrev pub OneDisk : State → Outcome → Medium → Medium → Medium → Medium → Type 0
OneDisk s o m0 m1 d0 d1 =
    Rests IsModuleOf s o m0 m1
    ⊎ (Rests IsStoreOf s o d0 d1
    ⊎ (EachImage m0 m1 (IsModuleOf s) × EachImage d0 d1 (IsStoreOf s)))

pub record Carries (o : Outcome) (s : State) (result : Result (Unit {0}) Stop) (reply : List ℕ)
    (t : Tables) (m0 m1 d0 d1 : Medium) : Type 0 where
  pub done : OnOk result (IsDone o reply t m1 d1)
  -- whatever the answer, at each moment of the call
  pub on_module : EachImage m0 m1 (IsEither IsModuleOf s o)
  pub on_store : EachImage d0 d1 (IsEither IsStoreOf s o)
  pub one_disk : OneDisk s o m0 m1 d0 d1
  pub module_outside : EachImage m0 m1 (From (SameBut o.module_cells) m0)
  pub store_outside : EachImage d0 d1 (From (SameBut o.store_cells) d0)
  pub stops : IfErr result IsFault

-- what the machine makes of the request, with some random bytes, is carried out
pub record Serves (s : State) (request : Request) (result : Result (Unit {0}) Stop) (reply : List ℕ)
    (t : Tables) (old new : World) : Type 0 where
  pub drawn : List ℕ
  pub carries : Carries (performed s drawn request) s result reply t old.module_ new.module_
      old.store new.store
  -- at each moment of the call, each image of the module with each of the store
  pub pairs : EachPair old.module_ new.module_ old.store new.store
      (ArePair s (performed s drawn request))
  -- they were drawn; or it stopped before, and nothing was written
  pub random : HasDrawn drawn (taken_by s drawn request) old.random new.random
      ⊎ (OnOk result ⊥ × Unwritten old new)
  -- the random source fails only where the machine takes random bytes, and nothing is written then
  pub permitted : result ≡ Err EntropyFault → MayDraw s request
  pub undrawn : result ≡ Err EntropyFault → Unwritten old new

-- ---- what is certain whatever the disks hold

-- a request may stop for these
abbrev pub IsRequestStop : Stop → Type 0
IsRequestStop EntropyFault = ⊤
IsRequestStop ModuleFault = ⊤
IsRequestStop StoreFault = ⊤
IsRequestStop (Damaged Module cell) = cell ≡ 0
IsRequestStop (Damaged Store cell) = cell < 1024
IsRequestStop ReadFault = ⊥
IsRequestStop WriteFault = ⊥
IsRequestStop InputLimit = ⊥

-- once the registers are loaded, it may stop for these
abbrev pub IsLoadedStop : Stop → Type 0
IsLoadedStop EntropyFault = ⊤
IsLoadedStop ModuleFault = ⊤
IsLoadedStop StoreFault = ⊤
IsLoadedStop (Damaged Module cell) = ⊥
IsLoadedStop (Damaged Store cell) = cell < 1024
IsLoadedStop ReadFault = ⊥
IsLoadedStop WriteFault = ⊥
IsLoadedStop InputLimit = ⊥

-- the disk told its content before, where it tells it now
abbrev pub HasTold : Medium → Medium → Type 0
HasTold old new = IsSome new.content → IsSome old.content

-- what a change of the module leaves of it, of the reply and of the memory
pub record LeavesModule (old new : Medium) (before now : ℕ) (result : Result (Unit {0}) Stop)
    (reply : List ℕ) (roles later : List (Option Role)) : Type 0 where
  pub disk : DiskLeft old new before now (IsOk result) (result ≡ Err ModuleFault)
  pub told : HasTold old new
  -- after Ok the body that was selected in a cell that has changed stands on the other side
  pub turned : OnOk result (Becomes (Turned 33) old new)
  pub sound : OnOk result (Told new (IsSound later))
  -- after Ok the reply ends with a newline
  pub line : OnOk result (EndsInNewline reply)
  pub silent : OnErr result (reply ≡ [])
  pub memory : OnErr result (later ≡ roles)
  pub stops : IfErr result (λ stop. stop ≡ ModuleFault)

-- And a change of the store. After an error the memory holds the labels that it held, in their cells.
pub record LeavesStore (old new : Medium) (before now : ℕ) (result : Result (Unit {0}) Stop)
    (reply : List ℕ) (rows later : List (Option Row)) : Type 0 where
  pub disk : DiskLeft old new before now (IsOk result) (result ≡ Err StoreFault)
  pub told : HasTold old new
  pub turned : OnOk result (Becomes (Turned 1024) old new)
  pub holds : OnOk result (Told new (HoldsRows later))
  -- after Ok the reply ends with a newline
  pub line : OnOk result (EndsInNewline reply)
  pub silent : OnErr result (reply ≡ [])
  pub memory : OnErr result (row_directory later ≡ row_directory rows)
  pub stops : IfErr result IsStoreStop

-- The same of a change of one record: after an error the memory is as it was, and the error is that the store failed. The
-- lease is still that of its bench.
pub record LeavesRecords {D : Type 0} (medium : D → Medium) (faults : D → ℕ) (lease still : Lease)
    (old new : D) (result : Result (Unit {0}) Stop) (reply : List ℕ)
    (rows later : List (Option Row)) : Type 0 where
  pub left : LeavesStore (medium old) (medium new) (faults old) (faults new) result reply rows later
  pub kept : OnErr result (later ≡ rows)
  pub fault : IfErr result (λ stop. stop ≡ StoreFault)
  pub loan : loan_of still ≡ loan_of lease

-- what a call leaves of both disks, of the reply and of the memory
pub record Leaves (result : Result (Unit {0}) Stop) (reply : List ℕ) (d : Span Devices)
    (t later : Tables) : Type 0 where
  pub module_disk : ModuleLeft d (IsOk result) (result ≡ Err ModuleFault)
  pub store_disk : StoreLeft d (IsOk result) (result ≡ Err StoreFault)
  pub module_told : HasTold d.old.world.module_ d.new.world.module_
  pub store_told : HasTold d.old.world.store d.new.world.store
  -- after Ok, of each cell that has changed, the selector is 0 or 1 and the body that was selected stands on the other
  -- side, and no byte outside selectors and bodies has changed
  pub module_turned : OnOk result (Becomes (Turned 33) d.old.world.module_ d.new.world.module_)
  pub store_turned : OnOk result (Becomes (Turned 1024) d.old.world.store d.new.world.store)
  pub sound : OnOk result (Told d.new.world.module_ (IsSound later.roles))
  pub holds : OnOk result (Told d.new.world.store (HoldsRows later.rows))
  -- and after Ok the reply ends with a newline
  pub line : OnOk result (EndsInNewline reply)
  pub silent : OnErr result (reply ≡ [])
  -- after an error the memory has the roles that it had, and holds the labels that it held, in their cells
  pub roles : OnErr result (later.roles ≡ t.roles)
  pub labels : OnErr result (row_directory later.rows ≡ row_directory t.rows)

-- What was called and changed for an effect: the store only where the effect writes it, and the module only where it
-- doesn't; and the memory of the records, after an error, only where the effect goes through every label. A damaged cell is
-- come upon only there too, and holds a label.
pub record KeepsToEffect {M D : Type 0} (e : Effect) (result : Result (Unit {0}) Stop)
    (rows later : List (Option Row)) (lease still : Lease) (module0 module1 : M)
    (store0 store1 : D) : Type 0 where
  pub stops : IfErr result IsLoadedStop
  pub entropy : result ≢ Err EntropyFault
  pub kept : (GoesThrough e → ⊥) → OnErr result (later ≡ rows)
  pub writes : result ≡ Err StoreFault → WritesStore e
  pub spared : (WritesStore e → ⊥) → store1 ≡ store0
  pub alone : WritesStore e → module1 ≡ module0
  pub through : (device : Device) (cell : ℕ) → result ≡ Err (Damaged device cell)
      → GoesThrough e
  pub cell : (n : ℕ) → result ≡ Err (Damaged Store n) → IsLabelCell rows n
  pub loan : loan_of still ≡ loan_of lease

-- the store is called only for a label in an operand, and for REENCIPHER
pub record SparesStore {D : Type 0} (request : Request) (result : Result (Unit {0}) Stop)
    (store0 store1 : D) : Type 0 where
  pub named : result ≡ Err StoreFault → IsTrue (needs_store request)
  pub spared : needs_store request ≡ false → store1 ≡ store0

-- a cell of the store that the request reads: that of a label whose key an operand asks for; and of REENCIPHER each one
-- that holds a label
abbrev pub IsCellRead : Request → List (Option Row) → ℕ → Type 0
IsCellRead request rows cell =
    IsCellOfAny rows (listed (operands request)) cell
    ⊎ (IsTrue (is_reencipher request.name) × IsLabelCell rows cell)

-- Random bytes are taken only where no rule that is asked before refuses the request, from a state that has P, and where
-- the request draws some; the random source fails only there too.
pub record DrawsOnly {E : Type 0} (P : State → Type 0) (request : Request)
    (result : Result (Unit {0}) Stop) (entropy0 entropy1 : E) (before now : ℕ) : Type 0 where
  pub entropy : TellsFault before now (result ≡ Err EntropyFault)
  pub untouched : (s : State) → P s → IsSome (early_verdict s request) → entropy1 ≡ entropy0
  pub undrawn : draws_random request ≡ false → entropy1 ≡ entropy0
  pub drawing : result ≡ Err EntropyFault → draws_random request ≡ true

-- each disk that tells its bytes holds what the memory has of it
pub record AreRemembered (t : Tables) (m d : Medium) : Type 0 where
  pub remembered : Told m (λ image. StandsForRoles image t.roles)
  pub recorded : Told d (HoldsRows t.rows)
