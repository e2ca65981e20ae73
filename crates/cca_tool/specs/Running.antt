-- What a run leaves, in a few records.
use Rattle.std.specs.Prelude.{◌≡◌, ◌≢◌, ◌⊎◌, ℕ, None, Result, Err, IsOk}
use Rattle.device_cells.specs.Faults.{Rose}
use Rattle.device_cells.specs.Medium.{EachImage, Keeps}
use Rattle.device_cells.specs.WhereTold.{WhereTold}
use Rattle.line_service.specs.Answering.{OnDisks}
use Rattle.line_service.specs.Devices.{Span, Devices, DamageTold, Outside, TellsFault, ModuleLeft, StoreLeft, behind}
use Rattle.line_service.specs.Running.{ServesSound}
use Rattle.line_service.specs.Sending.{Grows}
use Rattle.line_service.specs.Serving.{IsOnTheWay, AtRest, SparesAlways}
use Rattle.line_service.specs.declared.stops.Stop.{Stop}
use Rattle.line_service.specs.declared.stops.Stop.TheVariants.{WriteFault, ModuleFault, StoreFault}
use Rattle.cca_machine.specs.State.{State, IsModuleOf, IsStoreOf}
use Rattle.cca_machine.specs.Coprocessor.{cca}
use Rattle.command_words.specs.Demo.{demo_text}
use Rattle.cca_tool.specs.DemoRun.{SummarySent, SummaryCut, DemoLost}
use Rattle.store_unload.specs.Statuses.{status_of_lem}
use Rattle.store_unload.specs.declared.status.Status.{Status}
use Rattle.store_unload.specs.declared.status.Status.TheVariants as status

-- where the status tells how lines ended, P holds of that
abbrev pub Ended : Status → (Result (Unit {0}) Stop → Type 0) → Type 0
Ended outcome P = (r : Result (Unit {0}) Stop) → outcome ≡ status_of_lem r → P r

-- no device was called
pub record Uncalled {S K M D E : Type 0} (source0 source1 : S) (sink0 sink1 : K)
    (module0 module1 : M) (store0 store1 : D) (entropy0 entropy1 : E) : Type 0 where
  pub no_source : source1 ≡ source0
  pub no_sink : sink1 ≡ sink0
  pub no_module : module1 ≡ module0
  pub no_store : store1 ≡ store0
  pub no_entropy : entropy1 ≡ entropy0

-- neither disk was called
pub record DisksUncalled {M D : Type 0} (module0 module1 : M) (store0 store1 : D) : Type 0 where
  pub no_module : module1 ≡ module0
  pub no_store : store1 ≡ store0

-- What the lines of a demo come to, from the state s for which the disks stand.
pub record DemoLines (n : ℕ) (s : State) (outcome : Status) (o : Span Outside) : Type 0 where
  pub demo_done : outcome ≡ status.Done
      → SummarySent n s o.new.devices.world o.old.output o.new.output
  pub demo_cut : outcome ≡ status.WriteFault
      → SummaryCut n s o.new.devices.world o.old.output o.new.output
  pub demo_lost : outcome ≡ status.ModuleFault
      → DemoLost ModuleFault n s o.old.devices.world o.new.devices.world
  pub demo_store_lost : outcome ≡ status.StoreFault
      → DemoLost StoreFault n s o.old.devices.world o.new.devices.world
  pub demo_moments : EachImage o.old.devices.world.module_ o.new.devices.world.module_
      (λ image. o.old.devices.world.module_.images image
      ⊎ IsOnTheWay cca s None (demo_text n) (λ t. IsModuleOf t image))
  pub demo_store_moments : EachImage o.old.devices.world.store o.new.devices.world.store
      (λ image. o.old.devices.world.store.images image
      ⊎ IsOnTheWay cca s None (demo_text n) (λ t. IsStoreOf t image))
  -- no byte outside selectors and bodies changes, and at rest a body that isn't selected was selected once
  pub demo_spare : SparesAlways o.old.devices.world o.new.devices.world
  pub demo_at_rest : (outcome ≡ status.Done) ⊎ (outcome ≡ status.WriteFault)
      → AtRest cca s None (demo_text n) o.old.devices.world o.new.devices.world
  -- where no device fails, all lines are answered
  pub demo_complete : (Rose o.old.sink_faults o.new.sink_faults → ⊥)
      → (Rose o.old.devices.module_faults o.new.devices.module_faults → ⊥)
      → (Rose o.old.devices.store_faults o.new.devices.store_faults → ⊥)
      → (outcome ≡ status.Done) ⊎ (outcome ≡ status.NoMemory)

-- A demo takes its lines from no source, and they draw nothing. Its sink gets nothing before all lines were answered.
pub record DemoAnswers {K : Type 0} (outcome : Status) (sink0 sink1 : K) : Type 0 where
  pub demo_sink : outcome ≢ status.Done → outcome ≢ status.WriteFault → sink1 ≡ sink0
  pub demo_words : outcome ≢ status.Usage
  pub demo_read : outcome ≢ status.ReadFault
  pub demo_limit : outcome ≢ status.InputLimit
  pub demo_drawn : outcome ≢ status.EntropyFault

-- where the disks stand for no state, sink and disks are as before
pub record DemoUntouched {K : Type 0} (sink0 sink1 : K) (d : Span Devices) : Type 0 where
  pub unsound_sink : sink1 ≡ sink0
  pub unsound_module : Keeps d.old.world.module_ d.new.world.module_
  pub unsound_store : Keeps d.old.world.store d.new.world.store

-- What a demo leaves of sink and disks that ended so, and why it stopped.
pub record DemoLeft (r : Result (Unit {0}) Stop) (o : Span Outside) : Type 0 where
  -- lines are served only where the disks stand for a state
  pub sound : ServesSound cca r (behind o)
  -- damage is told where a cell is broken, and then always, unless a disk failed
  pub damage : DamageTold cca r (behind o)
  pub sink_left : TellsFault o.old.sink_faults o.new.sink_faults (r ≡ Err WriteFault)
  pub sink_grows : WhereTold o.old.output o.new.output Grows
  pub module_left : ModuleLeft (behind o) (IsOk r) (r ≡ Err ModuleFault)
  pub store_left : StoreLeft (behind o) (IsOk r) (r ≡ Err StoreFault)

-- what serving the lines of a demo leaves, and sending what they came to
pub record DemoRan {K : Type 0} (n : ℕ) (outcome : Status) (sink0 sink1 : K) (o : Span Outside)
    : Type 0 where
  pub answers : DemoAnswers outcome sink0 sink1
  pub lines : (s : State) → OnDisks cca s o.old.devices.world.module_ o.old.devices.world.store
      → DemoLines n s outcome o
  pub ends : Ended outcome (λ r. DemoLeft r o)

-- the same over a source and a random source, which a demo doesn't call
pub record DemoServed {S K E : Type 0} (n : ℕ) (outcome : Status) (source0 source1 : S)
    (sink0 sink1 : K) (entropy0 entropy1 : E) (o : Span Outside) : Type 0 where
  pub demo_source : source1 ≡ source0
  pub demo_entropy : entropy1 ≡ entropy0
  pub ran : DemoRan n outcome sink0 sink1 o
