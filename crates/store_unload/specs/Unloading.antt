-- What moving a store to another module comes to.
use Rattle.std.specs.Prelude.{⊤, ◌≡◌, ◌⊎◌, ◌<◌, ℕ, List, Option, None, Some, Result, Ok, Err}
use Rattle.cca_roles.specs.RolesStand.{StandsForRoles}
use Rattle.cca_roles.specs.declared.roles.Role.{Role}
use Rattle.device_cells.specs.Faults.{Rose}
use Rattle.device_cells.specs.Medium.{Medium, Told}
use Rattle.device_cells.specs.WhereTold.{WhereTold}
use Rattle.cca_vectors.specs.Checks.{first_failing}
use Rattle.record_bodies.specs.Directory.{held_count}
use Rattle.record_bodies.specs.Entries.{row_directory}
use Rattle.record_bodies.specs.declared.rows.Row.{Row}
use Rattle.record_bodies.specs.StoreStands.{HoldsRows}
use Rattle.key_tokens.specs.Denotes.{Denoted}
use Rattle.master_registers.specs.Masters.{Masters}
use Rattle.master_registers.specs.RegisterBody.{StandsForMasters}
use Rattle.verb_rules.specs.Keys.{keys_of}
use Rattle.line_service.specs.Answering.{IsSound, OnDisks}
use Rattle.line_service.specs.Devices.{DamageTold, Devices, OpeningLeft, Span, TellsFault}
use Rattle.line_service.specs.Sending.{Grows}
use Rattle.line_service.specs.declared.stops.Device.{Device}
use Rattle.line_service.specs.declared.stops.Device.TheVariants.{Module, Store}
use Rattle.line_service.specs.declared.stops.Stop.{Stop}
use Rattle.line_service.specs.declared.stops.Stop.TheVariants as stop
use Rattle.cca_machine.specs.State.{State}
use Rattle.store_unload.specs.Judging.{RefusedAsRead, TransportAsRead}
use Rattle.store_unload.specs.Moves.{move_checks}
use Rattle.store_unload.specs.Writing.{GotParts, GotPartsTo, ToldAll, ToldTo}
use Rattle.command_words.specs.declared.moves.Move.{Move}
use Rattle.store_unload.specs.declared.writing.MoveFault.{MoveFault}
use Rattle.store_unload.specs.declared.writing.MoveFault.TheVariants as move_fault
use Rattle.request_rules.specs.Stored.{read_stop}
use Rattle.cca_machine.specs.Coprocessor.{cca, IsCell}
use Rattle.store_unload.specs.Statuses.{status_of_lem}
use Rattle.store_unload.specs.declared.status.Status.{Status}
use Rattle.store_unload.specs.declared.status.Status.TheVariants as status
use Rattle.store_unload.specs.declared.unloading.MoveStatus.{MoveStatus}
use Rattle.store_unload.specs.declared.unloading.MoveStatus.TheVariants.{Run, Refused, ReportFault}

-- ---- the statuses

-- a move ends with these
abbrev pub IsMoveStatus : MoveStatus → Type 0
IsMoveStatus (Run status.Done) = ⊤
IsMoveStatus (Run status.Usage) = ⊤
IsMoveStatus (Run status.NoMemory) = ⊤
IsMoveStatus (Run status.WriteFault) = ⊤
IsMoveStatus (Run status.ModuleFault) = ⊤
IsMoveStatus (Run status.StoreFault) = ⊤
IsMoveStatus (Run (status.Damaged device cell)) = IsCell device cell
IsMoveStatus (Run status.ReadFault) = ⊥
IsMoveStatus (Run status.EntropyFault) = ⊥
IsMoveStatus (Run status.InputLimit) = ⊥
IsMoveStatus (Refused rule) = ⊤
IsMoveStatus ReportFault = ⊤

-- once the disks are opened, with these
abbrev pub IsLabelStatus : MoveStatus → Type 0
IsLabelStatus (Run status.Done) = ⊤
IsLabelStatus (Run status.WriteFault) = ⊤
IsLabelStatus (Run status.StoreFault) = ⊤
IsLabelStatus (Run (status.Damaged Store cell)) = cell < 1024
IsLabelStatus (Run (status.Damaged Module cell)) = ⊥
IsLabelStatus (Run status.ModuleFault) = ⊥
IsLabelStatus (Run status.Usage) = ⊥
IsLabelStatus (Run status.NoMemory) = ⊥
IsLabelStatus (Run status.ReadFault) = ⊥
IsLabelStatus (Run status.EntropyFault) = ⊥
IsLabelStatus (Run status.InputLimit) = ⊥
IsLabelStatus (Refused rule) = ⊤
IsLabelStatus ReportFault = ⊤

-- once the words are right and the memory is taken, with these
abbrev pub IsOpenStatus : MoveStatus → Type 0
IsOpenStatus (Run status.Done) = ⊤
IsOpenStatus (Run status.WriteFault) = ⊤
IsOpenStatus (Run status.ModuleFault) = ⊤
IsOpenStatus (Run status.StoreFault) = ⊤
IsOpenStatus (Run (status.Damaged device cell)) = IsCell device cell
IsOpenStatus (Run status.Usage) = ⊥
IsOpenStatus (Run status.NoMemory) = ⊥
IsOpenStatus (Run status.ReadFault) = ⊥
IsOpenStatus (Run status.EntropyFault) = ⊥
IsOpenStatus (Run status.InputLimit) = ⊥
IsOpenStatus (Refused rule) = ⊤
IsOpenStatus ReportFault = ⊤

-- how a move ends whose labels were told, or up to one
abbrev pub told_status : Result (Unit {0}) MoveFault → MoveStatus
told_status (Ok done) = Run status.Done
told_status (Err move_fault.WriteFault) = Run status.WriteFault
told_status (Err move_fault.ReportFault) = ReportFault
told_status (Err (move_fault.Store fault)) = Run (status_of_lem (Err (read_stop fault)))

-- no device was called
abbrev pub MoveCallsNone : MoveStatus → Type 0
MoveCallsNone outcome = (outcome ≡ Run status.Usage) ⊎ (outcome ≡ Run status.NoMemory)

-- the stop of a disk, where the status is one
abbrev pub status_stop : Status → Result (Unit {0}) Stop
status_stop status.ModuleFault = Err stop.ModuleFault
status_stop status.StoreFault = Err stop.StoreFault
status_stop (status.Damaged device cell) = Err (stop.Damaged device cell)
status_stop _ = Ok tt

abbrev pub disk_stop : MoveStatus → Result (Unit {0}) Stop
disk_stop (Run told) = status_stop told
disk_stop (Refused rule) = Ok tt
disk_stop ReportFault = Ok tt

-- labels were told: all of them, or up to one
abbrev pub TellsLabels : MoveStatus → Type 0
TellsLabels outcome =
    (outcome ≡ Run status.Done) ⊎ ((outcome ≡ Run status.WriteFault) ⊎ (outcome ≡ ReportFault))

-- the move was judged: it is refused, or labels were told
abbrev pub TellsMove : MoveStatus → Type 0
TellsMove outcome = ((rule : ℕ) × (outcome ≡ Refused rule)) ⊎ TellsLabels outcome

-- a rule refused the move, or the module failed or is damaged: that is found before a label is read
abbrev pub TellsNone : MoveStatus → Type 0
TellsNone outcome =
    ((rule : ℕ) × (outcome ≡ Refused rule)) ⊎ ((outcome ≡ Run status.ModuleFault)
    ⊎ ((cell : ℕ) × (outcome ≡ Run (status.Damaged Module cell))))

-- ---- what it comes to

-- a device didn't fail
abbrev pub Still : ℕ → ℕ → Type 0
Still before now = Rose before now → ⊥

-- What a move comes to, from the state for which the disks stand. `disks` says that no disk failed, and `outputs` that
-- file and report didn't.
pub record MoveTold (s : State) (w : Move) (outcome : MoveStatus)
    (file0 file1 report0 report1 : Option (List ℕ)) (disks outputs : Type 0) : Type 0 where
  -- the whole file and the whole report; no rule refuses the move
  pub done : outcome ≡ Run status.Done → ToldAll s w file0 file1 report0 report1
  pub permitted : TellsLabels outcome → first_failing (move_checks s w) ≡ None
  -- file or report failed: labels were told up to one
  pub cut : (outcome ≡ Run status.WriteFault) ⊎ (outcome ≡ ReportFault)
      → ToldTo s w file0 file1 report0 report1
  -- the store failed: nothing was told yet; or no rule refuses the move, and labels were told up to one
  pub lost : outcome ≡ Run status.StoreFault
      → ((file1 ≡ file0) × (report1 ≡ report0))
      ⊎ ((first_failing (move_checks s w) ≡ None) × ToldTo s w file0 file1 report0 report1)
  -- this is the first rule that refuses the move, and then it is always told, unless a disk failed
  pub refused : (rule : ℕ) → outcome ≡ Refused rule → first_failing (move_checks s w) ≡ Some rule
  pub refuses : disks → (rule : ℕ) → first_failing (move_checks s w) ≡ Some rule
      → (outcome ≡ Refused rule) ⊎ (outcome ≡ Run status.NoMemory)
  -- disks that stand for a state aren't damaged
  pub undamaged : (device : Device) (cell : ℕ) → outcome ≡ Run (status.Damaged device cell) → ⊥
  -- where no device fails and no rule refuses the move, all labels are told
  pub complete : disks → outputs → first_failing (move_checks s w) ≡ None
      → (outcome ≡ Run status.Done) ⊎ (outcome ≡ Run status.NoMemory)

-- ---- whatever the disks tell of their bytes

-- What file and report got by what was read of each label's record, under these registers and under one transport key, which
-- was read too, and which no rule refuses: the parts of all labels that these rows hold, where the move is done, and else of
-- labels up to one.
pub record MoveRests (registers : Masters) (roles : List (Option Role)) (w : Move) (rows : List (Option Row))
    (outcome : MoveStatus) (file0 file1 report0 report1 : Option (List ℕ)) : Type 0 where
  pub body : List ℕ
  pub transport : Denoted
  pub read : TransportAsRead registers roles w rows body transport
  pub done : outcome ≡ Run status.Done → GotParts (keys_of registers) w rows transport.clear.key
      (held_count (row_directory rows)) file0 file1 report0 report1
  pub cut : (outcome ≡ Run status.Done → ⊥)
      → GotPartsTo (keys_of registers) w rows transport.clear.key file0 file1 report0 report1

-- What was read of a module and of a store. A disk that tells its bytes fixes what is read of it; one that tells none, and
-- may give others at each read, is read as some registers and roles, and as some labels, all the same.
pub record KnownAsRead (module_ store : Medium) (registers : Masters) (roles : List (Option Role))
    (rows : List (Option Row)) : Type 0 where
  -- where the module tells its bytes they stand for these registers
  pub in_module : Told module_ (λ image. StandsForMasters image registers)
  -- and for these roles
  pub roles_in_module : Told module_ (λ image. StandsForRoles image roles)
  -- where the store tells its bytes these are its labels
  pub in_store : Told store (HoldsRows rows)

-- what file and report got of a module and a store, by what was read of them
pub record MovesAsRead (module_ store : Medium) (w : Move) (outcome : MoveStatus)
    (file0 file1 report0 report1 : Option (List ℕ)) : Type 0 where
  pub registers : Masters
  pub roles : List (Option Role)
  pub rows : List (Option Row)
  pub known : KnownAsRead module_ store registers roles rows
  pub moved : MoveRests registers roles w rows outcome file0 file1 report0 report1

-- this is the first rule that refuses the move, by what was read of them
pub record MoveRefusedAsRead (module_ store : Medium) (w : Move) (rule : ℕ) : Type 0 where
  pub registers : Masters
  pub roles : List (Option Role)
  pub rows : List (Option Row)
  pub known : KnownAsRead module_ store registers roles rows
  pub body : List ℕ
  pub refused : RefusedAsRead registers roles w rows body rule

-- ---- what was not called

-- no device was called
pub record MoveUncalled {K P M D : Type 0} (file0 file1 : K) (report0 report1 : P)
    (module0 module1 : M) (store0 store1 : D) : Type 0 where
  pub no_file : file1 ≡ file0
  pub no_report : report1 ≡ report0
  pub no_module : module1 ≡ module0
  pub no_store : store1 ≡ store0

-- nothing was told
pub record MoveUntold {K P : Type 0} (file0 file1 : K) (report0 report1 : P) : Type 0 where
  pub no_file : file1 ≡ file0
  pub no_report : report1 ≡ report0

-- ---- all that it leaves

-- file and report at a moment, and how often each has failed
pub record Outputs : Type 1 where
  pub file : Option (List ℕ)
  pub file_faults : ℕ
  pub report : Option (List ℕ)
  pub report_faults : ℕ

abbrev pub outputs : Option (List ℕ) → ℕ → Option (List ℕ) → ℕ → Outputs
outputs file file_faults report report_faults = record {
  file = file;
  file_faults = file_faults;
  report = report;
  report_faults = report_faults;
}

-- what is left of file and report, and why the move ended: bytes are only added
pub record OutputsLeft (outcome : MoveStatus) (o : Span Outputs) : Type 0 where
  pub file_left : TellsFault o.old.file_faults o.new.file_faults (outcome ≡ Run status.WriteFault)
  pub report_left : TellsFault o.old.report_faults o.new.report_faults (outcome ≡ ReportFault)
  pub file_grows : WhereTold o.old.file o.new.file Grows
  pub report_grows : WhereTold o.old.report o.new.report Grows

-- What a move leaves that calls the devices.
pub record MoveLeft {K P : Type 0} (w : Move) (outcome : MoveStatus) (file0 file1 : K)
    (report0 report1 : P) (d : Span Devices) (o : Span Outputs) : Type 0 where
  -- what it comes to, from each state for which the disks stand: which file and which report, and why it ended
  pub told : (s : State) → OnDisks cca s d.old.world.module_ d.old.world.store
      → MoveTold s w outcome o.old.file o.new.file o.old.report o.new.report
      (Still d.old.module_faults d.new.module_faults
      × Still d.old.store_faults d.new.store_faults)
      (Still o.old.file_faults o.new.file_faults × Still o.old.report_faults o.new.report_faults)
  -- what file and report got by what was read of each label's record, at Done, and wherever one of them isn't as before
  pub own : (outcome ≡ Run status.Done) ⊎ (MoveUntold file0 file1 report0 report1 → ⊥)
      → MovesAsRead d.old.world.module_ d.old.world.store w outcome
      o.old.file o.new.file o.old.report o.new.report
  -- the rule that refuses it, by what was read of the module and of the transport label's record
  pub refusal : (rule : ℕ) → outcome ≡ Refused rule
      → MoveRefusedAsRead d.old.world.module_ d.old.world.store w rule
  -- it is judged and told only where the disks stand for a state
  pub sound : TellsMove outcome → IsSound cca d.old.world.module_ d.old.world.store
  -- where they don't, and where a rule refuses it or the module failed, nothing was told
  pub unsound : (IsSound cca d.old.world.module_ d.old.world.store → ⊥)
      → MoveUntold file0 file1 report0 report1
  pub untold : TellsNone outcome → MoveUntold file0 file1 report0 report1
  -- damage is told where a cell is broken, and then always, unless a disk failed
  pub damage : DamageTold cca (disk_stop outcome) d
  -- the disks aren't written
  pub disks_left : OpeningLeft (disk_stop outcome) d
  pub outputs_left : OutputsLeft outcome o
