-- What is answered of a change of a disk, and what comes of an effect.
use Rattle.std.specs.Prelude.{◌≡◌, ℕ, List, [], ◌∷◌, codes, Option, Some, None, Result, Ok, Err, map, OnErr, OnOk, length, ◌<◌, ⊤}
use Rattle.record_bodies.specs.Entries.{row_directory, turned}
use Rattle.key_records.specs.declared.faults.RecordFault.{RecordFault}
use Rattle.key_records.specs.declared.faults.RecordFault.TheVariants as record_fault
use Rattle.record_bodies.specs.declared.rows.Row.{Row}
use Rattle.cca_roles.specs.declared.faults.RoleFault.{RoleFault}
use Rattle.cca_roles.specs.declared.faults.RoleFault.TheVariants as role
use Rattle.master_registers.specs.Actions.{after_action}
use Rattle.master_registers.specs.declared.actions.Action.{Action}
use Rattle.master_registers.specs.declared.actions.Action.TheVariants.{First, Middle, Last, Clear, Set}
use Rattle.master_registers.specs.declared.registers.NewState.{NewState}
use Rattle.master_registers.specs.declared.registers.NewState.TheVariants as new
use Rattle.master_registers.specs.declared.registers.Registers.{Registers}
use Rattle.master_registers.specs.declared.faults.RegisterFault.{RegisterFault}
use Rattle.master_registers.specs.declared.faults.RegisterFault.TheVariants as fault
use Rattle.device_cells.specs.Medium.{Medium}
use Rattle.line_service.specs.Replies.{Reply, Refused, Done, Text, Number, spelled}
use Rattle.line_service.specs.declared.stops.Stop.{Stop}
use Rattle.line_service.specs.declared.stops.Stop.TheVariants.{ModuleFault, StoreFault}
use Rattle.verb_rules.specs.Rules.{rule_number}
use Rattle.cca_machine.specs.State.{State}
use Rattle.cca_machine.specs.Verdict.{Questions, Refusal, first_refusal, action_questions, create_questions}
use Rattle.cca_machine.specs.Act.{Effect, Become, Create, Outcome, state_after, state_between, fields_after, module_cells_after, store_cells_after, refused}
use Rattle.cca_machine.specs.Deciding.{labels_after}
use Rattle.cca_machine.specs.declared.effects.Effect.{Effect as CodeEffect}
use Rattle.cca_machine.specs.declared.effects.Effect.TheVariants as code
use Rattle.record_bodies.specs.declared.actions.StoreAction.{StoreAction}
use Rattle.reencipher.specs.Runs.{IsLabelCell, TurnsCells}
use Rattle.request_rules.specs.Stored.{read_stop}
use Rattle.cca_requests.specs.declared.changes.Unmade.{Unmade}
use Rattle.cca_requests.specs.declared.changes.Unmade.TheVariants as unmade

-- the stop where a disk failed
abbrev pub made_stop : Result (Unit {0}) Unmade → Result (Unit {0}) Stop
made_stop (Ok done) = Ok tt
made_stop (Err (unmade.Refused _)) = Ok tt
made_stop (Err (unmade.Stopped stop)) = Err stop

-- the reply; a stop has none
abbrev pub made_reply : Result (Unit {0}) Unmade → Reply
made_reply (Ok done) = Done []
made_reply (Err (unmade.Refused r)) = Refused (rule_number r.rule) r.operand.now
made_reply (Err (unmade.Stopped _)) = Done []

-- where a rule is broken the name of the operand is short
abbrev pub IsShortlyNamed : Result (Unit {0}) Unmade → Type 0
IsShortlyNamed (Ok done) = ⊤
IsShortlyNamed (Err (unmade.Refused r)) = length r.operand.now < 100
IsShortlyNamed (Err (unmade.Stopped _)) = ⊤

-- a call ends as it should, with its reply, and after a stop with none
pub record IsAnswer (ending : Result (Unit {0}) Stop) (what : Reply) (result : Result (Unit {0}) Stop)
    (text : List ℕ) : Type 0 where
  pub stop : result ≡ ending
  pub reply : OnOk result (text ≡ spelled what)
  pub silent : OnErr result (text ≡ [])

-- ---- what comes of an effect

-- what comes of an effect without a warning
abbrev pub plainly : State → Effect → Outcome
plainly s e = record {
  state = state_after s e;
  reply = Done (fields_after s e);
  module_cells = module_cells_after s e;
  store_cells = store_cells_after s e;
  between = state_between s e;
}

abbrev pub or_effected : Option Refusal → State → Effect → Outcome
or_effected (Some r) s e = refused s r
or_effected None s e = plainly s e

-- what comes of an action with this key part
abbrev pub action_outcome : State → Action → List ℕ → Outcome
action_outcome s action part =
    or_effected (first_refusal (action_questions s action)) s
    (Become (after_action action part s.registers) (labels_after action s))

-- ---- an action on the registers

abbrev pub state_name : NewState → List ℕ
state_name new.Empty = codes "empty"
state_name new.Partial = codes "partial"
state_name new.Full = codes "full"

abbrev pub change_stop : Result Registers RegisterFault → Result (Unit {0}) Stop
change_stop (Ok held) = Ok tt
change_stop (Err fault.DiskFault) = Err ModuleFault
change_stop (Err fault.RegisterState) = Ok tt
change_stop (Err fault.SamePattern) = Ok tt

-- the reply to a change; a fault of the module has none
abbrev pub change_reply : Result Registers RegisterFault → Reply
change_reply (Ok held) = Done (Text (codes "new") (state_name held.new_state) ∷ [])
change_reply (Err fault.DiskFault) = Done []
change_reply (Err fault.RegisterState) = Refused 25 (codes "-")
change_reply (Err fault.SamePattern) = Refused 26 (codes "-")

-- what an action makes of the rows of the memory: SET turns them
abbrev pub rows_after : Action → List (Option Row) → List (Option Row)
rows_after First rows = rows
rows_after Middle rows = rows
rows_after Last rows = rows
rows_after Clear rows = rows
rows_after Set rows = map turned rows

-- where it fails they stay
abbrev pub rows_by : Result Registers RegisterFault → Action → List (Option Row) → List (Option Row)
rows_by (Ok held) action rows = rows_after action rows
rows_by (Err cause) action rows = rows

-- where no rule refuses the action, the memory has the rows after it; and else those before
abbrev pub IsTurnedBy : State → Action → Result (Unit {0}) Stop
    → List (Option Row) → List (Option Row) → Type 0
IsTurnedBy s action result rows now =
    (first_refusal (action_questions s action) ≡ None → OnOk result (now ≡ rows_after action rows))
    × ((r : Refusal) → first_refusal (action_questions s action) ≡ Some r
    → OnOk result (now ≡ rows))

-- ---- a change of the roles

-- what comes of it, by the verdict and the effect
abbrev pub role_outcome : List Questions → State → Effect → Outcome
role_outcome questions s e = or_effected (first_refusal questions) s e

abbrev pub role_stop : Result (Unit {0}) RoleFault → Result (Unit {0}) Stop
role_stop (Ok done) = Ok tt
role_stop (Err role.DiskFault) = Err ModuleFault
role_stop (Err (role.Damaged cell)) = Err ModuleFault
role_stop (Err role.TableFull) = Ok tt
role_stop (Err role.Unknown) = Ok tt

-- the reply to a change; a fault of the module has none
abbrev pub role_reply : Result (Unit {0}) RoleFault → Reply
role_reply (Ok done) = Done []
role_reply (Err role.DiskFault) = Done []
role_reply (Err (role.Damaged cell)) = Done []
role_reply (Err role.TableFull) = Refused 30 (codes "name")
role_reply (Err role.Unknown) = Refused 30 (codes "name")

-- ---- a change of the records

-- what comes of holding another label
abbrev pub create_outcome : State → List ℕ → Outcome
create_outcome s label = or_effected (first_refusal (create_questions s label)) s (Create label)

abbrev pub record_stop : Result (Unit {0}) RecordFault → Result (Unit {0}) Stop
record_stop (Ok done) = Ok tt
record_stop (Err record_fault.DiskFault) = Err StoreFault
record_stop (Err (record_fault.Damaged cell)) = Err StoreFault
record_stop (Err record_fault.Full) = Ok tt
record_stop (Err record_fault.Exists) = Ok tt

-- the reply to it; a fault of the store has none
abbrev pub record_reply : Result (Unit {0}) RecordFault → Reply
record_reply (Ok done) = Done []
record_reply (Err record_fault.DiskFault) = Done []
record_reply (Err (record_fault.Damaged cell)) = Done []
record_reply (Err record_fault.Full) = Refused 28 (codes "label")
record_reply (Err record_fault.Exists) = Refused 29 (codes "label")

-- ---- an action on every label

abbrev pub run_stop : Result ℕ RecordFault → Result (Unit {0}) Stop
run_stop (Ok n) = Ok tt
run_stop (Err why) = Err (read_stop why)

-- the reply to it tells how many labels were changed; a stop has none
abbrev pub run_reply : Result ℕ RecordFault → Reply
run_reply (Ok n) = Done (Number (codes "changed") n ∷ [])
run_reply (Err why) = Done []

-- What is answered of an action on every label, whatever the store tells of its bytes: how its run came out. Of a run that
-- is done the reply tells how many labels the memory knew as ones that the action changes, and a damaged cell is one that
-- holds a label.
pub record RunsThrough (a : StoreAction) (held : Registers) (rows later : List (Option Row))
    (d0 d1 : Medium) (result : Result (Unit {0}) Stop) (reply : List ℕ) : Type 0 where
  pub outcome : Result ℕ RecordFault
  pub cells : TurnsCells a held rows later d0 d1 outcome
  pub cell : (n : ℕ) → outcome ≡ Err (record_fault.Damaged n) → IsLabelCell rows n
  pub directory : row_directory later ≡ row_directory rows
  pub answer : IsAnswer (run_stop outcome) (run_reply outcome) result reply

-- of an effect that is one
abbrev pub RunsEffect : CodeEffect → Registers → List (Option Row) → List (Option Row) → Medium → Medium
    → Result (Unit {0}) Stop → List ℕ → Type 0
RunsEffect (code.Reencipher a) held rows later d0 d1 result reply =
    RunsThrough a held rows later d0 d1 result reply
RunsEffect (code.Refused r) held rows later d0 d1 result reply = ⊤
RunsEffect code.Shown held rows later d0 d1 result reply = ⊤
RunsEffect (code.Change action) held rows later d0 d1 result reply = ⊤
RunsEffect (code.DefineRole name points) held rows later d0 d1 result reply = ⊤
RunsEffect (code.RemoveRole name) held rows later d0 d1 result reply = ⊤
RunsEffect (code.Create label) held rows later d0 d1 result reply = ⊤
RunsEffect (code.Write place token) held rows later d0 d1 result reply = ⊤
RunsEffect (code.Delete place) held rows later d0 d1 result reply = ⊤
