-- What a verb decided: what is still to be carried out.
use Rattle.std.specs.Prelude.{◌≡◌, ◌≢◌, ◌≤◌, ◌<◌, true, false, ⊤, IsSome, ℕ, List, [], ◌∷◌, length, codes, Option, Some, None, Result, Ok, Err}
use Rattle.std.specs.Io.KnownBytes.{Consumes}
use Rattle.cca_roles.specs.RoleNames.{default_name}
use Rattle.record_bodies.specs.Ages.{any_old as any_old_label, any_ahead_entry}
use Rattle.record_bodies.specs.Directory.{label_at}
use Rattle.record_bodies.specs.Entries.{Entry, row_directory}
use Rattle.record_bodies.specs.StoreStands.{KeepsLabels}
use Rattle.record_bodies.specs.Turning.{aged}
use Rattle.record_bodies.specs.declared.rows.Row.{Row}
use Rattle.key_tokens.specs.Denotes.{Denoted, denoted}
use Rattle.record_bodies.specs.declared.actions.StoreAction.TheVariants.{Ahead}
use Rattle.key_cells.specs.Bench.{Bench}
use Rattle.key_cells.specs.Lease.{bench_of, holding}
use Rattle.key_cells.specs.declared.leases.Lease.{Lease}
use Rattle.master_registers.specs.Actions.{after_action}
use Rattle.master_registers.specs.Loaded.{Loaded, masters_in}
use Rattle.master_registers.specs.Masters.{Masters}
use Rattle.master_registers.specs.declared.actions.Action.{Action}
use Rattle.master_registers.specs.declared.actions.Action.TheVariants.{First, Middle, Last, Clear, Set}
use Rattle.master_registers.specs.declared.registers.Registers.{Registers}
use Rattle.line_service.specs.Replies.{Field, Hex, written}
use Rattle.verb_script.specs.Grammar.{Request}
use Rattle.line_service.specs.declared.stops.Stop.{Stop}
use Rattle.verb_rules.specs.Ready.{IsReadyAhead}
use Rattle.cca_machine.specs.Keys.{any_old, cell_with}
use Rattle.cca_machine.specs.Draws.{bytes_drawn, draw_of, draws_random}
use Rattle.cca_machine.specs.Lines.{drawn_where}
use Rattle.cca_machine.specs.Operands.{operands, listed}
use Rattle.verb_rules.specs.Keys.{keys_of, token_for}
use Rattle.cca_machine.specs.State.{State}
use Rattle.cca_machine.specs.Verdict.{Refusal, first_refusal, action_questions, create_questions, define_questions, remove_questions, verb_verdict, whole_verb_verdict}
use Rattle.cca_machine.specs.Act.{Effect, Show, Become, DefineRole, RemoveRole, Create, Write, Delete, ChangeLabels, effect}
use Rattle.cca_machine.specs.Refusals.{IsRefusal, refusal_of}
use Rattle.cca_machine.specs.declared.effects.Effect.{Effect as CodeEffect}
use Rattle.cca_machine.specs.declared.effects.Effect.TheVariants as code

-- the memory knows the labels of the state, for which some store stands
pub record IsRecorded (s : State) (rows : List (Option Row)) : Type 0 where
  pub image : List ℕ
  pub keeps : KeepsLabels (keys_of s.registers) rows s.labels image

-- the reply has the fields that the effect shows
pub record IsShown (e : Effect) (reply : List ℕ) : Type 0 where
  pub fields : List Field
  pub is : e ≡ Show fields
  pub reply_is : reply ≡ written fields

-- no key operand of the request is under the old master key
abbrev pub WarnsNot : State → Request → Type 0
WarnsNot s request = any_old s (listed (operands request)) ≡ false

-- what an action makes of the labels: SET makes those that are ahead current, and every other key old
abbrev pub labels_after : Action → State → List (Option Entry)
labels_after First s = s.labels
labels_after Middle s = s.labels
labels_after Last s = s.labels
labels_after Clear s = s.labels
labels_after Set s = aged (keys_of s.registers) s.labels

-- the action loses no key: of CLEAR that no label is ahead, and of SET that none is under the old master key
abbrev pub LosesNone : Action → State → Type 0
LosesNone First s = ⊤
LosesNone Middle s = ⊤
LosesNone Last s = ⊤
LosesNone Clear s = any_ahead_entry s.labels ≡ false
LosesNone Set s = any_old_label s.labels ≡ false

-- the effect gives the label at this place the key of a token, and the reply has its fields
pub record IsWritten (s : State) (e : Effect) (place : ℕ) (token reply : List ℕ) : Type 0 where
  pub label : List ℕ
  pub key : Denoted
  pub fields : List Field
  pub is : e ≡ Write label key fields
  pub placed : cell_with s label ≡ Some place
  pub stands : denoted (keys_of s.registers) token ≡ Some key
  pub reply_is : reply ≡ written fields

-- the effect takes away the label at this place
pub record IsDeleted (s : State) (e : Effect) (place : ℕ) : Type 0 where
  pub label : List ℕ
  pub is : e ≡ Delete label
  pub placed : cell_with s label ≡ Some place

-- what is still to be carried out gives this verdict and this effect
abbrev pub IsLeft : State → Bench → Request → Option Refusal → Effect → CodeEffect → List ℕ → Type 0
IsLeft s bench request v e (code.Refused r) reply = v ≡ Some (refusal_of r)
IsLeft s bench request v e code.Shown reply = (v ≡ None) × IsShown e reply
IsLeft s bench request v e (code.Change action) reply =
    (v ≡ first_refusal (action_questions s action))
    × (e ≡ Become (after_action action bench.part s.registers) (labels_after action s))
    × LosesNone action s × WarnsNot s request
IsLeft s bench request v e (code.DefineRole name points) reply =
    (v ≡ first_refusal (define_questions s name)) × (e ≡ DefineRole name points) × WarnsNot s request
IsLeft s bench request v e (code.RemoveRole name) reply =
    (v ≡ first_refusal (remove_questions s name)) × (e ≡ RemoveRole name) × WarnsNot s request
IsLeft s bench request v e (code.Create label) reply =
    (v ≡ first_refusal (create_questions s label)) × (e ≡ Create label) × WarnsNot s request
IsLeft s bench request v e (code.Write place token) reply = (v ≡ None) × IsWritten s e place token reply
IsLeft s bench request v e (code.Delete place) reply = (v ≡ None) × IsDeleted s e place × WarnsNot s request
IsLeft s bench request v e (code.Reencipher a) reply =
    (v ≡ None) × (e ≡ ChangeLabels a) × WarnsNot s request

-- it gives the verdict and the effect of the verb, with these random bytes
abbrev pub IsDecided : State → Bench → List ℕ → Request → CodeEffect → List ℕ → Type 0
IsDecided s bench drawn request e reply = IsLeft s bench request (whole_verb_verdict s drawn request) (effect s drawn request.name request) e reply

-- the random bytes that were drawn are the next ones, and as many as the machine takes
pub record HasDrawn (drawn : List ℕ) (count : ℕ) (before now : Option (List ℕ)) : Type 0 where
  pub consumed : Consumes before now drawn
  pub size : length drawn ≡ count

-- with the random bytes that were drawn, what is still to be carried out is the verb's
pub record Decides (s : State) (bench : Bench) (request : Request) (e : CodeEffect) (reply : List ℕ) (before now : Option (List ℕ)) : Type 0 where
  pub drawn : List ℕ
  pub decided : IsDecided s bench drawn request e reply
  pub random : HasDrawn drawn (drawn_where (verb_verdict s request) (bytes_drawn (draw_of request.name request) drawn)) before now

-- the same, or the random source failed, and no rule that is asked before refuses the request
abbrev pub MayDecide : State → Bench → Request → Result CodeEffect Stop → List ℕ → Option (List ℕ) → Option (List ℕ) → Type 0
MayDecide s bench request (Ok e) reply before now = Decides s bench request e reply before now
MayDecide s bench request (Err stop) reply before now = (verb_verdict s request ≡ None) × (draws_random request ≡ true)

-- a key goes into a record, or into the reply
abbrev pub IsDelivered : State → Effect → CodeEffect → List ℕ → Type 0
IsDelivered s e (code.Refused r) reply = ⊥
IsDelivered s e code.Shown reply = IsShown e reply
IsDelivered s e (code.Change action) reply = ⊥
IsDelivered s e (code.DefineRole name points) reply = ⊥
IsDelivered s e (code.RemoveRole name) reply = ⊥
IsDelivered s e (code.Create label) reply = ⊥
IsDelivered s e (code.Write place token) reply = IsWritten s e place token reply
IsDelivered s e (code.Delete place) reply = ⊥
IsDelivered s e (code.Reencipher a) reply = ⊥

-- the token of a second key, where there is one
abbrev pub token2_fields : Option (List ℕ) → List Field
token2_fields None = []
token2_fields (Some token) = Hex (codes "token2") token ∷ []

-- the same, whatever the state: this token goes to this place, or into the reply
abbrev pub IsDelivery : List ℕ → Option ℕ → CodeEffect → Type 0
IsDelivery token place (code.Refused r) = ⊥
IsDelivery token place code.Shown = ⊤
IsDelivery token place (code.Change action) = ⊥
IsDelivery token place (code.DefineRole name points) = ⊥
IsDelivery token place (code.RemoveRole name) = ⊥
IsDelivery token place (code.Create label) = ⊥
IsDelivery token place (code.Write other bytes) = (place ≡ Some other) × (bytes ≡ token)
IsDelivery token place (code.Delete other) = ⊥
IsDelivery token place (code.Reencipher a) = ⊥

-- the reply has these fields, and room for its end
pub record Shows (fields : List Field) (reply : List ℕ) : Type 0 where
  pub is : reply ≡ written fields
  pub size : length reply ≤ 69000

-- a verb that shows these fields, or is refused with this verdict; it can be carried out in every
-- state
abbrev pub ShowsOr : Option Refusal → List Field → CodeEffect → List ℕ → Type 0
ShowsOr v fields (code.Refused r) reply =
    IsRefusal v r × (reply ≡ [])
ShowsOr v fields code.Shown reply =
    (v ≡ None) × Shows fields reply
ShowsOr v fields (code.Change action) reply = ⊥
ShowsOr v fields (code.DefineRole name points) reply = ⊥
ShowsOr v fields (code.RemoveRole name) reply = ⊥
ShowsOr v fields (code.Create label) reply = ⊥
ShowsOr v fields (code.Write place token) reply = ⊥
ShowsOr v fields (code.Delete place) reply = ⊥
ShowsOr v fields (code.Reencipher a) reply = ⊥

-- the memory knows the label at this place
abbrev pub IsHeldAt : List (Option Row) → ℕ → Type 0
IsHeldAt rows place = IsSome (label_at (row_directory rows) place)

-- what is certain of it in every state
abbrev pub IsReady : Registers → Bench → List (Option Row) → CodeEffect → List ℕ → Type 0
IsReady held bench rows (code.Refused r) reply = (reply ≡ []) × (length r.operand.now < 100)
IsReady held bench rows code.Shown reply = length reply ≤ 69000
IsReady held bench rows (code.Change action) reply = reply ≡ []
IsReady held bench rows (code.DefineRole name points) reply = reply ≡ []
IsReady held bench rows (code.RemoveRole name) reply = (reply ≡ []) × (name ≢ default_name)
IsReady held bench rows (code.Create label) reply = reply ≡ []
IsReady held bench rows (code.Write place token) reply =
    IsHeldAt rows place × IsSome (denoted (keys_of (masters_in held bench)) token) × (length reply ≤ 69000)
IsReady held bench rows (code.Delete place) reply = (reply ≡ []) × IsHeldAt rows place
IsReady held bench rows (code.Reencipher a) reply =
    (reply ≡ []) × IsSome held.current_pattern × (a ≡ Ahead → IsReadyAhead held bench)

-- the effect writes the store
abbrev pub WritesStore : CodeEffect → Type 0
WritesStore (code.Refused r) = ⊥
WritesStore code.Shown = ⊥
WritesStore (code.Change action) = ⊥
WritesStore (code.DefineRole name points) = ⊥
WritesStore (code.RemoveRole name) = ⊥
WritesStore (code.Create label) = ⊤
WritesStore (code.Write place token) = ⊤
WritesStore (code.Delete place) = ⊤
WritesStore (code.Reencipher a) = ⊤

-- the effect goes through every label of the store
abbrev pub GoesThrough : CodeEffect → Type 0
GoesThrough (code.Refused r) = ⊥
GoesThrough code.Shown = ⊥
GoesThrough (code.Change action) = ⊥
GoesThrough (code.DefineRole name points) = ⊥
GoesThrough (code.RemoveRole name) = ⊥
GoesThrough (code.Create label) = ⊥
GoesThrough (code.Write place token) = ⊥
GoesThrough (code.Delete place) = ⊥
GoesThrough (code.Reencipher a) = ⊤

-- the bench with the places that a verb may write as they are in another one
abbrev pub with_places : Bench → Bench → Bench
with_places bench other =
    record bench {
      part = other.part;
      first = other.first;
      second = other.second;
      key = other.key;
      fresh = other.fresh;
      schedules = other.schedules;
      text = other.text;
    }

-- of a lease no more than these places may have changed
abbrev pub ChangesPlaces : Lease → Lease → Type 0
ChangesPlaces old new = new ≡ holding old (with_places (bench_of old) (bench_of new))

-- the same of the verb, or of a part of it, over a lease
pub record ShowsOver (old new : Lease) (v : Option Refusal) (fields : List Field) (e : CodeEffect)
    (reply : List ℕ) : Type 0 where
  pub shows : ShowsOr v fields e reply
  pub places : ChangesPlaces old new

-- The token of this key under the current master key, in every state that has the registers, and it
-- stands for the key. Of the lease no more than the places of a verb changed.
pub record MakesToken (held : Registers) (key : Denoted) (old new : Lease) (token : List ℕ)
    : Type 0 where
  pub made : (m : Masters) → Loaded m held (bench_of old) → token ≡ token_for (keys_of m) key
  pub stands : (m : Masters) → Loaded m held (bench_of old)
      → denoted (keys_of m) token ≡ Some key
  pub places : ChangesPlaces old new
