-- What a request makes of the memory, whatever the disks tell of their bytes.
use Rattle.std.specs.Prelude.{◌≡◌, ◌⊎◌, ◌++◌, ℕ, List, Option, Some, None, set, get_or, IsTrue}
use Rattle.cca_roles.specs.Roles.{after_define, after_remove}
use Rattle.cca_roles.specs.declared.roles.Role.{Role}
use Rattle.record_bodies.specs.Directory.{free_cell}
use Rattle.record_bodies.specs.Entries.{key_row, label_or, null_row, row_directory}
use Rattle.record_bodies.specs.declared.rows.Row.{Row}
use Rattle.line_service.specs.Replies.{Refused, ok_text, spelled}
use Rattle.verb_script.specs.Grammar.{Request}
use Rattle.cca_machine.specs.Deciding.{GoesThrough, WritesStore}
use Rattle.cca_machine.specs.Operands.{is_reencipher, needs_store}
use Rattle.cca_machine.specs.declared.effects.Effect.{Effect}
use Rattle.cca_machine.specs.declared.effects.Effect.TheVariants as code
use Rattle.request_rules.specs.Standing.{Tables}
use Rattle.cca_requests.specs.Changes.{rows_after}

-- ---- the reply

-- it is a refusal's
pub record IsRefusal (reply : List ℕ) : Type 0 where
  pub rule : ℕ
  pub operand : List ℕ
  pub is : reply ≡ spelled (Refused rule operand)

-- it begins as that to a request that was carried out
pub record SaysDone (reply : List ℕ) : Type 0 where
  pub rest : List ℕ
  pub is : reply ≡ ok_text ++ rest

-- the reply is a refusal's, and it is as before; or it is as after
abbrev pub RefusedOr : List ℕ → Type 0 → Type 0 → Type 0
RefusedOr reply Before After = (IsRefusal reply × Before) ⊎ (SaysDone reply × After)

-- ---- an effect

abbrev pub IsSameMemory : Tables → Tables → Type 0
IsSameMemory t later = (later.roles ≡ t.roles) × (later.rows ≡ t.rows)

abbrev pub ChangesRoles : Tables → Tables → List (Option Role) → Type 0
ChangesRoles t later roles = (later.roles ≡ roles) × (later.rows ≡ t.rows)

abbrev pub ChangesRows : Tables → Tables → List (Option Row) → Type 0
ChangesRows t later rows = (later.roles ≡ t.roles) × (later.rows ≡ rows)

-- the row of a label that has this token
abbrev pub row_with : List (Option Row) → ℕ → List ℕ → Option Row
row_with rows place token = Some (key_row (label_or (get_or rows place None)) token)

-- what an effect makes of the memory, once it is carried out
abbrev pub MemoryBy : Effect → List ℕ → Tables → Tables → Type 0
MemoryBy (code.Refused r) reply t later = IsRefusal reply × IsSameMemory t later
MemoryBy code.Shown reply t later = IsSameMemory t later
MemoryBy (code.Change action) reply t later =
    RefusedOr reply (IsSameMemory t later) (ChangesRows t later (rows_after action t.rows))
MemoryBy (code.DefineRole name points) reply t later =
    RefusedOr reply (IsSameMemory t later) (ChangesRoles t later (after_define name points t.roles))
MemoryBy (code.RemoveRole name) reply t later =
    RefusedOr reply (IsSameMemory t later) (ChangesRoles t later (after_remove name t.roles))
MemoryBy (code.Create label) reply t later =
    RefusedOr reply (IsSameMemory t later)
    (ChangesRows t later (set t.rows (free_cell (row_directory t.rows)) (Some (null_row label))))
MemoryBy (code.Write place token) reply t later =
    ChangesRows t later (set t.rows place (row_with t.rows place token))
MemoryBy (code.Delete place) reply t later = SaysDone reply × ChangesRows t later (set t.rows place None)
MemoryBy (code.Reencipher a) reply t later =
    SaysDone reply × (later.roles ≡ t.roles) × (row_directory later.rows ≡ row_directory t.rows)

-- ---- a request

-- What a request that is answered leaves of the memory: what one effect makes of it, which the reply tells. The records of
-- labels change only where the request needs the store, or by SET, and all of them only at REENCIPHER.
pub record ChangesMemory (request : Request) (reply : List ℕ) (t later : Tables) : Type 0 where
  pub effect : Effect
  pub by : MemoryBy effect reply t later
  pub named : WritesStore effect → IsTrue (needs_store request)
  pub through : GoesThrough effect → IsTrue (is_reencipher request.name)
  -- after a refusal the memory has the roles that it had
  pub refused : IsRefusal reply → later.roles ≡ t.roles
