-- What judging a move comes to, before a label is read.
use Rattle.std.specs.Prelude.{◌≡◌, ◌<◌, ◌⊎◌, ℕ, List, [], ◌∷◌, ◌++◌, get_or, Option, None, Some, is_none, Result, MatchResult}
use Rattle.cca_roles.specs.declared.roles.Role.{Role}
use Rattle.cca_vectors.specs.Checks.{Check, check, first_failing}
use Rattle.key_cells.specs.Bench.{Bench}
use Rattle.record_bodies.specs.Directory.{cell_of}
use Rattle.record_bodies.specs.Entries.{row_directory}
use Rattle.key_records.specs.declared.faults.RecordFault.{RecordFault}
use Rattle.key_records.specs.declared.faults.RecordFault.TheVariants.{DiskFault, Damaged}
use Rattle.record_bodies.specs.declared.rows.Row.{Row}
use Rattle.key_tokens.specs.Denotes.{Denoted}
use Rattle.master_registers.specs.Masters.{Masters}
use Rattle.store_move.specs.Exports.{transport_checks}
use Rattle.store_move.specs.Reading.{HoldsAsRead}
use Rattle.verb_rules.specs.Keys.{keys_of, opened, opened_key}
use Rattle.verb_rules.specs.Rules.{rule_number}
use Rattle.verb_rules.specs.declared.judging.Judged.{Judged}
use Rattle.verb_rules.specs.declared.rules.Rule.{Rule}
use Rattle.cca_machine.specs.State.{State}
use Rattle.store_unload.specs.Moves.{clear_of, move_checks, role_checks}
use Rattle.command_words.specs.declared.moves.Move.{Move}

-- no rule refuses the move, and this is its transport key; or the first rule that refuses it
abbrev pub IsJudged : State → Move → Bench → Result Judged Rule → Type 0
IsJudged s w bench result =
    MatchResult result
    (λ judged. (first_failing (move_checks s w) ≡ None) × (opened bench judged ≡ clear_of s w.transport))
    (λ rule. first_failing (move_checks s w) ≡ Some (rule_number rule))

-- the store failed, or one of its cells reads as another body
abbrev pub IsStoreFault : RecordFault → Type 0
IsStoreFault fault = (fault ≡ DiskFault) ⊎ ((cell : ℕ) × (cell < 1024) × (fault ≡ Damaged cell))

-- ---- whatever the store tells of its bytes

-- rules 03 to 05, by the registers and the roles alone
abbrev pub role_checks_by : Masters → List (Option Role) → List ℕ → List Check
role_checks_by registers roles role =
    role_checks (record { registers = registers; roles = roles; labels = [] }) role

-- Rules 03 to 05 of the role, rule 07 where the memory doesn't know the label, and rules 08, 17 and 19 to 22 of what was
-- read of its record.
abbrev pub checks_as_read : Masters → List (Option Role) → Move → List (Option Row) → Option Denoted → List Check
checks_as_read registers roles w rows what =
    role_checks_by registers roles w.role
    ++ check 7 (is_none (cell_of w.transport (row_directory rows)))
    ∷ transport_checks what

-- The transport key of a move by a body that reads as the record that the memory knows of its label: under these registers
-- the body stands for this key, and no rule refuses the move.
pub record TransportAsRead (registers : Masters) (roles : List (Option Role)) (w : Move)
    (rows : List (Option Row)) (bytes : List ℕ) (key : Denoted) : Type 0 where
  pub place : ℕ
  pub known : cell_of w.transport (row_directory rows) ≡ Some place
  pub holds : HoldsAsRead (keys_of registers) (get_or rows place None) bytes (Some key)
  pub permitted : first_failing (checks_as_read registers roles w rows (Some key)) ≡ None

-- The first rule that refuses a move by such a body, which is read where the role may move and the memory knows the label.
pub record RefusedAsRead (registers : Masters) (roles : List (Option Role)) (w : Move)
    (rows : List (Option Row)) (bytes : List ℕ) (rule : ℕ) : Type 0 where
  pub what : Option Denoted
  pub holds : first_failing (role_checks_by registers roles w.role) ≡ None
      → (place : ℕ) → cell_of w.transport (row_directory rows) ≡ Some place
      → HoldsAsRead (keys_of registers) (get_or rows place None) bytes what
  pub refused : first_failing (checks_as_read registers roles w rows what) ≡ Some rule

-- the operand opens to the key of such a body; or the first rule that refuses the move
abbrev pub JudgedAsRead : Masters → List (Option Role) → Move → List (Option Row) → Bench → List ℕ
    → Result Judged Rule → Type 0
JudgedAsRead registers roles w rows bench bytes result =
    MatchResult result
    (λ judged. (key : Denoted) × (opened_key bench judged ≡ Some key)
    × TransportAsRead registers roles w rows bytes key)
    (λ rule. RefusedAsRead registers roles w rows bytes (rule_number rule))
