-- What a reply rests on, whatever the store tells of its bytes: the keys of labels were read from records that are the
-- memory's.
use Rattle.std.specs.Prelude.{◌≡◌, ℕ, List, [], ◌∷◌, get_or, codes, Option, Some, None, IfSome, IsTrue, ⊤}
use Rattle.cca_vectors.specs.Checks.{first_failing}
use Rattle.record_bodies.specs.Directory.{cell_of}
use Rattle.record_bodies.specs.Entries.{row_directory}
use Rattle.record_bodies.specs.Labels.{is_label}
use Rattle.record_bodies.specs.declared.rows.Row.{Row}
use Rattle.key_tokens.specs.Denotes.{Denoted, MasterKeys}
use Rattle.master_registers.specs.Masters.{Masters}
use Rattle.master_registers.specs.RegisterBody.{StandsForMasters}
use Rattle.line_service.specs.Replies.{Refused, spelled}
use Rattle.device_cells.specs.Medium.{Medium, Told}
use Rattle.store_move.specs.Reading.{HoldsAsRead}
use Rattle.store_move.specs.Stored.{stored_checks}
use Rattle.verb_rules.specs.Keys.{keys_of}
use Rattle.verb_rules.specs.declared.needs.Need.{Need}
use Rattle.verb_script.specs.Grammar.{Request}
use Rattle.verb_script.specs.Named.{label_named}
use Rattle.cca_machine.specs.Operands.{Operand, any_key, listed, operands}
use Rattle.cca_machine.specs.State.{State}
use Rattle.cca_machine.specs.Verdict.{general_checks}
use Rattle.cca_machine.specs.declared.asking.Ask.{Ask}
use Rattle.cca_machine.specs.declared.asking.Ask.TheVariants.{AnyToken, Key, Token, External, Record, Held, NewLabel, Target, Nothing}
use Rattle.request_rules.specs.Standing.{Tables}

-- the memory holds the label, in this cell
pub record IsHeldIn (rows : List (Option Row)) (label : List ℕ) (cell : ℕ) : Type 0 where
  pub label_is : IsTrue (is_label label)
  pub is : cell_of label (row_directory rows) ≡ Some cell

-- P of what is needed of a key and of its label, where an operand asks for the key of a label
abbrev pub IfKeyOfLabel : (Need → List ℕ → Type 0) → List ℕ → Ask → Type 0
IfKeyOfLabel P text AnyToken = ⊤
IfKeyOfLabel P text (Key need) = IfSome (label_named text) (P need)
IfKeyOfLabel P text (Token need) = ⊤
IfKeyOfLabel P text (External need) = ⊤
IfKeyOfLabel P text Record = P any_key text
IfKeyOfLabel P text Held = ⊤
IfKeyOfLabel P text NewLabel = ⊤
IfKeyOfLabel P text Target = ⊤
IfKeyOfLabel P text Nothing = ⊤

-- Some body is a record of the label that the memory knows by this row, and what it holds breaks this rule first: rule 08
-- where the record is null, and else one of use. A token that stands for no key breaks none.
pub record BreaksByRecord (keys : MasterKeys) (need : Need) (row : Option Row) (broken : Option ℕ) : Type 0 where
  pub body : List ℕ
  pub what : Option Denoted
  pub holds : HoldsAsRead keys row body what
  pub breaks : broken ≡ first_failing (stored_checks need what)

-- the same of a label, where it is held
abbrev pub LabelBreaks : MasterKeys → List (Option Row) → Option ℕ → Need → List ℕ → Type 0
LabelBreaks keys rows broken need label =
    (cell : ℕ) → IsHeldIn rows label cell → BreaksByRecord keys need (get_or rows cell None) broken

-- the rule that is broken, with its operand, is the reply; where none is, the rest holds
abbrev pub RefusedOr : Option ℕ → List ℕ → List ℕ → Type 0 → Type 0
RefusedOr None operand reply rest = rest
RefusedOr (Some rule) operand reply rest = reply ≡ spelled (Refused rule operand)

-- the operands in their order, each by what it breaks: that of a held label whose key is asked for by a record
abbrev pub AreJudgedByRecords : MasterKeys → List (Option Row) → List Operand → List ℕ → Type 0
AreJudgedByRecords keys rows [] reply = ⊤
AreJudgedByRecords keys rows (o ∷ os) reply = (broken : Option ℕ)
    × IfKeyOfLabel (LabelBreaks keys rows broken) o.text o.ask
    × RefusedOr broken o.name reply (AreJudgedByRecords keys rows os reply)

-- What a reply rests on: the registers of the module, the rule that the request as a whole breaks, of 03, 04 and 05, and
-- else what its operands break.
pub record RestsOnRecords (module_ : Medium) (t : Tables) (request : Request) (reply : List ℕ) : Type 0 where
  pub registers : Masters
  -- where the module tells its bytes they stand for these registers
  pub in_module : Told module_ (λ image. StandsForMasters image registers)
  pub general : Option ℕ
  pub as_whole : (s : State) → s.registers ≡ registers → s.roles ≡ t.roles
      → first_failing (general_checks s request) ≡ general
  pub judged : RefusedOr general (codes "-") reply
      (AreJudgedByRecords (keys_of registers) t.rows (listed (operands request)) reply)
