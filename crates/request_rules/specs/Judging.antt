-- The first rule that an operand of a request breaks, or what it stands for.
use Rattle.std.specs.Prelude.{◌≡◌, ◌<◌, ◌⊎◌, ℕ, List, [], ◌∷◌, length, Option, Some, None, IsTrue, ⊤, Result, Ok, Err}
use Rattle.record_bodies.specs.Directory.{cell_of}
use Rattle.record_bodies.specs.Entries.{row_directory}
use Rattle.record_bodies.specs.declared.rows.Row.{Row}
use Rattle.cca_vectors.specs.Checks.{first_failing}
use Rattle.key_cells.specs.Bench.{Bench}
use Rattle.key_tokens.specs.declared.key_token.Asked.TheVariants.{Internal}
use Rattle.key_tokens.specs.declared.key_token.Asked.TheVariants as asked
use Rattle.master_registers.specs.Masters.{Masters}
use Rattle.verb_rules.specs.declared.rules.Rule.{Rule}
use Rattle.verb_rules.specs.Rules.{rule_number}
use Rattle.line_service.specs.declared.stops.Device.TheVariants.{Module, Store}
use Rattle.line_service.specs.declared.stops.Stop.{Stop}
use Rattle.line_service.specs.declared.stops.Stop.TheVariants.{ReadFault, WriteFault, EntropyFault, ModuleFault, StoreFault, Damaged, InputLimit}
use Rattle.verb_script.specs.Grammar.{accepts, key_text, is_hex}
use Rattle.verb_script.specs.Named.{label_named}
use Rattle.cca_machine.specs.State.{State}
use Rattle.cca_machine.specs.Operands.{Operand, Operands, listed}
use Rattle.cca_machine.specs.Verdict.{first_refusal, operand_checks, operand_questions}
use Rattle.cca_machine.specs.declared.asking.Ask.{Ask}
use Rattle.cca_machine.specs.declared.asking.Ask.TheVariants.{AnyToken, Key, Token, External, Record, Held, NewLabel, Target, Nothing}
use Rattle.cca_machine.specs.Granted.{IsGranted, AreGranted, HasShape, HaveShapes, IsKeyed, AreKeyed}
use Rattle.cca_machine.specs.Refusals.{refusal_of}
use Rattle.request_rules.specs.declared.operands.Operand.{Operand as CodeOperand}
use Rattle.request_rules.specs.declared.operands.Operands.{Operands as CodeOperands}
use Rattle.cca_machine.specs.declared.granted.Grant.{Grant}
use Rattle.request_rules.specs.declared.judging.Verdict.{Verdict}
use Rattle.request_rules.specs.declared.judging.Verdict.TheVariants as verdict

abbrev pub seen_operand : CodeOperand → Operand
seen_operand o = record { name = o.name.now; text = o.text.now; ask = o.ask }

abbrev pub seen_operands : CodeOperands → Operands
seen_operands os = record { first = seen_operand os.first; second = seen_operand os.second; third = seen_operand os.third }

-- a text that the grammar lets an operand have
abbrev pub IsText : List ℕ → Ask → Type 0
IsText text AnyToken = IsTrue (is_hex 128 text)
IsText text (Key need) = IsTrue (accepts key_text text) × (need.asked ≡ Internal)
IsText text (Token need) = IsTrue (is_hex 128 text) × (need.asked ≡ Internal)
IsText text (External need) = IsTrue (is_hex 128 text) × (need.asked ≡ asked.External)
IsText text Record = ⊤
IsText text Held = ⊤
IsText text NewLabel = ⊤
IsText text Target = ⊤
IsText text Nothing = ⊤

abbrev pub IsFit : Operand → Type 0
IsFit o = IsText o.text o.ask × (length o.name < 100)

abbrev pub AreFit : Operands → Type 0
AreFit os = IsFit os.first × IsFit os.second × IsFit os.third

-- the first rule that an operand breaks, or what it stands for
abbrev pub IsAsked : State → Bench → List ℕ → Ask → Result Grant Rule → Type 0
IsAsked s bench text ask (Err rule) = first_failing (operand_checks s text ask) ≡ Some (rule_number rule)
IsAsked s bench text ask (Ok grant) = (first_failing (operand_checks s text ask) ≡ None) × IsGranted s bench text ask grant

abbrev pub IsShaped : List (Option Row) → List ℕ → Ask → Result Grant Rule → Type 0
IsShaped rows text ask (Err _) = ⊤
IsShaped rows text ask (Ok grant) = HasShape rows text ask grant

abbrev pub IsKeyedAnswer : Masters → List ℕ → Ask → Result Grant Rule → Type 0
IsKeyedAnswer m text ask (Err _) = ⊤
IsKeyedAnswer m text ask (Ok grant) = IsKeyed m text ask

-- the same of all operands
abbrev pub IsJudged : State → Bench → Operands → Verdict → Type 0
IsJudged s bench os (verdict.Refused r) = first_refusal (operand_questions s (listed os)) ≡ Some (refusal_of r)
IsJudged s bench os (verdict.Granted granted) = (first_refusal (operand_questions s (listed os)) ≡ None) × AreGranted s bench os granted

abbrev pub AreShaped : List (Option Row) → Operands → Verdict → Type 0
AreShaped rows os (verdict.Refused r) = length r.operand.now < 100
AreShaped rows os (verdict.Granted granted) = HaveShapes rows os granted

abbrev pub AreKeyedOperands : Masters → Operands → Verdict → Type 0
AreKeyedOperands m os (verdict.Refused _) = ⊤
AreKeyedOperands m os (verdict.Granted granted) = AreKeyed m os

-- ---- the cells that are read

-- the label whose key an operand asks for, where it names one
abbrev pub label_asked : List ℕ → Ask → Option (List ℕ)
label_asked text AnyToken = None
label_asked text (Key need) = label_named text
label_asked text (Token need) = None
label_asked text (External need) = None
label_asked text Record = Some text
label_asked text Held = None
label_asked text NewLabel = None
label_asked text Target = None
label_asked text Nothing = None

-- the cell of that label, by what the memory knows
pub record IsCellAsked (rows : List (Option Row)) (text : List ℕ) (ask : Ask) (cell : ℕ) : Type 0 where
  pub label : List ℕ
  pub asked : label_asked text ask ≡ Some label
  pub is : cell_of label (row_directory rows) ≡ Some cell

-- the same of one of the operands
abbrev pub IsCellOfAny : List (Option Row) → List Operand → ℕ → Type 0
IsCellOfAny rows [] cell = ⊥
IsCellOfAny rows (o ∷ os) cell = IsCellAsked rows o.text o.ask cell ⊎ IsCellOfAny rows os cell

-- ---- how judging stops

-- reading the store may stop for these
abbrev pub IsStoreStop : Stop → Type 0
IsStoreStop StoreFault = ⊤
IsStoreStop (Damaged Store cell) = cell < 1024
IsStoreStop (Damaged Module cell) = ⊥
IsStoreStop EntropyFault = ⊥
IsStoreStop ModuleFault = ⊥
IsStoreStop ReadFault = ⊥
IsStoreStop WriteFault = ⊥
IsStoreStop InputLimit = ⊥
