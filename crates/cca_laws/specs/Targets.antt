-- The labels that a request may write or delete, by its operands, and what a label holds.
use Rattle.std.specs.Prelude.{◌≢◌, ℕ, Bool, true, false, List, [], ◌∷◌, Option, None, Some, ⊤, option_map}
use Rattle.key_tokens.specs.Denotes.{ClearKey}
use Rattle.verb_script.specs.Grammar.{Request}
use Rattle.verb_script.specs.declared.rows.RequestName.{RequestName}
use Rattle.verb_script.specs.declared.rows.RequestName.TheVariants.{CsnbmkpSet, Reencipher}
use Rattle.verb_script.specs.Named.{label_named}
use Rattle.cca_machine.specs.Keys.{key_of_label}
use Rattle.cca_machine.specs.Operands.{Operand, listed, operands}
use Rattle.cca_machine.specs.State.{State}
use Rattle.cca_machine.specs.declared.asking.Ask.{Ask}
use Rattle.cca_machine.specs.declared.asking.Ask.TheVariants.{AnyToken, Key, Token, External, Record, Held, NewLabel, Target, Nothing}

-- the label of a record that an operand gives to be written or deleted
abbrev pub target_of : List ℕ → Ask → Option (List ℕ)
target_of text Target = label_named text
target_of text Held = Some text
target_of text AnyToken = None
target_of text (Key need) = None
target_of text (Token need) = None
target_of text (External need) = None
target_of text Record = None
target_of text NewLabel = None
target_of text Nothing = None

-- no operand gives the record of this label
abbrev pub AreOther : List ℕ → List Operand → Type 0
AreOther label [] = ⊤
AreOther label (o ∷ os) = (target_of o.text o.ask ≢ Some label) × AreOther label os

-- the request doesn't name this label by `to`, and isn't CSNBKRW or CSNBKRD of it
abbrev pub Spares : List ℕ → Request → Type 0
Spares label request = AreOther label (listed (operands request))

-- the key of a label with its control vector, whatever master key it is under; None where it isn't
-- held, or has nothing
abbrev pub clear_of_label : State → List ℕ → Option ClearKey
clear_of_label s label = option_map (λ key. key.clear) (key_of_label s label)

-- the request changes the master keys that labels are under: SET, or REENCIPHER without an action
abbrev pub changes_ages : RequestName → Bool
changes_ages CsnbmkpSet = true
changes_ages Reencipher = true
changes_ages _ = false
