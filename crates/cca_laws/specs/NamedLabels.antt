-- Two states that know the same of the labels that a request names.
use Rattle.std.specs.Prelude.{◌≡◌, ℕ, Bool, true, false, List, [], ◌∷◌, Option, None, Some, ⊤, is_none}
use Rattle.verb_script.specs.declared.rows.RequestName.{RequestName}
use Rattle.verb_script.specs.declared.rows.RequestName.TheVariants.{Csnbkrc, Csnbkrl, CsnbmkpClear, CsnbmkpSet, Reencipher, ReencipherAhead, ReencipherDrop}
use Rattle.verb_script.specs.Named.{label_named}
use Rattle.cca_machine.specs.Keys.{cell_with, key_of_label}
use Rattle.cca_machine.specs.Operands.{Operand}
use Rattle.cca_machine.specs.State.{State}
use Rattle.cca_machine.specs.declared.asking.Ask.{Ask}
use Rattle.cca_machine.specs.declared.asking.Ask.TheVariants.{AnyToken, Key, Token, External, Record, Held, NewLabel, Target, Nothing}

-- the label that an operand names
abbrev pub label_of : List ℕ → Ask → Option (List ℕ)
label_of text AnyToken = None
label_of text (Key need) = label_named text
label_of text (Token need) = None
label_of text (External need) = None
label_of text Record = Some text
label_of text Held = Some text
label_of text NewLabel = Some text
label_of text Target = label_named text
label_of text Nothing = None

-- the label is held in both states or in neither, with the same key or with nothing
pub record SameLabel (s t : State) (label : List ℕ) : Type 0 where
  pub held : is_none (cell_with t label) ≡ is_none (cell_with s label)
  pub key : key_of_label t label ≡ key_of_label s label

-- this holds of each label that an operand names
abbrev pub SameNamed : State → State → List Operand → Type 0
SameNamed s t [] = ⊤
SameNamed s t (o ∷ os) =
    ((label : List ℕ) → label_of o.text o.ask ≡ Some label → SameLabel s t label)
    × SameNamed s t os

-- the request is about the store as a whole: a free cell, all labels, their master keys, or whether one is ahead
abbrev pub is_of_store : RequestName → Bool
is_of_store Csnbkrc = true
is_of_store Csnbkrl = true
is_of_store CsnbmkpClear = true
is_of_store CsnbmkpSet = true
is_of_store Reencipher = true
is_of_store ReencipherAhead = true
is_of_store ReencipherDrop = true
is_of_store _ = false
