-- The keys that the tokens and the labels of a request stand for.
use Rattle.std.specs.Prelude.{ℕ, Bool, false, true, List, [], ◌∷◌, drop, codes, Option, Some, None, ◌||◌}
use Rattle.key_tokens.specs.declared.key_token.Age.TheVariants.{Current}
use Rattle.key_tokens.specs.Denotes.{ClearKey, Denoted, denoted, denoted_under}
use Rattle.record_bodies.specs.Directory.{cell_of}
use Rattle.record_bodies.specs.Entries.{Entry, directory}
pub use Rattle.record_bodies.specs.Ages.{is_old as is_old_age, has_old_key as is_old}
pub use Rattle.record_bodies.specs.Entries.{what_in}
use Rattle.record_bodies.specs.StoreStands.{entry_at}
use Rattle.line_service.specs.Replies.{Field, Text}
use Rattle.verb_rules.specs.Keys.{keys_of}
use Rattle.verb_script.specs.Grammar.{Request, value_of}
use Rattle.verb_script.specs.Named.{label_named}
use Rattle.verb_script.specs.Values.{hex_value}
use Rattle.cca_machine.specs.State.{State}
use Rattle.cca_machine.specs.Operands.{Operand}
use Rattle.cca_machine.specs.declared.asking.Ask.{Ask}
use Rattle.cca_machine.specs.declared.asking.Ask.TheVariants.{AnyToken, Key, Token, External, Record, Held, NewLabel, Target, Nothing}

-- the bytes of the token in the text of a key: what follows `T:`
abbrev pub key_bytes : List ℕ → List ℕ
key_bytes text = hex_value (drop 2 text)

-- the key that the bytes of a token stand for, where they stand for one
abbrev pub key_of_token : State → List ℕ → Option Denoted
key_of_token s bytes = denoted (keys_of s.registers) bytes

-- the cell of a label, where it is held
abbrev pub cell_with : State → List ℕ → Option ℕ
cell_with s label = cell_of label (directory s.labels)

abbrev pub what_at : List (Option Entry) → Option ℕ → Option Denoted
what_at labels None = None
what_at labels (Some cell) = what_in (entry_at labels cell)

-- the key in the record of a label, where the label is held and its record has one
abbrev pub key_of_label : State → List ℕ → Option Denoted
key_of_label s label = what_at s.labels (cell_with s label)

abbrev pub key_named : State → Option (List ℕ) → List ℕ → Option Denoted
key_named s None text = key_of_token s (key_bytes text)
key_named s (Some label) text = key_of_label s label

-- the key that a text stands for, where it stands for one: a token behind `T:`, or a label behind `L:`
abbrev pub key_in_text : State → List ℕ → Option Denoted
key_in_text s text = key_named s (label_named text) text

abbrev pub or_no_key : Option Denoted → Denoted
or_no_key None = record { clear = record { key = []; vector = [] }; age = Current }
or_no_key (Some d) = d

-- the clear key of an operand
abbrev pub key_in_field : State → Request → List ℕ → ClearKey
key_in_field s request name = (or_no_key (key_in_text s (value_of request name))).clear

-- the clear key of an external token under a transport key
abbrev pub or_no_clear : Option ClearKey → ClearKey
or_no_clear None = record { key = []; vector = [] }
or_no_clear (Some clear) = clear

abbrev pub imported : ClearKey → List ℕ → ClearKey
imported transport bytes = or_no_clear (denoted_under transport.key bytes)

-- the clear key of the operand `key`
abbrev pub key_of_request : State → Request → ClearKey
key_of_request s request = (or_no_key (key_in_text s (value_of request (codes "key")))).clear

-- ---- the warning

-- the operand is a key under the old master key
abbrev pub is_old_operand : State → List ℕ → Ask → Bool
is_old_operand s text AnyToken = false
is_old_operand s text (Key need) = is_old (key_in_text s text)
is_old_operand s text (Token need) = is_old (key_of_token s (hex_value text))
is_old_operand s text (External need) = false
is_old_operand s text Record = is_old (key_of_label s text)
is_old_operand s text Held = false
is_old_operand s text NewLabel = false
is_old_operand s text Target = false
is_old_operand s text Nothing = false

abbrev pub any_old : State → List Operand → Bool
any_old s [] = false
any_old s (o ∷ os) = is_old_operand s o.text o.ask || any_old s os

-- ` warn=old`, where a key operand is under the old master key
abbrev pub warning : Bool → List Field
warning true = Text (codes "warn") (codes "old") ∷ []
warning false = []
