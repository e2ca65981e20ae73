-- What the operands of a request stand for, where none of them breaks a rule.
use Rattle.std.specs.Prelude.{◌≡◌, ◌||◌, ℕ, Bool, true, false, List, Option, Some, None, IsSome, ⊤, Result, Ok, Err}
use Rattle.record_bodies.specs.Directory.{label_at}
use Rattle.record_bodies.specs.Entries.{row_directory}
use Rattle.record_bodies.specs.Labels.{IsLabel}
use Rattle.record_bodies.specs.declared.rows.Row.{Row}
use Rattle.key_cells.specs.Bench.{Bench}
use Rattle.key_tokens.specs.Denotes.{Denoted, denoted, denoted_under}
use Rattle.key_tokens.specs.declared.key_token.Age.{Age}
use Rattle.master_registers.specs.Masters.{Masters}
use Rattle.master_registers.specs.Loaded.{registers_of}
use Rattle.verb_rules.specs.KeyChecks.{age_of}
use Rattle.verb_rules.specs.Keys.{HasHalves, IsDouble, keys_of, opened_key, opened_under}
use Rattle.verb_rules.specs.declared.judging.Judged.{Judged}
use Rattle.verb_rules.specs.declared.needs.Need.{Need}
use Rattle.verb_rules.specs.declared.rules.Rule.{Rule}
use Rattle.cca_machine.specs.Keys.{key_in_text, key_of_token, key_of_label, cell_with, is_old_age}
use Rattle.key_tokens.specs.Fields.{token_of}
use Rattle.verb_script.specs.Grammar.{Request, row_of, AreValues}
use Rattle.verb_script.specs.Named.{label_named}
use Rattle.verb_script.specs.Values.{hex_value}
use Rattle.cca_machine.specs.State.{State}
use Rattle.cca_machine.specs.Operands.{Operands, any_key}
use Rattle.cca_machine.specs.declared.asking.Ask.{Ask}
use Rattle.cca_machine.specs.declared.asking.Ask.TheVariants.{AnyToken, Key, Token, External, Record, Held, NewLabel, Target, Nothing}
use Rattle.cca_machine.specs.declared.granted.Grant.{Grant}
use Rattle.cca_machine.specs.declared.granted.Granted.{Granted}

-- the fields say what they may
abbrev pub IsAccepted : Request → Type 0
IsAccepted request = AreValues (row_of request.name).fields request.values

-- what is answered of a key that was judged
abbrev pub answered : Result Judged Rule → Result Grant Rule
answered (Ok judged) = Ok (record { token = None; key = Some judged; place = None })
answered (Err broken) = Err broken

-- the key of a grant is this one, under a master key of the bench
pub record HasKey (bench : Bench) (key : Option Denoted) (grant : Grant) : Type 0 where
  pub judged : Judged
  pub is : grant.key ≡ Some judged
  pub key_is : key ≡ opened_key bench judged

-- the key of a grant is one whose external token these bytes are: whatever the transport key is, they stand for the key
-- that it opens
pub record HasExternal (bytes : List ℕ) (grant : Grant) : Type 0 where
  pub judged : Judged
  pub is : grant.key ≡ Some judged
  pub opens : (transport : List ℕ) → denoted_under transport bytes ≡ Some (opened_under transport judged)
  pub ageless : judged.age ≡ None

-- the same of a key in a record, whose token has the pattern of its register
pub record HasStoredKey (m : Masters) (bench : Bench) (key : Option Denoted) (grant : Grant) : Type 0 where
  pub has : HasKey bench key grant
  pub age : has.judged.age ≡ age_of (registers_of m) has.judged.token

-- the cell of the record that a key goes into
abbrev pub target_cell : State → Option (List ℕ) → Option ℕ
target_cell s None = None
target_cell s (Some label) = cell_with s label

-- what an operand stands for
abbrev pub IsGranted : State → Bench → List ℕ → Ask → Grant → Type 0
IsGranted s bench text AnyToken grant = (grant.token ≡ Some (token_of (hex_value text))) × (grant.key ≡ None)
IsGranted s bench text (Key need) grant = HasKey bench (key_in_text s text) grant
IsGranted s bench text (Token need) grant = HasKey bench (key_of_token s (hex_value text)) grant
IsGranted s bench text (External need) grant = HasExternal (hex_value text) grant
IsGranted s bench text Record grant = HasStoredKey s.registers bench (key_of_label s text) grant
IsGranted s bench text Held grant = (grant.place ≡ cell_with s text) × (grant.key ≡ None)
IsGranted s bench text NewLabel grant = grant.key ≡ None
IsGranted s bench text Target grant = (grant.place ≡ target_cell s (label_named text)) × (grant.key ≡ None)
IsGranted s bench text Nothing grant = grant.key ≡ None

abbrev pub AreGranted : State → Bench → Operands → Granted → Type 0
AreGranted s bench os g =
    IsGranted s bench os.first.text os.first.ask g.first
    × IsGranted s bench os.second.text os.second.ask g.second
    × IsGranted s bench os.third.text os.third.ask g.third

-- the register is the old one
abbrev pub is_old_register : Option Age → Bool
is_old_register None = false
is_old_register (Some age) = is_old_age age

abbrev pub is_old_key : Option Judged → Bool
is_old_key None = false
is_old_key (Some judged) = is_old_register judged.age

abbrev pub any_old_key : Granted → Bool
any_old_key g = is_old_key g.first.key || (is_old_key g.second.key || is_old_key g.third.key)

-- a key that was judged by a need
pub record HasJudged (need : Need) (grant : Grant) : Type 0 where
  pub judged : Judged
  pub is : grant.key ≡ Some judged
  pub halves : HasHalves judged
  pub under : IsSome judged.age
  pub double : need.double ≡ true → IsDouble judged

-- the same, whatever the need was
pub record HasSomeJudged (grant : Grant) : Type 0 where
  pub need : Need
  pub has : HasJudged need grant

-- the same of one that has two halves
pub record HasDoubleKey (grant : Grant) : Type 0 where
  pub need : Need
  pub has : HasJudged need grant
  pub double : need.double ≡ true

-- the key of a grant is this one: it has its halves, under some register
pub record IsGrantedKey (grant : Grant) (judged : Judged) : Type 0 where
  pub is : grant.key ≡ Some judged
  pub halves : HasHalves judged
  pub under : IsSome judged.age

-- an external token that was judged
pub record HasJudgedExternal (grant : Grant) : Type 0 where
  pub judged : Judged
  pub is : grant.key ≡ Some judged
  pub halves : HasHalves judged

-- the place of a label that the memory knows
pub record HasPlace (rows : List (Option Row)) (label : List ℕ) (grant : Grant) : Type 0 where
  pub place : ℕ
  pub is : grant.place ≡ Some place
  pub held : label_at (row_directory rows) place ≡ Some label
  pub label_is : IsLabel label

-- the place of the label that a text names, where it names one
abbrev pub IsPlaceFor : Option (List ℕ) → Option ℕ → Type 0
IsPlaceFor None place = place ≡ None
IsPlaceFor (Some label) place = IsLabel label × IsSome place

abbrev pub HasTarget : List (Option Row) → Option (List ℕ) → Grant → Type 0
HasTarget rows None grant = grant.place ≡ None
HasTarget rows (Some label) grant = HasPlace rows label grant

-- what is certain of it in every state
abbrev pub HasShape : List (Option Row) → List ℕ → Ask → Grant → Type 0
HasShape rows text AnyToken grant = IsSome grant.token
HasShape rows text (Key need) grant = HasJudged need grant
HasShape rows text (Token need) grant = HasJudged need grant
HasShape rows text (External need) grant = HasJudgedExternal grant
HasShape rows text Record grant = HasJudged any_key grant
HasShape rows text Held grant = HasPlace rows text grant
HasShape rows text NewLabel grant = IsLabel text
HasShape rows text Target grant = HasTarget rows (label_named text) grant
HasShape rows text Nothing grant = ⊤

abbrev pub HaveShapes : List (Option Row) → Operands → Granted → Type 0
HaveShapes rows os g =
    HasShape rows os.first.text os.first.ask g.first
    × HasShape rows os.second.text os.second.ask g.second
    × HasShape rows os.third.text os.third.ask g.third

-- of a token, that it stands for a key under these master keys
abbrev pub IsKeyed : Masters → List ℕ → Ask → Type 0
IsKeyed m text AnyToken = ⊤
IsKeyed m text (Key need) = ⊤
IsKeyed m text (Token need) = IsSome (denoted (keys_of m) (hex_value text))
IsKeyed m text (External need) = ⊤
IsKeyed m text Record = ⊤
IsKeyed m text Held = ⊤
IsKeyed m text NewLabel = ⊤
IsKeyed m text Target = ⊤
IsKeyed m text Nothing = ⊤

abbrev pub AreKeyed : Masters → Operands → Type 0
AreKeyed m os =
    IsKeyed m os.first.text os.first.ask
    × IsKeyed m os.second.text os.second.ask
    × IsKeyed m os.third.text os.third.ask
