-- A key that is brought in by parts through the machine, where each request delivers the key so far into the record of a
-- label or as a token, and the next one goes on from it.
use Rattle.std.specs.Prelude.{◌≡◌, ◌≢◌, All, ℕ, List, [], ◌∷◌, ◌++◌, codes, length, map, false, None, Some}
use Rattle.cca_vectors.specs.KeyTypes.{type_name}
use Rattle.cca_vectors.specs.declared.key_type.KeyType.{KeyType}
use Rattle.key_tokens.specs.declared.key_token.Asked.TheVariants.{Internal}
use Rattle.verb_rules.specs.declared.needs.Need.{Need}
use Rattle.verb_script.specs.Grammar.{Request, value_of}
use Rattle.verb_script.specs.declared.rows.RequestName.TheVariants.{CsnbkpiFirst, CsnbkpiMiddle}
use Rattle.verb_script.specs.Named.{label_named}
use Rattle.verb_script.specs.Values.{hex_value}
use Rattle.cca_machine.specs.Act.{Outcome, performed}
use Rattle.cca_machine.specs.Operands.{Operand}
use Rattle.cca_machine.specs.State.{State}
use Rattle.cca_machine.specs.declared.asking.Ask.TheVariants.{Key}
use Rattle.cca_laws.specs.KeyInParts.{IsPermitted}
use Rattle.cca_laws.specs.ReplyTokens.{field_in}

-- ---- the requests

-- the role that brings in a part, the part's digits, and where the key so far goes: `L:` and a label, or `-`
pub record PartEntry : Type 0 where
  pub role : List ℕ
  pub part : List ℕ
  pub to : List ℕ

-- CSNBKPI FIRST
abbrev pub first_entry : KeyType → PartEntry → Request
first_entry kind e = record {
  name = CsnbkpiFirst;
  values = e.role ∷ codes "FIRST" ∷ type_name kind ∷ e.part ∷ e.to ∷ [];
}

-- CSNBKPI MIDDLE or LAST, of the key that a text names
abbrev pub further_entry : List ℕ → List ℕ → PartEntry → Request
further_entry rule key e = record {
  name = CsnbkpiMiddle;
  values = e.role ∷ rule ∷ key ∷ e.part ∷ e.to ∷ [];
}

-- ---- how the key so far is passed on

-- the text names the key that a request delivers: the label of its field `to`, or, behind `T:`, the token in its reply
pub record Names (r : Request) (o : Outcome) (text : List ℕ) : Type 0 where
  pub label : (label : List ℕ) → label_named (value_of r (codes "to")) ≡ Some label
      → text ≡ value_of r (codes "to")
  pub token : label_named (value_of r (codes "to")) ≡ None
      → (digits : List ℕ) × (text ≡ codes "T:" ++ digits)
      × (field_in (codes "token") o.reply ≡ Some (hex_value digits))

-- the request is carried out, and the text names the key that it delivers
pub record Delivers (s : State) (r : Request) (now : State) (text : List ℕ) : Type 0 where
  pub permitted : IsPermitted s r
  pub after : now ≡ (performed s [] r).state
  pub named : Names r (performed s [] r) text

-- MIDDLE for each of the parts, the first of the key that a text names, and each of the next of the
-- one that the one before it delivers
abbrev pub AreDelivered : State → List ℕ → List PartEntry → State → List ℕ → Type 0
AreDelivered s text [] now last = (now ≡ s) × (last ≡ text)
AreDelivered s text (e ∷ es) now last =
    (t : State) × (next : List ℕ) × Delivers s (further_entry (codes "MIDDLE") text e) t next
    × AreDelivered t next es now last

-- two or more parts of a key are brought in: FIRST, MIDDLE for each between, and LAST
pub record Entered (kind : KeyType) (s : State) : Type 0 where
  pub first : PartEntry
  pub middle : List PartEntry
  pub last : PartEntry
  pub begun : State
  pub begun_text : List ℕ
  pub before_last : State
  pub part_text : List ℕ
  pub now : State
  pub key_text : List ℕ
  pub begins : Delivers s (first_entry kind first) begun begun_text
  pub goes_on : AreDelivered begun begun_text middle before_last part_text
  pub ends : Delivers before_last (further_entry (codes "LAST") part_text last) now key_text

-- ---- the parts

-- the bytes of a part
abbrev pub entry_bytes : PartEntry → List ℕ
entry_bytes e = hex_value e.part

-- how many bytes the parts have, by the first one
abbrev pub entry_size : (kind : KeyType) (s : State) → Entered kind s → ℕ
entry_size kind s b = length (entry_bytes b.first)

-- the bytes of all parts
abbrev pub entry_parts : (kind : KeyType) (s : State) → Entered kind s → List (List ℕ)
entry_parts kind s b = entry_bytes b.first ∷ (map entry_bytes b.middle ++ entry_bytes b.last ∷ [])

-- no request of them delivers into the record of this label
abbrev pub SparesLabel : (kind : KeyType) (s : State) → Entered kind s → List ℕ → Type 0
SparesLabel kind s b label =
    All (λ (e : PartEntry). label_named e.to ≢ Some label) (b.first ∷ (b.middle ++ b.last ∷ []))

-- ---- where a whole key is asked for

-- the operand is this text, and it must be an internal key that isn't a part
pub record AsksWholeKey (text : List ℕ) (o : Operand) : Type 0 where
  pub need : Need
  pub text_ : o.text ≡ text
  pub asks : o.ask ≡ Key need
  pub internal : need.asked ≡ Internal
  pub whole : need.parts ≡ false
