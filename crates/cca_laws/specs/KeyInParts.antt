-- A key that is brought in by parts through the machine: the requests, and what the label holds.
use Rattle.std.specs.Prelude.{◌≡◌, ℕ, false, List, [], ◌∷◌, ◌++◌, codes, length, map, None}
use Rattle.cca_vectors.specs.Checks.{first_failing}
use Rattle.cca_vectors.specs.KeyTypes.{type_name}
use Rattle.cca_vectors.specs.declared.key_type.KeyType.{KeyType}
use Rattle.verb_rules.specs.declared.needs.Need.{Need}
use Rattle.verb_script.specs.Grammar.{Request, AreValues, row_of}
use Rattle.verb_script.specs.declared.rows.RequestName.TheVariants.{CsnbkpiFirst, CsnbkpiMiddle}
use Rattle.verb_script.specs.Values.{hex_value}
use Rattle.cca_machine.specs.Act.{performed}
use Rattle.cca_machine.specs.Keys.{cell_with, key_of_label}
use Rattle.cca_machine.specs.Operands.{Operand, listed, operands}
use Rattle.cca_machine.specs.State.{State}
use Rattle.cca_machine.specs.Verdict.{first_refusal, general_checks, operand_questions, verdict}
use Rattle.cca_machine.specs.declared.asking.Ask.TheVariants.{Key}

-- ---- the requests

-- a line may spell the request, and no rule refuses it
pub record IsPermitted (s : State) (request : Request) : Type 0 where
  pub spelled : AreValues (row_of request.name).fields request.values
  pub permitted : verdict s [] request ≡ None

-- the requests are carried out, one after another, from one state to another
abbrev pub AreCarriedOut : State → List Request → State → Type 0
AreCarriedOut s [] now = now ≡ s
AreCarriedOut s (r ∷ rs) now = IsPermitted s r × AreCarriedOut (performed s [] r).state rs now

-- `L:` and a label
abbrev pub by_label : List ℕ → List ℕ
by_label label = codes "L:" ++ label

-- the role that brings in a part, and the part's digits
pub record Custodian : Type 0 where
  pub role : List ℕ
  pub part : List ℕ

-- CSNBKPI FIRST into the record of a label
abbrev pub first_request : List ℕ → KeyType → Custodian → Request
first_request label kind c = record {
  name = CsnbkpiFirst;
  values = c.role ∷ codes "FIRST" ∷ type_name kind ∷ c.part ∷ by_label label ∷ [];
}

-- CSNBKPI MIDDLE or LAST, of the key in the record of a label and into the same record
abbrev pub further_request : List ℕ → List ℕ → Custodian → Request
further_request label rule c = record {
  name = CsnbkpiMiddle;
  values = c.role ∷ rule ∷ by_label label ∷ c.part ∷ by_label label ∷ [];
}

-- two or more parts of a key are brought in under a label: FIRST, MIDDLE for each between, and LAST
pub record BroughtIn (label : List ℕ) (kind : KeyType) (s : State) : Type 0 where
  pub first : Custodian
  pub middle : List Custodian
  pub last : Custodian
  pub before_last : State
  pub now : State
  pub begins : AreCarriedOut s
      (first_request label kind first ∷ map (further_request label (codes "MIDDLE")) middle)
      before_last
  pub ends : AreCarriedOut before_last (further_request label (codes "LAST") last ∷ []) now

-- ---- the parts

-- the bytes of a part
abbrev pub bytes_of : Custodian → List ℕ
bytes_of c = hex_value c.part

-- how many bytes the parts have, by the first one
abbrev pub size_of : (label : List ℕ) (kind : KeyType) (s : State) → BroughtIn label kind s → ℕ
size_of label kind s b = length (bytes_of b.first)

-- the bytes of all parts
abbrev pub parts_of : (label : List ℕ) (kind : KeyType) (s : State) → BroughtIn label kind s
    → List (List ℕ)
parts_of label kind s b =
    bytes_of b.first ∷ (map bytes_of b.middle ++ bytes_of b.last ∷ [])

-- ---- what the states say

-- the label stands in the same cell in both states, or in none, and holds the same
pub record SameRecord (s t : State) (label : List ℕ) : Type 0 where
  pub cell : cell_with t label ≡ cell_with s label
  pub key : key_of_label t label ≡ key_of_label s label

-- the operand is this label, and it must be the label of a whole key
pub record AsksWhole (label : List ℕ) (o : Operand) : Type 0 where
  pub need : Need
  pub text : o.text ≡ by_label label
  pub asks : o.ask ≡ Key need
  pub whole : need.parts ≡ false

-- the request breaks no rule that is asked before those of this operand
pub record IsReached (s : State) (r : Request) (o : Operand) : Type 0 where
  pub before : List Operand
  pub after : List Operand
  pub among : listed (operands r) ≡ before ++ o ∷ after
  pub general : first_failing (general_checks s r) ≡ None
  pub earlier : first_refusal (operand_questions s before) ≡ None
