-- The requests that pass a key on: the key and its control vector stay, and none lifts the ban on its export.
use Rattle.std.specs.Prelude.{◌≡◌, ℕ, Bool, true, false, List, codes, Option, None, Some, option_map, if◌then◌else◌}
use Rattle.std.specs.Str.{bytes_eq}
use Rattle.key_cells.specs.Bytes.{xor}
use Rattle.cca_vectors.specs.Closing.{closed_to_export}
use Rattle.cca_vectors.specs.PartVectors.{as_part}
use Rattle.cca_vectors.specs.Permissions.{is_exportable}
use Rattle.key_tokens.specs.Denotes.{ClearKey, Denoted, denoted_under}
use Rattle.key_tokens.specs.Fields.{token_of}
use Rattle.verb_rules.specs.Keys.{keys_of, master_under}
use Rattle.verb_script.specs.Grammar.{Request, value_of}
use Rattle.verb_script.specs.declared.rows.RequestName.{RequestName}
use Rattle.verb_script.specs.declared.rows.RequestName.TheVariants.{Csnbkim, Csnbkex, Csnbpex, Csnbktc, CsnbkpiMiddle, Csnbktr, Csnbkrw, Csnbkrr}
use Rattle.cca_machine.specs.Act.{Outcome}
use Rattle.cca_machine.specs.Keys.{key_in_text, key_of_label, key_of_token}
use Rattle.cca_machine.specs.State.{State}
use Rattle.cca_machine.specs.Verdict.{bytes_in}
use Rattle.cca_laws.specs.Delivered.{Master, Transport, Under}
use Rattle.cca_laws.specs.ReplyTokens.{ShowsTokens}
use Rattle.cca_laws.specs.Targets.{Spares}

-- the control vector of a key
abbrev pub vector_of : Option Denoted → Option (List ℕ)
vector_of key = option_map (λ k. k.clear.vector) key

-- the control vector of the key that a request passes on, to its reply or to the record of a label:
-- that of an internal key, or that which stands in an external token; None where it passes on none
abbrev pub passed_by : State → RequestName → Request → Option (List ℕ)
passed_by s Csnbpex r = vector_of (key_in_text s (value_of r (codes "key")))
passed_by s Csnbkex r = vector_of (key_in_text s (value_of r (codes "key")))
passed_by s CsnbkpiMiddle r = vector_of (key_in_text s (value_of r (codes "key")))
passed_by s Csnbkim r = Some (token_of (bytes_in r (codes "token"))).vector
passed_by s Csnbktr r = Some (token_of (bytes_in r (codes "token"))).vector
passed_by s Csnbktc r = vector_of (key_of_token s (bytes_in r (codes "token")))
passed_by s Csnbkrw r = vector_of (key_of_token s (bytes_in r (codes "token")))
passed_by s Csnbkrr r = vector_of (key_of_label s (value_of r (codes "label")))
passed_by s _ r = None

abbrev pub passed_vector : State → Request → Option (List ℕ)
passed_vector s r = passed_by s r.name r

-- the control vector in the token forbids export
abbrev pub ForbidsExport : List ℕ → Type 0
ForbidsExport bytes = is_exportable (token_of bytes).vector ≡ false

-- no token in the reply may be exported, and no key of a label that the request writes
pub record StaysUnexportable (r : Request) (o : Outcome) : Type 0 where
  pub shown : ShowsTokens ForbidsExport o.reply
  pub stored : (label : List ℕ) (key : Denoted) → (Spares label r → ⊥)
      → key_of_label o.state label ≡ Some key → is_exportable key.clear.vector ≡ false

-- ---- the same key, with the same control vector

-- the key in the operand of this name
abbrev pub operand_key : State → Request → List ℕ → Option Denoted
operand_key s r name = key_in_text s (value_of r name)

abbrev pub clear_of : Option Denoted → Option ClearKey
clear_of key = option_map (λ k. k.clear) key

-- the key of the external token in the operand `token`, under a transport key
abbrev pub token_under : Request → Option ClearKey → Option ClearKey
token_under r None = None
token_under r (Some transport) = denoted_under transport.key (bytes_in r (codes "token"))

-- CSNBPEX: the same key, whose control vector forbids export
abbrev pub closed : ClearKey → ClearKey
closed clear = record clear { vector = closed_to_export clear.vector }

-- CSNBKPI: the key part XOR the part; with LAST the control vector is that of the complete key
abbrev pub combined : List ℕ → List ℕ → ClearKey → ClearKey
combined rule part clear = record {
  key = xor clear.key part;
  vector = if bytes_eq rule (codes "LAST") then as_part clear.vector else clear.vector;
}

-- the key that a request passes on, with its control vector; None where it passes on none
abbrev pub key_passed : State → RequestName → Request → Option ClearKey
key_passed s Csnbkim r = token_under r (clear_of (operand_key s r (codes "transport")))
key_passed s Csnbktr r = token_under r (clear_of (operand_key s r (codes "transport1")))
key_passed s Csnbkex r = clear_of (operand_key s r (codes "key"))
key_passed s Csnbktc r = clear_of (key_of_token s (bytes_in r (codes "token")))
key_passed s Csnbkrr r = clear_of (key_of_label s (value_of r (codes "label")))
key_passed s Csnbpex r = option_map closed (clear_of (operand_key s r (codes "key")))
key_passed s CsnbkpiMiddle r =
    option_map (combined (value_of r (codes "rule")) (bytes_in r (codes "part")))
    (clear_of (operand_key s r (codes "key")))
key_passed s _ r = None

-- the request passes a key on to the record in `to`, or to its reply
abbrev pub passes_to : RequestName → Bool
passes_to Csnbkim = true
passes_to Csnbpex = true
passes_to CsnbkpiMiddle = true
passes_to _ = false

-- it passes a key on to its reply
abbrev pub passes_out : RequestName → Bool
passes_out Csnbkex = true
passes_out Csnbktr = true
passes_out Csnbktc = true
passes_out Csnbkrr = true
passes_out _ = false

abbrev pub transport_of : Option Denoted → Under
transport_of None = Transport (codes "")
transport_of (Some key) = Transport key.clear.key

abbrev pub register_of : State → Option Denoted → Under
register_of s None = Master None
register_of s (Some key) = Master (master_under (keys_of s.registers) key.age)

-- what the token in its reply is under: a transport key of the request, the register that CSNBKTC names, or the one that
-- the label's key is under
abbrev pub under : State → RequestName → Request → Under
under s Csnbkex r = transport_of (operand_key s r (codes "transport"))
under s Csnbktr r = transport_of (operand_key s r (codes "transport2"))
under s Csnbktc r =
    if bytes_eq (value_of r (codes "rule")) (codes "RTCMK")
    then Master (keys_of s.registers).current
    else Master (keys_of s.registers).coming
under s Csnbkrr r = register_of s (key_of_label s (value_of r (codes "label")))
under s _ r = Master None
