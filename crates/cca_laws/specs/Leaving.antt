-- What the reply to a permitted request has, field by field: of clear keys only what the standard makes of them.
use Rattle.std.specs.Prelude.{◌≡◌, ◌<◌, ℕ, Bool, true, map, option_map, ⊤, List, [], ◌∷◌, ◌++◌, codes, length, replicate, take, Option, None, Some}
use Rattle.cca_vectors.specs.Checks.{first_failing}
use Rattle.cca_vectors.specs.VectorChecks.{vector_checks}
use Rattle.cipher_verbs.specs.CipherTexts.{deciphered_text, enciphered_text, test_value}
use Rattle.cipher_verbs.specs.Imported.{data_vector}
use Rattle.cipher_verbs.specs.RandomBytes.{in_form}
use Rattle.cipher_verbs.specs.declared.padding.Pad.{Pad}
use Rattle.des_blocks.specs.Modes.{zero_block}
use Rattle.key_parts.specs.Parts.{combined_key, first_key}
use Rattle.record_bodies.specs.Entries.{directory}
use Rattle.key_tokens.specs.Denotes.{ClearKey, Denoted, denoted, denoted_under}
use Rattle.key_tokens.specs.Fields.{token_of}
use Rattle.key_tokens.specs.Layout.{made}
use Rattle.key_tokens.specs.declared.key_token.Age.{Age}
use Rattle.key_tokens.specs.declared.key_token.Age.TheVariants.{Current, Old}
use Rattle.key_tokens.specs.declared.key_token.Kind.TheVariants.{Internal, External}
use Rattle.key_transport.specs.Generated.{generated_key}
use Rattle.key_transport.specs.Tokens.{closed_key}
use Rattle.key_transport.specs.declared.changing.Target.{Target}
use Rattle.key_transport.specs.declared.changing.Target.TheVariants.{Current as ToCurrent, New}
use Rattle.mac_verbs.specs.Codes.{code_of}
use Rattle.master_registers.specs.Masters.{Full, pattern_of_master, state_of}
use Rattle.master_registers.specs.declared.registers.NewState.{NewState}
use Rattle.master_registers.specs.declared.registers.NewState.TheVariants as state
use Rattle.multi_encipher.specs.Bundles.{transport_bundle}
use Rattle.multi_encipher.specs.Seals.{seal}
use Rattle.record_bodies.specs.Further.{changed_count}
use Rattle.record_bodies.specs.declared.actions.StoreAction.TheVariants.{Renew, Ahead, Drop}
use Rattle.line_service.specs.Replies.{Done, Field, Hex, Number, Refused, Reply, Text}
use Rattle.std.specs.List.{list_any}
use Rattle.std.specs.Str.{bytes_eq}
use Rattle.text_segments.specs.Chains.{chain_bytes, first_chain}
use Rattle.text_segments.specs.Segments.{chain_after, last_code, last_text, segment_text}
use Rattle.text_segments.specs.declared.chains.Chain.{Chain}
use Rattle.text_segments.specs.declared.modes.Mode.{Mode}
use Rattle.text_segments.specs.declared.modes.Mode.TheVariants.{Encipher, Decipher, Mac}
use Rattle.verb_rules.specs.Keys.{keys_of}
use Rattle.verb_script.specs.Grammar.{Request, row_of, value_of}
use Rattle.verb_script.specs.declared.rows.RequestName.{RequestName}
use Rattle.verb_script.specs.declared.rows.RequestName.TheVariants.{Csnbktp, Csnbenc, CsnbencFirst, CsnbencMiddle, CsnbencLast, Csnbdec, CsnbdecFirst, CsnbdecMiddle, CsnbdecLast, Csnbmgn, CsnbmgnFirst, CsnbmgnMiddle, CsnbmgnLast, Csnbmvr, CsnbmvrFirst, CsnbmvrMiddle, CsnbmvrLast, Csnbkyt, Csnbcki, Csnbrng, CsnbkgnOp, CsnbkgnPair, CsnbkgnOut, Csnbkim, Csnbkex, Csnbpex, Csnbktc, CsnbkpiFirst, CsnbkpiMiddle, Csnbktr, Csnbkrr, Csnbkrl, CsnbmkpPart, CsnbmkpClear, CsnbmkpSet, Reencipher, ReencipherAhead, ReencipherDrop}
use Rattle.verb_script.specs.Named.{label_named}
use Rattle.cca_machine.specs.Act.{Outcome, token_fields, yes_or_no}
use Rattle.cca_machine.specs.Choices.{form_named, is_last_part, mac_length_named, pad_named, target_named, type_in}
use Rattle.cca_machine.specs.Draws.{length_in}
use Rattle.cca_machine.specs.Keys.{any_old, key_in_text, key_of_label, warning}
use Rattle.cca_machine.specs.Listing.{label_fields}
use Rattle.cca_machine.specs.Operands.{listed, operands}
use Rattle.cca_machine.specs.State.{State}
use Rattle.cca_machine.specs.Verdict.{Refusal, bytes_in, chain_in, code_rule}

-- ---- tokens

-- the internal token of a key, enciphered under a master key
abbrev pub under_master : List ℕ → ClearKey → List ℕ
under_master master clear =
    made (record {
      kind = Internal;
      pattern = pattern_of_master master;
      sealed = seal master clear.vector clear.key;
      vector = clear.vector;
    })

-- the external token of a key, enciphered under a transport key
abbrev pub under_transport : ClearKey → ClearKey → List ℕ
under_transport transport clear =
    made (record {
      kind = External;
      pattern = replicate 8 0;
      sealed = seal (transport_bundle transport.key) clear.vector clear.key;
      vector = clear.vector;
    })

-- the master key in the current register, or in the full new one
abbrev pub IsTarget : State → Target → List ℕ → Type 0
IsTarget s ToCurrent master = s.registers.current ≡ Some master
IsTarget s New master = s.registers.coming ≡ Full master

-- the master key in the current register, or in the old one
abbrev pub IsRegister : State → Age → List ℕ → Type 0
IsRegister s Current master = s.registers.current ≡ Some master
IsRegister s Old master = s.registers.former ≡ Some master

-- ---- the keys of a request

-- the control vector breaks no rule of control vectors: parity, anti-variant bits and key form
abbrev pub IsAccepted : List ℕ → Type 0
IsAccepted vector = first_failing (vector_checks vector) ≡ None

-- there is this key, with a control vector that breaks no rule, and P holds of it
pub record IsThere (key : Option ClearKey) (P : ClearKey → Type 0) : Type 0 where
  pub clear : ClearKey
  pub is : key ≡ Some clear
  pub vector : IsAccepted clear.vector
  pub holds : P clear

abbrev pub clear_in : Option Denoted → Option ClearKey
clear_in key = option_map (λ k. k.clear) key

-- an operand is a key, by its label or as an internal token, of which P holds
abbrev pub OfKey : State → Request → List ℕ → (ClearKey → Type 0) → Type 0
OfKey s r name P = IsThere (clear_in (key_in_text s (value_of r name))) P

-- the operand `token` is an internal token, of a key of which P holds
abbrev pub OfToken : State → Request → (ClearKey → Type 0) → Type 0
OfToken s r P = IsThere (clear_in (denoted (keys_of s.registers) (bytes_in r (codes "token")))) P

-- the operand `token` is an external token under a transport key, of a key of which P holds
abbrev pub OfExternal : Request → ClearKey → (ClearKey → Type 0) → Type 0
OfExternal r transport P = IsThere (denoted_under transport.key (bytes_in r (codes "token"))) P

-- A key is delivered. Into the record of a label: the reply says which. Into the reply: as a token under the
-- current master key. Further fields follow.
abbrev pub Delivers
    : State → Option (List ℕ) → List ℕ → ClearKey → List Field → List Field → Type 0
Delivers s (Some label) field clear more fields = fields ≡ Text (codes "stored") label ∷ more
Delivers s None field clear more fields =
    (master : List ℕ)
    × ((s.registers.current ≡ Some master)
    × (fields ≡ Hex field (under_master master clear) ∷ more))

-- the key goes where the operand `to` says, in a field of this name or into a record
abbrev pub DeliversTo : State → Request → List ℕ → ClearKey → List Field → Type 0
DeliversTo s r field clear fields =
    Delivers s (label_named (value_of r (codes "to"))) field clear [] fields

-- ---- what a key makes of a text

-- a text, which there is
abbrev pub ShowsText : Option (List ℕ) → List Field → Type 0
ShowsText text fields =
    (bytes : List ℕ) × ((text ≡ Some bytes) × (fields ≡ Hex (codes "text") bytes ∷ []))

abbrev pub pad_in : Request → Pad
pad_in r = pad_named (value_of r (codes "pad"))

abbrev pub text_in : Request → List ℕ
text_in r = bytes_in r (codes "text")

-- the text of a segment, and the chain after it
abbrev pub ShowsSegment : State → Request → Mode → Chain → List Field → Type 0
ShowsSegment s r mode chain fields = OfKey s r (codes "key") (λ key.
    fields ≡ Hex (codes "text") (segment_text key mode chain (text_in r))
    ∷ Hex (codes "chain") (chain_bytes (chain_after key mode chain (text_in r))) ∷ [])

abbrev pub ShowsLast : State → Request → Mode → List Field → Type 0
ShowsLast s r mode fields = OfKey s r (codes "key") (λ key.
    ShowsText (last_text key mode (chain_in r) (pad_in r) (text_in r)) fields)

-- of a segment of a MAC the chain alone
abbrev pub ShowsChain : State → Request → Chain → List Field → Type 0
ShowsChain s r chain fields = OfKey s r (codes "key") (λ key.
    fields ≡ Hex (codes "chain")
    (chain_bytes (chain_after key (Mac (code_rule r)) chain (text_in r))) ∷ [])

-- as many bytes of a MAC as the operand `length` says: 4, 6 or 8
abbrev pub ShowsMac : Request → List ℕ → List Field → Type 0
ShowsMac r mac fields =
    fields ≡ Hex (codes "mac") (take (mac_length_named (value_of r (codes "length"))) mac) ∷ []

-- whether the operand `mac` is a MAC's leftmost bytes
abbrev pub ShowsMatch : Request → List ℕ → List Field → Type 0
ShowsMatch r mac fields =
    fields ≡ Text (codes "match")
    (yes_or_no (bytes_eq (bytes_in r (codes "mac"))
    (take (length (bytes_in r (codes "mac"))) mac))) ∷ []

-- ---- generated keys

abbrev pub generated : Request → List ℕ → List ℕ → ClearKey
generated r drawn type = generated_key (type_in (value_of r type)) (length_in r) drawn

-- ---- words

abbrev pub state_name : NewState → List ℕ
state_name state.Empty = codes "empty"
state_name state.Partial = codes "partial"
state_name state.Full = codes "full"

-- how full the new master key register is
abbrev pub ShowsNew : State → List Field → Type 0
ShowsNew after fields =
    fields ≡ Text (codes "new") (state_name (state_of after.registers.coming)) ∷ []

-- ---- each request

-- the fields of the reply to a permitted request, but for a warning: by the state before and after it,
-- and by the random bytes that it takes
abbrev pub Leaves : State → State → List ℕ → RequestName → Request → List Field → Type 0
Leaves s after drawn Csnbktp r fields =
    fields ≡ token_fields (token_of (bytes_in r (codes "token")))
Leaves s after drawn Csnbenc r fields = OfKey s r (codes "key") (λ key.
    fields ≡ Hex (codes "text")
    (enciphered_text key (bytes_in r (codes "iv")) (pad_in r) (text_in r)) ∷ [])
Leaves s after drawn CsnbencFirst r fields =
    ShowsSegment s r Encipher (first_chain (bytes_in r (codes "iv"))) fields
Leaves s after drawn CsnbencMiddle r fields = ShowsSegment s r Encipher (chain_in r) fields
Leaves s after drawn CsnbencLast r fields = ShowsLast s r Encipher fields
Leaves s after drawn Csnbdec r fields = OfKey s r (codes "key") (λ key.
    ShowsText (deciphered_text key (bytes_in r (codes "iv")) (pad_in r) (text_in r)) fields)
Leaves s after drawn CsnbdecFirst r fields =
    ShowsSegment s r Decipher (first_chain (bytes_in r (codes "iv"))) fields
Leaves s after drawn CsnbdecMiddle r fields = ShowsSegment s r Decipher (chain_in r) fields
Leaves s after drawn CsnbdecLast r fields = ShowsLast s r Decipher fields
Leaves s after drawn Csnbmgn r fields = OfKey s r (codes "key") (λ key.
    ShowsMac r (code_of (code_rule r) key (text_in r)) fields)
Leaves s after drawn CsnbmgnFirst r fields = ShowsChain s r (first_chain zero_block) fields
Leaves s after drawn CsnbmgnMiddle r fields = ShowsChain s r (chain_in r) fields
Leaves s after drawn CsnbmgnLast r fields = OfKey s r (codes "key") (λ key.
    ShowsMac r (last_code key (code_rule r) (chain_in r) (text_in r)) fields)
Leaves s after drawn Csnbmvr r fields = OfKey s r (codes "key") (λ key.
    ShowsMatch r (code_of (code_rule r) key (text_in r)) fields)
Leaves s after drawn CsnbmvrFirst r fields = ShowsChain s r (first_chain zero_block) fields
Leaves s after drawn CsnbmvrMiddle r fields = ShowsChain s r (chain_in r) fields
Leaves s after drawn CsnbmvrLast r fields = OfKey s r (codes "key") (λ key.
    ShowsMatch r (last_code key (code_rule r) (chain_in r) (text_in r)) fields)
Leaves s after drawn Csnbkyt r fields = OfKey s r (codes "key") (λ key.
    fields ≡ Hex (codes "value") (test_value key) ∷ [])
Leaves s after drawn Csnbcki r fields =
    DeliversTo s r (codes "token")
    (record { key = take 8 (bytes_in r (codes "clear")); vector = data_vector }) fields
Leaves s after drawn Csnbrng r fields =
    fields ≡ Hex (codes "random") (in_form (form_named (value_of r (codes "form"))) drawn) ∷ []
Leaves s after drawn CsnbkgnOp r fields =
    DeliversTo s r (codes "token1") (generated r drawn (codes "type1")) fields
Leaves s after drawn CsnbkgnPair r fields = OfKey s r (codes "transport2") (λ two.
    Delivers s (label_named (value_of r (codes "to"))) (codes "token1")
    (generated r drawn (codes "type1"))
    (Hex (codes "token2") (under_transport two (generated r drawn (codes "type2"))) ∷ []) fields)
Leaves s after drawn CsnbkgnOut r fields = OfKey s r (codes "transport1") (λ one.
    OfKey s r (codes "transport2") (λ two.
    fields ≡ Hex (codes "token1") (under_transport one (generated r drawn (codes "type1")))
    ∷ Hex (codes "token2") (under_transport two (generated r drawn (codes "type2"))) ∷ []))
Leaves s after drawn Csnbkim r fields = OfKey s r (codes "transport") (λ transport.
    OfExternal r transport (λ key. DeliversTo s r (codes "token") key fields))
Leaves s after drawn Csnbkex r fields = OfKey s r (codes "key") (λ key.
    OfKey s r (codes "transport") (λ transport.
    fields ≡ Hex (codes "token") (under_transport transport key) ∷ []))
Leaves s after drawn Csnbpex r fields = OfKey s r (codes "key") (λ key.
    DeliversTo s r (codes "token") (closed_key key) fields)
Leaves s after drawn Csnbktc r fields = OfToken s r (λ key.
    (master : List ℕ) × (IsTarget s (target_named (value_of r (codes "rule"))) master
    × (fields ≡ Hex (codes "token") (under_master master key) ∷ [])))
Leaves s after drawn CsnbkpiFirst r fields =
    DeliversTo s r (codes "token")
    (first_key (type_in (value_of r (codes "type"))) (bytes_in r (codes "part"))) fields
Leaves s after drawn CsnbkpiMiddle r fields = OfKey s r (codes "key") (λ key.
    DeliversTo s r (codes "token")
    (combined_key (is_last_part (value_of r (codes "rule"))) key (bytes_in r (codes "part")))
    fields)
Leaves s after drawn Csnbktr r fields = OfKey s r (codes "transport1") (λ one.
    OfKey s r (codes "transport2") (λ two. OfExternal r one (λ key.
    fields ≡ Hex (codes "token") (under_transport two key) ∷ [])))
Leaves s after drawn Csnbkrr r fields =
    (key : Denoted) × ((key_of_label s (value_of r (codes "label")) ≡ Some key)
    × (IsAccepted key.clear.vector × ((master : List ℕ) × (IsRegister s key.age master
    × (fields ≡ Hex (codes "token") (under_master master key.clear) ∷ [])))))
Leaves s after drawn Csnbkrl r fields =
    fields ≡ label_fields (value_of r (codes "prefix")) (directory s.labels)
Leaves s after drawn CsnbmkpPart r fields = ShowsNew after fields
Leaves s after drawn CsnbmkpClear r fields = ShowsNew after fields
Leaves s after drawn CsnbmkpSet r fields = ShowsNew after fields
Leaves s after drawn Reencipher r fields =
    fields ≡ Number (codes "changed") (changed_count Renew s.labels) ∷ []
Leaves s after drawn ReencipherAhead r fields =
    fields ≡ Number (codes "changed") (changed_count Ahead s.labels) ∷ []
Leaves s after drawn ReencipherDrop r fields =
    fields ≡ Number (codes "changed") (changed_count Drop s.labels) ∷ []
-- CSNBKRC, CSNBKRW, CSNBKRD and CSUAACI
Leaves s after drawn _ r fields = fields ≡ []

-- the reply has these fields, and no others but the warning
pub record LeavesSealed (s : State) (drawn : List ℕ) (r : Request) (o : Outcome) : Type 0 where
  pub fields : List Field
  pub reply : o.reply ≡ Done (fields ++ warning (any_old s (listed (operands r))))
  pub each : Leaves s o.state drawn r.name r fields

-- ---- refusals

-- `-`, or the name of a field that requests of this name have
abbrev pub is_field_name : RequestName → List ℕ → Bool
is_field_name name operand =
    list_any (λ known. bytes_eq operand known)
    (codes "-" ∷ map (λ field. field.name) (row_of name).fields)

-- a refusal says the number of a rule, and the name of a field or `-`
pub record IsRefusal (name : RequestName) (refusal : Refusal) : Type 0 where
  pub rule : refusal.rule < 37
  pub field : is_field_name name refusal.operand ≡ true

-- where this refuses a request of this name, the reply says so, and nothing else
abbrev pub RefusesBy : Option Refusal → RequestName → Reply → Type 0
RefusesBy (Some refusal) name reply =
    (reply ≡ Refused refusal.rule refusal.operand) × IsRefusal name refusal
RefusesBy None name reply = ⊤
