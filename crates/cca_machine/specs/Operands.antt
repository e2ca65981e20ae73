-- What a request needs before its verb decides, as a table: access control points, the master key, and its operands, which
-- name a key or a label.
use Rattle.std.specs.Prelude.{ℕ, bit_or, Bool, true, false, ◌||◌, is_some, List, [], ◌∷◌, codes, Option, None, Some}
use Rattle.verb_script.specs.Grammar.{Request, value_of}
use Rattle.verb_script.specs.declared.rows.RequestName.{RequestName}
use Rattle.verb_script.specs.declared.rows.RequestName.TheVariants.{Csnbktp, Csnbenc, CsnbencFirst, CsnbencMiddle, CsnbencLast, Csnbdec, CsnbdecFirst, CsnbdecMiddle, CsnbdecLast, Csnbmgn, CsnbmgnFirst, CsnbmgnMiddle, CsnbmgnLast, Csnbmvr, CsnbmvrFirst, CsnbmvrMiddle, CsnbmvrLast, Csnbkyt, Csnbcki, Csnbrng, CsnbkgnOp, CsnbkgnPair, CsnbkgnOut, Csnbkim, Csnbkex, Csnbpex, Csnbktc, CsnbkpiFirst, CsnbkpiMiddle, Csnbktr, Csnbkrc, Csnbkrw, Csnbkrr, Csnbkrd, Csnbkrl, CsnbmkpPart, CsnbmkpClear, CsnbmkpSet, CsuaaciDefine, CsuaaciRemove, Reencipher, ReencipherAhead, ReencipherDrop}
use Rattle.cca_vectors.specs.declared.key_class.Class.{Class}
use Rattle.cca_vectors.specs.declared.key_class.Class.TheVariants.{Data, Cipher, Mac, Exporter, Importer}
use Rattle.cca_vectors.specs.declared.key_usage.Usage.{Usage}
use Rattle.cca_vectors.specs.declared.key_usage.Usage.TheVariants.{Encipher, Decipher, MacGenerate, MacVerify, Transport, Translate, PairOperational, PairImportExport, PairSame}
use Rattle.key_tokens.specs.declared.key_token.Asked.TheVariants.{Internal, External}
use Rattle.key_transport.specs.declared.generating.Form.{Form}
use Rattle.key_transport.specs.declared.generating.Form.TheVariants.{Op, Opex, Opim, Imex, Exex, Imim}
use Rattle.verb_script.specs.Named.{label_named}
use Rattle.verb_rules.specs.Classes.{classes_of}
pub use Rattle.verb_rules.specs.Needs.{any_key, every_class, exported_key, transport_key}
use Rattle.verb_rules.specs.declared.needs.Need.{Need}
use Rattle.cca_machine.specs.Actions.{part_action}
use Rattle.cca_machine.specs.Choices.{pair_form_named, out_form_named, target_named}
use Rattle.cca_machine.specs.Points.{action_points, change_points, point, target_points}
use Rattle.master_registers.specs.declared.actions.Action.TheVariants.{Clear, Set}
use Rattle.cca_machine.specs.declared.asking.Ask.{Ask}
use Rattle.cca_machine.specs.declared.asking.Ask.TheVariants.{AnyToken, Key, Token, External as ExternalToken, Record, Held, NewLabel, Target, Nothing}

-- the name of a field, its text, and what is asked of it
pub record Operand : Type 0 where
  pub name : List ℕ
  pub text : List ℕ
  pub ask : Ask

-- the operands in the order of the fields; at most three, and nothing is asked of the others
pub record Operands : Type 0 where
  pub first : Operand
  pub second : Operand
  pub third : Operand

abbrev pub operand : Request → List ℕ → Ask → Operand
operand request name ask = record { name = name; text = value_of request name; ask = ask }

abbrev pub no_operand : Operand
no_operand = record { name = codes "-"; text = []; ask = Nothing }

abbrev pub no_operands : Operands
no_operands = record { first = no_operand; second = no_operand; third = no_operand }

abbrev pub one_operand : Operand → Operands
one_operand o = record { first = o; second = no_operand; third = no_operand }

abbrev pub two_operands : Operand → Operand → Operands
two_operands o p = record { first = o; second = p; third = no_operand }

abbrev pub three_operands : Operand → Operand → Operand → Operands
three_operands o p q = record { first = o; second = p; third = q }

-- an internal key of one of these classes that permits a use
abbrev pub internal_key : List Class → Option Usage → Need
internal_key classes usage = record {
  asked = Internal;
  classes = classes_of classes;
  usage = usage;
  export = false;
  double = false;
  parts = false;
}

-- every class but OTHER
abbrev pub five_classes : List Class
five_classes = Data ∷ Cipher ∷ Mac ∷ Exporter ∷ Importer ∷ []

-- an internal key that may be a part, of every class but OTHER
abbrev pub part_key : Need
part_key = record {
  asked = Internal;
  classes = classes_of five_classes;
  usage = None;
  export = false;
  double = false;
  parts = true;
}

-- an external token of any class
abbrev pub external_key : Need
external_key = record {
  asked = External;
  classes = classes_of every_class;
  usage = None;
  export = false;
  double = false;
  parts = false;
}

-- a key of no class, which no key is
abbrev pub no_transport : Need
no_transport = record {
  asked = Internal;
  classes = classes_of [];
  usage = None;
  export = false;
  double = true;
  parts = false;
}

-- The transport keys of two keys that are generated together, by the form. A form whose token is an internal one has none.
abbrev pub first_transport : Form → Need
first_transport Op = no_transport
first_transport Opex = no_transport
first_transport Opim = no_transport
first_transport Imex = transport_key Importer PairImportExport
first_transport Exex = transport_key Exporter PairSame
first_transport Imim = transport_key Importer PairSame

abbrev pub second_transport : Form → Need
second_transport Op = no_transport
second_transport Opex = transport_key Exporter PairOperational
second_transport Opim = transport_key Importer PairOperational
second_transport Imex = transport_key Exporter PairImportExport
second_transport Exex = transport_key Exporter PairSame
second_transport Imim = transport_key Importer PairSame

abbrev pub key_operand : Request → List Class → Option Usage → Operands
key_operand r classes usage =
    one_operand (operand r (codes "key") (Key (internal_key classes usage)))

-- ---- what a request needs before its verb decides: access control points, the master key, and what is asked of its operands

pub record Needed : Type 0 where
  pub points : Request → ℕ
  -- rule 05 is asked
  pub master : Bool
  pub operands : Request → Operands

-- most need the master key
abbrev pub needs_points : (Request → ℕ) → (Request → Operands) → Needed
needs_points points operands = record { points = points; master = true; operands = operands }

-- and one access control point, whatever their fields say
abbrev pub needs : List ℕ → (Request → Operands) → Needed
needs name operands = needs_points (λ r. point name) operands

-- a key that goes into a record needs the point of CSNBKRW too
abbrev pub needs_with_target : List ℕ → (Request → Operands) → Needed
needs_with_target name operands =
    needs_points (λ r. bit_or (point name) (target_points (value_of r (codes "to")))) operands

abbrev pub needs_key : List ℕ → List Class → Option Usage → Needed
needs_key name classes usage = needs name (λ r. key_operand r classes usage)

abbrev pub without_master : Needed → Needed
without_master it = record it { master = false }

abbrev pub without_operands : Request → Operands
without_operands r = no_operands

abbrev pub to_target : Request → Operands
to_target r = one_operand (operand r (codes "to") Target)

-- the table
abbrev pub needed : RequestName → Needed
needed Csnbktp =
    without_master (needs_points (λ r. 0) (λ r. one_operand (operand r (codes "token") AnyToken)))
needed Csnbenc = needs_key (codes "ENC") (Data ∷ Cipher ∷ []) (Some Encipher)
needed CsnbencFirst = needs_key (codes "ENC") (Data ∷ Cipher ∷ []) (Some Encipher)
needed CsnbencMiddle = needs_key (codes "ENC") (Data ∷ Cipher ∷ []) (Some Encipher)
needed CsnbencLast = needs_key (codes "ENC") (Data ∷ Cipher ∷ []) (Some Encipher)
needed Csnbdec = needs_key (codes "DEC") (Data ∷ Cipher ∷ []) (Some Decipher)
needed CsnbdecFirst = needs_key (codes "DEC") (Data ∷ Cipher ∷ []) (Some Decipher)
needed CsnbdecMiddle = needs_key (codes "DEC") (Data ∷ Cipher ∷ []) (Some Decipher)
needed CsnbdecLast = needs_key (codes "DEC") (Data ∷ Cipher ∷ []) (Some Decipher)
needed Csnbmgn = needs_key (codes "MGN") (Data ∷ Mac ∷ []) (Some MacGenerate)
needed CsnbmgnFirst = needs_key (codes "MGN") (Data ∷ Mac ∷ []) (Some MacGenerate)
needed CsnbmgnMiddle = needs_key (codes "MGN") (Data ∷ Mac ∷ []) (Some MacGenerate)
needed CsnbmgnLast = needs_key (codes "MGN") (Data ∷ Mac ∷ []) (Some MacGenerate)
needed Csnbmvr = needs_key (codes "MVR") (Data ∷ Mac ∷ []) (Some MacVerify)
needed CsnbmvrFirst = needs_key (codes "MVR") (Data ∷ Mac ∷ []) (Some MacVerify)
needed CsnbmvrMiddle = needs_key (codes "MVR") (Data ∷ Mac ∷ []) (Some MacVerify)
needed CsnbmvrLast = needs_key (codes "MVR") (Data ∷ Mac ∷ []) (Some MacVerify)
needed Csnbkyt = needs_key (codes "KYT") five_classes None
needed Csnbcki = needs_with_target (codes "CKI") to_target
needed Csnbrng = without_master (needs (codes "RNG") without_operands)
needed CsnbkgnOp = needs_with_target (codes "KGN_OP") to_target
needed CsnbkgnPair =
    needs_with_target (codes "KGN_PAIR") (λ r. two_operands
    (operand r (codes "transport2") (Key (second_transport (pair_form_named (value_of r (codes "form"))))))
    (operand r (codes "to") Target))
needed CsnbkgnOut =
    needs (codes "KGN_OUT") (λ r. two_operands
    (operand r (codes "transport1") (Key (first_transport (out_form_named (value_of r (codes "form"))))))
    (operand r (codes "transport2") (Key (second_transport (out_form_named (value_of r (codes "form")))))))
needed Csnbkim =
    needs_with_target (codes "KIM") (λ r. three_operands
    (operand r (codes "token") (ExternalToken external_key))
    (operand r (codes "transport") (Key (transport_key Importer Transport)))
    (operand r (codes "to") Target))
needed Csnbkex =
    needs (codes "KEX") (λ r. two_operands
    (operand r (codes "key") (Key exported_key))
    (operand r (codes "transport") (Key (transport_key Exporter Transport))))
needed Csnbpex =
    needs_with_target (codes "PEX") (λ r. two_operands
    (operand r (codes "key") (Key (internal_key five_classes None)))
    (operand r (codes "to") Target))
needed Csnbktc =
    needs_points (λ r. change_points (target_named (value_of r (codes "rule"))))
    (λ r. one_operand (operand r (codes "token") (Token any_key)))
needed CsnbkpiFirst = needs_with_target (codes "KPI_FIRST") to_target
needed CsnbkpiMiddle =
    needs_with_target (codes "KPI_COMBINE") (λ r. two_operands
    (operand r (codes "key") (Key part_key))
    (operand r (codes "to") Target))
needed Csnbktr =
    needs (codes "KTR") (λ r. three_operands
    (operand r (codes "token") (ExternalToken external_key))
    (operand r (codes "transport1") (Key (transport_key Importer Translate)))
    (operand r (codes "transport2") (Key (transport_key Exporter Translate))))
needed Csnbkrc =
    without_master (needs (codes "KRC") (λ r. one_operand (operand r (codes "label") NewLabel)))
needed Csnbkrw =
    needs (codes "KRW") (λ r. two_operands
    (operand r (codes "label") Held)
    (operand r (codes "token") (Token any_key)))
needed Csnbkrr = needs (codes "KRR") (λ r. one_operand (operand r (codes "label") Record))
needed Csnbkrd =
    without_master (needs (codes "KRD") (λ r. one_operand (operand r (codes "label") Held)))
needed Csnbkrl = without_master (needs (codes "KRL") without_operands)
needed CsnbmkpPart =
    without_master (needs_points (λ r. action_points (part_action (value_of r (codes "action"))))
    without_operands)
needed CsnbmkpClear = without_master (needs_points (λ r. action_points Clear) without_operands)
needed CsnbmkpSet = without_master (needs_points (λ r. action_points Set) without_operands)
needed CsuaaciDefine = without_master (needs (codes "ROLES") without_operands)
needed CsuaaciRemove = without_master (needs (codes "ROLES") without_operands)
needed Reencipher = needs (codes "REENC") without_operands
needed ReencipherAhead = needs (codes "REENC") without_operands
needed ReencipherDrop = needs (codes "REENC") without_operands

-- the access control points that a request needs
abbrev pub needed_points : RequestName → Request → ℕ
needed_points name request = (needed name).points request

-- rule 05 is asked
abbrev pub needs_master : RequestName → Bool
needs_master name = (needed name).master

abbrev pub operands_of : RequestName → Request → Operands
operands_of name request = (needed name).operands request

abbrev pub operands : Request → Operands
operands request = operands_of request.name request

abbrev pub listed : Operands → List Operand
listed os = os.first ∷ os.second ∷ os.third ∷ []

-- the operand is a label
abbrev pub is_named_by : List ℕ → Ask → Bool
is_named_by text AnyToken = false
is_named_by text (Key need) = is_some (label_named text)
is_named_by text (Token need) = false
is_named_by text (ExternalToken need) = false
is_named_by text Record = true
is_named_by text Held = true
is_named_by text NewLabel = true
is_named_by text Target = is_some (label_named text)
is_named_by text Nothing = false

-- one of the operands is a label
abbrev pub names_label : List Operand → Bool
names_label [] = false
names_label (o ∷ os) = is_named_by o.text o.ask || names_label os

-- a request over a text
abbrev pub is_over_text : RequestName → Bool
is_over_text Csnbenc = true
is_over_text CsnbencFirst = true
is_over_text CsnbencMiddle = true
is_over_text CsnbencLast = true
is_over_text Csnbdec = true
is_over_text CsnbdecFirst = true
is_over_text CsnbdecMiddle = true
is_over_text CsnbdecLast = true
is_over_text Csnbmgn = true
is_over_text CsnbmgnFirst = true
is_over_text CsnbmgnMiddle = true
is_over_text CsnbmgnLast = true
is_over_text Csnbmvr = true
is_over_text CsnbmvrFirst = true
is_over_text CsnbmvrMiddle = true
is_over_text CsnbmvrLast = true
is_over_text _ = false

-- the request goes through every label of the store
abbrev pub is_reencipher : RequestName → Bool
is_reencipher Reencipher = true
is_reencipher ReencipherAhead = true
is_reencipher ReencipherDrop = true
is_reencipher _ = false

-- the request needs the store: one of its operands is a label, or it goes through every label
abbrev pub needs_store : Request → Bool
needs_store request = is_reencipher request.name || names_label (listed (operands request))
