-- What a key may be used for, by its control vector.
use Rattle.std.specs.Prelude.{◌≡◌, ◌≢◌, ◌⊎◌, ℕ, Bool, true, false, List, [], ◌∷◌, Option, None, Some, ⊤, codes, slice_index}
use Rattle.cca_vectors.specs.Classes.{class_of}
use Rattle.cca_vectors.specs.Permissions.{is_exportable, permits}
use Rattle.cca_vectors.specs.Vectors.{is_part_of, length_of}
use Rattle.cca_vectors.specs.declared.key_class.Class.{Class}
use Rattle.cca_vectors.specs.declared.key_class.Class.TheVariants.{Data, Cipher, Mac, Exporter, Importer}
use Rattle.cca_vectors.specs.declared.key_usage.Usage.{Usage}
use Rattle.cca_vectors.specs.declared.key_usage.Usage.TheVariants.{Encipher, Decipher, MacGenerate, MacVerify, Transport, Translate, PairOperational, PairImportExport, PairSame}
use Rattle.key_tokens.specs.Denotes.{Denoted}
use Rattle.line_service.specs.Replies.{Reply}
use Rattle.verb_rules.specs.Classes.{classes_of, has}
use Rattle.verb_rules.specs.declared.needs.Need.{Need}
use Rattle.verb_script.specs.Grammar.{Request}
use Rattle.verb_script.specs.declared.rows.RequestName.{RequestName}
use Rattle.verb_script.specs.declared.rows.RequestName.TheVariants.{Csnbenc, CsnbencFirst, CsnbencMiddle, CsnbencLast, Csnbdec, CsnbdecFirst, CsnbdecMiddle, CsnbdecLast, Csnbmgn, CsnbmgnFirst, CsnbmgnMiddle, CsnbmgnLast, Csnbmvr, CsnbmvrFirst, CsnbmvrMiddle, CsnbmvrLast, Csnbkyt, CsnbkgnPair, CsnbkgnOut, Csnbkim, Csnbkex, Csnbpex, CsnbkpiMiddle, Csnbktr}
use Rattle.cca_machine.specs.Operands.{Operand, operands}
use Rattle.cca_laws.specs.ReplyTokens.{ShowsTokens}

-- ---- by the needs of an operand

-- the control vector has what an operand needs
pub record Allows (need : Need) (vector : List ℕ) : Type 0 where
  pub class : has need.classes (class_of vector) ≡ true
  pub usage : (use_of : Usage) → need.usage ≡ Some use_of → permits vector use_of ≡ true
  pub export : need.export ≡ true → is_exportable vector ≡ true
  pub double : need.double ≡ true → length_of vector ≢ 8
  pub part : need.parts ≡ false → is_part_of vector ≡ false

-- the operand is one of the request's
abbrev pub IsOperandOf : Request → Operand → Type 0
IsOperandOf r o = (o ≡ (operands r).first) ⊎ ((o ≡ (operands r).second) ⊎ (o ≡ (operands r).third))

-- there is a key, and P holds of its control vector
abbrev pub IsKeyWith : (List ℕ → Type 0) → Option Denoted → Type 0
IsKeyWith P None = ⊥
IsKeyWith P (Some key) = P key.clear.vector

-- ---- verb by verb

-- the key is of one of these classes
abbrev pub IsOf : List Class → List ℕ → Type 0
IsOf classes vector = has (classes_of classes) (class_of vector) ≡ true

-- the key is no key part
abbrev pub IsComplete : List ℕ → Type 0
IsComplete vector = is_part_of vector ≡ false

abbrev pub MayEncipher : List ℕ → Type 0
MayEncipher vector =
    IsOf (Data ∷ Cipher ∷ []) vector × (permits vector Encipher ≡ true) × IsComplete vector

abbrev pub MayDecipher : List ℕ → Type 0
MayDecipher vector =
    IsOf (Data ∷ Cipher ∷ []) vector × (permits vector Decipher ≡ true) × IsComplete vector

abbrev pub MayGenerate : List ℕ → Type 0
MayGenerate vector =
    IsOf (Data ∷ Mac ∷ []) vector × (permits vector MacGenerate ≡ true) × IsComplete vector

abbrev pub MayVerify : List ℕ → Type 0
MayVerify vector =
    IsOf (Data ∷ Mac ∷ []) vector × (permits vector MacVerify ≡ true) × IsComplete vector

-- every class but OTHER
abbrev pub known_classes : List Class
known_classes = Data ∷ Cipher ∷ Mac ∷ Exporter ∷ Importer ∷ []

-- of a key whose key check value is shown, or whose export is prohibited
abbrev pub MayTest : List ℕ → Type 0
MayTest vector = IsOf known_classes vector × IsComplete vector

abbrev pub MayExport : List ℕ → Type 0
MayExport vector = (is_exportable vector ≡ true) × IsComplete vector

-- of a key part that a further part is combined with
abbrev pub MayCombine : List ℕ → Type 0
MayCombine vector = IsOf known_classes vector × (is_part_of vector ≡ true)

-- the operand `key` represents a key, and what its control vector says, also in segments
abbrev pub MayWork : RequestName → Option Denoted → Type 0
MayWork Csnbenc key = IsKeyWith MayEncipher key
MayWork CsnbencFirst key = IsKeyWith MayEncipher key
MayWork CsnbencMiddle key = IsKeyWith MayEncipher key
MayWork CsnbencLast key = IsKeyWith MayEncipher key
MayWork Csnbdec key = IsKeyWith MayDecipher key
MayWork CsnbdecFirst key = IsKeyWith MayDecipher key
MayWork CsnbdecMiddle key = IsKeyWith MayDecipher key
MayWork CsnbdecLast key = IsKeyWith MayDecipher key
MayWork Csnbmgn key = IsKeyWith MayGenerate key
MayWork CsnbmgnFirst key = IsKeyWith MayGenerate key
MayWork CsnbmgnMiddle key = IsKeyWith MayGenerate key
MayWork CsnbmgnLast key = IsKeyWith MayGenerate key
MayWork Csnbmvr key = IsKeyWith MayVerify key
MayWork CsnbmvrFirst key = IsKeyWith MayVerify key
MayWork CsnbmvrMiddle key = IsKeyWith MayVerify key
MayWork CsnbmvrLast key = IsKeyWith MayVerify key
MayWork Csnbkyt key = IsKeyWith MayTest key
MayWork Csnbkex key = IsKeyWith MayExport key
MayWork Csnbpex key = IsKeyWith MayTest key
MayWork CsnbkpiMiddle key = IsKeyWith MayCombine key
MayWork _ key = ⊤

-- ---- transport keys

-- a double-length key of this class that permits this use
abbrev pub IsTransportKey : Class → Usage → List ℕ → Type 0
IsTransportKey class use_of vector =
    IsOf (class ∷ []) vector × (permits vector use_of ≡ true) × (length_of vector ≢ 8)

abbrev pub MayCarry : Class → Usage → Option Denoted → Type 0
MayCarry class use_of key =
    IsKeyWith (λ vector. IsTransportKey class use_of vector × IsComplete vector) key

-- the operand `transport` represents a transport key
abbrev pub HasTransport : RequestName → Option Denoted → Type 0
HasTransport Csnbkex key = MayCarry Exporter Transport key
HasTransport Csnbkim key = MayCarry Importer Transport key
HasTransport _ key = ⊤

-- the operand `transport1` does, by the form of a pair
abbrev pub HasFirstTransport : RequestName → List ℕ → Option Denoted → Type 0
HasFirstTransport Csnbktr form key = MayCarry Importer Translate key
HasFirstTransport CsnbkgnOut form key =
    (form ≡ codes "IMEX" → MayCarry Importer PairImportExport key)
    × (form ≡ codes "EXEX" → MayCarry Exporter PairSame key)
    × (form ≡ codes "IMIM" → MayCarry Importer PairSame key)
HasFirstTransport _ form key = ⊤

-- the operand `transport2` does
abbrev pub HasSecondTransport : RequestName → List ℕ → Option Denoted → Type 0
HasSecondTransport Csnbktr form key = MayCarry Exporter Translate key
HasSecondTransport CsnbkgnPair form key =
    (form ≡ codes "OPEX" → MayCarry Exporter PairOperational key)
    × (form ≡ codes "OPIM" → MayCarry Importer PairOperational key)
HasSecondTransport CsnbkgnOut form key =
    (form ≡ codes "IMEX" → MayCarry Exporter PairImportExport key)
    × (form ≡ codes "EXEX" → MayCarry Exporter PairSame key)
    × (form ≡ codes "IMIM" → MayCarry Importer PairSame key)
HasSecondTransport _ form key = ⊤

-- ---- external tokens

-- the requests whose replies have an external token: of an exported key, of generated ones, and of a translated one
abbrev pub gives_external : RequestName → Bool
gives_external Csnbkex = true
gives_external CsnbkgnPair = true
gives_external CsnbkgnOut = true
gives_external Csnbktr = true
gives_external _ = false

-- the token is no external one, which begins with X'02'
abbrev pub IsInternal : List ℕ → Type 0
IsInternal bytes = slice_index bytes 0 ≢ 0x02

abbrev pub ShowsNoExternal : Reply → Type 0
ShowsNoExternal reply = ShowsTokens IsInternal reply
