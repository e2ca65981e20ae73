-- Texts that go through the machine in segments: the requests, each given the chain that the one before replied, and what
-- they reply.
use Rattle.std.specs.Prelude.{◌≡◌, ⊤, ℕ, Bool, true, false, List, [], ◌∷◌, ◌++◌, codes, length, map, None, Some, take}
use Rattle.std.specs.Str.{bytes_eq}
use Rattle.des_blocks.specs.Modes.{joined}
use Rattle.key_tokens.specs.Denotes.{ClearKey}
use Rattle.mac_verbs.specs.Codes.{code_of}
use Rattle.line_service.specs.Replies.{Field, Done, Hex, Text}
use Rattle.text_segments.specs.Cuttings.{uncut_text}
use Rattle.text_segments.specs.Segments.{IsCipher}
use Rattle.text_segments.specs.declared.modes.Mode.{Mode}
use Rattle.text_segments.specs.declared.modes.Mode.TheVariants.{Encipher, Decipher, Mac}
use Rattle.verb_script.specs.Grammar.{Request, row_of, AreValues}
use Rattle.verb_script.specs.declared.rows.RequestName.{RequestName}
use Rattle.verb_script.specs.declared.rows.RequestName.TheVariants.{CsnbencFirst, CsnbencMiddle, CsnbencLast, CsnbdecFirst, CsnbdecMiddle, CsnbdecLast, CsnbmgnFirst, CsnbmgnMiddle, CsnbmgnLast, CsnbmvrFirst, CsnbmvrMiddle, CsnbmvrLast}
use Rattle.verb_script.specs.Values.{hex_value}
use Rattle.cca_machine.specs.Act.{performed, yes_or_no}
use Rattle.cca_machine.specs.Choices.{mac_length_named, mac_rule_named, pad_named}
use Rattle.cca_machine.specs.Keys.{any_old, key_in_text, or_no_key, warning}
use Rattle.cca_machine.specs.Operands.{operands, listed}
use Rattle.cca_machine.specs.State.{State}
use Rattle.cca_machine.specs.Verdict.{verdict}

-- a line may spell the request, no rule refuses it, and its reply has these fields
pub record Answers (s : State) (request : Request) (fields : List Field) : Type 0 where
  pub spelled : AreValues (row_of request.name).fields request.values
  pub permitted : verdict s [] request ≡ None
  pub reply : (performed s [] request).reply
      ≡ Done (fields ++ warning (any_old s (listed (operands request))))

-- for whom segments are worked on, and under which key
pub record Sender : Type 0 where
  pub role : List ℕ
  pub key : List ℕ

-- the clear key that the key's text stands for
abbrev pub clear_of : State → Sender → ClearKey
clear_of s sender = (or_no_key (key_in_text s sender.key)).clear

-- a segment but the first and the last: the digits of the chain that it is given and of its text, and the text and the
-- chain that are replied
pub record Segment : Type 0 where
  pub given : List ℕ
  pub digits : List ℕ
  pub text : List ℕ
  pub chain : List ℕ

-- the chain that the last of the segments replied
abbrev pub last_chain : List ℕ → List Segment → List ℕ
last_chain chain [] = chain
last_chain chain (g ∷ gs) = last_chain g.chain gs

-- the bytes of the segments' digits
abbrev pub given_texts : List Segment → List (List ℕ)
given_texts gs = map (λ g. hex_value g.digits) gs

-- the texts that they replied
abbrev pub replied_texts : List Segment → List (List ℕ)
replied_texts gs = map (λ g. g.text) gs

-- ---- texts that are enciphered or deciphered

abbrev pub first_row : Mode → RequestName
first_row Encipher = CsnbencFirst
first_row Decipher = CsnbdecFirst
first_row (Mac rule) = CsnbmgnFirst

abbrev pub middle_row : Mode → RequestName
middle_row Encipher = CsnbencMiddle
middle_row Decipher = CsnbdecMiddle
middle_row (Mac rule) = CsnbmgnMiddle

abbrev pub last_row : Mode → RequestName
last_row Encipher = CsnbencLast
last_row Decipher = CsnbdecLast
last_row (Mac rule) = CsnbmgnLast

abbrev pub first_request : Mode → Sender → List ℕ → List ℕ → Request
first_request mode sender iv digits = record {
  name = first_row mode;
  values = sender.role ∷ sender.key ∷ codes "FIRST" ∷ iv ∷ digits ∷ [];
}

abbrev pub middle_request : Mode → Sender → List ℕ → List ℕ → Request
middle_request mode sender chain digits = record {
  name = middle_row mode;
  values = sender.role ∷ sender.key ∷ codes "MIDDLE" ∷ chain ∷ digits ∷ [];
}

abbrev pub last_request : Mode → Sender → List ℕ → List ℕ → List ℕ → Request
last_request mode sender chain pad digits = record {
  name = last_row mode;
  values = sender.role ∷ sender.key ∷ codes "LAST" ∷ chain ∷ pad ∷ digits ∷ [];
}

-- each of the segments is given the chain before it, and answered
abbrev pub AreAnswered : State → Mode → Sender → List ℕ → List Segment → Type 0
AreAnswered s mode sender chain [] = ⊤
AreAnswered s mode sender chain (g ∷ gs) =
    (hex_value g.given ≡ chain)
    × Answers s (middle_request mode sender g.given g.digits)
    (Hex (codes "text") g.text ∷ Hex (codes "chain") g.chain ∷ [])
    × AreAnswered s mode sender g.chain gs

-- a text in segments: what each is given, and what it replies
pub record CutText (s : State) (mode : Mode) (sender : Sender) (iv pad : List ℕ) : Type 0 where
  pub first : List ℕ
  pub first_text : List ℕ
  pub chain : List ℕ
  pub middle : List Segment
  pub given : List ℕ
  pub last : List ℕ
  pub last_text : List ℕ
  pub begins : Answers s (first_request mode sender iv first)
      (Hex (codes "text") first_text ∷ Hex (codes "chain") chain ∷ [])
  pub goes_on : AreAnswered s mode sender chain middle
  pub given_is : hex_value given ≡ last_chain chain middle
  pub ends : Answers s (last_request mode sender given pad last)
      (Hex (codes "text") last_text ∷ [])

-- the bytes that were given, joined, and those that were replied
abbrev pub whole_given : List ℕ → List Segment → List ℕ → List ℕ
whole_given first middle last =
    (hex_value first ++ joined (given_texts middle)) ++ hex_value last

abbrev pub whole_replied : List ℕ → List Segment → List ℕ → List ℕ
whole_replied first middle last = (first ++ joined (replied_texts middle)) ++ last

-- the law over texts: what is replied, joined, is the whole text enciphered or deciphered
abbrev pub RepliedTextsAreWhole : Type 0
RepliedTextsAreWhole =
    (s : State) (mode : Mode) (sender : Sender) (iv pad : List ℕ) → IsCipher mode
    → (cut : CutText s mode sender iv pad)
    → uncut_text (clear_of s sender) mode (hex_value iv) (pad_named pad)
    (whole_given cut.first cut.middle cut.last)
    ≡ Some (whole_replied cut.first_text cut.middle cut.last_text)

-- ---- codes, that are made by CSNBMGN or verified by CSNBMVR

-- a segment but the first and the last: the digits of the chain that it is given and of its text, and the chain that is
-- replied
pub record CodeSegment : Type 0 where
  pub given : List ℕ
  pub digits : List ℕ
  pub chain : List ℕ

abbrev pub last_code_chain : List ℕ → List CodeSegment → List ℕ
last_code_chain chain [] = chain
last_code_chain chain (g ∷ gs) = last_code_chain g.chain gs

abbrev pub given_code_texts : List CodeSegment → List (List ℕ)
given_code_texts gs = map (λ g. hex_value g.digits) gs

-- the code is verified, or made
abbrev pub first_code_row : Bool → RequestName
first_code_row true = CsnbmvrFirst
first_code_row false = CsnbmgnFirst

abbrev pub middle_code_row : Bool → RequestName
middle_code_row true = CsnbmvrMiddle
middle_code_row false = CsnbmgnMiddle

abbrev pub first_code_request : Bool → Sender → List ℕ → List ℕ → Request
first_code_request verifies sender rule digits = record {
  name = first_code_row verifies;
  values = sender.role ∷ sender.key ∷ rule ∷ codes "FIRST" ∷ digits ∷ [];
}

abbrev pub middle_code_request : Bool → Sender → List ℕ → List ℕ → List ℕ → Request
middle_code_request verifies sender rule chain digits = record {
  name = middle_code_row verifies;
  values = sender.role ∷ sender.key ∷ rule ∷ codes "MIDDLE" ∷ chain ∷ digits ∷ [];
}

abbrev pub last_making_request : Sender → List ℕ → List ℕ → List ℕ → List ℕ → Request
last_making_request sender rule size chain digits = record {
  name = CsnbmgnLast;
  values = sender.role ∷ sender.key ∷ rule ∷ codes "LAST" ∷ size ∷ chain ∷ digits ∷ [];
}

abbrev pub last_verifying_request : Sender → List ℕ → List ℕ → List ℕ → List ℕ → Request
last_verifying_request sender rule mac chain digits = record {
  name = CsnbmvrLast;
  values = sender.role ∷ sender.key ∷ rule ∷ codes "LAST" ∷ mac ∷ chain ∷ digits ∷ [];
}

-- each of the segments is given the chain before it, and answered
abbrev pub AreCoded : State → Bool → Sender → List ℕ → List ℕ → List CodeSegment → Type 0
AreCoded s verifies sender rule chain [] = ⊤
AreCoded s verifies sender rule chain (g ∷ gs) =
    (hex_value g.given ≡ chain)
    × Answers s (middle_code_request verifies sender rule g.given g.digits)
    (Hex (codes "chain") g.chain ∷ [])
    × AreCoded s verifies sender rule g.chain gs

-- the segments of a text but the last one, and the chain that the last one is given
pub record CutCode (s : State) (verifies : Bool) (sender : Sender) (rule : List ℕ) : Type 0 where
  pub first : List ℕ
  pub chain : List ℕ
  pub middle : List CodeSegment
  pub given : List ℕ
  pub begins : Answers s (first_code_request verifies sender rule first)
      (Hex (codes "chain") chain ∷ [])
  pub goes_on : AreCoded s verifies sender rule chain middle
  pub given_is : hex_value given ≡ last_code_chain chain middle

-- the code of all segments together
abbrev pub whole_code : State → Sender → List ℕ → List ℕ → List CodeSegment → List ℕ → List ℕ
whole_code s sender rule first middle last =
    code_of (mac_rule_named rule) (clear_of s sender)
    ((hex_value first ++ joined (given_code_texts middle)) ++ hex_value last)

-- the law over codes that are made: what is replied is the front of the code of the whole text
abbrev pub RepliedCodesAreWhole : Type 0
RepliedCodesAreWhole =
    (s : State) (sender : Sender) (rule size last mac : List ℕ)
    → (cut : CutCode s false sender rule)
    → Answers s (last_making_request sender rule size cut.given last)
    (Hex (codes "mac") mac ∷ [])
    → mac ≡ take (mac_length_named size) (whole_code s sender rule cut.first cut.middle last)

-- and over codes that are verified: the reply says whether the bytes are the front of that code
abbrev pub CutCodesAreVerified : Type 0
CutCodesAreVerified =
    (s : State) (sender : Sender) (rule mac last shown : List ℕ)
    → (cut : CutCode s true sender rule)
    → Answers s (last_verifying_request sender rule mac cut.given last)
    (Text (codes "match") shown ∷ [])
    → shown ≡ yes_or_no (bytes_eq (hex_value mac)
    (take (length (hex_value mac)) (whole_code s sender rule cut.first cut.middle last)))
