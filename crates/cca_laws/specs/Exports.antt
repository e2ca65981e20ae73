-- Replies that give keys out, data that is enciphered or deciphered, and MACs; and the access control points that they need.
use Rattle.std.specs.Prelude.{◌≡◌, ℕ, Bool, false, ◌||◌, List, [], ◌∷◌, bit_or, codes, ⊤}
use Rattle.std.specs.Str.{bytes_eq}
use Rattle.line_service.specs.Replies.{Done, Field, Hex, Number, Refused, Reply, Text}
use Rattle.verb_script.specs.declared.rows.RequestName.{RequestName}
use Rattle.verb_script.specs.declared.rows.RequestName.TheVariants.{Csnbenc, CsnbencFirst, CsnbencMiddle, CsnbencLast, Csnbdec, CsnbdecFirst, CsnbdecMiddle, CsnbdecLast, Csnbmgn, CsnbmgnFirst, CsnbmgnMiddle, CsnbmgnLast, Csnbmvr, CsnbmvrFirst, CsnbmvrMiddle, CsnbmvrLast, Csnbkyt, CsnbkgnPair, CsnbkgnOut, Csnbkex, Csnbktr, Csnbkrr}
use Rattle.cca_machine.specs.Points.{point}
use Rattle.cca_laws.specs.ReplyTokens.{ShowsTokens}

-- ---- points

-- of external tokens
abbrev pub export_points : ℕ
export_points =
    bit_or (bit_or (point (codes "KEX")) (point (codes "KTR")))
    (bit_or (point (codes "KGN_PAIR")) (point (codes "KGN_OUT")))

-- of tokens, internal and external
abbrev pub token_points : ℕ
token_points =
    bit_or (bit_or export_points (bit_or (point (codes "CKI")) (point (codes "KGN_OP"))))
    (bit_or (bit_or (point (codes "KIM")) (bit_or (point (codes "PEX")) (point (codes "KRR"))))
    (bit_or (bit_or (point (codes "KTC_CURRENT")) (point (codes "KTC_NEW")))
    (bit_or (point (codes "KPI_FIRST")) (point (codes "KPI_COMBINE")))))

-- of a plaintext or a ciphertext in a reply
abbrev pub text_points : ℕ
text_points = bit_or (point (codes "ENC")) (point (codes "DEC"))

-- of a chaining value
abbrev pub chain_points : ℕ
chain_points = bit_or text_points (bit_or (point (codes "MGN")) (point (codes "MVR")))

-- the point of a verb that enciphers or deciphers, makes or verifies MACs, shows a key check value, or gives a key out
abbrev pub verb_point : RequestName → ℕ
verb_point Csnbenc = point (codes "ENC")
verb_point CsnbencFirst = point (codes "ENC")
verb_point CsnbencMiddle = point (codes "ENC")
verb_point CsnbencLast = point (codes "ENC")
verb_point Csnbdec = point (codes "DEC")
verb_point CsnbdecFirst = point (codes "DEC")
verb_point CsnbdecMiddle = point (codes "DEC")
verb_point CsnbdecLast = point (codes "DEC")
verb_point Csnbmgn = point (codes "MGN")
verb_point CsnbmgnFirst = point (codes "MGN")
verb_point CsnbmgnMiddle = point (codes "MGN")
verb_point CsnbmgnLast = point (codes "MGN")
verb_point Csnbmvr = point (codes "MVR")
verb_point CsnbmvrFirst = point (codes "MVR")
verb_point CsnbmvrMiddle = point (codes "MVR")
verb_point CsnbmvrLast = point (codes "MVR")
verb_point Csnbkyt = point (codes "KYT")
verb_point CsnbkgnPair = point (codes "KGN_PAIR")
verb_point CsnbkgnOut = point (codes "KGN_OUT")
verb_point Csnbkex = point (codes "KEX")
verb_point Csnbktr = point (codes "KTR")
verb_point Csnbkrr = point (codes "KRR")
verb_point _ = 0

-- ---- replies

abbrev pub IsRefused : Reply → Type 0
IsRefused (Refused rule operand) = ⊤
IsRefused (Done fields) = ⊥

-- one of the fields has this name
abbrev pub has_field : List ℕ → List Field → Bool
has_field name [] = false
has_field name (Hex other bytes ∷ fields) = bytes_eq other name || has_field name fields
has_field name (Text other bytes ∷ fields) = bytes_eq other name || has_field name fields
has_field name (Number other value ∷ fields) = bytes_eq other name || has_field name fields

-- the reply has no field of this name
abbrev pub Lacks : List ℕ → Reply → Type 0
Lacks name (Refused rule operand) = ⊤
Lacks name (Done fields) = has_field name fields ≡ false

-- the reply has no token
abbrev pub ShowsNoToken : Reply → Type 0
ShowsNoToken reply = ShowsTokens (λ _. ⊥) reply
