-- Lines of each row of the grammar, and the name and the values of the request that each spells.
use Rattle.std.specs.Prelude.{◌≡◌, ℕ, List, [], ◌∷◌, ◌++◌, codes, Option, Some, map}
use Rattle.verb_script.specs.Grammar.{Request}
use Rattle.verb_script.specs.declared.rows.RequestName.{RequestName}
use Rattle.verb_script.specs.declared.rows.RequestName.TheVariants.{Csnbcki, Csnbdec, CsnbdecFirst, CsnbdecLast, CsnbdecMiddle, Csnbenc, CsnbencFirst, CsnbencLast, CsnbencMiddle, Csnbkex, CsnbkgnOp, CsnbkgnOut, CsnbkgnPair, Csnbkim, CsnbkpiFirst, CsnbkpiMiddle, Csnbkrc, Csnbkrd, Csnbkrl, Csnbkrr, Csnbkrw, Csnbktc, Csnbktp, Csnbktr, Csnbkyt, Csnbmgn, CsnbmgnFirst, CsnbmgnLast, CsnbmgnMiddle, CsnbmkpClear, CsnbmkpPart, CsnbmkpSet, Csnbmvr, CsnbmvrFirst, CsnbmvrLast, CsnbmvrMiddle, Csnbpex, Csnbrng, CsuaaciDefine, CsuaaciRemove, Reencipher, ReencipherAhead, ReencipherDrop}
use Rattle.verb_script.specs.Requests.{request_of}

-- a line, and the name and the values of a request
pub record Worked : Type 0 where
  pub line : List ℕ
  pub name : RequestName
  pub values : List (List ℕ)

abbrev pub worked : List ℕ → RequestName → List (List ℕ) → Worked
worked line name values = record { line = line; name = name; values = values }

abbrev pub request_worked : Worked → Option Request
request_worked w = Some (record { name = w.name; values = w.values })

-- each line spells its request
abbrev pub AreSpelled : List Worked → Type 0
AreSpelled ws = map (λ (w : Worked). request_of w.line) ws ≡ map request_worked ws

-- a key token, in hexadecimal digits
abbrev pub a_token : List ℕ
a_token = codes "020000000000c00000000000000000008ca64de9c1b123a700000000000000000000000000000000000000000000000000000000000000000000000050583190"

-- the same token as a key
abbrev pub a_key : List ℕ
a_key = codes "T:" ++ a_token

-- of texts, whole and in segments
abbrev pub text_lines : List Worked
text_lines =
    worked (codes "CSNBENC role=DEFAULT key=" ++ (a_key ++ codes " iv=0000000000000000 pad=NONE text=0123456789abcdef")) Csnbenc (codes "DEFAULT" ∷ a_key ∷ codes "0000000000000000" ∷ codes "NONE" ∷ codes "0123456789abcdef" ∷ [])
    ∷ worked (codes "CSNBENC role=DEFAULT key=L:K iv=fedcba9876543210 pad=X9.23 text=") Csnbenc (codes "DEFAULT" ∷ codes "L:K" ∷ codes "fedcba9876543210" ∷ codes "X9.23" ∷ codes "" ∷ [])
    ∷ worked (codes "CSNBENC role=DEFAULT key=L:K segment=FIRST iv=1234567890abcdef text=4e6f7720697320") CsnbencFirst (codes "DEFAULT" ∷ codes "L:K" ∷ codes "FIRST" ∷ codes "1234567890abcdef" ∷ codes "4e6f7720697320" ∷ [])
    ∷ worked (codes "CSNBENC role=DEFAULT key=L:K segment=MIDDLE chain=1234567890abcdef074e6f7720697320 text=74") CsnbencMiddle (codes "DEFAULT" ∷ codes "L:K" ∷ codes "MIDDLE" ∷ codes "1234567890abcdef074e6f7720697320" ∷ codes "74" ∷ [])
    ∷ worked (codes "CSNBENC role=DEFAULT key=L:K segment=LAST chain=1234567890abcdef074e6f7720697320 pad=X9.23 text=00") CsnbencLast (codes "DEFAULT" ∷ codes "L:K" ∷ codes "LAST" ∷ codes "1234567890abcdef074e6f7720697320" ∷ codes "X9.23" ∷ codes "00" ∷ [])
    ∷ worked (codes "CSNBENC role=DEFAULT key=L:K segment=LAST chain=1234567890abcdef074e6f7720697320 pad=NONE text=") CsnbencLast (codes "DEFAULT" ∷ codes "L:K" ∷ codes "LAST" ∷ codes "1234567890abcdef074e6f7720697320" ∷ codes "NONE" ∷ codes "" ∷ [])
    ∷ worked (codes "CSNBDEC role=DEFAULT key=" ++ (a_key ++ codes " iv=0000000000000000 pad=NONE text=0123456789abcdef")) Csnbdec (codes "DEFAULT" ∷ a_key ∷ codes "0000000000000000" ∷ codes "NONE" ∷ codes "0123456789abcdef" ∷ [])
    ∷ worked (codes "CSNBDEC role=DEFAULT key=L:K iv=fedcba9876543210 pad=X9.23 text=") Csnbdec (codes "DEFAULT" ∷ codes "L:K" ∷ codes "fedcba9876543210" ∷ codes "X9.23" ∷ codes "" ∷ [])
    ∷ worked (codes "CSNBDEC role=DEFAULT key=L:K segment=FIRST iv=1234567890abcdef text=4e6f7720697320") CsnbdecFirst (codes "DEFAULT" ∷ codes "L:K" ∷ codes "FIRST" ∷ codes "1234567890abcdef" ∷ codes "4e6f7720697320" ∷ [])
    ∷ worked (codes "CSNBDEC role=DEFAULT key=L:K segment=MIDDLE chain=1234567890abcdef074e6f7720697320 text=74") CsnbdecMiddle (codes "DEFAULT" ∷ codes "L:K" ∷ codes "MIDDLE" ∷ codes "1234567890abcdef074e6f7720697320" ∷ codes "74" ∷ [])
    ∷ worked (codes "CSNBDEC role=DEFAULT key=L:K segment=LAST chain=1234567890abcdef074e6f7720697320 pad=X9.23 text=00") CsnbdecLast (codes "DEFAULT" ∷ codes "L:K" ∷ codes "LAST" ∷ codes "1234567890abcdef074e6f7720697320" ∷ codes "X9.23" ∷ codes "00" ∷ [])
    ∷ worked (codes "CSNBDEC role=DEFAULT key=L:K segment=LAST chain=1234567890abcdef074e6f7720697320 pad=NONE text=") CsnbdecLast (codes "DEFAULT" ∷ codes "L:K" ∷ codes "LAST" ∷ codes "1234567890abcdef074e6f7720697320" ∷ codes "NONE" ∷ codes "" ∷ [])
    ∷ []

-- of message authentication codes, whole and in segments
abbrev pub code_lines : List Worked
code_lines =
    worked (codes "CSNBMGN role=DEFAULT key=" ++ (a_key ++ codes " rule=X9.9-1 length=4 text=00")) Csnbmgn (codes "DEFAULT" ∷ a_key ∷ codes "X9.9-1" ∷ codes "4" ∷ codes "00" ∷ [])
    ∷ worked (codes "CSNBMGN role=DEFAULT key=L:K rule=X9.19OPT length=6 text=") Csnbmgn (codes "DEFAULT" ∷ codes "L:K" ∷ codes "X9.19OPT" ∷ codes "6" ∷ codes "" ∷ [])
    ∷ worked (codes "CSNBMGN role=DEFAULT key=L:K rule=X9.9-1 segment=FIRST text=3736353433") CsnbmgnFirst (codes "DEFAULT" ∷ codes "L:K" ∷ codes "X9.9-1" ∷ codes "FIRST" ∷ codes "3736353433" ∷ [])
    ∷ worked (codes "CSNBMGN role=DEFAULT key=L:K rule=X9.19OPT segment=MIDDLE chain=1234567890abcdef074e6f7720697320 text=32") CsnbmgnMiddle (codes "DEFAULT" ∷ codes "L:K" ∷ codes "X9.19OPT" ∷ codes "MIDDLE" ∷ codes "1234567890abcdef074e6f7720697320" ∷ codes "32" ∷ [])
    ∷ worked (codes "CSNBMGN role=DEFAULT key=L:K rule=X9.9-1 segment=LAST length=8 chain=1234567890abcdef074e6f7720697320 text=32") CsnbmgnLast (codes "DEFAULT" ∷ codes "L:K" ∷ codes "X9.9-1" ∷ codes "LAST" ∷ codes "8" ∷ codes "1234567890abcdef074e6f7720697320" ∷ codes "32" ∷ [])
    ∷ worked (codes "CSNBMVR role=DEFAULT key=" ++ (a_key ++ codes " rule=X9.9-1 mac=f1d30f68 text=00")) Csnbmvr (codes "DEFAULT" ∷ a_key ∷ codes "X9.9-1" ∷ codes "f1d30f68" ∷ codes "00" ∷ [])
    ∷ worked (codes "CSNBMVR role=DEFAULT key=L:K rule=X9.19OPT mac=0123456789AB text=") Csnbmvr (codes "DEFAULT" ∷ codes "L:K" ∷ codes "X9.19OPT" ∷ codes "0123456789AB" ∷ codes "" ∷ [])
    ∷ worked (codes "CSNBMVR role=DEFAULT key=L:K rule=X9.9-1 segment=FIRST text=3736353433") CsnbmvrFirst (codes "DEFAULT" ∷ codes "L:K" ∷ codes "X9.9-1" ∷ codes "FIRST" ∷ codes "3736353433" ∷ [])
    ∷ worked (codes "CSNBMVR role=DEFAULT key=L:K rule=X9.19OPT segment=MIDDLE chain=1234567890abcdef074e6f7720697320 text=32") CsnbmvrMiddle (codes "DEFAULT" ∷ codes "L:K" ∷ codes "X9.19OPT" ∷ codes "MIDDLE" ∷ codes "1234567890abcdef074e6f7720697320" ∷ codes "32" ∷ [])
    ∷ worked (codes "CSNBMVR role=DEFAULT key=L:K rule=X9.9-1 segment=LAST mac=0123456789abcdef chain=1234567890abcdef074e6f7720697320 text=32") CsnbmvrLast (codes "DEFAULT" ∷ codes "L:K" ∷ codes "X9.9-1" ∷ codes "LAST" ∷ codes "0123456789abcdef" ∷ codes "1234567890abcdef074e6f7720697320" ∷ codes "32" ∷ [])
    ∷ []

-- of single keys and of random bytes
abbrev pub single_key_lines : List Worked
single_key_lines =
    worked (codes "CSNBKTP role=DEFAULT token=" ++ a_token) Csnbktp (codes "DEFAULT" ∷ a_token ∷ [])
    ∷ worked (codes "CSNBKYT role=DEFAULT key=" ++ a_key) Csnbkyt (codes "DEFAULT" ∷ a_key ∷ [])
    ∷ worked (codes "CSNBKYT role=DEFAULT key=L:K") Csnbkyt (codes "DEFAULT" ∷ codes "L:K" ∷ [])
    ∷ worked (codes "CSNBCKI role=DEFAULT clear=0123456789abcdef to=-") Csnbcki (codes "DEFAULT" ∷ codes "0123456789abcdef" ∷ codes "-" ∷ [])
    ∷ worked (codes "CSNBCKI role=DEFAULT clear=0123456789abcdef to=L:PAY.DATA") Csnbcki (codes "DEFAULT" ∷ codes "0123456789abcdef" ∷ codes "L:PAY.DATA" ∷ [])
    ∷ worked (codes "CSNBRNG role=DEFAULT form=RANDOM") Csnbrng (codes "DEFAULT" ∷ codes "RANDOM" ∷ [])
    ∷ worked (codes "CSNBRNG role=DEFAULT form=ODD") Csnbrng (codes "DEFAULT" ∷ codes "ODD" ∷ [])
    ∷ worked (codes "CSNBRNG role=DEFAULT form=EVEN") Csnbrng (codes "DEFAULT" ∷ codes "EVEN" ∷ [])
    ∷ []

-- that make keys, move them, and bring them in by parts
abbrev pub key_lines : List Worked
key_lines =
    worked (codes "CSNBKGN role=DEFAULT form=OP length=8 type1=DATA to=-") CsnbkgnOp (codes "DEFAULT" ∷ codes "OP" ∷ codes "8" ∷ codes "DATA" ∷ codes "-" ∷ [])
    ∷ worked (codes "CSNBKGN role=DEFAULT form=OPEX length=16 type1=MAC type2=MACVER transport2=L:EXP to=L:M2") CsnbkgnPair (codes "DEFAULT" ∷ codes "OPEX" ∷ codes "16" ∷ codes "MAC" ∷ codes "MACVER" ∷ codes "L:EXP" ∷ codes "L:M2" ∷ [])
    ∷ worked (codes "CSNBKGN role=DEFAULT form=OPIM length=8 type1=ENCIPHER type2=DECIPHER transport2=L:IMP to=-") CsnbkgnPair (codes "DEFAULT" ∷ codes "OPIM" ∷ codes "8" ∷ codes "ENCIPHER" ∷ codes "DECIPHER" ∷ codes "L:IMP" ∷ codes "-" ∷ [])
    ∷ worked (codes "CSNBKGN role=DEFAULT form=IMEX length=16 type1=IMPORTER type2=OKEYXLAT transport1=L:IMP transport2=L:EXP") CsnbkgnOut (codes "DEFAULT" ∷ codes "IMEX" ∷ codes "16" ∷ codes "IMPORTER" ∷ codes "OKEYXLAT" ∷ codes "L:IMP" ∷ codes "L:EXP" ∷ [])
    ∷ worked (codes "CSNBKGN role=DEFAULT form=OP length=DOUBLE-O type1=DATA to=-") CsnbkgnOp (codes "DEFAULT" ∷ codes "OP" ∷ codes "DOUBLE-O" ∷ codes "DATA" ∷ codes "-" ∷ [])
    ∷ worked (codes "CSNBKGN role=DEFAULT form=OPIM length=DOUBLE-O type1=MAC type2=MACVER transport2=L:IMP to=L:M2") CsnbkgnPair (codes "DEFAULT" ∷ codes "OPIM" ∷ codes "DOUBLE-O" ∷ codes "MAC" ∷ codes "MACVER" ∷ codes "L:IMP" ∷ codes "L:M2" ∷ [])
    ∷ worked (codes "CSNBKGN role=DEFAULT form=EXEX length=DOUBLE-O type1=EXPORTER type2=IMPORTER transport1=L:E transport2=L:F") CsnbkgnOut (codes "DEFAULT" ∷ codes "EXEX" ∷ codes "DOUBLE-O" ∷ codes "EXPORTER" ∷ codes "IMPORTER" ∷ codes "L:E" ∷ codes "L:F" ∷ [])
    ∷ worked (codes "CSNBKIM role=DEFAULT token=" ++ (a_token ++ codes " transport=L:IMP to=L:K")) Csnbkim (codes "DEFAULT" ∷ a_token ∷ codes "L:IMP" ∷ codes "L:K" ∷ [])
    ∷ worked (codes "CSNBKEX role=DEFAULT key=L:K transport=L:EXP") Csnbkex (codes "DEFAULT" ∷ codes "L:K" ∷ codes "L:EXP" ∷ [])
    ∷ worked (codes "CSNBPEX role=DEFAULT key=L:K to=-") Csnbpex (codes "DEFAULT" ∷ codes "L:K" ∷ codes "-" ∷ [])
    ∷ worked (codes "CSNBKTC role=DEFAULT rule=RTCMK token=" ++ a_token) Csnbktc (codes "DEFAULT" ∷ codes "RTCMK" ∷ a_token ∷ [])
    ∷ worked (codes "CSNBKTC role=DEFAULT rule=RTNMK token=" ++ a_token) Csnbktc (codes "DEFAULT" ∷ codes "RTNMK" ∷ a_token ∷ [])
    ∷ worked (codes "CSNBKPI role=DEFAULT rule=FIRST type=DATA part=ffffffffffffffff to=L:P") CsnbkpiFirst (codes "DEFAULT" ∷ codes "FIRST" ∷ codes "DATA" ∷ codes "ffffffffffffffff" ∷ codes "L:P" ∷ [])
    ∷ worked (codes "CSNBKPI role=DEFAULT rule=MIDDLE key=L:P part=0123456789abcdef0123456789ABCDEF to=-") CsnbkpiMiddle (codes "DEFAULT" ∷ codes "MIDDLE" ∷ codes "L:P" ∷ codes "0123456789abcdef0123456789ABCDEF" ∷ codes "-" ∷ [])
    ∷ worked (codes "CSNBKPI role=DEFAULT rule=LAST key=L:P part=fedcba9876543210 to=L:P") CsnbkpiMiddle (codes "DEFAULT" ∷ codes "LAST" ∷ codes "L:P" ∷ codes "fedcba9876543210" ∷ codes "L:P" ∷ [])
    ∷ worked (codes "CSNBKTR role=DEFAULT token=" ++ (a_token ++ codes " transport1=L:IX transport2=L:OX")) Csnbktr (codes "DEFAULT" ∷ a_token ∷ codes "L:IX" ∷ codes "L:OX" ∷ [])
    ∷ []

-- of key records
abbrev pub record_lines : List Worked
record_lines =
    worked (codes "CSNBKRC role=DEFAULT label=PAY.DATA") Csnbkrc (codes "DEFAULT" ∷ codes "PAY.DATA" ∷ [])
    ∷ worked (codes "CSNBKRC role=DEFAULT label=!a=~") Csnbkrc (codes "DEFAULT" ∷ codes "!a=~" ∷ [])
    ∷ worked (codes "CSNBKRW role=DEFAULT label=K token=" ++ a_token) Csnbkrw (codes "DEFAULT" ∷ codes "K" ∷ a_token ∷ [])
    ∷ worked (codes "CSNBKRR role=DEFAULT label=K") Csnbkrr (codes "DEFAULT" ∷ codes "K" ∷ [])
    ∷ worked (codes "CSNBKRD role=DEFAULT label=K") Csnbkrd (codes "DEFAULT" ∷ codes "K" ∷ [])
    ∷ worked (codes "CSNBKRL role=DEFAULT prefix=") Csnbkrl (codes "DEFAULT" ∷ codes "" ∷ [])
    ∷ worked (codes "CSNBKRL role=DEFAULT prefix=.9#$@AAAAAAAAAAAAAAAAAAAAAAAAAAAAAAAAAAAAAAAAAAAAAAAAAAAAAAAAAAA") Csnbkrl (codes "DEFAULT" ∷ codes ".9#$@AAAAAAAAAAAAAAAAAAAAAAAAAAAAAAAAAAAAAAAAAAAAAAAAAAAAAAAAAAA" ∷ [])
    ∷ []

-- that change master keys, roles and the store
abbrev pub control_lines : List Worked
control_lines =
    worked (codes "CSNBMKP role=DEFAULT action=FIRST part=0102030405060708090A0b0c0d0e0f101112131415161718") CsnbmkpPart (codes "DEFAULT" ∷ codes "FIRST" ∷ codes "0102030405060708090A0b0c0d0e0f101112131415161718" ∷ [])
    ∷ worked (codes "CSNBMKP role=DEFAULT action=MIDDLE part=0102030405060708090A0b0c0d0e0f101112131415161718") CsnbmkpPart (codes "DEFAULT" ∷ codes "MIDDLE" ∷ codes "0102030405060708090A0b0c0d0e0f101112131415161718" ∷ [])
    ∷ worked (codes "CSNBMKP role=DEFAULT action=LAST part=0102030405060708090A0b0c0d0e0f101112131415161718") CsnbmkpPart (codes "DEFAULT" ∷ codes "LAST" ∷ codes "0102030405060708090A0b0c0d0e0f101112131415161718" ∷ [])
    ∷ worked (codes "CSNBMKP role=DEFAULT action=CLEAR") CsnbmkpClear (codes "DEFAULT" ∷ codes "CLEAR" ∷ [])
    ∷ worked (codes "CSNBMKP role=DEFAULT action=SET") CsnbmkpSet (codes "DEFAULT" ∷ codes "SET" ∷ [])
    ∷ worked (codes "CSUAACI role=DEFAULT action=DEFINE name=TELLER points=03Ff000F") CsuaaciDefine (codes "DEFAULT" ∷ codes "DEFINE" ∷ codes "TELLER" ∷ (3 ∷ 255 ∷ 0 ∷ 15 ∷ []) ∷ [])
    ∷ worked (codes "CSUAACI role=TELLER action=DEFINE name=DEFAULT points=00000000") CsuaaciDefine (codes "TELLER" ∷ codes "DEFINE" ∷ codes "DEFAULT" ∷ (0 ∷ 0 ∷ 0 ∷ 0 ∷ []) ∷ [])
    ∷ worked (codes "CSUAACI role=DEFAULT action=REMOVE name=TELLER") CsuaaciRemove (codes "DEFAULT" ∷ codes "REMOVE" ∷ codes "TELLER" ∷ [])
    ∷ worked (codes "REENCIPHER role=TELLER") Reencipher (codes "TELLER" ∷ [])
    ∷ worked (codes "REENCIPHER role=TELLER action=AHEAD") ReencipherAhead (codes "TELLER" ∷ codes "AHEAD" ∷ [])
    ∷ worked (codes "REENCIPHER role=DEFAULT action=DROP") ReencipherDrop (codes "DEFAULT" ∷ codes "DROP" ∷ [])
    ∷ []

-- with each form of a key, and of where a key goes
abbrev pub form_lines : List Worked
form_lines =
    worked (codes "CSNBPEX role=DEFAULT key=L:PAY.DATA to=-") Csnbpex (codes "DEFAULT" ∷ codes "L:PAY.DATA" ∷ codes "-" ∷ [])
    ∷ worked (codes "CSNBPEX role=DEFAULT key=L:L: to=L:-") Csnbpex (codes "DEFAULT" ∷ codes "L:L:" ∷ codes "L:-" ∷ [])
    ∷ worked (codes "CSNBPEX role=DEFAULT key=" ++ (a_key ++ codes " to=L:T:")) Csnbpex (codes "DEFAULT" ∷ a_key ∷ codes "L:T:" ∷ [])
    ∷ worked (codes "CSNBPEX role=DEFAULT key=L:1one to=L:!~") Csnbpex (codes "DEFAULT" ∷ codes "L:1one" ∷ codes "L:!~" ∷ [])
    ∷ []
