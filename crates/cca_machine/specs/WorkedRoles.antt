-- Requests on roles whose replies are known from outside, with the replies that the machine gives from a blank module.
use Rattle.std.specs.Prelude.{ℕ, List, [], ◌∷◌, ◌++◌, codes}
use Rattle.line_service.specs.Lines.{newline}

-- a line and the reply to it
pub record Worked : Type 0 where
  pub line : List ℕ
  pub reply : List ℕ

abbrev pub worked : List ℕ → List ℕ → Worked
worked line reply = record { line = line; reply = reply }

abbrev pub worked_roles : List Worked
worked_roles =
    worked (codes "CSUAACI role=DEFAULT action=DEFINE name=TELLER points=0000000f") (codes "OK")
    ∷ worked (codes "CSNBMKP role=TELLER action=CLEAR") (codes "NO 04 -")
    ∷ worked (codes "CSNBMKP role=NOBODY action=CLEAR") (codes "NO 03 -")
    ∷ worked (codes "CSUAACI role=DEFAULT action=REMOVE name=TELLER") (codes "OK")
    ∷ worked (codes "CSNBMKP role=TELLER action=CLEAR") (codes "NO 03 -")
    ∷ worked (codes "CSUAACI role=DEFAULT action=REMOVE name=TELLER") (codes "NO 30 name")
    ∷ worked (codes "CSUAACI role=DEFAULT action=REMOVE name=DEFAULT") (codes "NO 01 -")
    ∷ worked (codes "CSUAACI role=DEFAULT action=DEFINE name=TELLER points=20000000") (codes "NO 01 -")
    ∷ worked (codes "CSUAACI role=DEFAULT action=DEFINE name=DEFAULT points=02ffffff") (codes "OK")
    ∷ worked (codes "CSNBMKP role=DEFAULT action=CLEAR") (codes "OK new=empty")
    ∷ worked (codes "CSUAACI role=DEFAULT action=REMOVE name=TELLER") (codes "NO 04 -")
    ∷ []

-- a role that gets no point
abbrev pub defined : List ℕ → List ℕ → Worked
defined name reply = worked (codes "CSUAACI role=DEFAULT action=DEFINE name=" ++ name ++ codes " points=00000000") reply

-- roles that get no point, behind other lines
abbrev pub all_defined : List (List ℕ) → List Worked → List Worked
all_defined [] others = others
all_defined (name ∷ names) others = defined name (codes "OK") ∷ all_defined names others

-- a module holds 31 roles beside DEFAULT
abbrev pub worked_role_table : List Worked
worked_role_table =
    all_defined
    (codes "A" ∷ codes "B" ∷ codes "C" ∷ codes "D" ∷ codes "E" ∷ codes "F" ∷ codes "G" ∷ codes "H" ∷ codes "I" ∷ codes "J" ∷ codes "K"
    ∷ codes "L" ∷ codes "M" ∷ codes "N" ∷ codes "O" ∷ codes "P" ∷ codes "Q" ∷ codes "R" ∷ codes "S" ∷ codes "T" ∷ codes "U" ∷ codes "V"
    ∷ codes "W" ∷ codes "X" ∷ codes "Y" ∷ codes "Z" ∷ codes "A1" ∷ codes "A2" ∷ codes "A3" ∷ codes "A4" ∷ codes "A5" ∷ [])
    (defined (codes "A6") (codes "NO 30 name")
    ∷ defined (codes "Q") (codes "OK")
    ∷ worked (codes "CSUAACI role=DEFAULT action=REMOVE name=A6") (codes "NO 30 name")
    ∷ worked (codes "CSUAACI role=DEFAULT action=REMOVE name=DEFAULT") (codes "NO 01 -")
    ∷ worked (codes "CSUAACI role=DEFAULT action=REMOVE name=Q") (codes "OK")
    ∷ defined (codes "A6") (codes "OK")
    ∷ [])

abbrev pub lines_of : List Worked → List (List ℕ)
lines_of [] = []
lines_of (w ∷ ws) = w.line ∷ lines_of ws

abbrev pub replies_of : List Worked → List ℕ
replies_of [] = []
replies_of (w ∷ ws) = w.reply ++ newline ∷ replies_of ws
