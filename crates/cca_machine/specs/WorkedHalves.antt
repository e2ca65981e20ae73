-- Requests for keys with unique halves: replies that are known from outside, with those that the machine gives, and the
-- random bytes that are taken.
use Rattle.std.specs.Prelude.{ℕ, List, [], ◌∷◌, ◌++◌, codes, replicate}
use Rattle.cca_machine.specs.WorkedRoles.{Worked, worked}

-- a master key is brought in, and set
abbrev pub worked_ceremony : List Worked
worked_ceremony =
    worked (codes "CSNBMKP role=DEFAULT action=FIRST part=0102030405060708090a0b0c0d0e0f101112131415161718") (codes "OK new=partial")
    ∷ worked (codes "CSNBMKP role=DEFAULT action=LAST part=000000000000000000000000000000000000000000000000") (codes "OK new=full")
    ∷ worked (codes "CSNBMKP role=DEFAULT action=SET") (codes "OK new=empty")
    ∷ []

abbrev pub one_key : List ℕ → List ℕ
one_key kind = codes "CSNBKGN role=DEFAULT form=OP length=DOUBLE-O type1=" ++ kind ++ codes " to=-"

-- where 72 zero bytes are to come: rule 32 takes none of them, and then each right half is the same as the left one
abbrev pub worked_refusals : List Worked
worked_refusals =
    worked_ceremony
    ++ (worked (one_key (codes "CIPHER")) (codes "NO 32 length")
    ∷ worked (one_key (codes "DATA")) (codes "NO 34 length")
    ∷ [])

-- a left half, one that is the same but for the low-order bits, and one that differs from it
abbrev pub worked_halves : List ℕ
worked_halves = replicate 8 0 ++ replicate 8 1 ++ replicate 8 2
