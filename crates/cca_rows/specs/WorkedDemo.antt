-- The lines of a demo, beside a list that was written from their description by another program.
use Rattle.std.specs.Prelude.{◌≡◌, [], ◌∷◌, ℕ, List, codes}
use Rattle.command_words.specs.Demo.{demo_lines}

abbrev pub lines_of_three_labels : List (List ℕ)
lines_of_three_labels =
    codes "CSNBMKP role=DEFAULT action=FIRST part=0102030405060708090a0b0c0d0e0f101112131415161718"
    ∷ codes "CSNBMKP role=DEFAULT action=LAST part=000000000000000000000000000000000000000000000000"
    ∷ codes "CSNBMKP role=DEFAULT action=SET"
    ∷ codes "CSNBKRC role=DEFAULT label=KEY.0000"
    ∷ codes "CSNBCKI role=DEFAULT clear=0000000000000000 to=L:KEY.0000"
    ∷ codes "CSNBKRC role=DEFAULT label=KEY.0001"
    ∷ codes "CSNBCKI role=DEFAULT clear=0000000000000001 to=L:KEY.0001"
    ∷ codes "CSNBKRC role=DEFAULT label=KEY.0002"
    ∷ codes "CSNBCKI role=DEFAULT clear=0000000000000002 to=L:KEY.0002"
    ∷ codes "CSNBENC role=DEFAULT key=L:KEY.0000 iv=0000000000000000 pad=NONE text=0000000000000000"
    ∷ codes "CSNBENC role=DEFAULT key=L:KEY.0001 iv=0000000000000000 pad=NONE text=0000000000000000"
    ∷ codes "CSNBENC role=DEFAULT key=L:KEY.0002 iv=0000000000000000 pad=NONE text=0000000000000000"
    ∷ codes "CSNBMKP role=DEFAULT action=FIRST part=ffffffffffffffffffffffffffffffffffffffffffffffff"
    ∷ codes "CSNBMKP role=DEFAULT action=LAST part=000000000000000000000000000000000000000000000000"
    ∷ codes "CSNBMKP role=DEFAULT action=SET"
    ∷ codes "CSNBKYT role=DEFAULT key=L:KEY.0000"
    ∷ codes "REENCIPHER role=DEFAULT"
    ∷ codes "CSNBKYT role=DEFAULT key=L:KEY.0000"
    ∷ codes "CSNBKYT role=DEFAULT key=L:KEY.0001"
    ∷ codes "CSNBKYT role=DEFAULT key=L:KEY.0002"
    ∷ codes "CSNBKRD role=DEFAULT label=KEY.0000"
    ∷ codes "CSNBKRD role=DEFAULT label=KEY.0002"
    ∷ codes "CSNBKRL role=DEFAULT prefix="
    ∷ codes "CSNBMKP role=DEFAULT action=SET"
    ∷ []

pub record DemoSpelled : Type 0 where
  pub of_three_labels : demo_lines 3 ≡ lines_of_three_labels
