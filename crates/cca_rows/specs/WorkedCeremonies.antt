-- Key ceremonies whose replies are known from outside, with the replies that the machine gives.
use Rattle.std.specs.Prelude.{◌≡◌, ℕ, List, [], ◌∷◌, ◌++◌, codes}
use Rattle.line_service.specs.Lines.{newline}
use Rattle.cca_machine.specs.State.{blank_state}
use Rattle.cca_machine.specs.Session.{replies}

-- lines, or replies, each with its newline
abbrev pub ended : List (List ℕ) → List ℕ
ended [] = []
ended (line ∷ lines) = line ++ (newline ∷ ended lines)

-- a master key in two parts, set
abbrev pub ceremony : List (List ℕ)
ceremony =
    codes "CSNBMKP role=DEFAULT action=FIRST part=0102030405060708090a0b0c0d0e0f101112131415161718"
    ∷ codes "CSNBMKP role=DEFAULT action=LAST part=000000000000000000000000000000000000000000000000"
    ∷ codes "CSNBMKP role=DEFAULT action=SET"
    ∷ []

-- steps that the new register isn't ready for
abbrev pub misplaced_steps : List (List ℕ)
misplaced_steps =
    codes "CSNBMKP role=DEFAULT action=SET"
    ∷ codes "CSNBMKP role=DEFAULT action=FIRST part=0102030405060708090a0b0c0d0e0f101112131415161718"
    ∷ codes "CSNBMKP role=DEFAULT action=FIRST part=0102030405060708090a0b0c0d0e0f101112131415161718"
    ∷ codes "CSNBMKP role=DEFAULT action=CLEAR"
    ∷ codes "CSNBMKP role=DEFAULT action=MIDDLE part=0102030405060708090a0b0c0d0e0f101112131415161718"
    ∷ []

-- from a blank module
pub record CeremoniesAnswered : Type 0 where
  pub in_order : replies blank_state [] ceremony ≡ ended (codes "OK new=partial" ∷ codes "OK new=full" ∷ codes "OK new=empty" ∷ [])
  pub out_of_order : replies blank_state [] misplaced_steps
      ≡ ended (codes "NO 25 -" ∷ codes "OK new=partial" ∷ codes "NO 25 -" ∷ codes "OK new=empty" ∷ codes "NO 25 -" ∷ [])
