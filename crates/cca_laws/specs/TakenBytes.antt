-- The random bytes that lines take.
use Rattle.std.specs.Prelude.{◌≡◌, ℕ, Bool, true, false, All, nat_le, count_ones, ◌%◌, List, [], ◌∷◌, codes, length, take, Option, None, Some}
use Rattle.line_service.specs.Reading.{line_limit}
use Rattle.verb_script.specs.Grammar.{Request}
use Rattle.verb_script.specs.declared.rows.RequestName.{RequestName}
use Rattle.verb_script.specs.declared.rows.RequestName.TheVariants.{Csnbrng, CsnbkgnOp, CsnbkgnPair, CsnbkgnOut}
use Rattle.verb_script.specs.Requests.{request_of}
use Rattle.cca_machine.specs.Lines.{line_outcome, taken_by}
use Rattle.cca_machine.specs.State.{State}
use Rattle.cca_laws.specs.DrawnKeys.{IsOddForm, SameButParity}

-- ---- what a line takes

abbrev pub count_by : Bool → State → List ℕ → Option Request → ℕ
count_by true s random (Some request) = taken_by s random request
count_by true s random None = 0
count_by false s random request = 0

-- how many bytes a line takes: as many as its request; none, where it spells no request or is too long
abbrev pub count_taken : State → List ℕ → List ℕ → ℕ
count_taken s random line = count_by (nat_le (length line) line_limit) s random (request_of line)

-- the bytes that a line takes, of those that the lines before it left
abbrev pub bytes_taken : State → List ℕ → List ℕ → List ℕ
bytes_taken s random line = take (count_taken s random line) random

-- the bytes that each line takes
abbrev pub all_taken : State → List ℕ → List (List ℕ) → List (List ℕ)
all_taken s random [] = []
all_taken s random (line ∷ lines) =
    bytes_taken s random line
    ∷ all_taken (line_outcome s random line).state (line_outcome s random line).random lines

-- ---- who takes any

-- CSNBRNG and CSNBKGN
abbrev pub takes_random : RequestName → Bool
takes_random Csnbrng = true
takes_random CsnbkgnOp = true
takes_random CsnbkgnPair = true
takes_random CsnbkgnOut = true
takes_random _ = false

-- ---- the bytes of CSNBRNG

-- the bytes with even parity in each, by its low-order bit
pub record IsEvenForm (bytes even : List ℕ) : Type 0 where
  pub same : SameButParity bytes even
  pub parity : All (λ byte. count_ones byte % 2 ≡ 0) even

-- the bytes as they are taken, or with the parity that the word asks for
pub record IsInForm (form taken shown : List ℕ) : Type 0 where
  pub random : form ≡ codes "RANDOM" → shown ≡ taken
  pub odd : form ≡ codes "ODD" → IsOddForm taken shown
  pub even : form ≡ codes "EVEN" → IsEvenForm taken shown
