-- What holds of each request of a session, in the state that the lines before it leave.
use Rattle.std.specs.Prelude.{◌≡◌, ℕ, List, [], ◌∷◌, Some, ⊤}
use Rattle.verb_script.specs.Grammar.{Request}
use Rattle.verb_script.specs.Requests.{request_of}
use Rattle.cca_machine.specs.Lines.{line_outcome}
use Rattle.cca_machine.specs.State.{State}

-- each line that spells a request spells one of which P holds at that time
abbrev pub EachRequest : (State → Request → Type 0) → State → List ℕ → List (List ℕ) → Type 0
EachRequest P s random [] = ⊤
EachRequest P s random (line ∷ lines) =
    ((request : Request) → request_of line ≡ Some request → P s request)
    × EachRequest P (line_outcome s random line).state (line_outcome s random line).random lines
