-- What holds of each reply of a session.
use Rattle.std.specs.Prelude.{◌≡◌, ℕ, List, [], ◌∷◌, Some, ⊤}
use Rattle.line_service.specs.Replies.{Reply}
use Rattle.verb_script.specs.Grammar.{Request}
use Rattle.verb_script.specs.Requests.{request_of}
use Rattle.cca_machine.specs.Lines.{line_outcome}
use Rattle.cca_machine.specs.State.{State}

-- P holds of the reply to each line
abbrev pub EachReply : (Reply → Type 0) → State → List ℕ → List (List ℕ) → Type 0
EachReply P s random [] = ⊤
EachReply P s random (line ∷ lines) =
    P (line_outcome s random line).reply
    × EachReply P (line_outcome s random line).state (line_outcome s random line).random lines

-- P holds of each request that a line spells, with the reply to it
abbrev pub EachAnswer : (Request → Reply → Type 0) → State → List ℕ → List (List ℕ) → Type 0
EachAnswer P s random [] = ⊤
EachAnswer P s random (line ∷ lines) =
    ((r : Request) → request_of line ≡ Some r → P r (line_outcome s random line).reply)
    × EachAnswer P (line_outcome s random line).state (line_outcome s random line).random lines
