-- A session: the machine's replies to lines, one after another, and the state after them.
use Rattle.std.specs.Prelude.{ℕ, List}
use Rattle.line_service.specs.Replies.{spelled}
use Rattle.line_service.specs.Machine.{Outcome, outcome_of_lines}
use Rattle.cca_machine.specs.State.{State}
use Rattle.cca_machine.specs.Lines.{line_outcome}

-- what comes of a line, with its reply in bytes
abbrev pub line_step : State → List ℕ → List ℕ → Outcome State
line_step s random line =
    let o = line_outcome s random line in
    record { state = o.state; reply = spelled o.reply; random = o.random }

-- the reply lines
abbrev pub replies : State → List ℕ → List (List ℕ) → List ℕ
replies s random lines = (outcome_of_lines line_step s random lines).reply

-- the state after the lines
abbrev pub state_after : State → List ℕ → List (List ℕ) → State
state_after s random lines = (outcome_of_lines line_step s random lines).state

-- the random bytes that are left after them
abbrev pub random_after : State → List ℕ → List (List ℕ) → List ℕ
random_after s random lines = (outcome_of_lines line_step s random lines).random
