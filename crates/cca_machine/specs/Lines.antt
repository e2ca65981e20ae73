-- What comes of a line.
use Rattle.std.specs.Prelude.{◌≡◌, ℕ, true, ◌&&◌, nat_le, nat_lt, is_none, List, [], ◌∷◌, length, take, drop, codes, Option, Some, None}
use Rattle.cca_vectors.specs.Checks.{Check, check, first_failing}
use Rattle.line_service.specs.Reading.{line_limit}
use Rattle.line_service.specs.Replies.{Reply, Refused}
use Rattle.verb_script.specs.Grammar.{Request}
use Rattle.verb_script.specs.Requests.{request_of}
use Rattle.cca_machine.specs.State.{State}
use Rattle.cca_machine.specs.Verdict.{Refusal, early_verdict}
use Rattle.cca_machine.specs.Act.{performed}
use Rattle.cca_machine.specs.Draws.{bytes_drawn, draw_of, draws_random}

-- the state after a line, the reply to it, and the random bytes that are left
pub record LineOutcome : Type 0 where
  pub state : State
  pub reply : Reply
  pub random : List ℕ

-- rule 01: the line is no request, and not too long; rule 02: it is too long
abbrev pub line_checks : List ℕ → Option Request → List Check
line_checks line request =
    check 1 (nat_le (length line) line_limit && is_none request)
    ∷ check 2 (nat_lt line_limit (length line))
    ∷ []

-- no byte, where a rule fails that is asked before one is drawn
abbrev pub drawn_where : Option Refusal → ℕ → ℕ
drawn_where (Some r) count = 0
drawn_where None count = count

-- how many of the random bytes to come a request takes
abbrev pub taken_by : State → List ℕ → Request → ℕ
taken_by s random request =
    drawn_where (early_verdict s request) (bytes_drawn (draw_of request.name request) random)

-- a request draws random bytes, and no rule that is asked before refuses it
pub record MayDraw (s : State) (request : Request) : Type 0 where
  pub drawing : draws_random request ≡ true
  pub permitted : early_verdict s request ≡ None

abbrev pub request_outcome : State → List ℕ → Request → LineOutcome
request_outcome s random request =
    let count = taken_by s random request in
    let o = performed s (take count random) request in
    record { state = o.state; reply = o.reply; random = drop count random }

-- A line that breaks neither rule spells a request, so that the last case doesn't come.
abbrev pub outcome_by : Option ℕ → State → List ℕ → Option Request → LineOutcome
outcome_by (Some rule) s random request = record {
  state = s;
  reply = Refused rule (codes "-");
  random = random;
}
outcome_by None s random (Some request) = request_outcome s random request
outcome_by None s random None = record { state = s; reply = Refused 1 (codes "-"); random = random }

-- what comes of a line, with the random bytes that are ahead
unfoldable pub line_outcome : State → List ℕ → List ℕ → LineOutcome
line_outcome s random line =
    outcome_by (first_failing (line_checks line (request_of line))) s random (request_of line)
