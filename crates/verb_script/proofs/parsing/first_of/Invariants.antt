-- No row before this one is the line's.
use Rattle.std.proofs.Common.{◌≡◌, ◌∷◌, drop, map}
use Rattle.verb_script.specs.Requests.{first_request}
use Rattle.verb_script.specs.Rows.{row_name}
use Rattle.verb_script.specs.Words.{unread}
use Rattle.verb_script.proofs.parsing.first_of.Given as goal

abbrev pub invariant-loop-form : goal.invariant-loop-form
invariant-loop-form l =
    first_request (map row_name l.rows) (l.verb ∷ unread l.words) ≡ first_request (map row_name (drop l.form-index l.rows)) (l.verb ∷ unread l.words)
