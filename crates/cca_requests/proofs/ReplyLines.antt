-- Each reply ends with a newline.
use Rattle.std.proofs.Common.{◌≡◌, ℕ, List, Result, Ok, Err, sym, subst}
use Rattle.std.specs.Prelude.{OnOk}
use Rattle.line_service.specs.Replies.{Reply, spelled}
use Rattle.line_service.specs.declared.stops.Stop.{Stop}
use Rattle.line_service.proofs.ReplyLemmas.{spelled_line}
use Rattle.line_service.specs.Lines.{EndsInNewline}

pub reply_line : (what : Reply) (text : List ℕ) → text ≡ spelled what → EndsInNewline text
reply_line what text is = subst EndsInNewline (sym is) (spelled_line what)

-- the same of an answer
pub answer_line : (what : Reply) (text : List ℕ) (result : Result (Unit {0}) Stop) → OnOk result (text ≡ spelled what) → OnOk result (EndsInNewline text)
answer_line what text (Ok done) is = reply_line what text is
answer_line what text (Err stop) is = tt
