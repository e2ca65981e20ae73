-- Line after line.
use Rattle.audited_service.proofs.NotingLemmas.{notes_lines}
use Rattle.audited_service.proofs.laws.a_session_with_entries_is_the_session.Goals as goal

pub returns : goal.returns
returns g c = λ s es random lines. notes_lines g.A.Desk.machine g.W.Scribe.entry_of lines s es random
