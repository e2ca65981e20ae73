-- The parts of a blank memory.
use Rattle.cca_tool.proofs.KnownLemmas.{same_memory}
use Rattle.cca_tool.proofs.session.Session.new.Goals as goal

pub returns : goal.returns
returns c = same_memory _ _ _ _ _ _ _ _ c.in_ok-lines.ensures c.new-4.ensures c.in_ok-records.ensures c.in_ok-reply.ensures
