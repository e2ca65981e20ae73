-- A line that is too long breaks rule 02.
use Rattle.std.proofs.Common.{codes, subst, sym}
use Rattle.line_service.specs.Replies.{Refused}
use Rattle.line_service.specs.Lines.{EndsInNewline}
use Rattle.line_service.proofs.ReplyLemmas.{spelled_line}
use Rattle.cca_tool.proofs.LineLemmas.{long_steps}
use Rattle.cca_tool.proofs.coprocessor.CoprocessorDesk.too_long.Goals as goal

pub returns-clause-steps : goal.returns-clause-steps
returns-clause-steps c = λ s line long. long_steps s line c.refuse_line.new.reply long c.refuse_line.ensures

pub returns-clause-line : goal.returns-clause-line
returns-clause-line c = subst EndsInNewline (sym c.refuse_line.ensures) (spelled_line (Refused 2 (codes "-")))
