use Rattle.cca_machine.proofs.DrawLaws.{early_some, refused_takes, repeated_takes, verdict_again}
use Rattle.cca_machine.proofs.LineLaws.{line-no_request, line-too_long, line-drawn}
use Rattle.cca_machine.proofs.outcomes_of_lines.Goals as goal

pub returns-clause-no_request : goal.returns-clause-no_request
returns-clause-no_request c = line-no_request

pub returns-clause-too_long : goal.returns-clause-too_long
returns-clause-too_long c = line-too_long

pub returns-clause-request : goal.returns-clause-request
returns-clause-request c = line-drawn

pub returns-clause-verdict : goal.returns-clause-verdict
returns-clause-verdict c = verdict_again

pub returns-clause-early : goal.returns-clause-early
returns-clause-early c = early_some

pub returns-clause-untaken : goal.returns-clause-untaken
returns-clause-untaken c = refused_takes

pub returns-clause-repeated : goal.returns-clause-repeated
returns-clause-repeated c = repeated_takes
