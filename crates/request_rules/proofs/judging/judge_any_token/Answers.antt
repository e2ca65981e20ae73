use Rattle.request_rules.proofs.LabelsRead.{either_read, either_refused, either_shape}
use Rattle.request_rules.proofs.judging.judge_any_token.Goals as goal

pub returns-in-Ok-clause-asked : goal.returns-in-Ok-clause-asked
returns-in-Ok-clause-asked c = λ s bench.
    either_read s bench c.args.digits.now c.token_bytes.result c.token_bytes.ensures c.read_token.result c.in-Ok.token c.of_token.result c.in-Ok.is
    c.read_token.ensures.token c.read_token.ensures.accepted c.of_token.ensures

pub returns-in-Ok-clause-shaped : goal.returns-in-Ok-clause-shaped
returns-in-Ok-clause-shaped c = either_shape c.in-Ok.token c.of_token.result c.args.digits.now c.of_token.ensures

pub returns-in-Err-clause-asked : goal.returns-in-Err-clause-asked
returns-in-Err-clause-asked c = λ s bench.
    either_refused s bench c.args.digits.now c.token_bytes.result c.token_bytes.ensures c.read_token.result c.in-Err.fault c.token_rule.result c.in-Err.is
    c.read_token.ensures.refused c.token_rule.ensures
