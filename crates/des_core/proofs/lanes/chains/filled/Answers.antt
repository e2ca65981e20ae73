use Rattle.std.proofs.Common.{◌++◌, length, ap, ◌∙◌}
use Rattle.std.proofs.lemmas.List.{drop-replicate}
use Rattle.des_core.proofs.lanes.chains.filled.Goals as goal

pub returns : goal.returns
returns c = c.put_front.ensures ∙ ap (λ t. c.args.end.now ++ t) (drop-replicate (length c.args.end.now) 1024 0)
