use Rattle.std.proofs.Common.{reverse, sym, ap, ◌∙◌}
use Rattle.des_core.specs.Ciphers.{undone}
use Rattle.des_core.specs.Lanes.{lane}
use Rattle.des_core.proofs.lanes.ciphers.decipher_lanes.Goals as goal

pub returns-in-Des-clause-lanes : goal.returns-in-Des-clause-lanes
returns-in-Des-clause-lanes c e i h k = c.des_lanes.ensures.lanes e i h k ∙ sym (ap (λ x. undone x c.args.keys.now (reverse (lane e i c.args.words.now))) c.in-Des.is)

pub returns-in-TripleDes-clause-lanes : goal.returns-in-TripleDes-clause-lanes
returns-in-TripleDes-clause-lanes c e i h k = c.triple_lanes.ensures.lanes e i h k ∙ sym (ap (λ x. undone x c.args.keys.now (reverse (lane e i c.args.words.now))) c.in-TripleDes.is)
