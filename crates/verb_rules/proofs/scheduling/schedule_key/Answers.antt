use Rattle.std.proofs.Common.{ap, eqb}
use Rattle.key_cells.specs.Lease.{bench_of}
use Rattle.verb_rules.specs.Keys.{opened}
use Rattle.verb_rules.proofs.KeyLemmas.{hold_key}
use Rattle.verb_rules.proofs.scheduling.schedule_key.Goals as goal

pub returns-clause-schedules : goal.returns-clause-schedules
returns-clause-schedules c =
    hold_key (bench_of c.schedule_halves.new.lease).schedules c.args.key.now.token.vector (opened (bench_of c.args.lease.now) c.args.key.now).key
    (bench_of c.open_key.new.lease).key (eqb c.length.result 8) (ap (λ n. eqb n 8) c.length.ensures.length) c.open_key.ensures.length c.open_key.ensures.key
    c.schedule_halves.ensures.made
