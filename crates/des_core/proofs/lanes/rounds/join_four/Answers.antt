use Rattle.std.proofs.Common.{arith}
use Rattle.des_core.proofs.CipherLemmas.{place-fits}
use Rattle.des_core.proofs.lanes.rounds.join_four.Goals as goal

pub offset_bounds-left-places : goal.offset_bounds-left-places
offset_bounds-left-places c = record { fits = place-fits _ (c.requires 0 (omega arith)) }

pub bounds-left-places : goal.bounds-left-places
bounds-left-places c = c.requires 0 (omega arith)

pub offset_bounds-left-places-2 : goal.offset_bounds-left-places-2
offset_bounds-left-places-2 c = record { fits = place-fits _ (c.requires 0 (omega arith)) }

pub bounds-left-places-2 : goal.bounds-left-places-2
bounds-left-places-2 c = c.requires 0 (omega arith)

pub offset_bounds-left-places-3 : goal.offset_bounds-left-places-3
offset_bounds-left-places-3 c = record { fits = place-fits _ (c.requires 1 (omega arith)) }

pub bounds-left-places-3 : goal.bounds-left-places-3
bounds-left-places-3 c = c.requires 1 (omega arith)

pub offset_bounds-left-places-4 : goal.offset_bounds-left-places-4
offset_bounds-left-places-4 c = record { fits = place-fits _ (c.requires 1 (omega arith)) }

pub bounds-left-places-4 : goal.bounds-left-places-4
bounds-left-places-4 c = c.requires 1 (omega arith)

pub offset_bounds-left-places-5 : goal.offset_bounds-left-places-5
offset_bounds-left-places-5 c = record { fits = place-fits _ (c.requires 2 (omega arith)) }

pub bounds-left-places-5 : goal.bounds-left-places-5
bounds-left-places-5 c = c.requires 2 (omega arith)

pub offset_bounds-left-places-6 : goal.offset_bounds-left-places-6
offset_bounds-left-places-6 c = record { fits = place-fits _ (c.requires 2 (omega arith)) }

pub bounds-left-places-6 : goal.bounds-left-places-6
bounds-left-places-6 c = c.requires 2 (omega arith)

pub offset_bounds-left-places-7 : goal.offset_bounds-left-places-7
offset_bounds-left-places-7 c = record { fits = place-fits _ (c.requires 3 (omega arith)) }

pub bounds-left-places-7 : goal.bounds-left-places-7
bounds-left-places-7 c = c.requires 3 (omega arith)

pub offset_bounds-left-places-8 : goal.offset_bounds-left-places-8
offset_bounds-left-places-8 c = record { fits = place-fits _ (c.requires 3 (omega arith)) }

pub bounds-left-places-8 : goal.bounds-left-places-8
bounds-left-places-8 c = c.requires 3 (omega arith)
