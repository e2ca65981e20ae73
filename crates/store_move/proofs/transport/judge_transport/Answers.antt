use Rattle.std.proofs.Common.{Option, None, get_or, subst}
use Rattle.std.specs.Prelude.{IfOk}
use Rattle.key_cells.specs.Lease.{bench_of}
use Rattle.record_bodies.specs.Entries.{what_in}
use Rattle.record_bodies.specs.StoreStands.{entry_at}
use Rattle.key_tokens.specs.Denotes.{Denoted}
use Rattle.device_cells.specs.Medium.{Told}
use Rattle.verb_rules.specs.Keys.{keys_of}
use Rattle.verb_rules.specs.declared.needs.Need.{Need}
use Rattle.store_move.specs.Reading.{HoldsAsRead}
use Rattle.store_move.specs.Stored.{IsStored}
use Rattle.store_move.proofs.transport.judge_transport.Goals as goal

pub returns-clause-judged : goal.returns-clause-judged
returns-clause-judged g c = λ m s loaded told.
    subst (λ (need : Need). IfOk c.judge_record.result (λ judged. Told (g.D.Disk.medium c.args.store.now)
    (λ _. IsStored (bench_of c.args.lease.now) need (what_in (entry_at s c.args.place)) judged)))
    c.exporter.ensures (c.judge_record.ensures.stored m s loaded told)

pub returns-clause-own : goal.returns-clause-own
returns-clause-own g c = λ m loaded.
    let row = get_or c.args.records.now c.args.place None in
    subst (λ (need : Need). IfOk c.judge_record.result (λ judged. (what : Option Denoted)
    × HoldsAsRead (keys_of m) row (bench_of c.judge_record.new.lease).body what × IsStored (bench_of c.args.lease.now) need what judged))
    c.exporter.ensures (c.judge_record.ensures.own m loaded)
