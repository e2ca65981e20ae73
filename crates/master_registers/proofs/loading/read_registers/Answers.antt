use Rattle.std.proofs.Common.{List, ℕ, subst}
use Rattle.key_cells.specs.Lease.{bench_of}
use Rattle.master_registers.specs.BodyForm.{IsBody, HasBodyForm, masters_at}
use Rattle.master_registers.specs.Masters.{AreApart}
use Rattle.master_registers.proofs.BodyLaws.{loaded_taken, reads_taken, unread, too_close}
use Rattle.master_registers.proofs.loading.read_registers.Goals as goal

pub returns-then-not-is_form-clause-damaged : goal.returns-then-not-is_form-clause-damaged
returns-then-not-is_form-clause-damaged c _ =
    unread (bench_of c.args.lease.now).body c.body.result.now c.body-2.result.now c.is_zero.result c.is_form.result c.body.ensures c.body-2.ensures
    c.if-is_zero.false c.is_zero.ensures.zero.1 c.if-not-is_form.true c.is_form.ensures.form.1

pub returns-then-are_apart-clause-loaded : goal.returns-then-are_apart-clause-loaded
returns-then-are_apart-clause-loaded c =
    let body : List ℕ = (bench_of c.args.lease.now).body in
    let apart : AreApart (masters_at body).current (masters_at body).former =
    (c.are_apart.ensures (masters_at body) c.take_registers-held.ensures.told).0 c.if-are_apart.true in
    loaded_taken body c.take_registers-held.result (bench_of c.take_registers-held.new.lease) c.take_registers-held.ensures.bytes apart
    c.take_registers-held.ensures.placed c.take_registers-held.ensures.told

pub returns-then-are_apart-clause-reads : goal.returns-then-are_apart-clause-reads
returns-then-are_apart-clause-reads c =
    let body : List ℕ = (bench_of c.args.lease.now).body in
    let form : HasBodyForm body = subst HasBodyForm c.body-2.ensures (c.is_form.ensures.form.0 c.if-not-is_form.false) in
    let bytes : IsBody body = subst IsBody c.body-2.ensures c.is_form.ensures.bytes in
    let apart : AreApart (masters_at body).current (masters_at body).former =
    (c.are_apart.ensures (masters_at body) c.take_registers-held.ensures.told).0 c.if-are_apart.true in
    reads_taken body c.take_registers-held.result (bench_of c.take_registers-held.new.lease) c.take_registers-held.ensures.bytes apart
    c.take_registers-held.ensures.placed c.take_registers-held.ensures.told bytes form

pub returns-else-are_apart-clause-damaged : goal.returns-else-are_apart-clause-damaged
returns-else-are_apart-clause-damaged c _ =
    too_close (bench_of c.args.lease.now).body c.body.result.now c.is_zero.result c.are_apart.result c.body.ensures c.if-is_zero.false c.is_zero.ensures.zero.1
    c.if-are_apart.false (c.are_apart.ensures (masters_at (bench_of c.args.lease.now).body) c.take_registers-held.ensures.told).1
