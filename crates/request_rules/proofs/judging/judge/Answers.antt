use Rattle.std.proofs.Common.{false, Result, Ok, Err, refl, subst, inl, inr}
use Rattle.verb_rules.specs.declared.rules.Rule.{Rule}
use Rattle.key_cells.specs.Lease.{bench_of}
use Rattle.request_rules.specs.Standing.{AtStore}
use Rattle.request_rules.specs.Judging.{AreKeyedOperands, AreShaped, IsAsked, IsJudged, IsKeyedAnswer, IsShaped, seen_operands}
use Rattle.request_rules.specs.Stored.{AreAskedAsRead, IsAskedAsRead}
use Rattle.cca_machine.specs.declared.granted.Grant.{Grant}
use Rattle.request_rules.proofs.AsRead.{as_read_before}
use Rattle.request_rules.proofs.GrantsKept.{loaded_kept}
use Rattle.request_rules.proofs.LabelsRead.{all_granted, asked_before, at_after}
use Rattle.request_rules.proofs.OperandsJudged.{first_refused, second_refused, stopped_says, third_refused}
use Rattle.request_rules.proofs.StoreReads.{never_stopped, reads_done, reads_stopped, reads_then, stopped_as}
use Rattle.request_rules.proofs.judging.judge.Goals as goal

-- ---- what is read

pub returns-in_err-grant-clause-reads : goal.returns-in_err-grant-clause-reads
returns-in_err-grant-clause-reads g c = reads_stopped _ _ c.from_residual.ensures.1 c.in_err-grant.ensures.reads

pub returns-in-Err-clause-reads : goal.returns-in-Err-clause-reads
returns-in-Err-clause-reads g c = reads_done _ c.in_ok-grant.ensures.reads

pub returns-in_err-grant-2-clause-reads : goal.returns-in_err-grant-2-clause-reads
returns-in_err-grant-2-clause-reads g c = reads_then c.in_ok-grant.ensures.reads (reads_stopped _ _ c.from_residual-in_err-grant-2.ensures.1 c.in_err-grant-2.ensures.reads)

pub returns-in-Err-2-clause-reads : goal.returns-in-Err-2-clause-reads
returns-in-Err-2-clause-reads g c = reads_then c.in_ok-grant.ensures.reads (reads_done _ c.in_ok-grant-2.ensures.reads)

pub returns-in_err-grant-3-clause-reads : goal.returns-in_err-grant-3-clause-reads
returns-in_err-grant-3-clause-reads g c =
    reads_then c.in_ok-grant.ensures.reads (reads_then c.in_ok-grant-2.ensures.reads (reads_stopped false _ c.from_residual-in_err-grant-3.ensures.1 c.in_err-grant-3.ensures.reads))

pub returns-in-Err-3-clause-reads : goal.returns-in-Err-3-clause-reads
returns-in-Err-3-clause-reads g c =
    reads_then c.in_ok-grant.ensures.reads (reads_then c.in_ok-grant-2.ensures.reads (reads_done false c.in_ok-grant-3.ensures.reads))

pub returns-clause-reads : goal.returns-clause-reads
returns-clause-reads g c =
    reads_then c.in_ok-grant.ensures.reads (reads_then c.in_ok-grant-2.ensures.reads (reads_done false c.in_ok-grant-3.ensures.reads))

-- ---- a call that stops

pub returns-in_err-grant-clause-judged : goal.returns-in_err-grant-clause-judged
returns-in_err-grant-clause-judged g c = λ s at. stopped_says (IsJudged s (bench_of c.args.lease.now) (seen_operands c.args.operands.now)) _ c.from_residual.result c.from_residual.ensures.1

pub returns-in_err-grant-clause-shaped : goal.returns-in_err-grant-clause-shaped
returns-in_err-grant-clause-shaped g c = stopped_says (AreShaped c.args.records.now (seen_operands c.args.operands.now)) _ c.from_residual.result c.from_residual.ensures.1

pub returns-in_err-grant-clause-keyed : goal.returns-in_err-grant-clause-keyed
returns-in_err-grant-clause-keyed g c = λ m loaded. stopped_says (AreKeyedOperands m (seen_operands c.args.operands.now)) _ c.from_residual.result c.from_residual.ensures.1

pub returns-in_err-grant-clause-own : goal.returns-in_err-grant-clause-own
returns-in_err-grant-clause-own g c = λ m loaded. stopped_says (AreAskedAsRead m (bench_of c.args.lease.now) c.args.records.now (seen_operands c.args.operands.now)) _ c.from_residual.result c.from_residual.ensures.1

pub returns-in_err-grant-2-clause-judged : goal.returns-in_err-grant-2-clause-judged
returns-in_err-grant-2-clause-judged g c = λ s at. stopped_says (IsJudged s (bench_of c.args.lease.now) (seen_operands c.args.operands.now)) _ c.from_residual-in_err-grant-2.result c.from_residual-in_err-grant-2.ensures.1

pub returns-in_err-grant-2-clause-shaped : goal.returns-in_err-grant-2-clause-shaped
returns-in_err-grant-2-clause-shaped g c = stopped_says (AreShaped c.args.records.now (seen_operands c.args.operands.now)) _ c.from_residual-in_err-grant-2.result c.from_residual-in_err-grant-2.ensures.1

pub returns-in_err-grant-2-clause-keyed : goal.returns-in_err-grant-2-clause-keyed
returns-in_err-grant-2-clause-keyed g c = λ m loaded. stopped_says (AreKeyedOperands m (seen_operands c.args.operands.now)) _ c.from_residual-in_err-grant-2.result c.from_residual-in_err-grant-2.ensures.1

pub returns-in_err-grant-2-clause-own : goal.returns-in_err-grant-2-clause-own
returns-in_err-grant-2-clause-own g c = λ m loaded. stopped_says (AreAskedAsRead m (bench_of c.args.lease.now) c.args.records.now (seen_operands c.args.operands.now)) _ c.from_residual-in_err-grant-2.result c.from_residual-in_err-grant-2.ensures.1

pub returns-in_err-grant-3-clause-judged : goal.returns-in_err-grant-3-clause-judged
returns-in_err-grant-3-clause-judged g c = λ s at. stopped_says (IsJudged s (bench_of c.args.lease.now) (seen_operands c.args.operands.now)) _ c.from_residual-in_err-grant-3.result c.from_residual-in_err-grant-3.ensures.1

pub returns-in_err-grant-3-clause-shaped : goal.returns-in_err-grant-3-clause-shaped
returns-in_err-grant-3-clause-shaped g c = stopped_says (AreShaped c.args.records.now (seen_operands c.args.operands.now)) _ c.from_residual-in_err-grant-3.result c.from_residual-in_err-grant-3.ensures.1

pub returns-in_err-grant-3-clause-keyed : goal.returns-in_err-grant-3-clause-keyed
returns-in_err-grant-3-clause-keyed g c = λ m loaded. stopped_says (AreKeyedOperands m (seen_operands c.args.operands.now)) _ c.from_residual-in_err-grant-3.result c.from_residual-in_err-grant-3.ensures.1

pub returns-in_err-grant-3-clause-own : goal.returns-in_err-grant-3-clause-own
returns-in_err-grant-3-clause-own g c = λ m loaded. stopped_says (AreAskedAsRead m (bench_of c.args.lease.now) c.args.records.now (seen_operands c.args.operands.now)) _ c.from_residual-in_err-grant-3.result c.from_residual-in_err-grant-3.ensures.1

-- ---- what is certain in every state, and whether tokens stand for keys

pub returns-in-Err-clause-shaped : goal.returns-in-Err-clause-shaped
returns-in-Err-clause-shaped g c = c.requires.fit.0.1

pub returns-in-Err-clause-keyed : goal.returns-in-Err-clause-keyed
returns-in-Err-clause-keyed g c = λ m loaded. tt

pub returns-in-Err-2-clause-shaped : goal.returns-in-Err-2-clause-shaped
returns-in-Err-2-clause-shaped g c = c.requires.fit.1.1

pub returns-in-Err-2-clause-keyed : goal.returns-in-Err-2-clause-keyed
returns-in-Err-2-clause-keyed g c = λ m loaded. tt

pub returns-in-Err-3-clause-shaped : goal.returns-in-Err-3-clause-shaped
returns-in-Err-3-clause-shaped g c = c.requires.fit.2.1

pub returns-in-Err-3-clause-keyed : goal.returns-in-Err-3-clause-keyed
returns-in-Err-3-clause-keyed g c = λ m loaded. tt

pub returns-clause-shaped : goal.returns-clause-shaped
returns-clause-shaped g c =
    let os = c.args.operands.now in
    let rows = c.args.records.now in (
      subst (λ (a : Result Grant Rule). IsShaped rows os.first.text.now os.first.ask a) c.in-Ok.is c.in_ok-grant.ensures.shaped,
      subst (λ (a : Result Grant Rule). IsShaped rows os.second.text.now os.second.ask a) c.in-Ok-2.is c.in_ok-grant-2.ensures.shaped,
      subst (λ (a : Result Grant Rule). IsShaped rows os.third.text.now os.third.ask a) c.in-Ok-3.is c.in_ok-grant-3.ensures.shaped,
    )

pub returns-clause-keyed : goal.returns-clause-keyed
returns-clause-keyed g c = λ m loaded.
    let os = c.args.operands.now in
    let held = c.args.held.now in
    let loaded1 = loaded_kept m held c.args.lease.now c.judge_one.new.lease c.judge_one.ensures.reads.rest loaded in
    let loaded2 = loaded_kept m held c.judge_one.new.lease c.judge_one-2.new.lease c.judge_one-2.ensures.reads.rest loaded1 in (
      subst (λ (a : Result Grant Rule). IsKeyedAnswer m os.first.text.now os.first.ask a) c.in-Ok.is (c.in_ok-grant.ensures.keyed m loaded),
      subst (λ (a : Result Grant Rule). IsKeyedAnswer m os.second.text.now os.second.ask a) c.in-Ok-2.is (c.in_ok-grant-2.ensures.keyed m loaded1),
      subst (λ (a : Result Grant Rule). IsKeyedAnswer m os.third.text.now os.third.ask a) c.in-Ok-3.is (c.in_ok-grant-3.ensures.keyed m loaded2),
    )

-- ---- what is judged

pub returns-in-Err-clause-judged : goal.returns-in-Err-clause-judged
returns-in-Err-clause-judged g c = λ s at.
    let os = c.args.operands.now in
    let bench = bench_of c.args.lease.now in
    first_refused s bench (seen_operands os) c.in-Err.rule
    (subst (λ (a : Result Grant Rule). IsAsked s bench os.first.text.now os.first.ask a) c.in-Err.is (c.in_ok-grant.ensures.asked s at))

pub returns-in-Err-2-clause-judged : goal.returns-in-Err-2-clause-judged
returns-in-Err-2-clause-judged g c = λ s at.
    let os = c.args.operands.now in
    let lease0 = c.args.lease.now in
    let lease1 = c.judge_one.new.lease in
    let medium = g.D.Disk.medium in
    let at1 : AtStore s c.args.held.now (bench_of lease1) c.args.records.now (medium c.judge_one.new.store) =
    at_after s lease0 lease1 c.judge_one.ensures.reads.rest c.args.held.now c.args.records.now (medium c.args.store.now) (medium c.judge_one.new.store) c.judge_one.ensures.reads.keeps at in
    second_refused s (bench_of lease0) (seen_operands os) c.in-Err-2.rule c.in-Ok.grant
    (subst (λ (a : Result Grant Rule). IsAsked s (bench_of lease0) os.first.text.now os.first.ask a) c.in-Ok.is (c.in_ok-grant.ensures.asked s at))
    (subst (λ (a : Result Grant Rule). IsAsked s (bench_of lease1) os.second.text.now os.second.ask a) c.in-Err-2.is (c.in_ok-grant-2.ensures.asked s at1))

pub returns-in-Err-3-clause-judged : goal.returns-in-Err-3-clause-judged
returns-in-Err-3-clause-judged g c = λ s at.
    let os = c.args.operands.now in
    let held = c.args.held.now in
    let rows = c.args.records.now in
    let lease0 = c.args.lease.now in
    let lease1 = c.judge_one.new.lease in
    let lease2 = c.judge_one-2.new.lease in
    let medium = g.D.Disk.medium in
    let at1 : AtStore s held (bench_of lease1) rows (medium c.judge_one.new.store) =
    at_after s lease0 lease1 c.judge_one.ensures.reads.rest held rows (medium c.args.store.now) (medium c.judge_one.new.store) c.judge_one.ensures.reads.keeps at in
    let at2 : AtStore s held (bench_of lease2) rows (medium c.judge_one-2.new.store) =
    at_after s lease1 lease2 c.judge_one-2.ensures.reads.rest held rows (medium c.judge_one.new.store) (medium c.judge_one-2.new.store) c.judge_one-2.ensures.reads.keeps at1 in
    let second : IsAsked s (bench_of lease1) os.second.text.now os.second.ask (Ok c.in-Ok-2.grant) =
    subst (λ (a : Result Grant Rule). IsAsked s (bench_of lease1) os.second.text.now os.second.ask a) c.in-Ok-2.is (c.in_ok-grant-2.ensures.asked s at1) in
    third_refused s (bench_of lease0) (seen_operands os) c.in-Err-3.rule c.in-Ok.grant
    (subst (λ (a : Result Grant Rule). IsAsked s (bench_of lease0) os.first.text.now os.first.ask a) c.in-Ok.is (c.in_ok-grant.ensures.asked s at))
    c.in-Ok-2.grant
    (asked_before s lease0 lease1 c.judge_one.ensures.reads.rest os.second.text.now os.second.ask c.in-Ok-2.grant second)
    (subst (λ (a : Result Grant Rule). IsAsked s (bench_of lease2) os.third.text.now os.third.ask a) c.in-Err-3.is (c.in_ok-grant-3.ensures.asked s at2))

pub returns-clause-judged : goal.returns-clause-judged
returns-clause-judged g c = λ s at.
    let os = c.args.operands.now in
    let held = c.args.held.now in
    let rows = c.args.records.now in
    let lease0 = c.args.lease.now in
    let lease1 = c.judge_one.new.lease in
    let lease2 = c.judge_one-2.new.lease in
    let medium = g.D.Disk.medium in
    let at1 : AtStore s held (bench_of lease1) rows (medium c.judge_one.new.store) =
    at_after s lease0 lease1 c.judge_one.ensures.reads.rest held rows (medium c.args.store.now) (medium c.judge_one.new.store) c.judge_one.ensures.reads.keeps at in
    let at2 : AtStore s held (bench_of lease2) rows (medium c.judge_one-2.new.store) =
    at_after s lease1 lease2 c.judge_one-2.ensures.reads.rest held rows (medium c.judge_one.new.store) (medium c.judge_one-2.new.store) c.judge_one-2.ensures.reads.keeps at1 in
    let first : IsAsked s (bench_of lease0) os.first.text.now os.first.ask (Ok c.in-Ok.grant) =
    subst (λ (a : Result Grant Rule). IsAsked s (bench_of lease0) os.first.text.now os.first.ask a) c.in-Ok.is (c.in_ok-grant.ensures.asked s at) in
    let second : IsAsked s (bench_of lease1) os.second.text.now os.second.ask (Ok c.in-Ok-2.grant) =
    subst (λ (a : Result Grant Rule). IsAsked s (bench_of lease1) os.second.text.now os.second.ask a) c.in-Ok-2.is (c.in_ok-grant-2.ensures.asked s at1) in
    let third : IsAsked s (bench_of lease2) os.third.text.now os.third.ask (Ok c.in-Ok-3.grant) =
    subst (λ (a : Result Grant Rule). IsAsked s (bench_of lease2) os.third.text.now os.third.ask a) c.in-Ok-3.is (c.in_ok-grant-3.ensures.asked s at2) in
    all_granted s (bench_of lease0) (seen_operands os)
    (record { first = c.in-Ok.grant; second = c.in-Ok-2.grant; third = c.in-Ok-3.grant })
    first
    (asked_before s lease0 lease1 c.judge_one.ensures.reads.rest os.second.text.now os.second.ask c.in-Ok-2.grant second)
    (asked_before s lease0 lease1 c.judge_one.ensures.reads.rest os.third.text.now os.third.ask c.in-Ok-3.grant
    (asked_before s lease1 lease2 c.judge_one-2.ensures.reads.rest os.third.text.now os.third.ask c.in-Ok-3.grant third))

-- ---- by what was read of the records of labels

pub returns-in-Err-clause-own : goal.returns-in-Err-clause-own
returns-in-Err-clause-own g c = λ m loaded.
    let os = c.args.operands.now in
    let rows = c.args.records.now in
    inl (refl, subst (λ (a : Result Grant Rule). IsAskedAsRead m (bench_of c.args.lease.now) rows os.first.text.now os.first.ask a) c.in-Err.is (c.in_ok-grant.ensures.own m loaded))

pub returns-in-Err-2-clause-own : goal.returns-in-Err-2-clause-own
returns-in-Err-2-clause-own g c = λ m loaded.
    let os = c.args.operands.now in
    let rows = c.args.records.now in
    let lease0 = c.args.lease.now in
    let lease1 = c.judge_one.new.lease in
    let loaded1 = loaded_kept m c.args.held.now lease0 lease1 c.judge_one.ensures.reads.rest loaded in
    let second : IsAskedAsRead m (bench_of lease1) rows os.second.text.now os.second.ask (Err c.in-Err-2.rule) =
    subst (λ (a : Result Grant Rule). IsAskedAsRead m (bench_of lease1) rows os.second.text.now os.second.ask a) c.in-Err-2.is (c.in_ok-grant-2.ensures.own m loaded1) in
    inr (
      c.in-Ok.grant,
      subst (λ (a : Result Grant Rule). IsAskedAsRead m (bench_of lease0) rows os.first.text.now os.first.ask a) c.in-Ok.is (c.in_ok-grant.ensures.own m loaded),
      inl (refl, as_read_before m rows lease0 lease1 c.judge_one.ensures.reads.rest os.second.text.now os.second.ask (Err c.in-Err-2.rule) second),
    )

pub returns-in-Err-3-clause-own : goal.returns-in-Err-3-clause-own
returns-in-Err-3-clause-own g c = λ m loaded.
    let os = c.args.operands.now in
    let rows = c.args.records.now in
    let held = c.args.held.now in
    let lease0 = c.args.lease.now in
    let lease1 = c.judge_one.new.lease in
    let lease2 = c.judge_one-2.new.lease in
    let loaded1 = loaded_kept m held lease0 lease1 c.judge_one.ensures.reads.rest loaded in
    let loaded2 = loaded_kept m held lease1 lease2 c.judge_one-2.ensures.reads.rest loaded1 in
    let second : IsAskedAsRead m (bench_of lease1) rows os.second.text.now os.second.ask (Ok c.in-Ok-2.grant) =
    subst (λ (a : Result Grant Rule). IsAskedAsRead m (bench_of lease1) rows os.second.text.now os.second.ask a) c.in-Ok-2.is (c.in_ok-grant-2.ensures.own m loaded1) in
    let third : IsAskedAsRead m (bench_of lease2) rows os.third.text.now os.third.ask (Err c.in-Err-3.rule) =
    subst (λ (a : Result Grant Rule). IsAskedAsRead m (bench_of lease2) rows os.third.text.now os.third.ask a) c.in-Err-3.is (c.in_ok-grant-3.ensures.own m loaded2) in
    inr (
      c.in-Ok.grant,
      subst (λ (a : Result Grant Rule). IsAskedAsRead m (bench_of lease0) rows os.first.text.now os.first.ask a) c.in-Ok.is (c.in_ok-grant.ensures.own m loaded),
      inr (
        c.in-Ok-2.grant,
        as_read_before m rows lease0 lease1 c.judge_one.ensures.reads.rest os.second.text.now os.second.ask (Ok c.in-Ok-2.grant) second,
        inl (
          refl,
          as_read_before m rows lease0 lease1 c.judge_one.ensures.reads.rest os.third.text.now os.third.ask (Err c.in-Err-3.rule)
              (as_read_before m rows lease1 lease2 c.judge_one-2.ensures.reads.rest os.third.text.now os.third.ask (Err c.in-Err-3.rule) third),
        ),
      ),
    )

pub returns-clause-own : goal.returns-clause-own
returns-clause-own g c = λ m loaded.
    let os = c.args.operands.now in
    let rows = c.args.records.now in
    let held = c.args.held.now in
    let lease0 = c.args.lease.now in
    let lease1 = c.judge_one.new.lease in
    let lease2 = c.judge_one-2.new.lease in
    let loaded1 = loaded_kept m held lease0 lease1 c.judge_one.ensures.reads.rest loaded in
    let loaded2 = loaded_kept m held lease1 lease2 c.judge_one-2.ensures.reads.rest loaded1 in
    let second : IsAskedAsRead m (bench_of lease1) rows os.second.text.now os.second.ask (Ok c.in-Ok-2.grant) =
    subst (λ (a : Result Grant Rule). IsAskedAsRead m (bench_of lease1) rows os.second.text.now os.second.ask a) c.in-Ok-2.is (c.in_ok-grant-2.ensures.own m loaded1) in
    let third : IsAskedAsRead m (bench_of lease2) rows os.third.text.now os.third.ask (Ok c.in-Ok-3.grant) =
    subst (λ (a : Result Grant Rule). IsAskedAsRead m (bench_of lease2) rows os.third.text.now os.third.ask a) c.in-Ok-3.is (c.in_ok-grant-3.ensures.own m loaded2) in (
      subst (λ (a : Result Grant Rule). IsAskedAsRead m (bench_of lease0) rows os.first.text.now os.first.ask a) c.in-Ok.is (c.in_ok-grant.ensures.own m loaded),
      as_read_before m rows lease0 lease1 c.judge_one.ensures.reads.rest os.second.text.now os.second.ask (Ok c.in-Ok-2.grant) second,
      as_read_before m rows lease0 lease1 c.judge_one.ensures.reads.rest os.third.text.now os.third.ask (Ok c.in-Ok-3.grant)
          (as_read_before m rows lease1 lease2 c.judge_one-2.ensures.reads.rest os.third.text.now os.third.ask (Ok c.in-Ok-3.grant) third),
    )

-- ---- the cell that a stop names

pub returns-in_err-grant-clause-cell : goal.returns-in_err-grant-clause-cell
returns-in_err-grant-clause-cell g c = λ n. stopped_as _ c.from_residual.ensures.1 (λ is. inl (c.in_err-grant.ensures.cell n is))

pub returns-in-Err-clause-cell : goal.returns-in-Err-clause-cell
returns-in-Err-clause-cell g c = λ n is. never_stopped is

pub returns-in_err-grant-2-clause-cell : goal.returns-in_err-grant-2-clause-cell
returns-in_err-grant-2-clause-cell g c = λ n. stopped_as _ c.from_residual-in_err-grant-2.ensures.1 (λ is. inr (inl (c.in_err-grant-2.ensures.cell n is)))

pub returns-in-Err-2-clause-cell : goal.returns-in-Err-2-clause-cell
returns-in-Err-2-clause-cell g c = λ n is. never_stopped is

pub returns-in_err-grant-3-clause-cell : goal.returns-in_err-grant-3-clause-cell
returns-in_err-grant-3-clause-cell g c = λ n. stopped_as _ c.from_residual-in_err-grant-3.ensures.1 (λ is. inr (inr (inl (c.in_err-grant-3.ensures.cell n is))))

pub returns-in-Err-3-clause-cell : goal.returns-in-Err-3-clause-cell
returns-in-Err-3-clause-cell g c = λ n is. never_stopped is

pub returns-clause-cell : goal.returns-clause-cell
returns-clause-cell g c = λ n is. never_stopped is
