use Rattle.std.proofs.Common.{◌≡◌, Bool, None, Ok, Err, get_or, inr, ap, refl, sym, ◌∙◌}
use Rattle.std.specs.Prelude.{IsSome, Result}
use Rattle.key_cells.specs.Lease.{bench_of}
use Rattle.key_tokens.specs.Denotes.{denoted}
use Rattle.record_bodies.specs.StoreStands.{entry_at}
use Rattle.verb_rules.specs.KeyChecks.{age_of}
use Rattle.verb_rules.specs.Keys.{HasHalves, keys_of}
use Rattle.verb_rules.specs.StoredKeys.{IsRead}
use Rattle.verb_rules.proofs.JudgeLemmas.{if_ok_gives}
use Rattle.store_move.proofs.StoredLemmas.{failed, failed_as, never_damaged, no_key_holds, read_fails, unread_fails}
use Rattle.store_move.proofs.StoredLemmas.{stored_as, stored_key, stored_some, was_read}
use Rattle.key_records.specs.declared.faults.RecordFault.{RecordFault}
use Rattle.key_records.specs.declared.faults.RecordFault.TheVariants.{Damaged}
use Rattle.verb_rules.specs.declared.judging.Judged.{Judged}
use Rattle.verb_rules.specs.declared.rules.Rule.{Rule}
use Rattle.verb_rules.specs.declared.rules.Rule.TheVariants.{Null}
use Rattle.store_move.specs.Reading.{if_found}
use Rattle.store_move.proofs.stored.judge_record.Goals as goal
use Rattle.key_cells.proofs.AnswerLemmas.{no_err}

abbrev null_answer : Result (Result Judged Rule) RecordFault
null_answer = Ok (Err Null)

pub returns-in-Some-clause-stored : goal.returns-in-Some-clause-stored
returns-in-Some-clause-stored g c = λ m s loaded told.
    let bench = bench_of c.args.lease.now in
    let store = g.D.Disk.medium c.args.store.now in
    stored_key store.content (keys_of m) (entry_at s c.args.place) bench c.args.need.now c.read.new.out
    c.in-Ok-true.field-0 c.in-Ok-true.field-0-test (c.in-Ok-true.ensures.token (keys_of m) s told)
    c.in-Some.judged (c.in-Some.ensures.stored m bench loaded)

pub returns-in-Some-clause-halves : goal.returns-in-Some-clause-halves
returns-in-Some-clause-halves g c =
    if_ok_gives c.in-Some.judged (IsRead c.args.held.now c.read.new.out) HasHalves (λ judged read. read.halves) c.in-Some.ensures.read

pub returns-in-Some-clause-age : goal.returns-in-Some-clause-age
returns-in-Some-clause-age g c =
    if_ok_gives c.in-Some.judged (IsRead c.args.held.now c.read.new.out) (λ judged. judged.age ≡ age_of c.args.held.now judged.token) (λ judged read. read.age) c.in-Some.ensures.read

pub returns-in-Some-clause-under : goal.returns-in-Some-clause-under
returns-in-Some-clause-under g c =
    if_ok_gives c.in-Some.judged (IsRead c.args.held.now c.read.new.out) (λ judged. IsSome judged.age) (λ judged read. read.under) c.in-Some.ensures.read

pub returns-in-None-clause-damaged : goal.returns-in-None-clause-damaged
returns-in-None-clause-damaged g c = λ m s loaded told cell failed.
    let bench = bench_of c.args.lease.now in
    let store = g.D.Disk.medium c.args.store.now in
    never_damaged store.content (keys_of m) (entry_at s c.args.place) bench c.args.need.now c.read.new.out
    c.in-Ok-true.field-0 c.in-Ok-true.field-0-test (c.in-Ok-true.ensures.token (keys_of m) s told)
    (c.in-None.ensures.stored m bench loaded)

pub returns-in-Some-clause-own : goal.returns-in-Some-clause-own
returns-in-Some-clause-own g c = λ m loaded.
    let bench = bench_of c.args.lease.now in
    let what = denoted (keys_of m) c.read.new.out in
    let judges = c.in-Some.ensures.stored m bench loaded in (
      what,
      record {
        found = c.in-Ok-true.field-0;
        token = c.read.new.out;
        read = c.in-Ok-true.ensures.own;
        null = c.in-Ok-true.ensures.null;
        holds = sym (ap (λ b. if_found b what) c.in-Ok-true.field-0-test);
        key = stored_some bench c.args.need.now what c.in-Some.judged judges ∙ sym c.in-Ok-true.field-0-test;
      },
      stored_as bench c.args.need.now what c.in-Some.judged judges,
    )

pub returns-in-Ok-false-clause-own : goal.returns-in-Ok-false-clause-own
returns-in-Ok-false-clause-own g c = λ m loaded. (
  None,
  record {
    found = c.in-Ok-false.field-0;
    token = c.read.new.out;
    read = c.in-Ok-false.ensures.own;
    null = c.in-Ok-false.ensures.null;
    holds = sym (ap (λ b. if_found b (denoted (keys_of m) c.read.new.out)) c.in-Ok-false.field-0-test);
    key = sym c.in-Ok-false.field-0-test;
  },
  refl,
)

-- ---- what is asked, and what stays

pub read-requires-clause-held : goal.read-requires-clause-held
read-requires-clause-held g c = c.requires.held

pub read-requires-clause-size : goal.read-requires-clause-size
read-requires-clause-size g c = c.requires.size

pub read-requires-clause-holds : goal.read-requires-clause-holds
read-requires-clause-holds g c = c.requires.holds

pub returns-in-Some-clause-fails : goal.returns-in-Some-clause-fails
returns-in-Some-clause-fails g c =
    read_fails c.args.place (g.D.Disk.faults c.args.store.now) (g.D.Disk.faults c.read.new.store) c.in-Ok-true.field-0 (Ok c.in-Some.judged)
    c.in-Ok-true.ensures.cause (λ is. no_err is) tt

pub returns-in-None-clause-fails : goal.returns-in-None-clause-fails
returns-in-None-clause-fails g c =
    read_fails c.args.place (g.D.Disk.faults c.args.store.now) (g.D.Disk.faults c.read.new.store) c.in-Ok-true.field-0
    (failed (Result Judged Rule) (Damaged c.cell.result)) c.in-Ok-true.ensures.cause (was_read (Result Judged Rule) c.cell.result)
    (inr (ap Damaged c.cell.ensures))

pub returns-in-Ok-false-clause-fails : goal.returns-in-Ok-false-clause-fails
returns-in-Ok-false-clause-fails g c =
    read_fails c.args.place (g.D.Disk.faults c.args.store.now) (g.D.Disk.faults c.read.new.store) c.in-Ok-false.field-0 (null_answer)
    c.in-Ok-false.ensures.cause (λ is. no_err is) tt

pub returns-in-Err-clause-fails : goal.returns-in-Err-clause-fails
returns-in-Err-clause-fails g c = unread_fails c.args.place (g.D.Disk.faults c.args.store.now) (g.D.Disk.faults c.read.new.store) (Result Judged Rule) c.in-Err.fault c.in-Err.ensures.cause c.in-Err.ensures.faults

pub returns-in-Some-clause-damaged : goal.returns-in-Some-clause-damaged
returns-in-Some-clause-damaged g c m s loaded told cell is = no_err is

pub returns-in-Ok-false-clause-damaged : goal.returns-in-Ok-false-clause-damaged
returns-in-Ok-false-clause-damaged g c m s loaded told cell is = no_err is

pub returns-in-Err-clause-damaged : goal.returns-in-Err-clause-damaged
returns-in-Err-clause-damaged g c m s loaded told cell is =
    (c.in-Err.ensures.damaged cell (failed_as (Result Judged Rule) Bool c.in-Err.fault (Damaged cell) is)).1

pub returns-in-None-clause-stored : goal.returns-in-None-clause-stored
returns-in-None-clause-stored g c m s loaded told = tt

pub returns-in-None-clause-own : goal.returns-in-None-clause-own
returns-in-None-clause-own g c m loaded = tt

pub returns-in-None-clause-halves : goal.returns-in-None-clause-halves
returns-in-None-clause-halves g c = tt

pub returns-in-None-clause-age : goal.returns-in-None-clause-age
returns-in-None-clause-age g c = tt

pub returns-in-None-clause-under : goal.returns-in-None-clause-under
returns-in-None-clause-under g c = tt

pub returns-in-None-clause-double : goal.returns-in-None-clause-double
returns-in-None-clause-double g c is = tt

pub returns-in-Err-clause-stored : goal.returns-in-Err-clause-stored
returns-in-Err-clause-stored g c m s loaded told = tt

pub returns-in-Err-clause-own : goal.returns-in-Err-clause-own
returns-in-Err-clause-own g c m loaded = tt

pub returns-in-Err-clause-halves : goal.returns-in-Err-clause-halves
returns-in-Err-clause-halves g c = tt

pub returns-in-Err-clause-age : goal.returns-in-Err-clause-age
returns-in-Err-clause-age g c = tt

pub returns-in-Err-clause-under : goal.returns-in-Err-clause-under
returns-in-Err-clause-under g c = tt

pub returns-in-Err-clause-double : goal.returns-in-Err-clause-double
returns-in-Err-clause-double g c is = tt

pub returns-in-Ok-false-clause-halves : goal.returns-in-Ok-false-clause-halves
returns-in-Ok-false-clause-halves g c = tt

pub returns-in-Ok-false-clause-age : goal.returns-in-Ok-false-clause-age
returns-in-Ok-false-clause-age g c = tt

pub returns-in-Ok-false-clause-under : goal.returns-in-Ok-false-clause-under
returns-in-Ok-false-clause-under g c = tt

pub returns-in-Ok-false-clause-double : goal.returns-in-Ok-false-clause-double
returns-in-Ok-false-clause-double g c is = tt

pub returns-in-Some-clause-keeps : goal.returns-in-Some-clause-keeps
returns-in-Some-clause-keeps g c = c.read.ensures.keeps

pub returns-in-Some-clause-rest : goal.returns-in-Some-clause-rest
returns-in-Some-clause-rest g c = c.read.ensures.rest

pub returns-in-None-clause-keeps : goal.returns-in-None-clause-keeps
returns-in-None-clause-keeps g c = c.read.ensures.keeps

pub returns-in-None-clause-rest : goal.returns-in-None-clause-rest
returns-in-None-clause-rest g c = c.read.ensures.rest

pub returns-in-Ok-false-clause-keeps : goal.returns-in-Ok-false-clause-keeps
returns-in-Ok-false-clause-keeps g c = c.read.ensures.keeps

pub returns-in-Ok-false-clause-rest : goal.returns-in-Ok-false-clause-rest
returns-in-Ok-false-clause-rest g c = c.read.ensures.rest

pub returns-in-Err-clause-keeps : goal.returns-in-Err-clause-keeps
returns-in-Err-clause-keeps g c = c.read.ensures.keeps

pub returns-in-Err-clause-rest : goal.returns-in-Err-clause-rest
returns-in-Err-clause-rest g c = c.read.ensures.rest

-- ---- a record is told as damaged by what was read of it

pub returns-in-Some-clause-misread : goal.returns-in-Some-clause-misread
returns-in-Some-clause-misread g c m loaded cell what is holds = no_err is

pub returns-in-Ok-false-clause-misread : goal.returns-in-Ok-false-clause-misread
returns-in-Ok-false-clause-misread g c m loaded cell what is holds = no_err is

pub returns-in-None-clause-misread : goal.returns-in-None-clause-misread
returns-in-None-clause-misread g c m loaded cell what is holds =
    no_key_holds (keys_of m) (bench_of c.read.new.lease).body c.read.new.out what c.in-Ok-true.field-0 c.in-Ok-true.field-0-test (c.in-None.ensures.stored m (bench_of c.args.lease.now) loaded)
    (get_or c.args.records.now c.args.place None) c.in-Ok-true.ensures.own c.in-Ok-true.ensures.null holds

pub returns-in-Err-clause-misread : goal.returns-in-Err-clause-misread
returns-in-Err-clause-misread g c m loaded cell what is holds =
    c.in-Err.ensures.misread cell (failed_as (Result Judged Rule) Bool c.in-Err.fault (Damaged cell) is) holds.read.known
