use Rattle.std.proofs.Common.{◌≡◌, ◌∙◌, false, None, Some, Result, Ok, Err, refl, sym, ap, subst, codes, inl, inr}
use Rattle.std.specs.Prelude.{IsSome, IsTrue}
use Rattle.std.proofs.lemmas.Bool.{or_parts}
use Rattle.std.specs.Option.{option_map}
use Rattle.cca_vectors.specs.Checks.{first_failing}
use Rattle.key_cells.specs.Lease.{bench_of, loan_of}
use Rattle.line_service.specs.declared.stops.Stop.{Stop}
use Rattle.line_service.specs.declared.stops.Device.TheVariants.{Store}
use Rattle.line_service.specs.declared.stops.Stop.TheVariants.{Damaged, EntropyFault, StoreFault}
use Rattle.master_registers.specs.Loaded.{Loaded, masters_in}
use Rattle.device_cells.proofs.Media.{keeps_still, keeps_then}
use Rattle.verb_rules.specs.Rules.{rule_number}
use Rattle.verb_script.specs.Grammar.{Request}
use Rattle.verb_script.specs.Parsed.{seen}
use Rattle.cca_machine.specs.Operands.{Operands, operands, listed, names_label, is_reencipher, needs_store}
use Rattle.cca_machine.specs.Verdict.{refusal, general_checks, verb_verdict}
use Rattle.cca_machine.specs.Refusals.{refusal_of}
use Rattle.request_rules.specs.Judging.{IsCellOfAny, IsStoreStop}
use Rattle.request_rules.specs.Standing.{tables}
use Rattle.cca_requests.specs.Serving.{IsFault}
use Rattle.cca_machine.proofs.Acting.{verdict_general}
use Rattle.request_rules.proofs.AsRead.{grants_by_records, on_ok_always, refusal_by_record}
use Rattle.request_verbs.proofs.Delivering.{either_right}
use Rattle.request_rules.proofs.GrantsKept.{grants_kept, loaded_kept}
use Rattle.cca_requests.proofs.MemoryLaws.{refused_memory}
use Rattle.cca_requests.proofs.OperandsJudged.{operands_granted, operands_refused, whole_short, whole_spelled}
use Rattle.cca_requests.proofs.Serving.{refused_serves, stopped_serves, serves_after_reads, stands_kept}
use Rattle.cca_requests.proofs.Contents.{sound}
use Rattle.cca_requests.proofs.Handing.{disks_read, draws_none, has_passed, no_stop, spares_still, store_kept, store_stopped}
use Rattle.line_service.proofs.AnsweredLemmas.{done_undamaged, spares_else}
use Rattle.cca_requests.proofs.Damage.{read_spares, spares_after_store}
use Rattle.cca_requests.proofs.Leaving.{leaves_after_reads, still_left, stops_as, store_stop}
use Rattle.cca_requests.proofs.performing.carry_out.Goals as goal
use Rattle.key_cells.proofs.AnswerLemmas.{no_err}

-- ---- answers that aren't one

-- and the store isn't the random source
store_not_random : StoreFault ≡ EntropyFault → ⊥
store_not_random is = cc is

-- ---- what the machine does

pub refuse-requires-clause-short : goal.refuse-requires-clause-short
refuse-requires-clause-short g c = whole_short c.of_request.result c.of_request.ensures

pub returns-in-Some-clause-serves : goal.returns-in-Some-clause-serves
returns-in-Some-clause-serves g c = λ s at.
    let request = seen c.args.request.now in
    let t = tables c.args.roles.now c.args.records.now in
    let d = g.D.Disk.medium c.args.store.now in
    let fails : first_failing (general_checks s request) ≡ Some (rule_number c.in-Some.rule) =
    sym (c.general_rule.ensures.rule s (bench_of c.args.lease.now) at.stands.on_module.memory at.loaded) ∙ ap (option_map rule_number) c.in-Some.is in
    refused_serves s request (refusal (rule_number c.in-Some.rule) (codes "-")) c.refuse.new.reply t (g.M.Disk.medium c.args.module.now) d d (g.E.Entropy.left c.args.entropy.now)
    (verdict_general s request (rule_number c.in-Some.rule) fails) (whole_spelled c.of_request.result c.of_request.ensures c.refuse.ensures.spells) c.requires.disks.at.settled c.requires.disks.store.settled (keeps_still d) at.stands

pub returns-in-Ok-Refused-clause-serves : goal.returns-in-Ok-Refused-clause-serves
returns-in-Ok-Refused-clause-serves g c = λ s at.
    let request = seen c.args.request.now in
    let bench = bench_of c.args.lease.now in
    let t = tables c.args.roles.now c.args.records.now in
    let m = g.M.Disk.medium c.args.module.now in
    let d0 = g.D.Disk.medium c.args.store.now in
    let d1 = g.D.Disk.medium c.judge.new.store in
    let r = refusal_of c.in-Ok-Refused.refusal in
    let fails = operands_refused s bench request c.in-Ok-Refused.refusal
    (c.general_rule.ensures.rule s bench at.stands.on_module.memory at.loaded) c.in_default.is c.operands_of.ensures.table
    (c.in-Ok-Refused.ensures.judged s (record { loaded = at.loaded; stands = at.stands.on_store })) c.in-Ok-Refused.field-0-is in
    refused_serves s request r c.refuse-in-Ok-Refused.new.reply t m d0 d1 (g.E.Entropy.left c.args.entropy.now)
    fails c.refuse-in-Ok-Refused.ensures.spells c.requires.disks.at.settled c.requires.disks.store.settled c.judge.ensures.reads.keeps at.stands

pub returns-in-Ok-Granted-clause-serves : goal.returns-in-Ok-Granted-clause-serves
returns-in-Ok-Granted-clause-serves g c = λ s at.
    let request = seen c.args.request.now in
    let bench = bench_of c.args.lease.now in
    let t = tables c.args.roles.now c.args.records.now in
    let m = g.M.Disk.medium c.args.module.now in
    let d0 = g.D.Disk.medium c.args.store.now in
    let d1 = g.D.Disk.medium c.judge.new.store in
    let granted = operands_granted s bench request c.in-Ok-Granted.granted
    (c.general_rule.ensures.rule s bench at.stands.on_module.memory at.loaded) c.in_default.is c.operands_of.ensures.table
    (c.in-Ok-Granted.ensures.judged s (record { loaded = at.loaded; stands = at.stands.on_store })) c.in-Ok-Granted.field-0-is in
    serves_after_reads s request c.act.result c.act.new.reply t (tables c.act.new.roles c.act.new.records)
    m m (g.M.Disk.medium c.act.new.module) d0 d1 (g.D.Disk.medium c.act.new.store)
    (g.E.Entropy.left c.args.entropy.now) (g.E.Entropy.left c.act.new.entropy)
    c.requires.disks.at.settled c.requires.disks.store.settled (keeps_still m) c.judge.ensures.reads.keeps at.stands
    (c.act.ensures.serves s (record {
      loaded = loaded_kept s.registers c.args.held.now c.args.lease.now c.judge.new.lease c.judge.ensures.reads.rest at.loaded;
      stands = stands_kept s t m m d0 d1 (keeps_still m) c.judge.ensures.reads.keeps at.stands;
    }) (grants_kept s c.args.lease.now c.judge.new.lease (operands request) c.in-Ok-Granted.granted c.judge.ensures.reads.rest granted.0)
    granted.1)

pub returns-in-Ok-Granted-clause-random : goal.returns-in-Ok-Granted-clause-random
returns-in-Ok-Granted-clause-random g c = record {
  entropy = c.act.ensures.takes.entropy;
  untouched = λ s at refused.
      let request = seen c.args.request.now in
      let granted = operands_granted s (bench_of c.args.lease.now) request c.in-Ok-Granted.granted
      (c.general_rule.ensures.rule s (bench_of c.args.lease.now) at.stands.on_module.memory at.loaded) c.in_default.is c.operands_of.ensures.table
      (c.in-Ok-Granted.ensures.judged s (record { loaded = at.loaded; stands = at.stands.on_store })) c.in-Ok-Granted.field-0-is in
      c.act.ensures.takes.untouched s (subst IsSome (granted.1 (verb_verdict s request)) refused);
  undrawn = c.act.ensures.takes.undrawn;
  drawing = c.act.ensures.takes.drawing;
}

pub returns-in-Err-clause-serves : goal.returns-in-Err-clause-serves
returns-in-Err-clause-serves g c = λ s at.
    let request = seen c.args.request.now in
    let t = tables c.args.roles.now c.args.records.now in
    let m = g.M.Disk.medium c.args.module.now in
    let left = g.E.Entropy.left c.args.entropy.now in
    let fault : c.in-Err.stop ≡ StoreFault = c.in-Err.ensures.reads.sound s (record { loaded = at.loaded; stands = at.stands.on_store }) in
    stopped_serves s request c.in-Err.stop c.args.reply.now t t m m (g.D.Disk.medium c.args.store.now) (g.D.Disk.medium c.judge.new.store) left left
    (subst IsFault (sym fault) tt) (λ is. absurd (store_not_random (sym fault ∙ is)))
    c.requires.disks.at.settled c.requires.disks.store.settled (keeps_still m) c.judge.ensures.reads.keeps at.stands

-- ---- where the store isn't needed

abbrev error : Stop → Result (Unit {0}) Stop
error stop = Err stop

same_stop : (a b : Stop) → error a ≡ error b → a ≡ b
same_stop a b is = cc is

-- a label in an operand needs the store
needed : (r : Request) (os : Operands) → os ≡ operands r → IsTrue (names_label (listed os)) → IsTrue (needs_store r)
needed r os same named =
    either_right (is_reencipher r.name) (names_label (listed (operands r))) (subst (λ o. IsTrue (names_label (listed o))) same named)

-- and where the store isn't needed, no operand is a label
unnamed : (r : Request) (os : Operands) → os ≡ operands r → needs_store r ≡ false → names_label (listed os) ≡ false
unnamed r os same none =
    ap (λ o. names_label (listed o)) same ∙ (or_parts (is_reencipher r.name) (names_label (listed (operands r))) none).1

pub returns-in-Err-clause-store : goal.returns-in-Err-clause-store
returns-in-Err-clause-store g c = record {
  named = λ is. needed (seen c.args.request.now) _ c.operands_of.ensures.table (c.judge.ensures.reads.named (c.in-Err.is ∙ ap Err (same_stop c.in-Err.stop StoreFault is)));
  spared = λ none. c.judge.ensures.reads.spared (unnamed (seen c.args.request.now) _ c.operands_of.ensures.table none);
}

pub returns-in-Ok-Refused-clause-store : goal.returns-in-Ok-Refused-clause-store
returns-in-Ok-Refused-clause-store g c = record {
  named = λ is. absurd (no_stop StoreFault is);
  spared = λ none. c.judge.ensures.reads.spared (unnamed (seen c.args.request.now) _ c.operands_of.ensures.table none);
}

pub returns-in-Ok-Granted-clause-store : goal.returns-in-Ok-Granted-clause-store
returns-in-Ok-Granted-clause-store g c = record {
  named = c.act.ensures.store.named;
  spared = λ none.
      c.act.ensures.store.spared none ∙ c.judge.ensures.reads.spared (unnamed (seen c.args.request.now) _ c.operands_of.ensures.table none);
}

-- ---- what is left

pub returns-in-Some-clause-left : goal.returns-in-Some-clause-left
returns-in-Some-clause-left g c =
    still_left c.refuse.ensures.line c.requires.disks.at.settled c.requires.disks.store.settled
    (sound (g.M.Disk.medium c.args.module.now) (masters_in c.args.held.now (bench_of c.args.lease.now)) c.args.roles.now c.requires.disks.at.stands c.requires.disks.at.remembered) c.requires.disks.store.holds

pub returns-in-Ok-Refused-clause-left : goal.returns-in-Ok-Refused-clause-left
returns-in-Ok-Refused-clause-left g c =
    let d1 = g.D.Disk.medium c.judge.new.store in
    let store = store_kept c.args.records.now (g.D.Disk.medium c.args.store.now) d1 c.judge.ensures.reads.keeps c.requires.disks.store in
    leaves_after_reads {reply = c.refuse-in-Ok-Refused.new.reply}
    (keeps_still (g.M.Disk.medium c.args.module.now)) refl c.judge.ensures.reads.keeps (c.in-Ok-Refused.ensures.reads.disk.quiet (λ is. no_err is))
    (still_left {reply = c.refuse-in-Ok-Refused.new.reply} c.refuse-in-Ok-Refused.ensures.line c.requires.disks.at.settled store.settled
    (sound (g.M.Disk.medium c.args.module.now) (masters_in c.args.held.now (bench_of c.args.lease.now)) c.args.roles.now c.requires.disks.at.stands c.requires.disks.at.remembered) store.holds)

pub returns-in-Ok-Granted-clause-left : goal.returns-in-Ok-Granted-clause-left
returns-in-Ok-Granted-clause-left g c =
    let m = g.M.Disk.medium c.args.module.now in
    leaves_after_reads {reply = c.act.new.reply} {later = tables c.act.new.roles c.act.new.records}
    (keeps_still m) refl c.judge.ensures.reads.keeps (c.in-Ok-Granted.ensures.reads.disk.quiet (λ is. no_err is)) c.act.ensures.left

-- ---- what the reply rests on

pub returns-in-Some-clause-own : goal.returns-in-Some-clause-own
returns-in-Some-clause-own g c =
    let held = c.args.held.now in
    let bench = bench_of c.args.lease.now in
    record {
      registers = masters_in held bench;
      in_module = c.requires.disks.at.stands;
      general = Some (rule_number c.in-Some.rule);
      as_whole = λ s registers roles.
          sym (c.general_rule.ensures.rule s bench (sym roles) (subst (λ m. Loaded m held bench) (sym registers) c.requires.disks.at.loaded)) ∙ ap (option_map rule_number) c.in-Some.is;
      judged = whole_spelled c.of_request.result c.of_request.ensures c.refuse.ensures.spells;
    }

pub returns-in-Ok-Refused-clause-own : goal.returns-in-Ok-Refused-clause-own
returns-in-Ok-Refused-clause-own g c =
    let held = c.args.held.now in
    let bench = bench_of c.args.lease.now in
    record {
      registers = masters_in held bench;
      in_module = c.requires.disks.at.stands;
      general = None;
      as_whole = λ s registers roles.
          sym (c.general_rule.ensures.rule s bench (sym roles) (subst (λ m. Loaded m held bench) (sym registers) c.requires.disks.at.loaded)) ∙ ap (option_map rule_number) c.in_default.is;
      judged = refusal_by_record (masters_in held bench) bench c.args.records.now (seen c.args.request.now) c.refuse-in-Ok-Refused.new.reply
          c.in-Ok-Refused.refusal c.operands_of.ensures.table
          (c.in-Ok-Refused.ensures.own (masters_in held bench) c.requires.disks.at.loaded) c.in-Ok-Refused.field-0-is c.refuse-in-Ok-Refused.ensures.spells;
    }

pub returns-in-Ok-Granted-clause-own : goal.returns-in-Ok-Granted-clause-own
returns-in-Ok-Granted-clause-own g c =
    let held = c.args.held.now in
    let bench = bench_of c.args.lease.now in
    on_ok_always c.act.result _ (record {
      registers = masters_in held bench;
      in_module = c.requires.disks.at.stands;
      general = None;
      as_whole = λ s registers roles.
          sym (c.general_rule.ensures.rule s bench (sym roles) (subst (λ m. Loaded m held bench) (sym registers) c.requires.disks.at.loaded)) ∙ ap (option_map rule_number) c.in_default.is;
      judged = grants_by_records (masters_in held bench) bench c.args.records.now (seen c.args.request.now) c.act.new.reply
          c.in-Ok-Granted.granted c.operands_of.ensures.table
          (c.in-Ok-Granted.ensures.own (masters_in held bench) c.requires.disks.at.loaded) c.in-Ok-Granted.field-0-is;
    })

-- ---- what is handed on

pub act-requires-clause-passed : goal.act-requires-clause-passed
act-requires-clause-passed g c =
    has_passed (seen c.args.request.now) c.args.held.now c.args.records.now c.args.lease.now c.judge.new.lease c.in-Ok-Granted.granted
    c.requires.accepted c.operands_of.ensures.table c.in-Ok-Granted.ensures.shaped c.in-Ok-Granted.ensures.keyed c.in-Ok-Granted.field-0-is c.judge.ensures.reads.rest
    (c.in_default.ensures.master refl)

pub act-requires-clause-disks : goal.act-requires-clause-disks
act-requires-clause-disks g c =
    disks_read c.args.held.now c.args.lease.now c.judge.new.lease (tables c.args.roles.now c.args.records.now)
    (g.M.Disk.medium c.args.module.now) (g.D.Disk.medium c.args.store.now) (g.D.Disk.medium c.judge.new.store) c.judge.ensures.reads.rest c.judge.ensures.reads.keeps c.requires.disks

-- ---- where it ends

pub returns-in-Some-clause-random : goal.returns-in-Some-clause-random
returns-in-Some-clause-random g c = draws_none (Ok tt) (no_stop EntropyFault)

pub returns-in-Ok-Refused-clause-random : goal.returns-in-Ok-Refused-clause-random
returns-in-Ok-Refused-clause-random g c = draws_none (Ok tt) (no_stop EntropyFault)

pub returns-in-Err-clause-random : goal.returns-in-Err-clause-random
returns-in-Err-clause-random g c = draws_none (Err c.in-Err.stop) (stops_as IsStoreStop (Err c.in-Err.stop) c.in-Err.ensures.reads.stops)

pub returns-in-Some-clause-store : goal.returns-in-Some-clause-store
returns-in-Some-clause-store g c = spares_still (Ok tt) (no_stop StoreFault)

pub returns-in-Some-clause-damaged : goal.returns-in-Some-clause-damaged
returns-in-Some-clause-damaged g c = spares_else (Ok tt) (done_undamaged tt)

pub returns-in-Ok-Refused-clause-damaged : goal.returns-in-Ok-Refused-clause-damaged
returns-in-Ok-Refused-clause-damaged g c = spares_else (Ok tt) (done_undamaged tt)

pub returns-in-Ok-Granted-clause-damaged : goal.returns-in-Ok-Granted-clause-damaged
returns-in-Ok-Granted-clause-damaged g c = spares_after_store c.act.ensures.stops c.act.ensures.damaged

pub returns-in-Err-clause-damaged : goal.returns-in-Err-clause-damaged
returns-in-Err-clause-damaged g c = read_spares (store_stop c.in-Err.stop c.in-Err.ensures.reads.stops)

pub returns-in-Some-clause-store_kept : goal.returns-in-Some-clause-store_kept
returns-in-Some-clause-store_kept g c = λ none cell is. keeps_still (g.D.Disk.medium c.args.store.now)

pub returns-in-Ok-Refused-clause-store_kept : goal.returns-in-Ok-Refused-clause-store_kept
returns-in-Ok-Refused-clause-store_kept g c = λ none cell is. c.judge.ensures.reads.keeps

pub returns-in-Ok-Granted-clause-store_kept : goal.returns-in-Ok-Granted-clause-store_kept
returns-in-Ok-Granted-clause-store_kept g c = λ none cell is.
    keeps_then (g.D.Disk.medium c.args.store.now) (g.D.Disk.medium c.judge.new.store) (g.D.Disk.medium c.act.new.store)
    c.judge.ensures.reads.keeps (c.act.ensures.store_kept none cell is)

pub returns-in-Err-clause-store_kept : goal.returns-in-Err-clause-store_kept
returns-in-Err-clause-store_kept g c = λ none cell is. c.judge.ensures.reads.keeps

pub returns-in-Err-clause-left : goal.returns-in-Err-clause-left
returns-in-Err-clause-left g c =
    store_stopped c.args.reply.now c.requires.disks.at.settled c.judge.ensures.reads.keeps c.in-Err.ensures.reads.stops c.in-Err.ensures.reads.disk c.requires.empty

pub returns-in-Ok-Granted-clause-stops : goal.returns-in-Ok-Granted-clause-stops
returns-in-Ok-Granted-clause-stops g c = c.act.ensures.stops

pub returns-in-Err-clause-stops : goal.returns-in-Err-clause-stops
returns-in-Err-clause-stops g c = store_stop c.in-Err.stop c.in-Err.ensures.reads.stops

pub returns-in-Ok-Granted-clause-rows : goal.returns-in-Ok-Granted-clause-rows
returns-in-Ok-Granted-clause-rows g c = c.act.ensures.rows

pub returns-in-Ok-Refused-clause-loan : goal.returns-in-Ok-Refused-clause-loan
returns-in-Ok-Refused-clause-loan g c = ap loan_of c.judge.ensures.reads.rest

pub returns-in-Ok-Granted-clause-loan : goal.returns-in-Ok-Granted-clause-loan
returns-in-Ok-Granted-clause-loan g c = c.act.ensures.loan ∙ ap loan_of c.judge.ensures.reads.rest

pub returns-in-Err-clause-loan : goal.returns-in-Err-clause-loan
returns-in-Err-clause-loan g c = ap loan_of c.judge.ensures.reads.rest

-- ---- the cell that a stop names

pub returns-in-Some-clause-cell : goal.returns-in-Some-clause-cell
returns-in-Some-clause-cell g c = λ n is. cc is

pub returns-in-Ok-Refused-clause-cell : goal.returns-in-Ok-Refused-clause-cell
returns-in-Ok-Refused-clause-cell g c = λ n is. cc is

pub returns-in-Ok-Granted-clause-cell : goal.returns-in-Ok-Granted-clause-cell
returns-in-Ok-Granted-clause-cell g c = λ n is. inr (c.act.ensures.cell n is)

pub returns-in-Err-clause-cell : goal.returns-in-Err-clause-cell
returns-in-Err-clause-cell g c = λ n is.
    inl (subst (λ (os : Operands). IsCellOfAny c.args.records.now (listed os) n) c.operands_of.ensures.table (c.judge.ensures.cell n (c.in-Err.is ∙ ap Err (same_stop c.in-Err.stop (Damaged Store n) is))))

-- ---- what it makes of the memory

pub returns-in-Some-clause-memory : goal.returns-in-Some-clause-memory
returns-in-Some-clause-memory g c =
    refused_memory c.of_request.result
    (record { rule = rule_number c.in-Some.rule; operand = codes "-"; is = whole_spelled c.of_request.result c.of_request.ensures c.refuse.ensures.spells })

pub returns-in-Ok-Refused-clause-memory : goal.returns-in-Ok-Refused-clause-memory
returns-in-Ok-Refused-clause-memory g c =
    let r = refusal_of c.in-Ok-Refused.refusal in
    refused_memory c.in-Ok-Refused.refusal (record { rule = r.rule; operand = r.operand; is = c.refuse-in-Ok-Refused.ensures.spells })

pub returns-in-Ok-Granted-clause-memory : goal.returns-in-Ok-Granted-clause-memory
returns-in-Ok-Granted-clause-memory g c = c.act.ensures.memory

pub returns-in-Err-clause-memory : goal.returns-in-Err-clause-memory
returns-in-Err-clause-memory g c = tt
