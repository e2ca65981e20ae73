use Rattle.std.proofs.Common.{◌∷◌, ◌∙◌, [], length, Err, ap, codes, sym, subst, arith, rules}
use Rattle.std.specs.Prelude.{◌≤◌, IfErr, IfOk}
use Rattle.line_service.specs.Replies.{Number, spelled}
use Rattle.request_rules.specs.Stored.{IsReadFault}
use Rattle.request_verbs.proofs.Fields.{one_number}
use Rattle.cca_requests.specs.Changes.{run_reply, run_stop}
use Rattle.cca_requests.proofs.Renewing.{short_number}
use Rattle.cca_requests.proofs.changing_store.answer_run.Goals as goal

pub returns-in-Ok : goal.returns-in-Ok
returns-in-Ok c = record {
  stop = search rules;
  reply = c.end.ensures.spells (Number (codes "changed") c.in-Ok.changed ∷ [])
      (one_number (codes "changed") c.in-Ok.changed c.args.reply.now c.ok.new.self c.number.new.self c.requires.empty c.ok.ensures.bytes c.number.ensures.bytes)
      ∙ ap (λ o. spelled (run_reply o)) (sym c.in-Ok.is);
  silent = search rules;
}

pub returns-in-Err : goal.returns-in-Err
returns-in-Err c = record {
  stop = ap Err c.stop_of.ensures ∙ ap run_stop (sym c.in-Err.is);
  reply = tt;
  silent = c.requires.empty;
}

pub ok-requires : goal.ok-requires
ok-requires c = omega (arith, ap length c.requires.empty)

pub number-requires : goal.number-requires
number-requires c =
    let few : c.in-Ok.changed ≤ 1024 = subst (λ o. IfOk o (λ n. n ≤ 1024)) c.in-Ok.is c.requires.few in
    omega (arith, ap length c.requires.empty, short_number c.in-Ok.changed few)

pub end-requires : goal.end-requires
end-requires c = omega (arith, c.number.ensures.size, c.number.ensures.short, c.ok.ensures.size, ap length c.requires.empty)

pub stop_of-requires : goal.stop_of-requires
stop_of-requires c = subst (λ o. IfErr o IsReadFault) c.in-Err.is c.requires.read
