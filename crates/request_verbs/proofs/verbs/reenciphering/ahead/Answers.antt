use Rattle.std.proofs.Common.{None, Some, refl, sym, ap, ◌∙◌}
use Rattle.std.specs.Option.{option_map}
use Rattle.key_cells.specs.Lease.{bench_of}
use Rattle.verb_rules.specs.Rules.{rule_number}
use Rattle.request_verbs.proofs.SetRules.{or_old, ahead_refusal}
use Rattle.cca_machine.proofs.Settling.{left_settles, whole_settles}
use Rattle.request_verbs.proofs.verbs.reenciphering.ahead.Goals as goal

pub returns-in-Some : goal.returns-in-Some
returns-in-Some c = record {
  settles = λ role action granted.
      whole_settles c.of_request.ensures refl refl
      (λ s is. ahead_refusal s (Some (rule_number c.in-Some.rule)) (sym (c.ahead_rule.ensures.rule s.registers is.loaded) ∙ ap (option_map rule_number) c.in-Some.is))
      refl;
}

pub returns-in-None : goal.returns-in-None
returns-in-None c = record {
  settles = λ role action granted.
      whole_settles c.of_request-in-None.ensures refl refl
      (λ s is.
      let rule = sym (c.ahead_rule.ensures.rule s.registers is.loaded) ∙ ap (option_map rule_number) c.in-None.is in
      ahead_refusal s None rule ∙ ap (or_old None) (sym (c.any_old.ensures.old s (bench_of c.args.lease.now) is.loaded is.recorded) ∙ c.if-any_old.true))
      refl;
}

pub returns-in-None-2 : goal.returns-in-None-2
returns-in-None-2 c = record {
  settles = λ role action granted.
      left_settles refl refl
      (λ s is.
      let rule = sym (c.ahead_rule.ensures.rule s.registers is.loaded) ∙ ap (option_map rule_number) c.in-None-2.is in
      (ahead_refusal s None rule ∙ ap (or_old None) (sym (c.any_old.ensures.old s (bench_of c.args.lease.now) is.loaded is.recorded) ∙ c.if-any_old.false), refl, refl))
      (refl, c.requires.current, λ is. c.ahead_rule.ensures.ready c.requires.loaded c.in-None-2.is)
      (λ writes. refl) (λ through. refl);
}
