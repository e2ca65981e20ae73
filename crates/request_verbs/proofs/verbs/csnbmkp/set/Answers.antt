use Rattle.std.proofs.Common.{◌≡◌, None, Some, refl, sym, ap, ◌∙◌}
use Rattle.std.specs.Option.{option_map}
use Rattle.cca_vectors.specs.Checks.{first_failing}
use Rattle.key_cells.specs.Lease.{bench_of}
use Rattle.master_registers.specs.declared.actions.Action.TheVariants.{Set}
use Rattle.verb_rules.specs.Rules.{rule_number}
use Rattle.cca_machine.specs.Actions.{action_checks}
use Rattle.request_verbs.proofs.SetRules.{or_old, set_parts, set_refusal}
use Rattle.cca_machine.proofs.Settling.{left_settles, whole_settles}
use Rattle.request_verbs.proofs.verbs.csnbmkp.set.Goals as goal

pub returns-in-Some : goal.returns-in-Some
returns-in-Some c = record {
  settles = λ role action granted.
      whole_settles c.of_request.ensures refl refl
      (λ s is. set_refusal s (Some (rule_number c.in-Some.rule)) (sym (c.set_rule.ensures.rule s.registers is.loaded) ∙ ap (option_map rule_number) c.in-Some.is))
      refl;
}

pub returns-in-None : goal.returns-in-None
returns-in-None c = record {
  settles = λ role action granted.
      whole_settles c.of_request-in-None.ensures refl refl
      (λ s is.
      let rule : first_failing (action_checks Set s.registers) ≡ None = sym (c.set_rule.ensures.rule s.registers is.loaded) ∙ ap (option_map rule_number) c.in-None.is in
      set_refusal s None rule ∙ ap (or_old None) (sym (c.any_old.ensures.old s (bench_of c.args.lease.now) is.loaded is.recorded) ∙ c.if-any_old.true))
      refl;
}

pub returns-in-None-2 : goal.returns-in-None-2
returns-in-None-2 c = record {
  settles = λ role action granted.
      left_settles refl refl
      (λ s is.
      let rule : first_failing (action_checks Set s.registers) ≡ None = sym (c.set_rule.ensures.rule s.registers is.loaded) ∙ ap (option_map rule_number) c.in-None-2.is in
      let none = set_refusal s None rule ∙ ap (or_old None) (sym (c.any_old.ensures.old s (bench_of c.args.lease.now) is.loaded is.recorded) ∙ c.if-any_old.false) in
      let parts = set_parts s none in
      (none ∙ sym parts.0, refl, parts.1, refl))
      refl (λ writes. absurd writes) (λ through. absurd through);
}
