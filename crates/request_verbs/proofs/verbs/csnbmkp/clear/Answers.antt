use Rattle.std.proofs.Common.{true, false, refl, sym, ◌∙◌}
use Rattle.key_records.proofs.TurnedLaws.{ahead_known}
use Rattle.verb_rules.specs.Keys.{keys_of}
use Rattle.request_verbs.proofs.SetRules.{clear_refusal, none_ahead}
use Rattle.cca_machine.proofs.Settling.{left_settles, whole_settles}
use Rattle.request_verbs.proofs.verbs.csnbmkp.clear.Goals as goal

pub returns-then-any_ahead : goal.returns-then-any_ahead
returns-then-any_ahead c = record {
  settles = λ role action granted held lease.
      whole_settles c.of_request.ensures refl refl
      (λ s is. clear_refusal s true (sym (ahead_known (keys_of s.registers) c.args.records.now s.labels is.recorded.keeps.agrees) ∙ sym c.any_ahead.ensures ∙ c.if-any_ahead.true))
      refl;
}

pub returns-else-any_ahead : goal.returns-else-any_ahead
returns-else-any_ahead c = record {
  settles = λ role action granted held lease.
      left_settles refl refl
      (λ s is.
      let none = clear_refusal s false (sym (ahead_known (keys_of s.registers) c.args.records.now s.labels is.recorded.keeps.agrees) ∙ sym c.any_ahead.ensures ∙ c.if-any_ahead.false) in
      (none, refl, none_ahead s none, refl))
      refl (λ writes. absurd writes) (λ through. absurd through);
}
