use Rattle.std.proofs.Common.{◌∙◌}
use Rattle.request_verbs.proofs.SetRules.{old_are, none_old}
use Rattle.request_verbs.proofs.verbs.old_labels.any_old.Goals as goal

pub returns-in-Some : goal.returns-in-Some
returns-in-Some c = record {
  old = λ s bench loaded recorded. c.any_under.ensures ∙ old_are s c.args.held.now bench c.args.records.now loaded recorded c.in-Some.pattern c.in-Some.is;
}

pub returns-in-None : goal.returns-in-None
returns-in-None c = record { old = λ s bench loaded recorded. none_old s c.args.held.now bench c.args.records.now loaded recorded c.in-None.is }
