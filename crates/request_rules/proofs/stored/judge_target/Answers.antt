use Rattle.std.proofs.Common.{◌≡◌, ◌∙◌, Some, sym, ap}
use Rattle.std.specs.Prelude.{option_copied}
use Rattle.verb_script.specs.Named.{label_named}
use Rattle.request_rules.proofs.LabelsRead.{target_asked}
use Rattle.request_rules.proofs.stored.judge_target.Goals as goal

pub returns-in-Some-clause-asked : goal.returns-in-Some-clause-asked
returns-in-Some-clause-asked c = λ s bench agrees.
    let named : label_named c.args.text.now ≡ Some c.in-Some.label.now = sym c.named_label.ensures ∙ ap option_copied c.in-Some.is in
    target_asked s bench c.args.text.now c.in-Some.label.now c.judge_held.result named (c.judge_held.ensures.asked s bench agrees)
