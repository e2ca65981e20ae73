use Rattle.std.proofs.Common.{length, sym, ap, ◌∙◌, arith}
use Rattle.std.specs.Option.{option_copied}
use Rattle.verb_script.specs.Named.{label_named}
use Rattle.request_verbs.proofs.Delivering.{short_named}
use Rattle.request_verbs.proofs.verbs.delivering.deliver.Goals as goal

pub text-requires : goal.text-requires
text-requires c =
    omega (
      arith,
      ap length c.requires.empty,
      short_named (label_named c.args.to.now) c.in-Some.label.now c.args.place
          (sym c.named_label.ensures ∙ ap option_copied c.in-Some.is) c.requires.target,
    )

pub returns-in-Some-clause-size : goal.returns-in-Some-clause-size
returns-in-Some-clause-size c =
    omega (
      arith,
      ap length c.requires.empty,
      short_named (label_named c.args.to.now) c.in-Some.label.now c.args.place
          (sym c.named_label.ensures ∙ ap option_copied c.in-Some.is) c.requires.target,
    )

pub show_second-requires : goal.show_second-requires
show_second-requires c =
    omega (
      arith,
      ap length c.requires.empty,
      short_named (label_named c.args.to.now) c.in-Some.label.now c.args.place
          (sym c.named_label.ensures ∙ ap option_copied c.in-Some.is) c.requires.target,
    )
