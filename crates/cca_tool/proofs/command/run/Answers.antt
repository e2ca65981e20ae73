-- The status tells how the lines ended; and where no device was called, nothing has changed.
use Rattle.std.proofs.Common.{◌∙◌, Some, ap, refl, inl, inr}
use Rattle.cca_tool.proofs.StatusLemmas.{usage_ended}
use Rattle.cca_tool.proofs.AuditLemmas.{all_as_before}
use Rattle.cca_tool.proofs.DemoRunLemmas.{demo_uncalled, demo_untouched, ran_at}
use Rattle.command_words.proofs.WordLemmas.{the_number, one_number, not_both}
use Rattle.cca_tool.proofs.command.run.Goals as goal

-- ---- the lines of the source

pub returns-in-Some-Run-clause-usage : goal.returns-in-Some-Run-clause-usage
returns-in-Some-Run-clause-usage g c =
    let words = c.command.ensures.run.0 (c.in-Some-Run.is ∙ ap Some c.in-Some-Run.field-0-is) in
    (λ h. absurd (c.serve_source.ensures.words h), λ none. absurd (none (inl words)))

pub returns-in-Some-Run-clause-uncalled : goal.returns-in-Some-Run-clause-uncalled
returns-in-Some-Run-clause-uncalled g c = c.serve_source.ensures.uncalled

pub returns-in-Some-Run-clause-ends : goal.returns-in-Some-Run-clause-ends
returns-in-Some-Run-clause-ends g c = λ words. c.serve_source.ensures.ends

pub returns-in-Some-Run-clause-demo : goal.returns-in-Some-Run-clause-demo
returns-in-Some-Run-clause-demo g c = λ n demo.
    let words = c.command.ensures.run.0 (c.in-Some-Run.is ∙ ap Some c.in-Some-Run.field-0-is) in
    absurd (not_both n c.args.words.now words demo)

pub returns-in-Some-Run-clause-unsound : goal.returns-in-Some-Run-clause-unsound
returns-in-Some-Run-clause-unsound g c = c.serve_source.ensures.unsound

-- ---- no device was called

pub returns-in-None-clause-ends : goal.returns-in-None-clause-ends
returns-in-None-clause-ends g c = λ words. usage_ended _

-- ---- a demo

pub serve_demo-requires-clause-number : goal.serve_demo-requires-clause-number
serve_demo-requires-clause-number g c =
    let demo = the_number c.command.result c.in-Some-Demo.field-0 c.in-Some-Demo.number c.args.words.now c.in-Some-Demo.is c.in-Some-Demo.field-0-is c.command.ensures.demo in
    (demo.some, demo.few)

pub returns-in-Some-Demo-clause-usage : goal.returns-in-Some-Demo-clause-usage
returns-in-Some-Demo-clause-usage g c =
    let demo = the_number c.command.result c.in-Some-Demo.field-0 c.in-Some-Demo.number c.args.words.now c.in-Some-Demo.is c.in-Some-Demo.field-0-is c.command.ensures.demo in
    (λ h. absurd (c.serve_demo.ensures.ran.answers.demo_words h), λ none. absurd (none (inr (c.in-Some-Demo.number, demo))))

pub returns-in-Some-Demo-clause-ends : goal.returns-in-Some-Demo-clause-ends
returns-in-Some-Demo-clause-ends g c = λ words.
    let demo = the_number c.command.result c.in-Some-Demo.field-0 c.in-Some-Demo.number c.args.words.now c.in-Some-Demo.is c.in-Some-Demo.field-0-is c.command.ensures.demo in
    absurd (not_both c.in-Some-Demo.number c.args.words.now words demo)

pub returns-in-Some-Demo-clause-demo : goal.returns-in-Some-Demo-clause-demo
returns-in-Some-Demo-clause-demo g c = λ n demo. record {
  demo_source = refl;
  demo_entropy = refl;
  ran = ran_at c.in-Some-Demo.number n
      (one_number c.command.result c.in-Some-Demo.field-0 c.in-Some-Demo.number c.args.words.now c.in-Some-Demo.is c.in-Some-Demo.field-0-is c.command.ensures.demo n demo)
      c.serve_demo.ensures.ran;
}

pub returns-in-Some-Demo-clause-uncalled : goal.returns-in-Some-Demo-clause-uncalled
returns-in-Some-Demo-clause-uncalled g c =
    demo_uncalled c.serve_demo.result c.args.source.now c.args.sink.now c.serve_demo.new.sink c.args.module.now c.serve_demo.new.module
    c.args.store.now c.serve_demo.new.store c.args.entropy.now c.serve_demo.ensures.ran.answers c.serve_demo.ensures.uncalled

pub returns-in-Some-Demo-clause-unsound : goal.returns-in-Some-Demo-clause-unsound
returns-in-Some-Demo-clause-unsound g c = λ never.
    demo_untouched c.args.source.now c.args.sink.now c.serve_demo.new.sink c.args.entropy.now _ (c.serve_demo.ensures.unsound never)

-- ---- other words

pub returns-in-None-clause-uncalled : goal.returns-in-None-clause-uncalled
returns-in-None-clause-uncalled g c = λ none. record { no_source = refl; no_sink = refl; no_module = refl; no_store = refl; no_entropy = refl }

pub returns-in-None-clause-unsound : goal.returns-in-None-clause-unsound
returns-in-None-clause-unsound g c = λ never.
    all_as_before c.args.source.now c.args.sink.now c.args.entropy.now
    (g.M.Disk.medium c.args.module.now) (g.M.Disk.faults c.args.module.now) (g.D.Disk.medium c.args.store.now) (g.D.Disk.faults c.args.store.now)

-- ---- the calls, and the bench that they leave

pub serve_source-requires-clause-blank : goal.serve_source-requires-clause-blank
serve_source-requires-clause-blank g c = c.wipe.ensures

pub serve_source-requires-clause-disks : goal.serve_source-requires-clause-disks
serve_source-requires-clause-disks g c = c.requires

pub serve_demo-requires-clause-blank : goal.serve_demo-requires-clause-blank
serve_demo-requires-clause-blank g c = c.wipe.ensures

pub serve_demo-requires-clause-disks : goal.serve_demo-requires-clause-disks
serve_demo-requires-clause-disks g c = c.requires

pub returns-in-Some-Run-clause-bench : goal.returns-in-Some-Run-clause-bench
returns-in-Some-Run-clause-bench g c = c.serve_source.ensures.bench

pub returns-in-Some-Demo-clause-bench : goal.returns-in-Some-Demo-clause-bench
returns-in-Some-Demo-clause-bench g c = c.serve_demo.ensures.bench

pub returns-in-None-clause-bench : goal.returns-in-None-clause-bench
returns-in-None-clause-bench g c = c.wipe.ensures
