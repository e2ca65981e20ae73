use Rattle.std.proofs.Common.{◌≡◌, ◌∙◌, [], None, Ok, Some, refl, sym, ap, subst}
use Rattle.std.specs.Prelude.{is_some, option_copied}
use Rattle.key_cells.specs.Lease.{bench_of}
use Rattle.verb_rules.specs.declared.needs.Need.{Need}
use Rattle.verb_rules.proofs.JudgeLemmas.{if_ok_gives}
use Rattle.verb_script.specs.Named.{label_named}
use Rattle.cca_machine.specs.Operands.{is_named_by}
use Rattle.cca_machine.specs.declared.asking.Ask.{Ask}
use Rattle.cca_machine.specs.declared.asking.Ask.TheVariants.{AnyToken, External, Held, Key, NewLabel, Record, Target, Token}
use Rattle.request_rules.specs.Judging.{IsAsked, IsKeyedAnswer, label_asked}
use Rattle.request_rules.specs.Stored.{IsAskedAsRead, IsLabelAsked}
use Rattle.cca_machine.specs.declared.granted.Grant.{Grant}
use Rattle.request_rules.proofs.AsRead.{named_as_read, record_as_read, unnamed_as_read}
use Rattle.request_rules.proofs.LabelsRead.{key_by_label, key_by_token, record_asked}
use Rattle.request_rules.proofs.OperandsJudged.{keyed_in, label_keyed, label_shaped, record_shaped, shaped_in}
use Rattle.request_rules.proofs.StoreReads.{never_stopped, reads_label, reads_untouched}
use Rattle.request_rules.proofs.judging.judge_one.Goals as goal

pub returns-in-AnyToken-clause-asked : goal.returns-in-AnyToken-clause-asked
returns-in-AnyToken-clause-asked g c = λ s at.
    subst (λ (a : Ask). IsAsked s (bench_of c.args.lease.now) c.args.operand.now.text.now a c.judge_any_token.result) (sym c.in-AnyToken.is)
    (c.judge_any_token.ensures.asked s (bench_of c.args.lease.now))

pub returns-in-Some-clause-asked : goal.returns-in-Some-clause-asked
returns-in-Some-clause-asked g c = λ s at.
    let bench = bench_of c.args.lease.now in
    let text = c.args.operand.now.text.now in
    let named : label_named text ≡ Some c.in-Some.label.now = sym c.named_label.ensures ∙ ap option_copied c.in-Some.is in
    if_ok_gives c.judge_label.result (IsLabelAsked s bench c.in-Key.need c.in-Some.label.now) (IsAsked s bench text c.args.operand.now.ask)
    (λ a says. subst (λ (ask : Ask). IsAsked s bench text ask a) (sym c.in-Key.is) (key_by_label s bench text c.in-Some.label.now c.in-Key.need a named says))
    (c.judge_label.ensures.asked s at)

pub returns-in-None-clause-asked : goal.returns-in-None-clause-asked
returns-in-None-clause-asked g c = λ s at.
    let bench = bench_of c.args.lease.now in
    let text = c.args.operand.now.text.now in
    let need = c.in-Key.need in
    let named : label_named text ≡ None = sym c.named_label.ensures ∙ ap option_copied c.in-None.is in
    subst (λ (a : Ask). IsAsked s bench text a c.judge_token.result) (sym c.in-Key.is)
    (key_by_token s bench text need c.judge_token.result named
    (subst (λ digits. IsAsked s bench digits (Token need) c.judge_token.result) c.digits_of.ensures.text (c.judge_token.ensures.asked s bench at.loaded)))

pub returns-in-Token-clause-asked : goal.returns-in-Token-clause-asked
returns-in-Token-clause-asked g c = λ s at.
    subst (λ (a : Ask). IsAsked s (bench_of c.args.lease.now) c.args.operand.now.text.now a c.judge_token-in-Token.result) (sym c.in-Token.is)
    (c.judge_token-in-Token.ensures.asked s (bench_of c.args.lease.now) at.loaded)

pub returns-in-Token-clause-keyed : goal.returns-in-Token-clause-keyed
returns-in-Token-clause-keyed g c = λ m loaded.
    subst (λ (a : Ask). IsKeyedAnswer m c.args.operand.now.text.now a c.judge_token-in-Token.result) (sym c.in-Token.is)
    (c.judge_token-in-Token.ensures.keyed m (bench_of c.args.lease.now) loaded)

pub returns-in-External-clause-asked : goal.returns-in-External-clause-asked
returns-in-External-clause-asked g c = λ s at.
    subst (λ (a : Ask). IsAsked s (bench_of c.args.lease.now) c.args.operand.now.text.now a c.judge_external.result) (sym c.in-External.is)
    (c.judge_external.ensures.asked s (bench_of c.args.lease.now) at.loaded)

pub returns-in-Record-clause-asked : goal.returns-in-Record-clause-asked
returns-in-Record-clause-asked g c = λ s at.
    let bench = bench_of c.args.lease.now in
    let text = c.args.operand.now.text.now in
    if_ok_gives c.judge_label-in-Record.result (IsLabelAsked s bench c.any_key.result text) (IsAsked s bench text c.args.operand.now.ask)
    (λ a says. subst (λ (ask : Ask). IsAsked s bench text ask a) (sym c.in-Record.is)
    (record_asked s bench text a (subst (λ (need : Need). IsLabelAsked s bench need text a) c.any_key.ensures says)))
    (c.judge_label-in-Record.ensures.asked s at)

pub returns-in-Held-clause-asked : goal.returns-in-Held-clause-asked
returns-in-Held-clause-asked g c = λ s at.
    subst (λ (a : Ask). IsAsked s (bench_of c.args.lease.now) c.args.operand.now.text.now a c.judge_held.result) (sym c.in-Held.is)
    (c.judge_held.ensures.asked s (bench_of c.args.lease.now) at.stands.agrees)

pub returns-in-NewLabel-clause-asked : goal.returns-in-NewLabel-clause-asked
returns-in-NewLabel-clause-asked g c = λ s at.
    subst (λ (a : Ask). IsAsked s (bench_of c.args.lease.now) c.args.operand.now.text.now a c.judge_new_label.result) (sym c.in-NewLabel.is)
    (c.judge_new_label.ensures.asked s (bench_of c.args.lease.now))

pub returns-in-Target-clause-asked : goal.returns-in-Target-clause-asked
returns-in-Target-clause-asked g c = λ s at.
    subst (λ (a : Ask). IsAsked s (bench_of c.args.lease.now) c.args.operand.now.text.now a c.judge_target.result) (sym c.in-Target.is)
    (c.judge_target.ensures.asked s (bench_of c.args.lease.now) at.stands.agrees)

pub returns-in-Nothing-clause-asked : goal.returns-in-Nothing-clause-asked
returns-in-Nothing-clause-asked g c = λ s at.
    subst (λ (a : Ask). IsAsked s (bench_of c.args.lease.now) c.args.operand.now.text.now a (Ok c.nothing.result)) (sym c.in-Nothing.is)
    (refl, ap (λ (grant : Grant). grant.key) c.nothing.ensures)

-- ---- what is certain in every state

pub returns-in-AnyToken-clause-shaped : goal.returns-in-AnyToken-clause-shaped
returns-in-AnyToken-clause-shaped g c =
    shaped_in c.args.records.now c.args.operand.now.text.now c.args.operand.now.ask [] c.args.operand.now.text.now AnyToken AnyToken c.judge_any_token.result c.in-AnyToken.is (λ grant shape. shape) c.judge_any_token.ensures.shaped

pub returns-in-None-clause-shaped : goal.returns-in-None-clause-shaped
returns-in-None-clause-shaped g c =
    shaped_in c.args.records.now c.args.operand.now.text.now c.args.operand.now.ask [] c.digits_of.result.now (Token c.in-Key.need) (Key c.in-Key.need) c.judge_token.result c.in-Key.is (λ grant shape. shape) c.judge_token.ensures.shaped

pub returns-in-Token-clause-shaped : goal.returns-in-Token-clause-shaped
returns-in-Token-clause-shaped g c =
    shaped_in c.args.records.now c.args.operand.now.text.now c.args.operand.now.ask [] c.args.operand.now.text.now (Token c.in-Token.need) (Token c.in-Token.need) c.judge_token-in-Token.result c.in-Token.is (λ grant shape. shape) c.judge_token-in-Token.ensures.shaped

pub returns-in-External-clause-shaped : goal.returns-in-External-clause-shaped
returns-in-External-clause-shaped g c =
    shaped_in c.args.records.now c.args.operand.now.text.now c.args.operand.now.ask [] c.args.operand.now.text.now (External c.in-External.need) (External c.in-External.need) c.judge_external.result c.in-External.is (λ grant shape. shape) c.judge_external.ensures.shaped

pub returns-in-Held-clause-shaped : goal.returns-in-Held-clause-shaped
returns-in-Held-clause-shaped g c =
    shaped_in c.args.records.now c.args.operand.now.text.now c.args.operand.now.ask c.args.records.now c.args.operand.now.text.now Held Held c.judge_held.result c.in-Held.is (λ grant shape. shape) c.judge_held.ensures.shaped

pub returns-in-NewLabel-clause-shaped : goal.returns-in-NewLabel-clause-shaped
returns-in-NewLabel-clause-shaped g c =
    shaped_in c.args.records.now c.args.operand.now.text.now c.args.operand.now.ask [] c.args.operand.now.text.now NewLabel NewLabel c.judge_new_label.result c.in-NewLabel.is (λ grant shape. shape) c.judge_new_label.ensures.shaped

pub returns-in-Target-clause-shaped : goal.returns-in-Target-clause-shaped
returns-in-Target-clause-shaped g c =
    shaped_in c.args.records.now c.args.operand.now.text.now c.args.operand.now.ask c.args.records.now c.args.operand.now.text.now Target Target c.judge_target.result c.in-Target.is (λ grant shape. shape) c.judge_target.ensures.shaped

pub returns-in-Some-clause-shaped : goal.returns-in-Some-clause-shaped
returns-in-Some-clause-shaped g c =
    label_shaped c.args.records.now c.args.operand.now.text.now c.args.operand.now.ask c.in-Key.need c.judge_label.result c.in-Key.is c.judge_label.ensures.shaped

pub returns-in-Record-clause-shaped : goal.returns-in-Record-clause-shaped
returns-in-Record-clause-shaped g c =
    record_shaped c.args.records.now c.args.operand.now.text.now c.args.operand.now.ask c.any_key.result c.judge_label-in-Record.result c.in-Record.is
    c.any_key.ensures c.judge_label-in-Record.ensures.shaped

pub returns-in-AnyToken-clause-keyed : goal.returns-in-AnyToken-clause-keyed
returns-in-AnyToken-clause-keyed g c = λ m loaded. keyed_in m c.args.operand.now.text.now c.args.operand.now.ask AnyToken c.in-AnyToken.is tt c.judge_any_token.result

pub returns-in-Some-clause-keyed : goal.returns-in-Some-clause-keyed
returns-in-Some-clause-keyed g c = λ m loaded. label_keyed m c.args.operand.now.text.now c.args.operand.now.ask (Key c.in-Key.need) c.in-Key.is tt c.judge_label.result

pub returns-in-None-clause-keyed : goal.returns-in-None-clause-keyed
returns-in-None-clause-keyed g c = λ m loaded. keyed_in m c.args.operand.now.text.now c.args.operand.now.ask (Key c.in-Key.need) c.in-Key.is tt c.judge_token.result

pub returns-in-External-clause-keyed : goal.returns-in-External-clause-keyed
returns-in-External-clause-keyed g c = λ m loaded. keyed_in m c.args.operand.now.text.now c.args.operand.now.ask (External c.in-External.need) c.in-External.is tt c.judge_external.result

pub returns-in-Record-clause-keyed : goal.returns-in-Record-clause-keyed
returns-in-Record-clause-keyed g c = λ m loaded. label_keyed m c.args.operand.now.text.now c.args.operand.now.ask Record c.in-Record.is tt c.judge_label-in-Record.result

pub returns-in-Held-clause-keyed : goal.returns-in-Held-clause-keyed
returns-in-Held-clause-keyed g c = λ m loaded. keyed_in m c.args.operand.now.text.now c.args.operand.now.ask Held c.in-Held.is tt c.judge_held.result

pub returns-in-NewLabel-clause-keyed : goal.returns-in-NewLabel-clause-keyed
returns-in-NewLabel-clause-keyed g c = λ m loaded. keyed_in m c.args.operand.now.text.now c.args.operand.now.ask NewLabel c.in-NewLabel.is tt c.judge_new_label.result

pub returns-in-Target-clause-keyed : goal.returns-in-Target-clause-keyed
returns-in-Target-clause-keyed g c = λ m loaded. keyed_in m c.args.operand.now.text.now c.args.operand.now.ask Target c.in-Target.is tt c.judge_target.result

-- ---- what is read

pub returns-in-Some-clause-reads : goal.returns-in-Some-clause-reads
returns-in-Some-clause-reads g c =
    let text = c.args.operand.now.text.now in
    let named : label_named text ≡ Some c.in-Some.label.now = sym c.named_label.ensures ∙ ap option_copied c.in-Some.is in
    reads_label (ap (is_named_by text) c.in-Key.is ∙ ap is_some named) c.judge_label.ensures.reads

pub returns-in-Record-clause-reads : goal.returns-in-Record-clause-reads
returns-in-Record-clause-reads g c = reads_label (ap (is_named_by c.args.operand.now.text.now) c.in-Record.is) c.judge_label-in-Record.ensures.reads

pub returns-in-AnyToken-clause-reads : goal.returns-in-AnyToken-clause-reads
returns-in-AnyToken-clause-reads g c = reads_untouched c.requires.store.settled

pub returns-in-None-clause-reads : goal.returns-in-None-clause-reads
returns-in-None-clause-reads g c = reads_untouched c.requires.store.settled

pub returns-in-Token-clause-reads : goal.returns-in-Token-clause-reads
returns-in-Token-clause-reads g c = reads_untouched c.requires.store.settled

pub returns-in-External-clause-reads : goal.returns-in-External-clause-reads
returns-in-External-clause-reads g c = reads_untouched c.requires.store.settled

pub returns-in-Held-clause-reads : goal.returns-in-Held-clause-reads
returns-in-Held-clause-reads g c = reads_untouched c.requires.store.settled

pub returns-in-NewLabel-clause-reads : goal.returns-in-NewLabel-clause-reads
returns-in-NewLabel-clause-reads g c = reads_untouched c.requires.store.settled

pub returns-in-Target-clause-reads : goal.returns-in-Target-clause-reads
returns-in-Target-clause-reads g c = reads_untouched c.requires.store.settled

pub returns-in-Nothing-clause-reads : goal.returns-in-Nothing-clause-reads
returns-in-Nothing-clause-reads g c = reads_untouched c.requires.store.settled

-- ---- by what was read of the record of a label

pub returns-in-Some-clause-own : goal.returns-in-Some-clause-own
returns-in-Some-clause-own g c = λ m loaded.
    named_as_read m (bench_of c.args.lease.now) c.args.records.now c.args.operand.now.text.now c.in-Some.label.now (bench_of c.judge_label.new.lease).body
    c.args.operand.now.ask c.in-Key.need c.judge_label.result c.in-Key.is (sym c.named_label.ensures ∙ ap option_copied c.in-Some.is)
    (λ cell held. c.judge_label.ensures.own m cell loaded held)

pub returns-in-None-clause-own : goal.returns-in-None-clause-own
returns-in-None-clause-own g c = λ m loaded.
    unnamed_as_read m (bench_of c.args.lease.now) c.args.records.now c.args.operand.now.text.now c.args.operand.now.ask c.in-Key.need c.judge_token.result
    c.in-Key.is (sym c.named_label.ensures ∙ ap option_copied c.in-None.is)

pub returns-in-Record-clause-own : goal.returns-in-Record-clause-own
returns-in-Record-clause-own g c = λ m loaded.
    record_as_read m (bench_of c.args.lease.now) c.args.records.now c.args.operand.now.text.now (bench_of c.judge_label-in-Record.new.lease).body
    c.args.operand.now.ask c.any_key.result c.judge_label-in-Record.result c.in-Record.is c.any_key.ensures
    (λ cell held. c.judge_label-in-Record.ensures.own m cell loaded held)

pub returns-in-AnyToken-clause-own : goal.returns-in-AnyToken-clause-own
returns-in-AnyToken-clause-own g c = λ m loaded.
    subst (λ (a : Ask). IsAskedAsRead m (bench_of c.args.lease.now) c.args.records.now c.args.operand.now.text.now a c.judge_any_token.result) (sym c.in-AnyToken.is) tt

pub returns-in-Token-clause-own : goal.returns-in-Token-clause-own
returns-in-Token-clause-own g c = λ m loaded.
    subst (λ (a : Ask). IsAskedAsRead m (bench_of c.args.lease.now) c.args.records.now c.args.operand.now.text.now a c.judge_token-in-Token.result) (sym c.in-Token.is) tt

pub returns-in-External-clause-own : goal.returns-in-External-clause-own
returns-in-External-clause-own g c = λ m loaded.
    subst (λ (a : Ask). IsAskedAsRead m (bench_of c.args.lease.now) c.args.records.now c.args.operand.now.text.now a c.judge_external.result) (sym c.in-External.is) tt

pub returns-in-Held-clause-own : goal.returns-in-Held-clause-own
returns-in-Held-clause-own g c = λ m loaded.
    subst (λ (a : Ask). IsAskedAsRead m (bench_of c.args.lease.now) c.args.records.now c.args.operand.now.text.now a c.judge_held.result) (sym c.in-Held.is) tt

pub returns-in-NewLabel-clause-own : goal.returns-in-NewLabel-clause-own
returns-in-NewLabel-clause-own g c = λ m loaded.
    subst (λ (a : Ask). IsAskedAsRead m (bench_of c.args.lease.now) c.args.records.now c.args.operand.now.text.now a c.judge_new_label.result) (sym c.in-NewLabel.is) tt

pub returns-in-Target-clause-own : goal.returns-in-Target-clause-own
returns-in-Target-clause-own g c = λ m loaded.
    subst (λ (a : Ask). IsAskedAsRead m (bench_of c.args.lease.now) c.args.records.now c.args.operand.now.text.now a c.judge_target.result) (sym c.in-Target.is) tt

-- ---- the cell that a stop names

pub returns-in-Some-clause-cell : goal.returns-in-Some-clause-cell
returns-in-Some-clause-cell g c = λ n is.
    let text = c.args.operand.now.text.now in
    let named : label_named text ≡ Some c.in-Some.label.now = sym c.named_label.ensures ∙ ap option_copied c.in-Some.is in
    record { label = c.in-Some.label.now; asked = ap (label_asked text) c.in-Key.is ∙ named; is = c.judge_label.ensures.cell n is }

pub returns-in-Record-clause-cell : goal.returns-in-Record-clause-cell
returns-in-Record-clause-cell g c = λ n is.
    let text = c.args.operand.now.text.now in
    record { label = text; asked = ap (label_asked text) c.in-Record.is; is = c.judge_label-in-Record.ensures.cell n is }

pub returns-in-AnyToken-clause-cell : goal.returns-in-AnyToken-clause-cell
returns-in-AnyToken-clause-cell g c = λ n is. never_stopped is

pub returns-in-None-clause-cell : goal.returns-in-None-clause-cell
returns-in-None-clause-cell g c = λ n is. never_stopped is

pub returns-in-Token-clause-cell : goal.returns-in-Token-clause-cell
returns-in-Token-clause-cell g c = λ n is. never_stopped is

pub returns-in-External-clause-cell : goal.returns-in-External-clause-cell
returns-in-External-clause-cell g c = λ n is. never_stopped is

pub returns-in-Held-clause-cell : goal.returns-in-Held-clause-cell
returns-in-Held-clause-cell g c = λ n is. never_stopped is

pub returns-in-NewLabel-clause-cell : goal.returns-in-NewLabel-clause-cell
returns-in-NewLabel-clause-cell g c = λ n is. never_stopped is

pub returns-in-Target-clause-cell : goal.returns-in-Target-clause-cell
returns-in-Target-clause-cell g c = λ n is. never_stopped is

pub returns-in-Nothing-clause-cell : goal.returns-in-Nothing-clause-cell
returns-in-Nothing-clause-cell g c = λ n is. never_stopped is
