-- The word begins with the field's name and an equals sign, and the field accepts what follows.
use Rattle.std.proofs.Common.{true, false, refl, sym, ap, ◌∙◌, option_copied}
use Rattle.verb_script.specs.Rows.{field_seen}
use Rattle.verb_script.proofs.ReadingLaws.{text_missing, text_there}
use Rattle.verb_script.proofs.words.text_in.Goals as goal

pub returns-in_err-text : goal.returns-in_err-text
returns-in_err-text c =
    ap option_copied c.from_residual.ensures
    ∙ text_missing (field_seen c.args.field) c.args.word.now _ refl (rw c.prefix.ensures at c.in_err-text.ensures)

pub returns-then-accepts : goal.returns-then-accepts
returns-then-accepts c =
    text_there (field_seen c.args.field) c.args.word.now c.in_ok-text.text.now true _ refl (rw c.prefix.ensures at c.in_ok-text.ensures)
    (sym c.accepts.ensures ∙ c.if-accepts.true)

pub returns-else-accepts : goal.returns-else-accepts
returns-else-accepts c =
    text_there (field_seen c.args.field) c.args.word.now c.in_ok-text.text.now false _ refl (rw c.prefix.ensures at c.in_ok-text.ensures)
    (sym c.accepts.ensures ∙ c.if-accepts.false)
