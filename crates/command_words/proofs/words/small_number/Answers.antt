-- A text is read back as the number whose digits it is.
use Rattle.std.proofs.Common.{◌∙◌, sym, arith, true≢false}
use Rattle.std.proofs.lemmas.Slice.Eq.{bytes_eq-Decides}
use Rattle.command_words.proofs.WordLemmas.{unparsed, is_small, not_small}
use Rattle.command_words.proofs.words.small_number.Goals.{else-is_plain-via-then-is_plain+then-number-ge1+else-number-le1000, else-is_plain-via-then-is_plain+else-number-ge1, else-is_plain-via-else-is_plain}
use Rattle.command_words.proofs.words.small_number.Goals as goal

pub returns-in_default : goal.returns-in_default
returns-in_default c = unparsed c.args.word.now c.parse.result c.parse.ensures.value.0 c.in_default.field-0 c.in_default.is

pub returns-then-number-le1000 : goal.returns-then-number-le1000
returns-then-number-le1000 c =
    is_small c.args.word.now c.parse.result c.parse.ensures.value.0 c.in-Ok.number c.in-Ok.is
    (sym ((bytes_eq-Decides c.format.result.now c.args.word.now).0 (sym c.if-is_plain.ensures)) ∙ c.format.ensures.text, c.if-number-ge1.true, c.if-number-le1000.true)

pub returns-else-is_plain : goal.returns-else-is_plain
returns-else-is_plain c =
    not_small c.args.word.now c.parse.result c.parse.ensures.value.0 c.in-Ok.number c.in-Ok.is
    (elim c.else-is_plain.branch [
      | else-is_plain-via-then-is_plain+then-number-ge1+else-number-le1000 w ↦ (λ small. omega (arith, small.2, w.if-number-le1000.false))
      | else-is_plain-via-then-is_plain+else-number-ge1 w ↦ (λ small. omega (arith, small.1, w.if-number-ge1.false))
      | else-is_plain-via-else-is_plain w ↦ (λ small. absurd (true≢false (sym ((bytes_eq-Decides c.format.result.now c.args.word.now).1 (c.format.ensures.text ∙ sym small.0)) ∙ sym w.if-is_plain.ensures)))
    ])
