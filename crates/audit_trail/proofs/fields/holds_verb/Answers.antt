use Rattle.std.proofs.Common.{refl}
use Rattle.std.proofs.lemmas.Bool.{both_ways}
use Rattle.cca_roles.specs.Characters.{is_letter}
use Rattle.audit_trail.specs.Entries.{IsVerb}
use Rattle.audit_trail.proofs.FieldLaws.{verb_letters, by_zeros, by_text}
use Rattle.audit_trail.proofs.fields.holds_verb.Goals as goal

pub returns-then-is_verb : goal.returns-then-is_verb
returns-then-is_verb c =
    by_zeros IsVerb is_letter refl verb_letters 10 c.args.field.now c.text_length-at.result c.text_length-at.ensures.text c.told-field c.text_length-at.ensures.within
    c.is_zero.result _ c.if-is_zero.false c.is_zero.ensures.zero (c.is_verb.ensures.0 c.if-is_verb.true) c.is_zero-then-is_verb.ensures.zero

pub returns-else-is_verb : goal.returns-else-is_verb
returns-else-is_verb c =
    by_text IsVerb is_letter refl verb_letters 10 c.args.field.now c.text_length-at.result c.text_length-at.ensures.text
    c.is_zero.result c.is_verb.result c.if-is_zero.false c.is_zero.ensures.zero c.if-is_verb.false
    (λ text. both_ways c.is_verb.result c.if-is_verb.false (c.is_verb.ensures.1 text))
