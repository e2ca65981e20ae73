use Rattle.std.proofs.Common.{refl, sym, ◌∙◌}
use Rattle.std.proofs.lemmas.Bool.{both_ways}
use Rattle.cca_roles.specs.Names.{is_name_byte, IsRoleName}
use Rattle.audit_trail.proofs.FieldLaws.{role_bytes, by_zeros, by_text}
use Rattle.audit_trail.proofs.fields.holds_role.Goals as goal

pub returns-then-is_role_name : goal.returns-then-is_role_name
returns-then-is_role_name c =
    by_zeros IsRoleName is_name_byte refl role_bytes 8 c.args.field.now c.text_length-at.result c.text_length-at.ensures.text c.told-field c.text_length-at.ensures.within
    c.is_zero.result _ c.if-is_zero.false c.is_zero.ensures.zero (sym c.is_role_name.ensures ∙ c.if-is_role_name.true) c.is_zero-then-is_role_name.ensures.zero

pub returns-else-is_role_name : goal.returns-else-is_role_name
returns-else-is_role_name c =
    by_text IsRoleName is_name_byte refl role_bytes 8 c.args.field.now c.text_length-at.result c.text_length-at.ensures.text
    c.is_zero.result c.is_role_name.result c.if-is_zero.false c.is_zero.ensures.zero c.if-is_role_name.false
    (λ text. both_ways c.is_role_name.result c.if-is_role_name.false (c.is_role_name.ensures ∙ text))
