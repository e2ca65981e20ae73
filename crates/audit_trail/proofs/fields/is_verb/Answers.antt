use Rattle.std.proofs.Common.{length, sym, ◌∙◌, arith}
use Rattle.std.proofs.lemmas.Bool.{eqb-false}
use Rattle.std.proofs.lemmas.List.Sums.{AllPass-from_list_all}
use Rattle.cca_roles.specs.Characters.{is_letter}
use Rattle.audit_trail.proofs.FieldLaws.{verb_letters}
use Rattle.audit_trail.proofs.fields.is_verb.Goals as goal

pub returns : goal.returns
returns c = (
  λ yes. record {
    some = omega (arith, eqb-false (length c.args.text.now) 0 (sym c.is_empty.ensures ∙ c.if-is_empty.false));
    most = omega arith;
    letters = AllPass-from_list_all is_letter c.args.text.now (sym c.are_letters.ensures ∙ yes);
  },
  λ is. c.are_letters.ensures ∙ verb_letters c.args.text.now is,
)
