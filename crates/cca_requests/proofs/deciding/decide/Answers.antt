use Rattle.std.proofs.Common.{subst}
use Rattle.std.specs.Prelude.{IfSome}
use Rattle.verb_script.specs.Parsed.{seen}
use Rattle.cca_machine.proofs.Settling.{handed_on}
use Rattle.text_verbs.specs.TextWorks.{IsWorkOf}
use Rattle.text_verbs.proofs.TextWorks.{may_work}
use Rattle.cca_requests.proofs.deciding.decide.Goals as goal

pub over_text-requires : goal.over_text-requires
over_text-requires g c = record {
  may = may_work (subst (λ o. IfSome o (IsWorkOf (seen c.args.request.now))) c.in-Some.is c.text_work.ensures.work) c.requires.can.passed c.requires.can.empty;
}

pub returns-in-Some : goal.returns-in-Some
returns-in-Some g c = record {
  decision =
      let of = subst (λ o. IfSome o (IsWorkOf (seen c.args.request.now))) c.in-Some.is c.text_work.ensures.work in
      handed_on of.is (c.over_text.ensures.settles of.verifies of.role of.key of.segment c.args.held.now c.args.records.now) c.requires.can.passed.shaped;
}
