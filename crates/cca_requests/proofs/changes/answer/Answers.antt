use Rattle.std.proofs.Common.{◌∙◌, [], ap, sym, rules}
use Rattle.line_service.specs.Replies.{spelled}
use Rattle.cca_requests.specs.Changes.{made_reply}
use Rattle.request_verbs.proofs.Fields.{no_fields}
use Rattle.cca_requests.proofs.changes.answer.Goals as goal

pub returns-in-Ok : goal.returns-in-Ok
returns-in-Ok c = record {
  stop = search rules;
  reply = c.end.ensures.spells [] (no_fields c.args.reply.now c.ok.new.self c.requires.empty c.ok.ensures.bytes)
      ∙ ap (λ o. spelled (made_reply o)) (sym c.in-Ok.is);
  silent = search rules;
}
