use Rattle.std.proofs.Common.{◌∙◌, [], ◌∷◌, ◌++◌, codes, sym, ap, rules}
use Rattle.line_service.specs.Replies.{Text, spelled, text_field}
use Rattle.cca_requests.specs.Changes.{state_name, change_reply}
use Rattle.request_verbs.proofs.Fields.{one_text}
use Rattle.cca_requests.proofs.changing_module.answer_change.Goals as goal

pub returns-in-Ok : goal.returns-in-Ok
returns-in-Ok c =
    let name = state_name c.in-Ok.held.new_state in
    record {
      stop = search rules;
      reply = c.end.ensures.spells (Text (codes "new") name ∷ [])
          (one_text (codes "new") name c.args.reply.now c.ok.new.self c.text.new.self c.requires c.ok.ensures.bytes
          (c.text.ensures.bytes ∙ ap (λ x. c.ok.new.self ++ text_field (codes "new") x) (c.as_bytes.ensures.value ∙ c.name_of.ensures.name)))
          ∙ ap (λ o. spelled (change_reply o)) (sym c.in-Ok.is);
      silent = search rules;
    }
