use Rattle.std.proofs.Common.{◌++◌, length, codes, ap, arith, ◌∙◌}
use Rattle.cca_machine.specs.Act.{class_name}
use Rattle.line_service.specs.Replies.{number_field, ok_text, text_field}
use Rattle.request_verbs.proofs.TokenReply.{five_fields}
use Rattle.request_verbs.proofs.verbs.csnbktp.show_parts.Goals as goal

pub returns-clause-fields : goal.returns-clause-fields
returns-clause-fields c =
    let reply = c.args.reply.now in
    five_fields ok_text _ _ _ _ _ reply c.ok.new.self c.text.new.self c.text-2.new.self c.number.new.self c.show_vector.new.reply c.hex.new.self c.requires c.ok.ensures.bytes
    (c.text.ensures.bytes ∙ ap (λ xs. c.ok.new.self ++ text_field (codes "kind") xs) (c.as_bytes.ensures.value ∙ c.name_of_kind.ensures.name))
    (c.text-2.ensures.bytes ∙ ap (λ xs. c.text.new.self ++ text_field (codes "class") xs) (c.as_bytes-2.ensures.value ∙ (c.name_of_class.ensures.name ∙ ap class_name c.class.ensures)))
    (c.number.ensures.bytes ∙ ap (λ n. c.text-2.new.self ++ number_field (codes "length") n) c.length.ensures.length)
    c.show_vector.ensures.bytes
    c.hex.ensures.bytes

pub returns-clause-size : goal.returns-clause-size
returns-clause-size c =
    omega (arith, ap length c.requires, c.ok.ensures.size, c.text.ensures.size, c.text-2.ensures.size, c.number.ensures.size, c.number.ensures.short, c.show_vector.ensures.size, c.hex.ensures.size, c.name_of_kind.ensures.size, c.name_of_class.ensures.size, c.as_bytes.ensures.len, c.as_bytes-2.ensures.len)

pub text-requires : goal.text-requires
text-requires c =
    omega (arith, ap length c.requires, c.ok.ensures.size, c.name_of_kind.ensures.size, c.as_bytes.ensures.len)

pub text-requires-2 : goal.text-requires-2
text-requires-2 c =
    omega (arith, ap length c.requires, c.ok.ensures.size, c.text.ensures.size, c.name_of_kind.ensures.size, c.name_of_class.ensures.size, c.as_bytes.ensures.len, c.as_bytes-2.ensures.len)

pub show_vector-requires : goal.show_vector-requires
show_vector-requires c =
    omega (arith, ap length c.requires, c.ok.ensures.size, c.text.ensures.size, c.text-2.ensures.size, c.number.ensures.size, c.number.ensures.short, c.name_of_kind.ensures.size, c.name_of_class.ensures.size, c.as_bytes.ensures.len, c.as_bytes-2.ensures.len)
