use Rattle.std.proofs.Common.{◌≡◌, Err, sym, subst, ◌∙◌, rules}
use Rattle.store_unload.specs.Moves.{create_line, import_line}
use Rattle.store_unload.specs.Telling.{Gets, requests_text}
use Rattle.store_unload.proofs.PieceLaws.{both_lines, first_part}
use Rattle.store_unload.proofs.sending.put_requests.Goals as goal

pub returns-in_err-send-clause-sends : goal.returns-in_err-send-clause-sends
returns-in_err-send-clause-sends g c =
    let held0 = g.K.Sink.held c.args.file.now in
    let held1 = g.K.Sink.held c.send.new.sink in
    let create = create_line c.args.how.now c.args.label.now in
    let import = import_line c.args.how.now c.args.token.now c.args.label.now in
    let failed : c.from_residual.result ≡ Err c.in_err-send.field-0.0 = search rules in
    subst (λ r. Gets (requests_text c.args.how.now c.args.token.now c.args.label.now) r held0 held1) (sym failed)
    (record { all = tt; part = first_part create import c.bytes.result.now (c.bytes.ensures.bytes ∙ c.write_create.ensures) held0 held1 c.in_err-send.ensures.part })

pub returns-clause-sends : goal.returns-clause-sends
returns-clause-sends g c =
    let create = create_line c.args.how.now c.args.label.now in
    let import = import_line c.args.how.now c.args.token.now c.args.label.now in
    both_lines create import c.bytes.result.now (c.bytes.ensures.bytes ∙ c.write_create.ensures)
    (g.K.Sink.held c.args.file.now) (g.K.Sink.held c.send.new.sink) (g.K.Sink.held c.send-2.new.sink)
    c.bytes-2.result.now (c.bytes-2.ensures.bytes ∙ c.write_import.ensures) c.in_ok-send.ensures.all c.send-2.result c.send-2.ensures.all c.send-2.ensures.part
