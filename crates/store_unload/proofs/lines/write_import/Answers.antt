-- The parts stand one behind the other.
use Rattle.store_unload.proofs.LineLaws.{import_is}
use Rattle.store_unload.proofs.lines.write_import.Goals as goal

pub returns : goal.returns
returns c =
    import_is c.args.how.now c.args.token.now c.args.label.now c.put_role.new.line c.hex.new.self c.more.new.self c.put_label.new.line c.more-2.new.self
    c.put_label-2.new.line c.finish.new.self
    c.put_role.ensures.bytes c.hex.ensures.bytes c.more.ensures.bytes c.put_label.ensures.bytes c.more-2.ensures.bytes c.put_label-2.ensures.bytes c.finish.ensures.bytes
