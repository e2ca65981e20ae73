use Rattle.des_blocks.proofs.EntryLemmas.{entry-is}
use Rattle.des_blocks.proofs.cipher.entry.Goals as goal

pub returns : goal.returns
returns c = entry-is c.args.j c.args.groups c.args.table.now c.requires.place c.requires.table
