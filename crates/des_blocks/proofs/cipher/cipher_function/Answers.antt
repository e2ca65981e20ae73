use Rattle.des_blocks.specs.Halves.{spread}
use Rattle.des_blocks.proofs.EntryLemmas.{entries-substitute, function-is, table-1, table-2, table-3, table-4, table-5, table-6, table-7, table-8}
use Rattle.des_blocks.proofs.cipher.cipher_function.Goals as goal

pub entry-requires-clause-table : goal.entry-requires-clause-table
entry-requires-clause-table c = table-8

pub entry-requires-2-clause-table : goal.entry-requires-2-clause-table
entry-requires-2-clause-table c = table-7

pub entry-requires-3-clause-table : goal.entry-requires-3-clause-table
entry-requires-3-clause-table c = table-6

pub entry-requires-4-clause-table : goal.entry-requires-4-clause-table
entry-requires-4-clause-table c = table-5

pub entry-requires-5-clause-table : goal.entry-requires-5-clause-table
entry-requires-5-clause-table c = table-4

pub entry-requires-6-clause-table : goal.entry-requires-6-clause-table
entry-requires-6-clause-table c = table-3

pub entry-requires-7-clause-table : goal.entry-requires-7-clause-table
entry-requires-7-clause-table c = table-2

pub entry-requires-8-clause-table : goal.entry-requires-8-clause-table
entry-requires-8-clause-table c = table-1

pub returns : goal.returns
returns c half key joined =
    function-is c.args.groups _ half key joined
    (entries-substitute (spread c.args.groups) _ _ _ _ _ _ _ _ c.entry-8.ensures c.entry-7.ensures c.entry-6.ensures c.entry-5.ensures c.entry-4.ensures c.entry-3.ensures c.entry-2.ensures c.entry.ensures)
