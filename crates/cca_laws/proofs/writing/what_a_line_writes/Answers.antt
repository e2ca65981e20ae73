use Rattle.cca_laws.proofs.WritingLaws.{refused, to_module, to_store, unspelled}
use Rattle.cca_laws.proofs.writing.what_a_line_writes.Goals as goal

pub returns-clause-unspelled : goal.returns-clause-unspelled
returns-clause-unspelled c = unspelled

pub returns-clause-refused : goal.returns-clause-refused
returns-clause-refused c = refused

pub returns-clause-to_module : goal.returns-clause-to_module
returns-clause-to_module c = to_module

pub returns-clause-to_store : goal.returns-clause-to_store
returns-clause-to_store c = to_store
