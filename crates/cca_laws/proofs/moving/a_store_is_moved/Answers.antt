-- What the requests of a move leave, all of them and again; that they are the lines of the file; and what CSNBKEX says of
-- the labels.
use Rattle.cca_laws.proofs.MoveExports.{refused_as_kept, replied}
use Rattle.cca_laws.proofs.MoveLaws.{after_again, received_all}
use Rattle.cca_laws.proofs.MoveLines.{lines_are}
use Rattle.cca_laws.proofs.moving.a_store_is_moved.Goals as goal

pub returns-clause-received : goal.returns-clause-received
returns-clause-received c s t w random permitted receives = received_all s w permitted t receives random

pub returns-clause-again : goal.returns-clause-again
returns-clause-again c s t w random counts permitted receives = after_again s w permitted t receives random counts

pub returns-clause-lines : goal.returns-clause-lines
returns-clause-lines c s w permitted = lines_are s w permitted

pub returns-clause-kept : goal.returns-clause-kept
returns-clause-kept c s w random label cell permitted held = refused_as_kept s w permitted label cell held random

pub returns-clause-tokens : goal.returns-clause-tokens
returns-clause-tokens c s w drawn label permitted moved = replied s w permitted drawn label moved
