-- A number makes the command of its demo.
use Rattle.command_words.proofs.WordLemmas.{demo_command}
use Rattle.command_words.proofs.words.Words.command.Goals as goal

pub returns-in-Some-clause-demo : goal.returns-in-Some-clause-demo
returns-in-Some-clause-demo c = demo_command c.demo_number.result c.in-Some.number c.args.self.now c.in-Some.is c.demo_number.ensures
