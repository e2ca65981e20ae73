-- Two words, of which the first is `demo`.
use Rattle.std.proofs.Common.{sym, codes}
use Rattle.std.proofs.lemmas.Slice.Eq.{bytes_eq-Decides}
use Rattle.command_words.proofs.WordLemmas.{two_words}
use Rattle.command_words.proofs.words.demo_of.Goals as goal

pub returns-then-eq : goal.returns-then-eq
returns-then-eq c = two_words c.args.word.now c.args.number.now c.small_number.result ((bytes_eq-Decides c.args.word.now (codes "demo")).0 (sym c.if-eq.ensures)) c.small_number.ensures
