-- The counts go on with the byte.
use Rattle.std.proofs.Common.{◌∙◌, ap, sym, slice_index}
use Rattle.command_words.specs.Counting.{count_byte, counted}
use Rattle.command_words.proofs.CountingLemmas.{counted-more}
use Rattle.command_words.proofs.tally.TallySink.write.Goals as goal

pub invariant_of-self : goal.invariant_of-self
invariant_of-self c =
    c.take-self-inside.ensures
    ∙ (ap (λ x. count_byte x (slice_index c.args.piece.now 0)) c.self.invariant
    ∙ (sym (counted-more c.self.inside.taken.items (slice_index c.args.piece.now 0)) ∙ ap counted (sym c.and-self-inside.ensures)))
