-- The sum of the words so far.
use Rattle.std.proofs.Common.{◌≡◌, ◌%◌, ◌^◌, take}
use Rattle.std.specs.List.{sum_by}
use Rattle.key_tokens.specs.Tvv.{word_at, word_places}
use Rattle.key_tokens.proofs.validation.tvv.Given as goal

abbrev pub invariant-loop-i : goal.invariant-loop-i
invariant-loop-i l = l.total ≡ sum_by (word_at l.bytes) (take l.i word_places) % 2 ^ 32
