-- A number of 32 bits has at most ten digits.
use Rattle.std.proofs.Common.{arith}
use Rattle.std.proofs.lemmas.Fmt.{length-decimal-le}
use Rattle.command_words.proofs.summary.put_number.Goals as goal

pub number-requires : goal.number-requires
number-requires c = omega (arith, c.requires, length-decimal-le 10 c.args.value (omega arith) (omega (arith, c.ranges.value.fits)) (omega (arith, c.ranges.value.fits)))
