-- A text that has a length for its use fits into the workbench.
use Rattle.std.proofs.Common.{◌≡◌, ◌≤◌, ℕ, true, arith}
use Rattle.std.proofs.lemmas.Bool.{and_parts}
use Rattle.std.proofs.lemmas.Bool.Decides.{nat_tests}
use Rattle.std.specs.Prelude.{nat_le}
use Rattle.verb_rules.specs.LengthChecks.{has_length, is_segment, is_whole}
use Rattle.verb_rules.specs.declared.lengths.TextUse.{TextUse}
use Rattle.verb_rules.specs.declared.lengths.TextUse.TheVariants.{EncipherPlain, EncipherPadded, Decipher, Mac, Segment, LastPlain, LastPadded, LastDecipher, LastMac}

whole : (n : ℕ) → is_whole n ≡ true → n ≤ 4096
whole n is = let last = (and_parts _ (nat_le n 4096) is).1 in grind (arith, nat_tests, last)

segment : (n : ℕ) → is_segment n ≡ true → n ≤ 4096
segment n is = grind (arith, nat_tests, is)

pub text_fits : (use_of : TextUse) (n : ℕ) → has_length use_of n ≡ true → n ≤ 4096
text_fits EncipherPlain n is = whole n is
text_fits EncipherPadded n is = grind (arith, nat_tests, is)
text_fits Decipher n is = whole n is
text_fits Segment n is = segment n is
text_fits (LastPlain carried) n is = segment n (and_parts (is_segment n) _ is).0
text_fits LastPadded n is = segment n is
text_fits (LastDecipher carried) n is = segment n (and_parts (is_segment n) _ is).0
text_fits (LastMac carried) n is = segment n (and_parts (is_segment n) _ is).0
text_fits Mac n is = let last = (and_parts (nat_le 1 n) (nat_le n 4096) is).1 in grind (arith, nat_tests, last)
