-- The definitions compute.
use Rattle.std.proofs.Common.{refl}
use Rattle.sha1.specs.Sha1.{sha1, digest_bytes, hash_after, compress, rounds, schedule, first_words}
use Rattle.master_registers.specs.Masters.{pattern_of_master}
use Rattle.device_rows.proofs.worked_patterns.Goals as goal

pub returns : goal.returns
unfolding pattern_of_master sha1 digest_bytes hash_after compress rounds schedule first_words
returns c = record { of_zeros = refl; of_ones = refl; counting_up = refl }
