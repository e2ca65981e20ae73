use Rattle.std.proofs.Common.{◌<◌, ℕ, get_or, rules}
use Rattle.multi_encipher.proofs.SealLaws.{bytes_from}
use Rattle.verb_rules.proofs.writing.are_bytes.Goals as goal

pub returns : goal.returns
returns c =
    let fits : (k : ℕ) → get_or c.args.bytes.now k 0 < 256 = search rules in
    bytes_from 16 c.args.bytes.now c.told-bytes fits
