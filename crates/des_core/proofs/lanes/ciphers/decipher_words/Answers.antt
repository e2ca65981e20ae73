use Rattle.std.proofs.Common.{◌≡◌, length, rules}
use Rattle.des_core.specs.Ciphers.{undone}
use Rattle.des_core.proofs.CipherLemmas.{words-lanes}
use Rattle.des_core.proofs.lanes.ciphers.decipher_words.Goals as goal

pub returns-clause-words : goal.returns-clause-words
returns-clause-words c =
    let before = c.transpose.new.words in
    let after = c.decipher_lanes.new.words in
    let long_before : length before ≡ 64 = search rules in
    let long_after : length after ≡ 64 = search rules in
    words-lanes (undone c.args.cipher c.args.keys.now) c.args.words.now before after c.transpose-2.new.words long_before long_after c.transpose.ensures.bits c.decipher_lanes.ensures.lanes c.transpose-2.ensures.bits
