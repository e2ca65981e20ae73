use Rattle.std.proofs.Common.{ℕ, ◌<◌, get_or, ap, ◌∙◌, rules}
use Rattle.std.proofs.lemmas.List.{get_or_default}
use Rattle.des_blocks.specs.Schedules.{deciphered_under, enciphered_under}
use Rattle.des_core.proofs.MacLemmas.{bytes-from-bits, x919-key}
use Rattle.des_core.proofs.macs.x919_mac.Goals as goal

pub returns-clause-schedules : goal.returns-clause-schedules
returns-clause-schedules c =
    let first : (i : ℕ) → get_or c.decipher_block.result i 0 < 256 = search rules in
    let second : (i : ℕ) → get_or c.encipher_block.result i 0 < 256 = search rules in
    bytes-from-bits c.encipher_block.result _ (λ i d h. rw (get_or_default c.encipher_block.result i d 0 h) (second i)) c.encipher_block.ensures.bits
    ∙ ap (enciphered_under c.args.left.now) (bytes-from-bits c.decipher_block.result _ (λ i d h. rw (get_or_default c.decipher_block.result i d 0 h) (first i)) c.decipher_block.ensures.bits
    ∙ ap (deciphered_under c.args.right.now) c.cbc_mac.ensures.schedule)

pub returns-clause-key : goal.returns-clause-key
returns-clause-key c key p q = returns-clause-schedules c ∙ x919-key c.args.left.now c.args.right.now key c.args.text.now p q
