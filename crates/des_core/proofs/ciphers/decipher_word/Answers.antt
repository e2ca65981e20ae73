use Rattle.std.proofs.Common.{sym, ap, ◌∙◌}
use Rattle.des_blocks.specs.Bits.{bits}
use Rattle.des_core.specs.Ciphers.{undone}
use Rattle.des_core.proofs.ciphers.decipher_word.Goals as goal

pub returns-in-Des : goal.returns-in-Des
returns-in-Des c = c.decipher_word.ensures ∙ sym (ap (λ x. undone x c.args.keys.now (bits 64 c.args.block)) c.in-Des.is)

pub returns-in-TripleDes : goal.returns-in-TripleDes
returns-in-TripleDes c = c.ded_word.ensures ∙ sym (ap (λ x. undone x c.args.keys.now (bits 64 c.args.block)) c.in-TripleDes.is)
