use Rattle.std.proofs.Common.{sym, ap, ◌∙◌}
use Rattle.des_blocks.specs.Bits.{bits}
use Rattle.des_core.specs.Ciphers.{undone}
use Rattle.des_core.proofs.ciphers.decipher_words.Goals as goal

pub returns-in-Des : goal.returns-in-Des
returns-in-Des c = record {
  first = c.decipher_two.ensures.first ∙ sym (ap (λ x. undone x c.args.keys.now (bits 64 c.args.block)) c.in-Des.is);
  second = c.decipher_two.ensures.second ∙ sym (ap (λ x. undone x c.args.keys.now (bits 64 c.args.other)) c.in-Des.is);
}

pub returns-in-TripleDes : goal.returns-in-TripleDes
returns-in-TripleDes c = record {
  first = c.ded_two.ensures.first ∙ sym (ap (λ x. undone x c.args.keys.now (bits 64 c.args.block)) c.in-TripleDes.is);
  second = c.ded_two.ensures.second ∙ sym (ap (λ x. undone x c.args.keys.now (bits 64 c.args.other)) c.in-TripleDes.is);
}
