-- Each byte of a text fits, so that the word has the bytes it is made of.
use Rattle.des_blocks.proofs.ByteLemmas.{word-of-piece}
use Rattle.des_blocks.proofs.words.word_at.Goals as goal

pub returns : goal.returns
returns c = word-of-piece c.args.at c.args.text.now c.from_be_bytes.result c.copy_from_slice.new.self c.requires (λ i. (c.type_inv.text i).fits) c.copy_from_slice.ensures.after c.from_be_bytes.ensures
