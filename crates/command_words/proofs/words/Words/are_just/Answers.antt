-- The words are the one word where its bytes are those of the word given.
use Rattle.std.specs.String.{string_bytes}
use Rattle.command_words.proofs.ListLemmas.{one_element, is_the_word}
use Rattle.command_words.proofs.words.Words.are_just.Goals as goal

pub returns-in-len1 : goal.returns-in-len1
returns-in-len1 c =
    is_the_word string_bytes c.as_slice.result.now c.only-item.result c.args.self.now c.as_str.result.now c.args.word.now c.eq.result
    (rw (c.as_slice.ensures.value) c.self.view_is) (one_element c.as_slice.result.now c.only-item.result c.in-len1.len_at_least c.in-len1.len_below c.only-item.is)
    c.as_str.ensures.value c.eq.ensures
