-- The two words are those that were looked at.
use Rattle.std.proofs.Common.{subst, List, ℕ, ◌≡◌, Some}
use Rattle.std.specs.Prelude.{◌↔◌}
use Rattle.std.specs.String.{string_bytes}
use Rattle.command_words.specs.Demo.{IsDemo}
use Rattle.command_words.proofs.WordLemmas.{two_texts}
use Rattle.command_words.proofs.words.Words.demo_number.Goals as goal

pub returns-in-len2 : goal.returns-in-len2
returns-in-len2 c =
    subst (λ (words : List (List ℕ)). (n : ℕ) → (c.demo_of.result ≡ Some n) ↔ IsDemo n words)
    (two_texts string_bytes c.as_slice.result.now c.word-item.result c.number-item.result c.args.self.now c.as_str.result.now c.as_str-in-len2.result.now
    (rw (c.as_slice.ensures.value) c.self.view_is) c.in-len2.len_at_least c.in-len2.len_below c.word-item.is c.number-item.is
    c.as_str.ensures.value c.as_str-in-len2.ensures.value)
    c.demo_of.ensures
