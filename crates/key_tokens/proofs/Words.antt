-- The places of the words, and a sum over one word more.
use Rattle.std.proofs.Common.{◌≡◌, ℕ, ◌+◌, ◌*◌, ◌%◌, ◌^◌, ◌<◌, true, List, get_or, take, eqb, ap, ◌∙◌, refl, sym, arith}
use Rattle.std.specs.List.{sum_by}
use Rattle.std.proofs.lemmas.Bool.{agree_below_at, eqb-true}
use Rattle.std.proofs.lemmas.List.Sums.{sum_by_more}
use Rattle.key_tokens.specs.Tvv.{word_at, word_places}

word_place_is : (i : ℕ) → i < 15 → get_or word_places i 0 ≡ 4 * i
word_place_is i within =
    eqb-true (get_or word_places i 0) (4 * i) (agree_below_at (λ k. eqb (get_or word_places k 0) (4 * k)) (λ k. true) 15 i refl within)

-- the sum modulo 2^32 of one word more
pub one_word_more : (bytes : List ℕ) (i total word : ℕ) → i < 15
    → total ≡ sum_by (word_at bytes) (take i word_places) % 2 ^ 32 → word ≡ word_at bytes (4 * i)
    → (total + word) % 2 ^ 32 ≡ sum_by (word_at bytes) (take (i + 1) word_places) % 2 ^ 32
one_word_more bytes i total word within so_far next =
    let more : sum_by (word_at bytes) (take (i + 1) word_places) ≡ sum_by (word_at bytes) (take i word_places) + word =
    sum_by_more (word_at bytes) word_places i 0 within
    ∙ ap (λ w. sum_by (word_at bytes) (take i word_places) + w) (ap (word_at bytes) (word_place_is i within) ∙ sym next) in
    rw more (rw so_far (omega arith))
