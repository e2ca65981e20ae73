use Rattle.std.proofs.Common.{◌≡◌, ap, ◌%◌, ◌^◌, take, ◌∙◌, arith}
use Rattle.std.specs.List.{sum_by}
use Rattle.key_tokens.specs.Tvv.{word_at, word_places, tvv_of}
use Rattle.key_tokens.proofs.Words.{one_word_more}
use Rattle.key_tokens.proofs.validation.tvv.Goals as goal

pub loop-i-preserved : goal.loop-i-preserved
loop-i-preserved c =
    one_word_more c.args.bytes.now c.loop-i.i c.loop-i.total c.word_at-total.result c.loop-i-test.true c.loop-i.invariant c.word_at-total.ensures

pub returns : goal.returns
unfolding tvv_of
returns c =
    let all : c.loop-i.i ≡ 15 = omega arith in
    c.loop-i.invariant ∙ ap (λ i. sum_by (word_at c.args.bytes.now) (take i word_places) % 2 ^ 32) all
