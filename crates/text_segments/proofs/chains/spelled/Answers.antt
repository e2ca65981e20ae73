use Rattle.std.proofs.Common.{◌∙◌, ◌++◌, ◌∷◌, ℕ, List, ap, refl, replicate, set, take, drop}
use Rattle.text_segments.proofs.ChainLemmas.{spelled}
use Rattle.text_segments.proofs.chains.spelled.Goals as goal

pub returns-clause-bytes : goal.returns-clause-bytes
returns-clause-bytes c =
    let zeros : List ℕ = replicate 7 0 in
    ap (λ b. take 9 (set (b ++ 0 ∷ zeros) 8 c.args.count) ++ (c.copy_from_slice-2.new.self ++ drop 7 (drop 9 (set (b ++ 0 ∷ zeros) 8 c.args.count)))) c.copy_from_slice.ensures.after
    ∙ spelled c.args.block.now zeros c.copy_from_slice-2.new.self c.args.count c.told-block refl
    ∙ ap (λ f. c.args.block.now ++ c.args.count ∷ f) c.copy_from_slice-2.ensures.after
