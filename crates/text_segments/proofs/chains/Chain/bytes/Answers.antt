use Rattle.std.proofs.Common.{◌≡◌, ◌∙◌, ◌++◌, ◌∷◌, ℕ, List, length, ap}
use Rattle.text_segments.specs.Chains.{chain_bytes, chain_of, is_chain}
use Rattle.text_segments.specs.declared.chains.Chain.{Chain}
use Rattle.text_segments.proofs.ChainLemmas.{again, valid}
use Rattle.text_segments.proofs.chains.Chain.bytes.Goals as goal

-- from the parts that are put together
put_together : (chain : Chain) (count : ℕ) (filled bytes : List ℕ) → bytes ≡ chain.block ++ (count ∷ filled) → count ≡ length chain.carried
    → chain.block ++ (length chain.carried ∷ filled) ≡ chain_bytes chain → bytes ≡ chain_bytes chain
put_together chain count filled bytes is same full = is ∙ ap (λ n. chain.block ++ (n ∷ filled)) same ∙ full

pub returns-clause-valid : goal.returns-clause-valid
returns-clause-valid c =
    let chain = c.args.self.now in
    ap is_chain (put_together chain c.length.result c.filled.result.now c.spelled.result c.spelled.ensures.bytes c.length.ensures.length
    (ap (λ f. chain.block ++ (length chain.carried ∷ f)) c.filled.ensures))
    ∙ valid chain.block chain.carried c.spelled.ensures.size c.length.ensures.few

pub returns-clause-again : goal.returns-clause-again
returns-clause-again c =
    let chain = c.args.self.now in
    ap chain_of (put_together chain c.length.result c.filled.result.now c.spelled.result c.spelled.ensures.bytes c.length.ensures.length
    (ap (λ f. chain.block ++ (length chain.carried ∷ f)) c.filled.ensures))
    ∙ again chain.block chain.carried c.spelled.ensures.size c.length.ensures.few
