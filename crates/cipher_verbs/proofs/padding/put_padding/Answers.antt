use Rattle.std.proofs.Common.{◌≡◌, ◌∙◌, ℕ, ◌-◌, [], ◌∷◌, ◌++◌, length, replicate, take, drop, refl, ap, arith}
use Rattle.std.proofs.lemmas.List.{length-take, length-drop}
use Rattle.cipher_verbs.proofs.PaddingLemmas.{padded_end}
use Rattle.cipher_verbs.proofs.padding.put_padding.Goals as goal

pub returns : goal.returns
returns c =
    let few : ℕ = length c.args.text.now - 1 - c.args.at in
    let same : few ≡ length c.args.text.now - c.args.at - 1 = omega arith in
    let width : length (take few (drop c.args.at c.args.text.now)) ≡ few = simp (length-take, length-drop) (omega (arith, c.requires.end)) in
    let zeros : c.fill.new.self ≡ replicate few 0 = c.fill.ensures.after (λ y e. e) ∙ ap (λ n. replicate n 0) width in
    padded_end c.args.text.now c.fill.new.self c.args.at few (length c.args.text.now - 1) (length c.args.text.now - c.args.at) c.requires.end same refl zeros
    ∙ ap (λ n. take c.args.at c.args.text.now ++ (replicate n 0 ++ (length c.args.text.now - c.args.at) ∷ [])) same
