use Rattle.std.proofs.Common.{◌≡◌, [], ◌∷◌, ◌++◌, take, ap, ◌∙◌}
use Rattle.std.proofs.lemmas.Option.{MatchOption-at_some}
use Rattle.sha1.specs.Sha1.{sha1}
use Rattle.master_registers.specs.Masters.{pattern_of_master}
use Rattle.master_registers.proofs.patterns.pattern_of.Goals as goal

pub returns : goal.returns
unfolding pattern_of_master
returns c =
    let digest : c.finalize-digest.result ≡ sha1 ([] ++ (1 ∷ []) ++ c.master.result.now) =
    c.finalize-digest.ensures _ (c.update-2.ensures _ (c.update.ensures _ c.new-hasher.ensures)) in
    (MatchOption-at_some _ _ c.unwrap.result c.unwrap.ensures c.first_chunk.ensures.cases).same
    ∙ ap (take 8) digest
    ∙ ap (λ bytes. take 8 (sha1 (1 ∷ bytes))) c.master.ensures
