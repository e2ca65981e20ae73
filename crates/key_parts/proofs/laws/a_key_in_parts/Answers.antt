use Rattle.std.proofs.Common.{◌∷◌, ◌++◌, []}
use Rattle.std.proofs.lemmas.List.Elements.{All-head, All-tail}
use Rattle.key_cells.specs.Bytes.{AreBytes}
use Rattle.key_parts.proofs.PartLemmas.{after_last, before_last}
use Rattle.key_parts.proofs.laws.a_key_in_parts.Goals as goal

pub returns-clause-key : goal.returns-clause-key
returns-clause-key c = λ kind size first middle last has are.
    after_last kind size first middle has (All-head (AreBytes size) first (middle ++ last ∷ []) are) last (All-tail (AreBytes size) first (middle ++ last ∷ []) are)

pub returns-clause-part : goal.returns-clause-part
returns-clause-part c = before_last
