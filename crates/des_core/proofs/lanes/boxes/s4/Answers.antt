-- Written by tools/circuits/write.
use Rattle.std.proofs.Common.{List, ℕ, [], ◌∷◌, refl}
use Rattle.des_blocks.specs.Tables.{s4}
use Rattle.des_core.proofs.CircuitLemmas.{box-lanes, box-vectors, is-vector, six-given}
use Rattle.des_core.proofs.Circuits.{circuit_4, outs_4, holds-4}
use Rattle.des_core.proofs.lanes.boxes.s4.Goals as goal

pub returns-clause-vectors : goal.returns-clause-vectors
returns-clause-vectors c =
    let six : List (List ℕ) = c.args.x0 ∷ c.args.x1 ∷ c.args.x2 ∷ c.args.x3 ∷ c.args.x4 ∷ c.args.x5 ∷ [] in
    box-vectors circuit_4 outs_4 six (six-given _ _ _ _ _ _ (is-vector _ c.fits-x0.0 c.fits-x0.1) (is-vector _ c.fits-x1.0 c.fits-x1.1) (is-vector _ c.fits-x2.0 c.fits-x2.1) (is-vector _ c.fits-x3.0 c.fits-x3.1) (is-vector _ c.fits-x4.0 c.fits-x4.1) (is-vector _ c.fits-x5.0 c.fits-x5.1))

pub returns-clause-lanes : goal.returns-clause-lanes
returns-clause-lanes c =
    let six : List (List ℕ) = c.args.x0 ∷ c.args.x1 ∷ c.args.x2 ∷ c.args.x3 ∷ c.args.x4 ∷ c.args.x5 ∷ [] in
    box-lanes s4 circuit_4 outs_4 six holds-4 refl (six-given _ _ _ _ _ _ (is-vector _ c.fits-x0.0 c.fits-x0.1) (is-vector _ c.fits-x1.0 c.fits-x1.1) (is-vector _ c.fits-x2.0 c.fits-x2.1) (is-vector _ c.fits-x3.0 c.fits-x3.1) (is-vector _ c.fits-x4.0 c.fits-x4.1) (is-vector _ c.fits-x5.0 c.fits-x5.1))
