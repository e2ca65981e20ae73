use Rattle.std.proofs.Common.{◌≡◌, ℕ, ◌*◌, ◌<◌, drop}
use Rattle.des_blocks.specs.Des.{rounds}
use Rattle.des_blocks.specs.Schedules.{keys_of, ordered}
use Rattle.des_core.specs.Lanes.{AreVectors, lane}
use Rattle.des_core.proofs.lanes.ciphers.sixteen_rounds.Given as goal

abbrev pub invariant-loop-two : goal.invariant-loop-two
invariant-loop-two l = record {
  left : AreVectors l.left;
  right : AreVectors l.right;
  lanes : (e i : ℕ) → e < 2 → i < 64
      → rounds (drop (2 * l.two) (ordered l.reversed (keys_of l.keys))) (lane e i l.left) (lane e i l.right)
      ≡ rounds (ordered l.reversed (keys_of l.keys)) (lane e i l.fn.left) (lane e i l.fn.right);
}
