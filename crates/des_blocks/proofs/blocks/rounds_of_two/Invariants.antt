use Rattle.std.proofs.Common.{ℕ, List, ◌*◌, drop}
use Rattle.des_blocks.specs.Halves.{AreHalves, rounded}
use Rattle.des_blocks.specs.Schedules.{keys_of, ordered}
use Rattle.des_blocks.proofs.RoundLemmas.{Gives, Keyed}
use Rattle.des_blocks.proofs.blocks.rounds_of_two.Given as goal

abbrev pub invariant-loop-two : goal.invariant-loop-two
invariant-loop-two l = record {
  first : (both : List ℕ) → AreHalves l.fn.halves.left l.fn.halves.right both
      → Gives (drop (2 * l.two) (ordered l.reversed (keys_of l.keys))) l.left l.right (rounded (ordered l.reversed (keys_of l.keys)) both);
  keyed : Keyed (ordered l.reversed (keys_of l.keys)) l.right l.groups (2 * l.two);
  second : (both : List ℕ) → AreHalves l.fn.others.left l.fn.others.right both
      → Gives (drop (2 * l.two) (ordered l.reversed (keys_of l.keys))) l.other_left l.other_right (rounded (ordered l.reversed (keys_of l.keys)) both);
  other_keyed : Keyed (ordered l.reversed (keys_of l.keys)) l.other_right l.other_groups (2 * l.two);
}
