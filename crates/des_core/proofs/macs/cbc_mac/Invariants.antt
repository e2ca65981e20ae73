use Rattle.des_blocks.specs.Schedules.{enciphered_under}
use Rattle.des_core.proofs.MacLemmas.{Coding}
use Rattle.des_core.proofs.macs.cbc_mac.Given as goal

abbrev pub invariant-loop-i : goal.invariant-loop-i
invariant-loop-i l = record { coding : Coding (enciphered_under l.keys) l.chain.left l.chain.right l.i l.text }
