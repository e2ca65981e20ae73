use Rattle.std.proofs.Common.{◌≡◌, ◌*◌, length}
use Rattle.key_cells.specs.Bench.{text_of, with_text_of}
use Rattle.key_cells.specs.Lease.{bench_of, holding}
use Rattle.des_blocks.specs.Modes.{blocks, cbc}
use Rattle.des_blocks.specs.Schedules.{enciphered_under, schedule_at}
use Rattle.des_core.proofs.SingleLemmas.{Going}
use Rattle.des_core.proofs.chaining.cbc_encipher_single.Given as goal

abbrev pub invariant-loop-i : goal.invariant-loop-i
invariant-loop-i l = record {
  stays : l.lease ≡ holding l.fn.lease (with_text_of (bench_of l.fn.lease) (text_of (bench_of l.lease).text));
  size : length (text_of (bench_of l.lease).text) ≡ (bench_of l.fn.lease).text.size;
  count : (bench_of l.fn.lease).text.size ≡ 8 * l.count;
  going : Going (enciphered_under (schedule_at (bench_of l.fn.lease).schedules 0)) l.chain.left l.chain.right l.count l.i (text_of (bench_of l.lease).text)
      (cbc (enciphered_under (schedule_at (bench_of l.fn.lease).schedules 0)) l.start (blocks (text_of (bench_of l.fn.lease).text)));
}
