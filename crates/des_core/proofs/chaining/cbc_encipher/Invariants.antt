use Rattle.std.proofs.Common.{◌≡◌, ◌-◌, ◌*◌, ◌++◌, drop, length}
use Rattle.std.specs.Int.{to_be_bytes, w64}
use Rattle.key_cells.specs.Bench.{text_of, with_text_of}
use Rattle.key_cells.specs.Lease.{bench_of, holding}
use Rattle.des_blocks.specs.Bits.{pieces}
use Rattle.des_blocks.specs.Modes.{blocks, cbc}
use Rattle.des_blocks.specs.Schedules.{ede_bytes}
use Rattle.des_core.proofs.chaining.cbc_encipher.Given as goal

abbrev pub invariant-loop-i : goal.invariant-loop-i
invariant-loop-i l = record {
  stays : l.lease ≡ holding l.fn.lease (with_text_of (bench_of l.fn.lease) (text_of (bench_of l.lease).text));
  size : length (text_of (bench_of l.lease).text) ≡ (bench_of l.fn.lease).text.size;
  count : (bench_of l.fn.lease).text.size ≡ 8 * l.count;
  value : pieces l.i 8 (text_of (bench_of l.lease).text) ++ cbc (ede_bytes (bench_of l.fn.lease).schedules) (to_be_bytes w64 l.chain) (pieces (l.count - l.i) 8 (drop (8 * l.i) (text_of (bench_of l.lease).text)))
      ≡ cbc (ede_bytes (bench_of l.fn.lease).schedules) l.start (blocks (text_of (bench_of l.fn.lease).text));
}
