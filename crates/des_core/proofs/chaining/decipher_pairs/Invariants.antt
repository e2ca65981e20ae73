use Rattle.std.proofs.Common.{◌≡◌, ◌-◌, ◌*◌, ◌/◌, ◌++◌, drop, length}
use Rattle.std.specs.Int.{to_be_bytes, w64}
use Rattle.key_cells.specs.Bench.{text_of, with_text_of}
use Rattle.key_cells.specs.Lease.{bench_of, holding}
use Rattle.des_blocks.specs.Bits.{pieces}
use Rattle.des_blocks.specs.Modes.{blocks, uncbc}
use Rattle.des_core.specs.Ciphers.{undone_bytes}
use Rattle.des_core.proofs.chaining.decipher_pairs.Given as goal

abbrev pub invariant-loop-i : goal.invariant-loop-i
invariant-loop-i l = record {
  stays : l.lease ≡ holding l.fn.lease (with_text_of (bench_of l.fn.lease) (text_of (bench_of l.lease).text));
  size : length (text_of (bench_of l.lease).text) ≡ (bench_of l.fn.lease).text.size;
  count : (bench_of l.fn.lease).text.size ≡ 8 * l.count;
  value : pieces (2 * l.i) 8 (text_of (bench_of l.lease).text) ++ uncbc (undone_bytes l.cipher (bench_of l.fn.lease).schedules) (to_be_bytes w64 l.chain) (pieces (l.count - 2 * l.i) 8 (drop (8 * (2 * l.i)) (text_of (bench_of l.lease).text)))
      ≡ pieces (2 * (l.at / 16)) 8 (text_of (bench_of l.fn.lease).text) ++ uncbc (undone_bytes l.cipher (bench_of l.fn.lease).schedules) (to_be_bytes w64 l.start) (blocks (drop l.at (text_of (bench_of l.fn.lease).text)));
}
