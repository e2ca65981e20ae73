use Rattle.std.proofs.Common.{◌≡◌, ◌*◌, ◌≤◌, length}
use Rattle.std.specs.Int.{to_be_bytes, w64}
use Rattle.key_cells.specs.Bench.{text_of, with_text_of}
use Rattle.key_cells.specs.Lease.{bench_of, holding}
use Rattle.des_blocks.specs.Texts.{uncbc_from, uncbc_text}
use Rattle.des_core.specs.Ciphers.{undone_bytes}
use Rattle.des_core.proofs.chaining.decipher_text.Given as goal

abbrev pub invariant-loop-part : goal.invariant-loop-part
invariant-loop-part l = record {
  stays : l.lease ≡ holding l.fn.lease (with_text_of (bench_of l.fn.lease) (text_of (bench_of l.lease).text));
  size : length (text_of (bench_of l.lease).text) ≡ (bench_of l.fn.lease).text.size;
  parts : 1024 * l.parts ≤ (bench_of l.fn.lease).text.size;
  value : uncbc_from (undone_bytes l.cipher (bench_of l.fn.lease).schedules) (to_be_bytes w64 l.chain) (1024 * l.part) (text_of (bench_of l.lease).text)
      ≡ uncbc_text (undone_bytes l.cipher (bench_of l.fn.lease).schedules) l.start (text_of (bench_of l.fn.lease).text);
}
