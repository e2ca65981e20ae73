use Rattle.std.proofs.Common.{◌≡◌, ◌*◌, ◌/◌, length, take, drop, sym, ap, ◌∙◌, arith, subst}
use Rattle.key_cells.specs.Bench.{text_of, with_text_of}
use Rattle.key_cells.specs.Lease.{bench_of, holding}
use Rattle.des_blocks.specs.Bits.{byte_bits, xor}
use Rattle.des_blocks.specs.Des.{places}
use Rattle.des_blocks.specs.Halves.{AreHalves}
use Rattle.des_blocks.specs.Schedules.{enciphered_under, schedule_at}
use Rattle.des_blocks.specs.Tables.{initial_permutation}
use Rattle.des_blocks.specs.Texts.{put_at}
use Rattle.des_core.specs.Chains.{chained_block}
use Rattle.des_core.proofs.ChainLemmas.{lease-begun, length-put, stepped}
use Rattle.des_core.proofs.MacLemmas.{bytes-of_enciphered}
use Rattle.des_core.proofs.SingleLemmas.{cbc-key, going-begun, going-done, going-more}
use Rattle.des_core.proofs.chaining.cbc_encipher_single.Goals as goal

pub loop-i-init : goal.loop-i-init
loop-i-init c =
    let text = text_of (bench_of c.args.lease.now).text in
    let count : length text / 8 ≡ length c.text.result.now / 8 = sym (ap (λ t. length t / 8) c.text.ensures.value) in
    record {
      stays = lease-begun c.args.lease.now;
      size = sym (ap length c.text.ensures.value) ∙ c.text.ensures.size;
      count = omega (arith, c.text.ensures.size, c.requires);
      going = going-begun (enciphered_under (schedule_at (bench_of c.args.lease.now).schedules 0)) _ _ (length c.text.result.now / 8) c.from_be_bytes.result c.args.start.now text
          c.told-start c.fits-start c.from_be_bytes.ensures count c.initial_halves-chain.ensures;
    }

pub encipher_halves-chain-requires : goal.encipher_halves-chain-requires
encipher_halves-chain-requires c = omega (arith, ap (λ x. (bench_of x).text.size) c.loop-i.invariant.stays, c.loop-i.invariant.count)

pub loop-i-preserved : goal.loop-i-preserved
loop-i-preserved c =
    let l = c.args.lease.now in
    let old = c.loop-i.lease in
    let new = c.encipher_halves-chain.new.lease in
    let text = text_of (bench_of old).text in
    let i = c.loop-i.i in
    let count = length c.text.result.now / 8 in
    let inv = c.loop-i.invariant in
    let last = inv.going.last in
    let keys = schedule_at (bench_of l).schedules 0 in
    let b = enciphered_under keys (xor (take 8 (drop (8 * i) text)) last) in
    let step = c.encipher_halves-chain.ensures last inv.going.bytes inv.going.halves in
    let same : chained_block old (8 * i) last ≡ b = ap (λ x. enciphered_under (schedule_at (bench_of x).schedules 0) (xor (take 8 (drop (8 * i) text)) last)) inv.stays in
    let bytes = bytes-of_enciphered keys (xor (take 8 (drop (8 * i) text)) last) in
    let long : length text ≡ 8 * count = inv.size ∙ inv.count in
    let size : length (put_at text (8 * i) b) ≡ length text = length-put text b (8 * i) (omega (arith, long)) bytes.size in
    let put : new ≡ holding old (with_text_of (bench_of old) (put_at text (8 * i) b)) = step.text ∙ ap (λ x. holding old (with_text_of (bench_of old) (put_at text (8 * i) x))) same in
    let s = stepped l old new (put_at text (8 * i) b) inv.stays inv.size put (size ∙ inv.size) in
    record {
      stays = s.stays ∙ sym (ap (λ t. holding l (with_text_of (bench_of l) t)) s.text);
      size = ap length s.text ∙ size ∙ inv.size;
      count = inv.count;
      going = going-more keys _ _ _ _ count i text (text_of (bench_of new).text) _ (omega arith) long inv.going s.text
          (subst (λ x. AreHalves c.encipher_halves-chain.result.left c.encipher_halves-chain.result.right (places initial_permutation (byte_bits x))) same step.halves);
    }

pub returns : goal.returns
returns c =
    let l = c.args.lease.now in
    let inv = c.loop-i.invariant in
    let keys = schedule_at (bench_of l).schedules 0 in
    let done = going-done (enciphered_under keys) _ _ (length c.text.result.now / 8) c.loop-i.i (text_of (bench_of c.loop-i.lease).text) _ (omega arith) (inv.size ∙ inv.count) inv.going in
    record {
      text = done;
      key = λ key of. done ∙ cbc-key keys key c.args.start.now (text_of (bench_of l).text) of;
      stays = inv.stays;
    }
