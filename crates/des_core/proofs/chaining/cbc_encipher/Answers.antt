use Rattle.std.proofs.Common.{◌≡◌, ◌-◌, ◌+◌, ◌/◌, ◌*◌, ◌++◌, length, take, drop, sym, ap, ◌∙◌, refl, arith, subst}
use Rattle.std.specs.Int.{to_be_bytes, w64}
use Rattle.key_cells.specs.Bench.{text_of, with_text_of}
use Rattle.key_cells.specs.Lease.{bench_of, holding}
use Rattle.des_blocks.specs.Bits.{pieces, xor}
use Rattle.des_blocks.specs.Modes.{blocks, cbc}
use Rattle.des_blocks.specs.Schedules.{ede_bytes}
use Rattle.des_blocks.specs.Texts.{put_at}
use Rattle.des_core.proofs.ChainLemmas.{cbc-done, cbc-keys, cbc-step-as, lease-begun, length-put, start-bytes, stepped, text-begun, text-more}
use Rattle.des_core.proofs.chaining.cbc_encipher.Goals as goal

pub loop-i-init : goal.loop-i-init
loop-i-init c =
    let text = text_of (bench_of c.args.lease.now).text in
    let size : length text ≡ (bench_of c.args.lease.now).text.size = sym (ap length c.text.ensures.value) ∙ c.text.ensures.size in
    let count : length text / 8 ≡ length c.text.result.now / 8 = sym (ap (λ t. length t / 8) c.text.ensures.value) in
    record {
      stays = lease-begun c.args.lease.now;
      size = size;
      count = omega (arith, c.text.ensures.size, c.requires);
      value = text-begun (length c.text.result.now / 8) text (cbc (ede_bytes (bench_of c.args.lease.now).schedules) (to_be_bytes w64 c.from_be_bytes-chain.result)) count
          ∙ ap (λ chain. cbc (ede_bytes (bench_of c.args.lease.now).schedules) chain (blocks text)) (start-bytes c.args.start.now c.from_be_bytes-chain.result c.told-start c.fits-start c.from_be_bytes-chain.ensures);
    }

pub encipher_one-chain-requires : goal.encipher_one-chain-requires
encipher_one-chain-requires c = omega (arith, ap (λ x. (bench_of x).text.size) c.loop-i.invariant.stays, c.loop-i.invariant.count)

pub loop-i-preserved : goal.loop-i-preserved
loop-i-preserved c =
    let l = c.args.lease.now in
    let old = c.loop-i.lease in
    let new = c.encipher_one-chain.new.lease in
    let text = text_of (bench_of old).text in
    let i = c.loop-i.i in
    let count = length c.text.result.now / 8 in
    let bytes = to_be_bytes w64 c.encipher_one-chain.result in
    let inv = c.loop-i.invariant in
    let e = ede_bytes (bench_of l).schedules in
    let long : length text ≡ 8 * count = inv.size ∙ inv.count in
    let size : length (put_at text (8 * i) bytes) ≡ length text = length-put text bytes (8 * i) (omega (arith, long)) refl in
    let s = stepped l old new (put_at text (8 * i) bytes) inv.stays inv.size c.encipher_one-chain.ensures.lease (size ∙ inv.size) in
    let block : bytes ≡ e (xor (take 8 (drop (8 * i) text)) (to_be_bytes w64 c.loop-i.chain))
    = c.encipher_one-chain.ensures.block ∙ ap (λ x. ede_bytes (bench_of x).schedules (xor (take 8 (drop (8 * i) text)) (to_be_bytes w64 c.loop-i.chain))) inv.stays in
    record {
      stays = s.stays ∙ sym (ap (λ t. holding l (with_text_of (bench_of l) t)) s.text);
      size = ap length s.text ∙ size ∙ inv.size;
      count = inv.count;
      value = subst (λ t. pieces (i + 1) 8 t ++ cbc e bytes (pieces (count - (i + 1)) 8 (drop (8 * (i + 1)) t)) ≡ cbc e c.args.start.now (blocks (text_of (bench_of l).text))) (sym s.text)
          (text-more count i text bytes (cbc e (to_be_bytes w64 c.loop-i.chain)) (cbc e bytes) _ (omega arith) long refl
          (cbc-step-as e (to_be_bytes w64 c.loop-i.chain) (take 8 (drop (8 * i) text)) bytes block) inv.value);
    }

pub returns : goal.returns
returns c =
    let l = c.args.lease.now in
    let inv = c.loop-i.invariant in
    let done = cbc-done (ede_bytes (bench_of l).schedules) (to_be_bytes w64 c.loop-i.chain) (length c.text.result.now / 8) c.loop-i.i (text_of (bench_of c.loop-i.lease).text) _ (omega arith) (inv.size ∙ inv.count) inv.value in
    record {
      text = done;
      keys = λ a b d of. cbc-keys (bench_of l).schedules a b d c.args.start.now _ (blocks (text_of (bench_of l).text)) of done;
      stays = inv.stays;
    }
