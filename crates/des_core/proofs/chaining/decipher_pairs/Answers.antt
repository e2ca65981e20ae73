use Rattle.std.proofs.Common.{◌≡◌, ◌-◌, ◌+◌, ◌/◌, ◌*◌, ◌≤◌, length, take, drop, sym, ap, ◌∙◌, refl, arith}
use Rattle.std.specs.Int.{to_be_bytes, w64}
use Rattle.std.proofs.lemmas.List.{length-drop, length-take}
use Rattle.key_cells.specs.Bench.{text_of, with_text_of}
use Rattle.key_cells.specs.Lease.{bench_of, holding}
use Rattle.des_blocks.specs.Bits.{xor}
use Rattle.des_blocks.specs.Modes.{blocks, uncbc}
use Rattle.des_blocks.specs.Texts.{put_at}
use Rattle.des_core.specs.Ciphers.{undone_bytes}
use Rattle.des_core.proofs.ChainLemmas.{last-one, lease-begun, length-put, length-xor_block, stepped, two-more, uncbc-done}
use Rattle.des_core.proofs.PartLemmas.{pairs-begun, pairs-done}
use Rattle.des_core.proofs.chaining.decipher_pairs.Goals as goal

pub loop-i-init : goal.loop-i-init
loop-i-init c =
    let text = text_of (bench_of c.args.lease.now).text in
    let size : length text ≡ (bench_of c.args.lease.now).text.size = sym (ap length c.text.ensures.value) ∙ c.text.ensures.size in
    let at : 16 * (c.args.at / 16) ≡ c.args.at = omega (arith, c.requires.pairs) in
    record {
      stays = lease-begun c.args.lease.now;
      size = size;
      count = omega (arith, c.text.ensures.size, c.requires.whole);
      value = pairs-begun (undone_bytes c.args.cipher (bench_of c.args.lease.now).schedules) (to_be_bytes w64 c.args.start) (length c.text.result.now / 8) (c.args.at / 16) c.args.at text at (omega (arith, size, c.text.ensures.size, c.requires.whole));
    }

pub decipher_two-chain-requires : goal.decipher_two-chain-requires
decipher_two-chain-requires c = omega (arith, ap (λ x. (bench_of x).text.size) c.loop-i.invariant.stays, c.loop-i.invariant.count)

pub loop-i-preserved : goal.loop-i-preserved
loop-i-preserved c =
    let l = c.args.lease.now in
    let old = c.loop-i.lease in
    let new = c.decipher_two-chain.new.lease in
    let text = text_of (bench_of old).text in
    let i = c.loop-i.i in
    let count = length c.text.result.now / 8 in
    let chain = to_be_bytes w64 c.loop-i.chain in
    let inv = c.loop-i.invariant in
    let p = take 8 (drop (16 * i) text) in
    let q = take 8 (drop (16 * i + 8) text) in
    let keys : (bench_of old).schedules ≡ (bench_of l).schedules = ap (λ x. (bench_of x).schedules) inv.stays in
    let long : length text ≡ 8 * count = inv.size ∙ inv.count in
    let p_long : length p ≡ 8 = omega (arith, long, length-take 8 (drop (16 * i) text), length-drop (16 * i) text) in
    let b1 = xor (undone_bytes c.args.cipher (bench_of l).schedules p) chain in
    let b2 = xor (undone_bytes c.args.cipher (bench_of l).schedules q) p in
    let e1 = length-xor_block c.args.cipher (bench_of l).schedules p chain refl in
    let e2 = length-xor_block c.args.cipher (bench_of l).schedules q p p_long in
    let w = put_at (put_at text (16 * i) b1) (16 * i + 8) b2 in
    let size1 : length (put_at text (16 * i) b1) ≡ length text = length-put text b1 (16 * i) (omega (arith, long)) e1 in
    let size : length w ≡ length text = length-put (put_at text (16 * i) b1) b2 (16 * i + 8) (omega (arith, long, size1)) e2 ∙ size1 in
    let put : new ≡ holding old (with_text_of (bench_of old) w)
    = c.decipher_two-chain.ensures.lease
    ∙ ap (λ ks. holding old (with_text_of (bench_of old) (put_at (put_at text (16 * i) (xor (undone_bytes c.args.cipher ks p) chain)) (16 * i + 8) (xor (undone_bytes c.args.cipher ks q) p)))) keys in
    let s = stepped l old new w inv.stays inv.size put (size ∙ inv.size) in
    record {
      stays = s.stays ∙ sym (ap (λ t. holding l (with_text_of (bench_of l) t)) s.text);
      size = ap length s.text ∙ size ∙ inv.size;
      count = inv.count;
      value = two-more (undone_bytes c.args.cipher (bench_of l).schedules) count i text chain (to_be_bytes w64 c.decipher_two-chain.result) (text_of (bench_of new).text) _ (omega arith) long e1 e2 c.decipher_two-chain.ensures.block s.text inv.value;
    }

pub returns-then-count-eq1-clause-text : goal.returns-then-count-eq1-clause-text
returns-then-count-eq1-clause-text c =
    let l = c.args.lease.now in
    let old = c.loop-i.lease in
    let text = text_of (bench_of old).text in
    let count = length c.text.result.now / 8 in
    let chain = to_be_bytes w64 c.loop-i.chain in
    let inv = c.loop-i.invariant in
    let at = 8 * (count - 1) in
    let p = take 8 (drop at text) in
    let b = xor (undone_bytes c.args.cipher (bench_of l).schedules p) chain in
    let odd : 2 * c.loop-i.i + 1 ≡ count = omega (arith, c.if-count-eq1.true, c.loop-i-test.false) in
    let keys : (bench_of old).schedules ≡ (bench_of l).schedules = ap (λ x. (bench_of x).schedules) inv.stays in
    let long : length text ≡ 8 * count = inv.size ∙ inv.count in
    let eight = length-xor_block c.args.cipher (bench_of l).schedules p chain refl in
    let size : length (put_at text at b) ≡ length text = length-put text b at (omega (arith, long, odd)) eight in
    let put : c.decipher_one.new.lease ≡ holding old (with_text_of (bench_of old) (put_at text at b))
    = c.decipher_one.ensures.lease ∙ ap (λ ks. holding old (with_text_of (bench_of old) (put_at text at (xor (undone_bytes c.args.cipher ks p) chain)))) keys in
    let s = stepped l old c.decipher_one.new.lease (put_at text at b) inv.stays inv.size put (size ∙ inv.size) in
    let begun = text_of (bench_of c.args.lease.now).text in
    let here : 16 * (c.args.at / 16) ≡ c.args.at = omega (arith, c.requires.pairs) in
    let within : c.args.at ≤ length begun = omega (arith, ap length c.text.ensures.value, c.text.ensures.size, c.requires.place) in
    let done = pairs-done (c.args.at / 16) c.args.at begun (uncbc (undone_bytes c.args.cipher (bench_of c.args.lease.now).schedules) (to_be_bytes w64 c.args.start) (blocks (drop c.args.at begun))) here within in
    last-one (undone_bytes c.args.cipher (bench_of l).schedules) count (2 * c.loop-i.i) at text chain (text_of (bench_of c.decipher_one.new.lease).text) _ odd (omega (arith, odd)) long eight s.text inv.value ∙ done

pub returns-then-count-eq1-clause-stays : goal.returns-then-count-eq1-clause-stays
returns-then-count-eq1-clause-stays c =
    let l = c.args.lease.now in
    let old = c.loop-i.lease in
    let text = text_of (bench_of old).text in
    let count = length c.text.result.now / 8 in
    let chain = to_be_bytes w64 c.loop-i.chain in
    let inv = c.loop-i.invariant in
    let at = 8 * (count - 1) in
    let b = xor (undone_bytes c.args.cipher (bench_of old).schedules (take 8 (drop at text))) chain in
    let odd : 2 * c.loop-i.i + 1 ≡ count = omega (arith, c.if-count-eq1.true, c.loop-i-test.false) in
    let long : length text ≡ 8 * count = inv.size ∙ inv.count in
    let size : length (put_at text at b) ≡ length text = length-put text b at (omega (arith, long, odd)) (length-xor_block c.args.cipher (bench_of old).schedules (take 8 (drop at text)) chain refl) in
    let s = stepped l old c.decipher_one.new.lease (put_at text at b) inv.stays inv.size c.decipher_one.ensures.lease (size ∙ inv.size) in
    s.stays ∙ sym (ap (λ t. holding l (with_text_of (bench_of l) t)) s.text)

pub returns-else-count-eq1-clause-text : goal.returns-else-count-eq1-clause-text
returns-else-count-eq1-clause-text c =
    let inv = c.loop-i.invariant in
    let count = length c.text.result.now / 8 in
    let even : 2 * c.loop-i.i ≡ count = omega (arith, c.if-count-eq1.false, c.loop-i-test.false) in
    let begun = text_of (bench_of c.args.lease.now).text in
    let here : 16 * (c.args.at / 16) ≡ c.args.at = omega (arith, c.requires.pairs) in
    let within : c.args.at ≤ length begun = omega (arith, ap length c.text.ensures.value, c.text.ensures.size, c.requires.place) in
    let done = pairs-done (c.args.at / 16) c.args.at begun (uncbc (undone_bytes c.args.cipher (bench_of c.args.lease.now).schedules) (to_be_bytes w64 c.args.start) (blocks (drop c.args.at begun))) here within in
    uncbc-done (undone_bytes c.args.cipher (bench_of c.args.lease.now).schedules) (to_be_bytes w64 c.loop-i.chain) count (2 * c.loop-i.i) (text_of (bench_of c.loop-i.lease).text) _ even (inv.size ∙ inv.count) inv.value ∙ done
