use Rattle.std.proofs.Common.{◌≡◌, ◌+◌, ◌*◌, ◌/◌, ◌≤◌, length, sym, ap, ◌∙◌, refl, arith}
use Rattle.std.specs.Int.{to_be_bytes, w64}
use Rattle.key_cells.specs.Bench.{text_of, with_text_of}
use Rattle.key_cells.specs.Lease.{bench_of, holding}
use Rattle.des_core.specs.Chains.{part_at, with_part}
use Rattle.des_blocks.specs.Texts.{uncbc_from, uncbc_text}
use Rattle.des_core.specs.Ciphers.{undone_bytes}
use Rattle.des_core.proofs.ChainLemmas.{lease-again, lease-begun, length-undone_bytes, start-bytes}
use Rattle.des_core.proofs.PartLemmas.{from-more, length-part}
use Rattle.des_core.proofs.chaining.decipher_text.Goals as goal

pub loop-part-init : goal.loop-part-init
loop-part-init c =
    let text = text_of (bench_of c.args.lease.now).text in
    record {
      stays = lease-begun c.args.lease.now;
      size = sym (ap length c.text-size.ensures.value) ∙ c.text-size.ensures.size;
      parts = omega (arith, c.text-size.ensures.size);
      value = ap (λ chain. uncbc_text (undone_bytes c.args.cipher (bench_of c.args.lease.now).schedules) chain text)
          (start-bytes c.args.start.now c.from_be_bytes-chain.result c.told-start c.fits-start c.from_be_bytes-chain.ensures);
    }

pub decipher_part-chain-requires : goal.decipher_part-chain-requires
decipher_part-chain-requires c = omega (arith, ap (λ x. (bench_of x).text.size) c.loop-part.invariant.stays, c.loop-part.invariant.parts)

pub loop-part-preserved : goal.loop-part-preserved
loop-part-preserved c =
    let l = c.args.lease.now in
    let old = c.loop-part.lease in
    let new = c.decipher_part-chain.new.lease in
    let inv = c.loop-part.invariant in
    let text = text_of (bench_of old).text in
    let now = text_of (bench_of new).text in
    let at = 1024 * c.loop-part.part in
    let d = undone_bytes c.args.cipher (bench_of l).schedules in
    let chain = to_be_bytes w64 c.loop-part.chain in
    let keys : (bench_of old).schedules ≡ (bench_of l).schedules = ap (λ x. (bench_of x).schedules) inv.stays in
    let within : at + 1024 ≤ length text = omega (arith, inv.size, inv.parts) in
    let put : now ≡ with_part text at (uncbc_text d chain (part_at text at))
    = c.decipher_part-chain.ensures.text ∙ ap (λ ks. with_part text at (uncbc_text (undone_bytes c.args.cipher ks) chain (part_at text at))) keys in
    let next : 1024 * (c.loop-part.part + 1) ≡ at + 1024 = omega arith in
    record {
      stays = c.decipher_part-chain.ensures.stays ∙ ap (λ x. holding x (with_text_of (bench_of x) now)) inv.stays ∙ lease-again l text now inv.size;
      size = ap length put ∙ length-part d (length-undone_bytes c.args.cipher (bench_of l).schedules) text chain at within refl ∙ inv.size;
      parts = inv.parts;
      value = ap (λ k. uncbc_from d (to_be_bytes w64 c.decipher_part-chain.result) k now) next
          ∙ from-more d (length-undone_bytes c.args.cipher (bench_of l).schedules) text chain (to_be_bytes w64 c.decipher_part-chain.result) now at within refl c.decipher_part-chain.ensures.block put ∙ inv.value;
    }

pub decipher_pairs-requires-clause-place : goal.decipher_pairs-requires-clause-place
decipher_pairs-requires-clause-place c = omega (arith, ap (λ x. (bench_of x).text.size) c.loop-part.invariant.stays, c.text-size.ensures.size)

pub decipher_pairs-requires-clause-whole : goal.decipher_pairs-requires-clause-whole
decipher_pairs-requires-clause-whole c = omega (arith, ap (λ x. (bench_of x).text.size) c.loop-part.invariant.stays, c.text-size.ensures.size, c.requires)

pub decipher_end-requires-clause-place : goal.decipher_end-requires-clause-place
decipher_end-requires-clause-place c = omega (arith, ap (λ x. (bench_of x).text.size) c.loop-part.invariant.stays, c.text-size.ensures.size)

pub decipher_end-requires-clause-most : goal.decipher_end-requires-clause-most
decipher_end-requires-clause-most c = omega (arith, ap (λ x. (bench_of x).text.size) c.loop-part.invariant.stays, c.text-size.ensures.size)

pub decipher_end-requires-clause-whole : goal.decipher_end-requires-clause-whole
decipher_end-requires-clause-whole c = omega (arith, ap (λ x. (bench_of x).text.size) c.loop-part.invariant.stays, c.text-size.ensures.size, c.requires)

pub returns-then-size-lt-FEWEST-clause-text : goal.returns-then-size-lt-FEWEST-clause-text
returns-then-size-lt-FEWEST-clause-text c =
    let l = c.args.lease.now in
    let old = c.loop-part.lease in
    let inv = c.loop-part.invariant in
    let text = text_of (bench_of old).text in
    let parts = length c.text-size.result.now / 1024 in
    let keys : (bench_of old).schedules ≡ (bench_of l).schedules = ap (λ x. (bench_of x).schedules) inv.stays in
    let all : c.loop-part.part ≡ parts = omega (arith, c.loop-part-test.false) in
    c.decipher_pairs.ensures.text
    ∙ ap (λ ks. uncbc_from (undone_bytes c.args.cipher ks) (to_be_bytes w64 c.loop-part.chain) (1024 * parts) text) keys
    ∙ ap (λ k. uncbc_from (undone_bytes c.args.cipher (bench_of l).schedules) (to_be_bytes w64 c.loop-part.chain) (1024 * k) text) (sym all)
    ∙ inv.value

pub returns-then-size-lt-FEWEST-clause-stays : goal.returns-then-size-lt-FEWEST-clause-stays
returns-then-size-lt-FEWEST-clause-stays c =
    let l = c.args.lease.now in
    let old = c.loop-part.lease in
    let inv = c.loop-part.invariant in
    let w = text_of (bench_of c.decipher_pairs.new.lease).text in
    c.decipher_pairs.ensures.stays ∙ ap (λ x. holding x (with_text_of (bench_of x) w)) inv.stays ∙ lease-again l (text_of (bench_of old).text) w inv.size

pub returns-else-size-lt-FEWEST-clause-text : goal.returns-else-size-lt-FEWEST-clause-text
returns-else-size-lt-FEWEST-clause-text c =
    let l = c.args.lease.now in
    let old = c.loop-part.lease in
    let inv = c.loop-part.invariant in
    let text = text_of (bench_of old).text in
    let parts = length c.text-size.result.now / 1024 in
    let keys : (bench_of old).schedules ≡ (bench_of l).schedules = ap (λ x. (bench_of x).schedules) inv.stays in
    let all : c.loop-part.part ≡ parts = omega (arith, c.loop-part-test.false) in
    c.decipher_end.ensures.text
    ∙ ap (λ ks. uncbc_from (undone_bytes c.args.cipher ks) (to_be_bytes w64 c.loop-part.chain) (1024 * parts) text) keys
    ∙ ap (λ k. uncbc_from (undone_bytes c.args.cipher (bench_of l).schedules) (to_be_bytes w64 c.loop-part.chain) (1024 * k) text) (sym all)
    ∙ inv.value

pub returns-else-size-lt-FEWEST-clause-stays : goal.returns-else-size-lt-FEWEST-clause-stays
returns-else-size-lt-FEWEST-clause-stays c =
    let l = c.args.lease.now in
    let old = c.loop-part.lease in
    let inv = c.loop-part.invariant in
    let w = text_of (bench_of c.decipher_end.new.lease).text in
    c.decipher_end.ensures.stays ∙ ap (λ x. holding x (with_text_of (bench_of x) w)) inv.stays ∙ lease-again l (text_of (bench_of old).text) w inv.size
