use Rattle.std.proofs.Common.{◌≡◌, ◌∙◌, length, take, ap, subst, sym}
use Rattle.std.proofs.lemmas.Bool.{eqb-true}
use Rattle.cca_vectors.specs.Vectors.{length_of}
use Rattle.des_blocks.specs.Modes.{zero_block}
use Rattle.des_blocks.specs.Schedules.{IsOf, schedule_at}
use Rattle.key_cells.specs.Lease.{bench_of}
use Rattle.multi_encipher.proofs.SealLaws.{all_zeros}
use Rattle.verb_rules.specs.Keys.{opened}
use Rattle.verb_rules.specs.Scheduled.{HoldKey, left_key, right_key}
use Rattle.verb_rules.proofs.KeyLemmas.{single_held}
use Rattle.verb_rules.proofs.ModeLemmas.{e-alone, ede-key, key_length}
use Rattle.cipher_verbs.proofs.testing.key_test.Goals as goal

pub returns-then-is_single-clause-value : goal.returns-then-is_single-clause-value
returns-then-is_single-clause-value c =
    let key = (opened (bench_of c.args.lease.now) c.args.key.now).key in
    let short : length_of c.args.key.now.token.vector ≡ 8 = eqb-true (length_of c.args.key.now.token.vector) 8 (sym c.is_single.ensures ∙ c.if-is_single.true) in
    let long : length key ≡ 8 = c.schedule_key.ensures.length.size ∙ short in
    let held = single_held (bench_of c.schedule_key.new.lease).schedules key long c.schedule_key.ensures.schedules in
    c.front.ensures
    ∙ ap (take 4) (c.encipher_block.ensures.bytes key (subst (λ s. IsOf (schedule_at s 0) key) (sym c.schedules.ensures) held)
    ∙ e-alone key zero_block long)

pub returns-else-is_single-clause-value : goal.returns-else-is_single-clause-value
returns-else-is_single-clause-value c =
    let key = (opened (bench_of c.args.lease.now) c.args.key.now).key in
    c.front-else-is_single.ensures
    ∙ ap (take 4) (c.ede.ensures.bytes (left_key key) (right_key key) (left_key key)
    (subst (λ s. HoldKey s key) (sym c.schedules-else-is_single.ensures) c.schedule_key.ensures.schedules)
    ∙ ede-key key zero_block (key_length c.args.key.now.token.vector key c.schedule_key.ensures.length) (all_zeros 8))
