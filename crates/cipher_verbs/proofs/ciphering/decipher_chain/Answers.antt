use Rattle.std.proofs.Common.{◌≡◌, ◌∙◌, ap, length, sym}
use Rattle.std.proofs.lemmas.Bool.{eqb-true}
use Rattle.cca_vectors.specs.Vectors.{length_of}
use Rattle.des_blocks.specs.Texts.{uncbc_text, text_in}
use Rattle.des_blocks.specs.TripleDes.{deciphered}
use Rattle.key_cells.specs.Lease.{bench_of}
use Rattle.verb_rules.specs.Keys.{opened}
use Rattle.verb_rules.specs.Scheduled.{left_key, right_key}
use Rattle.verb_rules.proofs.KeyLemmas.{single_held}
use Rattle.verb_rules.proofs.ModeLemmas.{ded_of, deciphered_chain, deciphered_single, key_length}
use Rattle.cipher_verbs.proofs.ciphering.decipher_chain.Goals as goal

pub returns-then-is_single-clause-text : goal.returns-then-is_single-clause-text
returns-then-is_single-clause-text c =
    let key = (opened (bench_of c.args.lease.now) c.args.key.now).key in
    let short : length_of c.args.key.now.token.vector ≡ 8 = eqb-true (length_of c.args.key.now.token.vector) 8 (sym c.is_single.ensures ∙ c.if-is_single.true) in
    let long : length key ≡ 8 = c.schedule_key.ensures.length.size ∙ short in
    c.cbc_decipher_single.ensures.key key (single_held (bench_of c.schedule_key.new.lease).schedules key long c.schedule_key.ensures.schedules)
    ∙ (ap (λ l. uncbc_text (deciphered key) c.args.start.now (text_in l)) c.schedule_key.ensures.stays
    ∙ deciphered_single key c.args.start.now (text_in c.args.lease.now) long)

pub returns-else-is_single-clause-text : goal.returns-else-is_single-clause-text
returns-else-is_single-clause-text c =
    let key = (opened (bench_of c.args.lease.now) c.args.key.now).key in
    c.cbc_decipher.ensures.keys (left_key key) (right_key key) (left_key key) c.schedule_key.ensures.schedules
    ∙ (ap (λ l. uncbc_text (ded_of key) c.args.start.now (text_in l)) c.schedule_key.ensures.stays
    ∙ deciphered_chain key c.args.start.now (text_in c.args.lease.now) (key_length c.args.key.now.token.vector key c.schedule_key.ensures.length))
