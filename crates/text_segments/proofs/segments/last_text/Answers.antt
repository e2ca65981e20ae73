use Rattle.std.proofs.Common.{◌≡◌, ◌∙◌, ◌++◌, length, drop, ap, subst, sym, arith, [], ◌∷◌, None, Some}
use Rattle.std.specs.Prelude.{OnErr, OnOk, is_none}
use Rattle.std.proofs.lemmas.List.{length-append}
use Rattle.cca_vectors.specs.Checks.{check, first_failing}
use Rattle.des_blocks.specs.Texts.{text_in}
use Rattle.key_cells.specs.Lease.{bench_of, holding}
use Rattle.verb_rules.specs.Keys.{opened}
use Rattle.verb_rules.specs.LengthChecks.{text_checks}
use Rattle.verb_rules.specs.Rules.{Judges}
use Rattle.cipher_verbs.specs.CipherTexts.{deciphered_text, enciphered_text}
use Rattle.text_segments.specs.Segments.{last_text, last_use}
use Rattle.text_segments.proofs.CodeLemmas.{same_key}
use Rattle.text_segments.proofs.PlaceLemmas.{cleared_is, decipher_passes, encipher_passes, is_encipher, last_enciphered}
use Rattle.text_segments.proofs.segments.last_text.Goals as goal

pub decipher-requires-clause-length : goal.decipher-requires-clause-length
decipher-requires-clause-length c =
    let carried = c.args.chain.now.carried in
    let size = (bench_of c.args.lease.now).text.size in
    decipher_passes (length carried) size (bench_of c.put_carried.new.lease).text.size c.put_carried.ensures.size c.put_carried.ensures.few
    (subst (λ m. first_failing (text_checks (last_use m c.args.padding (length carried)) size) ≡ None) c.in-Decipher.is c.requires.text)

pub encipher-requires : goal.encipher-requires
encipher-requires c =
    let carried = c.args.chain.now.carried in
    let size = (bench_of c.args.lease.now).text.size in
    record {
      halves = c.requires.halves;
      length = encipher_passes c.args.padding (length carried) size (bench_of c.put_carried.new.lease).text.size c.put_carried.ensures.size
          c.put_carried.ensures.few
          (subst (λ m. first_failing (text_checks (last_use m c.args.padding (length carried)) size) ≡ None)
          (is_encipher c.args.mode c.requires.mode c.in_default.not-Decipher) c.requires.text);
    }

-- what is deciphered is the text that the segment gives
same_text : (c : goal.After-decipher)
    → deciphered_text (opened (bench_of c.put_carried.new.lease) c.args.key.now) c.args.chain.now.block c.args.padding
    (text_in c.put_carried.new.lease)
    ≡ last_text (opened (bench_of c.args.lease.now) c.args.key.now) c.args.mode c.args.chain.now c.args.padding (text_in c.args.lease.now)
same_text c =
    let key = c.args.key.now in
    let start = c.args.chain.now.block in
    let clear = opened (bench_of c.args.lease.now) key in
    ap (λ k. deciphered_text k start c.args.padding (text_in c.put_carried.new.lease))
    (same_key c.args.lease.now c.put_carried.new.lease (bench_of c.put_carried.new.lease).text key c.put_carried.ensures.stays)
    ∙ ap (deciphered_text clear start c.args.padding) c.put_carried.ensures.text
    ∙ ap (λ m. last_text clear m c.args.chain.now c.args.padding (text_in c.args.lease.now)) (sym c.in-Decipher.is)

pub returns-in-Decipher-clause-judges : goal.returns-in-Decipher-clause-judges
returns-in-Decipher-clause-judges c =
    subst (λ o. Judges (check 31 (is_none o) ∷ []) c.decipher.result) (same_text c) c.decipher.ensures.judges

pub returns-in-Decipher-clause-text : goal.returns-in-Decipher-clause-text
returns-in-Decipher-clause-text c =
    subst (λ o. OnOk c.decipher.result (o ≡ Some (text_in c.decipher.new.lease))) (same_text c) c.decipher.ensures.text

pub returns-in-Decipher-clause-refused : goal.returns-in-Decipher-clause-refused
returns-in-Decipher-clause-refused c =
    let carried = c.args.chain.now.carried in
    let text = text_in c.args.lease.now in
    let place = (bench_of c.args.lease.now).text in
    let one = (bench_of c.put_carried.new.lease).text in
    let size : one.size ≡ length (carried ++ text)
    = omega (arith, c.put_carried.ensures.size, c.put_carried.ensures.long, length-append carried text) in
    let past = subst (λ n. drop n one.bytes ≡ drop n place.bytes) size c.put_carried.ensures.past in
    subst (λ t. OnErr c.decipher.result ((bench_of c.decipher.new.lease).text ≡ t)) (cleared_is place one (length (carried ++ text)) size past)
    c.decipher.ensures.refused

pub returns-in-Decipher-clause-stays : goal.returns-in-Decipher-clause-stays
returns-in-Decipher-clause-stays c =
    let new = bench_of c.decipher.new.lease in
    c.decipher.ensures.stays
    ∙ ap (λ l. holding l (record (bench_of l) { key = new.key; schedules = new.schedules; text = new.text })) c.put_carried.ensures.stays

pub returns-in_default : goal.returns-in_default
returns-in_default c =
    let key = c.args.key.now in
    let chain = c.args.chain.now in
    let text = text_in c.args.lease.now in
    let clear = opened (bench_of c.args.lease.now) key in
    let new = bench_of c.encipher.new.lease in
    let gives : last_text clear c.args.mode chain c.args.padding text ≡ Some (text_in c.encipher.new.lease)
    = last_enciphered c.args.mode c.requires.mode c.in_default.not-Decipher clear chain c.args.padding text
    ∙ ap Some (sym (c.encipher.ensures.text
    ∙ ap (λ k. enciphered_text k chain.block c.args.padding (text_in c.put_carried.new.lease))
    (same_key c.args.lease.now c.put_carried.new.lease (bench_of c.put_carried.new.lease).text key c.put_carried.ensures.stays)
    ∙ ap (enciphered_text clear chain.block c.args.padding) c.put_carried.ensures.text)) in
    record {
      judges = ap (λ o. first_failing (check 31 (is_none o) ∷ [])) gives;
      text = gives;
      refused = tt;
      room = c.encipher.ensures.room;
      stays = c.encipher.ensures.stays
          ∙ ap (λ l. holding l (record (bench_of l) { key = new.key; schedules = new.schedules; text = new.text })) c.put_carried.ensures.stays;
    }
