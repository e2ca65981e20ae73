use Rattle.std.proofs.Common.{◌≡◌, ◌∙◌, [], ◌∷◌, ap, subst, sym, arith, Some}
use Rattle.std.specs.Prelude.{OnErr, OnOk, is_none}
use Rattle.cca_vectors.specs.Checks.{check, first_failing}
use Rattle.des_blocks.specs.Modes.{une, unpad}
use Rattle.des_blocks.specs.Texts.{text_in, uncbc_text}
use Rattle.key_cells.specs.Lease.{bench_of}
use Rattle.verb_rules.specs.Keys.{opened}
use Rattle.verb_rules.specs.Rules.{Judges}
use Rattle.cipher_verbs.specs.CipherTexts.{deciphered_text, unpadded}
use Rattle.cipher_verbs.proofs.PaddingLemmas.{changed_text, judged, same_cleared, whole_length}
use Rattle.cipher_verbs.proofs.ciphering.decipher.Goals as goal

pub decipher_blocks-requires-clause-halves : goal.decipher_blocks-requires-clause-halves
decipher_blocks-requires-clause-halves c = c.requires.halves

pub decipher_blocks-requires-clause-whole : goal.decipher_blocks-requires-clause-whole
decipher_blocks-requires-clause-whole c = (whole_length (bench_of c.args.lease.now).text.size c.requires.length).whole

pub remove_padding-requires-clause-blocks : goal.remove_padding-requires-clause-blocks
remove_padding-requires-clause-blocks c =
    omega (arith, (whole_length (bench_of c.args.lease.now).text.size c.requires.length).some, ap (λ t. t.size) c.decipher_blocks.ensures.place.0)

pub remove_padding-requires-clause-room : goal.remove_padding-requires-clause-room
remove_padding-requires-clause-room c =
    omega (arith, (whole_length (bench_of c.args.lease.now).text.size c.requires.length).room, ap (λ t. t.size) c.decipher_blocks.ensures.place.0)

-- what is deciphered, without padding
plain : (c : goal.In-None)
    → deciphered_text (opened (bench_of c.args.lease.now) c.args.key.now) c.args.start.now c.args.padding (text_in c.args.lease.now)
    ≡ Some (text_in c.decipher_blocks.new.lease)
plain c =
    ap (λ p. unpadded p (uncbc_text (une (opened (bench_of c.args.lease.now) c.args.key.now).key) c.args.start.now (text_in c.args.lease.now)))
    c.in-None.is
    ∙ sym (ap Some c.decipher_blocks.ensures.text)

pub returns-in-None-clause-judges : goal.returns-in-None-clause-judges
returns-in-None-clause-judges c = ap (λ o. first_failing (check 31 (is_none o) ∷ [])) (plain c)

pub returns-in-None-clause-text : goal.returns-in-None-clause-text
returns-in-None-clause-text c = plain c

pub returns-in-None-clause-room : goal.returns-in-None-clause-room
returns-in-None-clause-room c =
    omega (arith, (whole_length (bench_of c.args.lease.now).text.size c.requires.length).room, ap (λ t. t.size) c.decipher_blocks.ensures.place.0)

pub returns-in-None-clause-stays : goal.returns-in-None-clause-stays
returns-in-None-clause-stays c = c.decipher_blocks.ensures.stays

-- what is deciphered, with padding
padded : (c : goal.After-remove_padding)
    → unpad (text_in c.decipher_blocks.new.lease)
    ≡ deciphered_text (opened (bench_of c.args.lease.now) c.args.key.now) c.args.start.now c.args.padding (text_in c.args.lease.now)
padded c =
    ap unpad c.decipher_blocks.ensures.text
    ∙ sym (ap (λ p. unpadded p (uncbc_text (une (opened (bench_of c.args.lease.now) c.args.key.now).key) c.args.start.now (text_in c.args.lease.now)))
    c.in-X923.is)

pub returns-in-X923-clause-judges : goal.returns-in-X923-clause-judges
returns-in-X923-clause-judges c =
    subst (λ o. Judges (check 31 (is_none o) ∷ []) c.remove_padding.result) (padded c)
    (judged (unpad (text_in c.decipher_blocks.new.lease)) (text_in c.remove_padding.new.lease) c.remove_padding.result
    c.remove_padding.ensures.text c.remove_padding.ensures.refused c.remove_padding.ensures.rule)

pub returns-in-X923-clause-text : goal.returns-in-X923-clause-text
returns-in-X923-clause-text c =
    subst (λ o. OnOk c.remove_padding.result (o ≡ Some (text_in c.remove_padding.new.lease))) (padded c) c.remove_padding.ensures.text

pub returns-in-X923-clause-refused : goal.returns-in-X923-clause-refused
returns-in-X923-clause-refused c =
    subst (λ t. OnErr c.remove_padding.result ((bench_of c.remove_padding.new.lease).text ≡ t))
    (same_cleared (bench_of c.args.lease.now).text (bench_of c.decipher_blocks.new.lease).text (text_in c.decipher_blocks.new.lease)
    c.decipher_blocks.ensures.place.0 c.decipher_blocks.ensures.place.1) c.remove_padding.ensures.cleared

pub returns-in-X923-clause-room : goal.returns-in-X923-clause-room
returns-in-X923-clause-room c = c.remove_padding.ensures.room

pub returns-in-X923-clause-stays : goal.returns-in-X923-clause-stays
returns-in-X923-clause-stays c =
    changed_text c.args.lease.now c.decipher_blocks.new.lease c.remove_padding.new.lease c.decipher_blocks.ensures.stays
    c.remove_padding.ensures.stays
