-- The law of cuttings, by induction over the segments.
use Rattle.std.proofs.Common.{◌≡◌, ◌∙◌, ◌==◌, ℕ, ◌≤◌, Bool, true, false, List, [], ◌∷◌, ◌++◌, length, take, drop, refl, sym, ap, arith, if◌then◌else◌, Some}
use Rattle.std.specs.Prelude.{option_map}
use Rattle.std.proofs.lemmas.List.{append_assoc, length-append}
use Rattle.des_blocks.specs.Modes.{blocks, cbc, cbc_mac, e, fill, joined, last_block, une, zero_block}
use Rattle.des_blocks.specs.Texts.{cbc_text, uncbc_text}
use Rattle.des_blocks.specs.TripleDes.{ded, deciphered, ede, enciphered}
use Rattle.des_blocks.proofs.ValueLemmas.{bytes-deciphered, bytes-enciphered}
use Rattle.key_tokens.specs.Denotes.{ClearKey}
use Rattle.verb_rules.specs.declared.lengths.MacRule.{MacRule}
use Rattle.verb_rules.specs.declared.lengths.MacRule.TheVariants.{X99, X919}
use Rattle.cipher_verbs.specs.CipherTexts.{padded, unpadded}
use Rattle.cipher_verbs.specs.declared.padding.Pad.{Pad}
use Rattle.cipher_verbs.specs.declared.padding.Pad.TheVariants as padding
use Rattle.mac_verbs.specs.Codes.{code_of}
use Rattle.text_segments.specs.declared.chains.Chain.{Chain}
use Rattle.text_segments.specs.declared.modes.Mode.TheVariants.{Encipher, Decipher, Mac}
use Rattle.text_segments.specs.Chains.{first_chain}
use Rattle.text_segments.specs.Segments.{chain_after, code_cipher, finished, segment_text, whole_part}
use Rattle.text_segments.specs.Cuttings.{CutCodesAreWhole, CutTextsAreWhole, chain_through, text_through}
use Rattle.text_segments.proofs.BlockLemmas.{blocks-eight, fill-append, last_block_length, pad-append, uncbc_text_length}
use Rattle.text_segments.proofs.CutLemmas.{EndsAlone, code_step, deciphered_step, enciphered_step, unpad-append}
use Rattle.text_segments.proofs.PlaceLemmas.{decipher_length}

-- ---- the cipher gives eight bytes

deciphered-eight : (whole : Bool) (key block : List ℕ) → length (if whole then deciphered key block else ded (take 8 key) (drop 8 key) (take 8 key) block) ≡ 8
unfolding ded
deciphered-eight true key block = (bytes-deciphered key block).size
deciphered-eight false key block = (bytes-deciphered (take 8 key) _).size

pub une_length : (key block : List ℕ) → length (une key block) ≡ 8
unfolding une
une_length key block = deciphered-eight (length key == 8) key block

enciphered-eight : (whole : Bool) (key block : List ℕ) → length (if whole then enciphered key block else ede (take 8 key) (drop 8 key) (take 8 key) block) ≡ 8
unfolding ede
enciphered-eight true key block = (bytes-enciphered key block).size
enciphered-eight false key block = (bytes-enciphered (take 8 key) _).size

pub e_length : (key block : List ℕ) → length (e key block) ≡ 8
unfolding e
e_length key block = enciphered-eight (length key == 8) key block

-- ---- texts that are enciphered

ends_alone : (padding : Pad) → EndsAlone (padded padding)
ends_alone padding.None xs ys whole = refl
ends_alone padding.X923 xs ys whole = pad-append xs ys whole

enciphered_through : (clear : ClearKey) (chain : Chain) (padding : Pad) (texts : List (List ℕ)) (last : List ℕ)
    → text_through clear Encipher chain texts
    ++ cbc_text (e clear.key) (chain_through clear Encipher chain texts).block (padded padding ((chain_through clear Encipher chain texts).carried ++ last))
    ≡ cbc_text (e clear.key) chain.block (padded padding (chain.carried ++ (joined texts ++ last)))
unfolding chain_through text_through
enciphered_through clear chain padding [] last = refl
enciphered_through clear chain padding (text ∷ texts) last =
    let after = chain_after clear Encipher chain text in
    let end = chain_through clear Encipher after texts in
    append_assoc (segment_text clear Encipher chain text) (text_through clear Encipher after texts) (cbc_text (e clear.key) end.block (padded padding (end.carried ++ last)))
    ∙ ap (λ zs. segment_text clear Encipher chain text ++ zs) (enciphered_through clear after padding texts last)
    ∙ enciphered_step (e clear.key) (padded padding) (ends_alone padding) chain.block chain.carried text (joined texts ++ last)
    ∙ ap (λ xs. cbc_text (e clear.key) chain.block (padded padding (chain.carried ++ xs))) (sym (append_assoc text (joined texts) last))

-- ---- texts that are deciphered

deciphered_through : (clear : ClearKey) (chain : Chain) (texts : List (List ℕ)) (last : List ℕ)
    → text_through clear Decipher chain texts
    ++ uncbc_text (une clear.key) (chain_through clear Decipher chain texts).block ((chain_through clear Decipher chain texts).carried ++ last)
    ≡ uncbc_text (une clear.key) chain.block (chain.carried ++ (joined texts ++ last))
unfolding chain_through text_through
deciphered_through clear chain [] last = refl
deciphered_through clear chain (text ∷ texts) last =
    let after = chain_after clear Decipher chain text in
    let end = chain_through clear Decipher after texts in
    append_assoc (segment_text clear Decipher chain text) (text_through clear Decipher after texts) (uncbc_text (une clear.key) end.block (end.carried ++ last))
    ∙ ap (λ zs. segment_text clear Decipher chain text ++ zs) (deciphered_through clear after texts last)
    ∙ deciphered_step (une clear.key) chain.block chain.carried text (joined texts ++ last)
    ∙ ap (λ xs. uncbc_text (une clear.key) chain.block (chain.carried ++ xs)) (sym (append_assoc text (joined texts) last))

block_through : (clear : ClearKey) (chain : Chain) (texts : List (List ℕ)) → length chain.block ≡ 8 → length (chain_through clear Decipher chain texts).block ≡ 8
unfolding chain_through
block_through clear chain [] eight = eight
block_through clear chain (text ∷ texts) eight =
    let sealed = blocks (whole_part (chain.carried ++ text)) in
    block_through clear (chain_after clear Decipher chain text) texts (last_block_length chain.block sealed eight (blocks-eight (whole_part (chain.carried ++ text))))

unpadded-append : (padding : Pad) (xs ys : List ℕ) → 8 ≤ length ys → unpadded padding (xs ++ ys) ≡ option_map (λ end. xs ++ end) (unpadded padding ys)
unpadded-append padding.None xs ys some = refl
unpadded-append padding.X923 xs ys some = unpad-append xs ys some

pub cut_texts : CutTextsAreWhole
cut_texts clear Encipher start padding texts last is eight fits =
    ap (λ text. Some text) (enciphered_through clear (first_chain start) padding texts last)
cut_texts clear Decipher start padding texts last is eight fits =
    let end = chain_through clear Decipher (first_chain start) texts in
    let d = une clear.key in
    let hand : 8 ≤ length (end.carried ++ last) = omega (arith, length-append end.carried last, decipher_length (length end.carried) (length last) fits) in
    let long : 8 ≤ length (uncbc_text d end.block (end.carried ++ last))
    = omega (arith, uncbc_text_length d (une_length clear.key) end.block (end.carried ++ last) (block_through clear (first_chain start) texts eight), hand) in
    sym (unpadded-append padding (text_through clear Decipher (first_chain start) texts) (uncbc_text d end.block (end.carried ++ last)) long)
    ∙ ap (unpadded padding) (deciphered_through clear (first_chain start) texts last)
cut_texts clear (Mac rule) start padding texts last is eight fits = absurd is

-- ---- codes

code_through : (clear : ClearKey) (rule : MacRule) (chain : Chain) (texts : List (List ℕ)) (last : List ℕ)
    → last_block (chain_through clear (Mac rule) chain texts).block
    (cbc (code_cipher rule clear) (chain_through clear (Mac rule) chain texts).block (blocks (fill ((chain_through clear (Mac rule) chain texts).carried ++ last))))
    ≡ last_block chain.block (cbc (code_cipher rule clear) chain.block (blocks (fill (chain.carried ++ (joined texts ++ last)))))
unfolding chain_through
code_through clear rule chain [] last = refl
code_through clear rule chain (text ∷ texts) last =
    code_through clear rule (chain_after clear (Mac rule) chain text) texts last
    ∙ code_step (code_cipher rule clear) fill fill-append chain.block chain.carried text (joined texts ++ last)
    ∙ ap (λ xs. last_block chain.block (cbc (code_cipher rule clear) chain.block (blocks (fill (chain.carried ++ xs))))) (sym (append_assoc text (joined texts) last))

-- a code is the finished last block of the chain from zeros
pub code_from-zeros : (clear : ClearKey) (rule : MacRule) (text : List ℕ) → finished rule clear (last_block zero_block (cbc (code_cipher rule clear) zero_block (blocks (fill text)))) ≡ code_of rule clear text
unfolding cbc_mac
code_from-zeros clear X99 text = refl
code_from-zeros clear X919 text = refl

pub cut_codes : CutCodesAreWhole
cut_codes clear rule texts last =
    ap (finished rule clear) (code_through clear rule (first_chain zero_block) texts last) ∙ code_from-zeros clear rule (joined texts ++ last)
