-- The law of cuttings: however a text is cut into segments, each given the chain of the one before, they give what the
-- whole text gives.
use Rattle.std.specs.Prelude.{◌≡◌, ℕ, List, [], ◌∷◌, ◌++◌, length, Option, None, Some, option_map}
use Rattle.cca_vectors.specs.Checks.{first_failing}
use Rattle.des_blocks.specs.Modes.{joined, zero_block}
use Rattle.key_tokens.specs.Denotes.{ClearKey}
use Rattle.verb_rules.specs.LengthChecks.{text_checks}
use Rattle.verb_rules.specs.declared.lengths.MacRule.{MacRule}
use Rattle.cipher_verbs.specs.CipherTexts.{deciphered_text, enciphered_text}
use Rattle.cipher_verbs.specs.declared.padding.Pad.{Pad}
use Rattle.mac_verbs.specs.Codes.{code_of}
use Rattle.text_segments.specs.declared.chains.Chain.{Chain}
use Rattle.text_segments.specs.declared.modes.Mode.{Mode}
use Rattle.text_segments.specs.declared.modes.Mode.TheVariants.{Encipher, Decipher, Mac}
use Rattle.text_segments.specs.Chains.{first_chain}
use Rattle.text_segments.specs.Segments.{IsCipher, chain_after, last_code, last_text, last_use, segment_text}

-- the chain after some segments
unfoldable pub chain_through : ClearKey → Mode → Chain → List (List ℕ) → Chain
chain_through clear mode chain [] = chain
chain_through clear mode chain (text ∷ texts) =
    chain_through clear mode (chain_after clear mode chain text) texts

-- the texts that they give, joined
unfoldable pub text_through : ClearKey → Mode → Chain → List (List ℕ) → List ℕ
text_through clear mode chain [] = []
text_through clear mode chain (text ∷ texts) =
    segment_text clear mode chain text
    ++ text_through clear mode (chain_after clear mode chain text) texts

-- the texts that some segments and the last one give, joined; none where the last one is refused
abbrev pub cut_text : ClearKey → Mode → Chain → Pad → List (List ℕ) → List ℕ → Option (List ℕ)
cut_text clear mode chain padding texts last =
    option_map (λ end. text_through clear mode chain texts ++ end)
    (last_text clear mode (chain_through clear mode chain texts) padding last)

-- what the verb over the whole text gives
abbrev pub uncut_text : ClearKey → Mode → List ℕ → Pad → List ℕ → Option (List ℕ)
uncut_text clear Encipher start padding text = Some (enciphered_text clear start padding text)
uncut_text clear Decipher start padding text = deciphered_text clear start padding text
uncut_text clear (Mac rule) start padding text = None

-- the last segment has a length that it may have after the others: rule 23
abbrev pub MayEnd : ClearKey → Mode → List ℕ → Pad → List (List ℕ) → List ℕ → Type 0
MayEnd clear mode start padding texts last =
    let chain = chain_through clear mode (first_chain start) texts in
    first_failing (text_checks (last_use mode padding (length chain.carried)) (length last))
    ≡ None

-- the law over texts: from an initial value, segments give the whole text, enciphered or deciphered
abbrev pub CutTextsAreWhole : Type 0
CutTextsAreWhole =
    (clear : ClearKey) (mode : Mode) (start : List ℕ) (padding : Pad) (texts : List (List ℕ))
    (last : List ℕ) → IsCipher mode → length start ≡ 8
    → MayEnd clear mode start padding texts last
    → cut_text clear mode (first_chain start) padding texts last
    ≡ uncut_text clear mode start padding (joined texts ++ last)

-- the law over codes: segments have the code of the whole text
abbrev pub CutCodesAreWhole : Type 0
CutCodesAreWhole =
    (clear : ClearKey) (rule : MacRule) (texts : List (List ℕ)) (last : List ℕ)
    → last_code clear rule
    (chain_through clear (Mac rule) (first_chain zero_block) texts) last
    ≡ code_of rule clear (joined texts ++ last)
