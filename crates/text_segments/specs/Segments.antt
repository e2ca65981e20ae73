-- A text of any length in segments, by cipher block chaining (FIPS 81): a segment works on the carried bytes and its own
-- text, as far as they are whole blocks, and carries the rest. The last segment works on all of them, and ends as the
-- verb over a whole text does.
use Rattle.std.specs.Prelude.{◌≡◌, ⊤, ℕ, ◌*◌, ◌/◌, List, [], ◌∷◌, ◌++◌, length, take, drop, Option, None, Some, is_none}
use Rattle.cca_vectors.specs.Checks.{Check, check}
use Rattle.des_blocks.specs.Modes.{blocks, cbc, e, fill, last_block, une}
use Rattle.des_blocks.specs.Texts.{cbc_text, uncbc_text}
use Rattle.des_blocks.specs.TripleDes.{enciphered, deciphered}
use Rattle.key_cells.specs.Bench.{Text}
use Rattle.key_tokens.specs.Denotes.{ClearKey}
use Rattle.verb_rules.specs.LengthChecks.{mac_checks}
use Rattle.verb_rules.specs.declared.lengths.MacRule.{MacRule}
use Rattle.verb_rules.specs.declared.lengths.MacRule.TheVariants.{X99, X919}
use Rattle.verb_rules.specs.declared.lengths.TextUse.{TextUse}
use Rattle.verb_rules.specs.declared.lengths.TextUse.TheVariants.{LastPlain, LastPadded, LastDecipher, LastMac}
use Rattle.cipher_verbs.specs.CipherTexts.{cleared, deciphered_text, enciphered_text}
use Rattle.cipher_verbs.specs.declared.padding.Pad.{Pad}
use Rattle.cipher_verbs.specs.declared.padding.Pad.TheVariants as padding
use Rattle.text_segments.specs.declared.chains.Chain.{Chain}
use Rattle.text_segments.specs.declared.modes.Mode.{Mode}
use Rattle.text_segments.specs.declared.modes.Mode.TheVariants.{Encipher, Decipher, Mac}

-- the whole blocks at the front of some bytes
abbrev pub whole_part : List ℕ → List ℕ
whole_part bytes = take (length bytes / 8 * 8) bytes

-- the bytes after them, fewer than a block
abbrev pub rest_part : List ℕ → List ℕ
rest_part bytes = drop (length bytes / 8 * 8) bytes

-- what a segment has at hand: the carried bytes and its own text
abbrev pub at_hand : Chain → List ℕ → List ℕ
at_hand chain text = chain.carried ++ text

-- the cipher that the blocks of a code go through: by X9.19OPT that under the left half of the key
abbrev pub code_cipher : MacRule → ClearKey → List ℕ → List ℕ
code_cipher X99 clear = enciphered clear.key
code_cipher X919 clear = enciphered (take 8 clear.key)

-- what is made of the last enciphered block of a code: X9.19OPT deciphers it under the right half and enciphers that
-- under the left one
abbrev pub finished : MacRule → ClearKey → List ℕ → List ℕ
finished X99 clear block = block
finished X919 clear block = enciphered (take 8 clear.key) (deciphered (drop 8 clear.key) block)

-- ---- a segment that isn't the last

-- its blocks of cipher text: those that it makes, or those that it is given
abbrev pub cipher_blocks : ClearKey → Mode → List ℕ → List (List ℕ) → List (List ℕ)
cipher_blocks clear Encipher start clear_blocks = cbc (e clear.key) start clear_blocks
cipher_blocks clear Decipher start sealed = sealed
cipher_blocks clear (Mac rule) start clear_blocks = cbc (code_cipher rule clear) start clear_blocks

-- the text that it gives
abbrev pub segment_text : ClearKey → Mode → Chain → List ℕ → List ℕ
segment_text clear Encipher chain text =
    cbc_text (e clear.key) chain.block (whole_part (at_hand chain text))
segment_text clear Decipher chain text =
    uncbc_text (une clear.key) chain.block (whole_part (at_hand chain text))
segment_text clear (Mac rule) chain text = []

-- the chain after it: the last block of cipher text, or the chaining block where there is none, and the rest
abbrev pub chain_after : ClearKey → Mode → Chain → List ℕ → Chain
chain_after clear mode chain text = record {
  block =
      last_block chain.block
      (cipher_blocks clear mode chain.block (blocks (whole_part (at_hand chain text))));
  carried = rest_part (at_hand chain text);
}

-- rule 32, for a code
abbrev pub mode_checks : Mode → ℕ → List Check
mode_checks Encipher length = []
mode_checks Decipher length = []
mode_checks (Mac rule) length = mac_checks rule length

-- the place of a text with zeros over so many bytes, and with no text
abbrev pub spent : ℕ → Text → Text
spent size place = cleared (record place { size = size })

-- of a segment of a code nothing stays in the place of the text
abbrev pub LeavesNothing : Mode → ℕ → Text → Text → Type 0
LeavesNothing Encipher size old new = ⊤
LeavesNothing Decipher size old new = ⊤
LeavesNothing (Mac rule) size old new = new ≡ spent size old

-- ---- the last segment

-- a text is enciphered or deciphered
abbrev pub IsCipher : Mode → Type 0
IsCipher Encipher = ⊤
IsCipher Decipher = ⊤
IsCipher (Mac rule) = ⊥

-- what its text is given for, after so many carried bytes
abbrev pub last_use : Mode → Pad → ℕ → TextUse
last_use Encipher padding.None carried = LastPlain carried
last_use Encipher padding.X923 carried = LastPadded
last_use Decipher padding carried = LastDecipher carried
last_use (Mac rule) padding carried = LastMac carried

-- the text that it gives, as the verb over a whole text does from the chaining block; none where its last clear byte is
-- no count of padding
abbrev pub last_text : ClearKey → Mode → Chain → Pad → List ℕ → Option (List ℕ)
last_text clear Encipher chain padding text =
    Some (enciphered_text clear chain.block padding (at_hand chain text))
last_text clear Decipher chain padding text =
    deciphered_text clear chain.block padding (at_hand chain text)
last_text clear (Mac rule) chain padding text = None

-- rule 31
abbrev pub last_checks : ClearKey → Mode → Chain → Pad → List ℕ → List Check
last_checks clear mode chain padding text =
    check 31 (is_none (last_text clear mode chain padding text)) ∷ []

-- the code: the chain goes on over all bytes, filled with zeros to whole blocks, and is finished
abbrev pub last_code : ClearKey → MacRule → Chain → List ℕ → List ℕ
last_code clear rule chain text =
    finished rule clear
    (last_block chain.block
    (cbc (code_cipher rule clear) chain.block (blocks (fill (at_hand chain text)))))
