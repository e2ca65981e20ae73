-- Texts enciphered and deciphered under a clear key, by cipher block chaining (FIPS 81), with or without the padding of
-- ANSI X9.23.
use Rattle.std.specs.Prelude.{◌≡◌, ℕ, List, [], ◌∷◌, ◌++◌, codes, drop, replicate, take, Option, None, Some, is_none, if◌then◌else◌}
use Rattle.std.specs.Str.{bytes_eq}
use Rattle.cca_vectors.specs.Checks.{Check, check}
use Rattle.des_blocks.specs.Modes.{e, pad, unpad, une, zero_block}
use Rattle.des_blocks.specs.Texts.{cbc_text, uncbc_text}
use Rattle.key_cells.specs.Bench.{Text}
use Rattle.key_cells.specs.Lease.{bench_of, holding}
use Rattle.key_cells.specs.declared.leases.Lease.{Lease}
use Rattle.key_tokens.specs.Denotes.{ClearKey}
use Rattle.verb_rules.specs.declared.lengths.TextUse.{TextUse}
use Rattle.verb_rules.specs.declared.lengths.TextUse.TheVariants.{EncipherPlain, EncipherPadded}
use Rattle.cipher_verbs.specs.declared.padding.Pad.{Pad}
use Rattle.cipher_verbs.specs.declared.padding.Pad.TheVariants as padding

-- the padding with this name
abbrev pub pad_of_name : List ℕ → Option Pad
pad_of_name text =
    if bytes_eq text (codes "NONE") then Some padding.None
    else if bytes_eq text (codes "X9.23") then Some padding.X923
    else None

-- what a text that is enciphered is given for
abbrev pub enciphering : Pad → TextUse
enciphering padding.None = EncipherPlain
enciphering padding.X923 = EncipherPadded

-- the text that is enciphered: padded to whole blocks, where that is asked
abbrev pub padded : Pad → List ℕ → List ℕ
padded padding.None text = text
padded padding.X923 text = pad text

-- the text without its padding, where that is asked; none where its last byte is no count of padding
abbrev pub unpadded : Pad → List ℕ → Option (List ℕ)
unpadded padding.None text = Some text
unpadded padding.X923 text = unpad text

-- the text enciphered under a key in a chain from a start
abbrev pub enciphered_text : ClearKey → List ℕ → Pad → List ℕ → List ℕ
enciphered_text clear start padding text = cbc_text (e clear.key) start (padded padding text)

-- the text deciphered under a key in a chain from a start
abbrev pub deciphered_text : ClearKey → List ℕ → Pad → List ℕ → Option (List ℕ)
deciphered_text clear start padding text = unpadded padding (uncbc_text (une clear.key) start text)

-- rule 31: the last byte of the deciphered text is no count of padding
abbrev pub pad_checks : ClearKey → List ℕ → Pad → List ℕ → List Check
pad_checks clear start padding text =
    check 31 (is_none (deciphered_text clear start padding text)) ∷ []

-- the first four bytes of a block of zeros enciphered under a key
abbrev pub test_value : ClearKey → List ℕ
test_value clear = take 4 (e clear.key zero_block)

-- of a lease the place `Key`, the schedules and the text may have changed, and nothing else
abbrev pub ChangesText : Lease → Lease → Type 0
ChangesText old new =
    new ≡ holding old (record (bench_of old) {
      key = (bench_of new).key;
      schedules = (bench_of new).schedules;
      text = (bench_of new).text;
    })

-- the place of a text with zeros over the text, and with no text
abbrev pub cleared : Text → Text
cleared place = record { bytes = replicate place.size 0 ++ drop place.size place.bytes; size = 0 }
