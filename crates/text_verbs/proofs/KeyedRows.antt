-- What the rows of texts and codes show of their key: of each, its rules and its fields. A row of its own has it in its answer.
use Rattle.std.proofs.Common.{Bool, true, false, List, [], ◌∷◌, ℕ, refl}
use Rattle.std.specs.Prelude.{◌/◌, length}
use Rattle.cipher_verbs.specs.declared.padding.Pad.TheVariants as padding
use Rattle.des_blocks.specs.Modes.{zero_block}
use Rattle.mac_verbs.specs.Codes.{code_of}
use Rattle.text_segments.specs.Chains.{chain_of, first_chain}
use Rattle.text_segments.specs.Segments.{IsCipher, last_code}
use Rattle.text_segments.specs.declared.modes.Mode.{Mode}
use Rattle.text_segments.specs.declared.modes.Mode.TheVariants.{Encipher, Decipher, Mac}
use Rattle.verb_script.specs.Values.{hex_value}
use Rattle.cca_machine.specs.Act.{code_segment_fields, last_text_fields, segment_fields}
use Rattle.cca_machine.specs.Choices.{mac_rule_named, pad_named}
use Rattle.cca_machine.specs.CutRequests.{first_code_row, first_row, last_row, middle_code_row, middle_row}
use Rattle.cca_machine.specs.Verdict.{first_refusal, chain_questions, code_key_questions, last_segment_questions, last_text_questions, mac_questions, segment_questions}
use Rattle.text_verbs.specs.CodePurposes.{code_fields, last_code_row, purpose_text, whole_code_row}
use Rattle.cca_machine.specs.Decided.{asked}
use Rattle.text_verbs.specs.WholeTexts.{whole_questions, whole_row}
use Rattle.text_verbs.specs.declared.codes.Purpose.{Purpose}
use Rattle.text_verbs.specs.declared.codes.Purpose.TheVariants.{Generate, Verify}
use Rattle.cca_machine.proofs.KeyedVerbs.{IsKeyed}

-- ---- texts that are enciphered and deciphered

pub whole_keyed : (mode : Mode) → IsCipher mode → (role key iv pad text : List ℕ)
    → IsKeyed (asked (whole_row mode) (role ∷ key ∷ iv ∷ pad ∷ text ∷ []))
    (λ k. first_refusal (whole_questions mode k (hex_value iv) (pad_named pad) (length text / 2) (hex_value text)))
    (λ k. last_text_fields k mode (first_chain (hex_value iv)) (pad_named pad) (hex_value text))
whole_keyed Encipher cipher role key iv pad text = record { undrawn = refl; has = λ s bench g is. is.0; verdict = λ s. refl; makes = λ s. refl }
whole_keyed Decipher cipher role key iv pad text = record { undrawn = refl; has = λ s bench g is. is.0; verdict = λ s. refl; makes = λ s. refl }
whole_keyed (Mac rule) cipher role key iv pad text = absurd cipher

pub first_keyed : (mode : Mode) → IsCipher mode → (role key segment iv text : List ℕ)
    → IsKeyed (asked (first_row mode) (role ∷ key ∷ segment ∷ iv ∷ text ∷ []))
    (λ k. first_refusal (segment_questions (length text / 2)))
    (λ k. segment_fields k mode (first_chain (hex_value iv)) (hex_value text))
first_keyed Encipher cipher role key segment iv text = record { undrawn = refl; has = λ s bench g is. is.0; verdict = λ s. refl; makes = λ s. refl }
first_keyed Decipher cipher role key segment iv text = record { undrawn = refl; has = λ s bench g is. is.0; verdict = λ s. refl; makes = λ s. refl }
first_keyed (Mac rule) cipher role key segment iv text = absurd cipher

pub middle_keyed : (mode : Mode) → IsCipher mode → (role key segment chain text : List ℕ)
    → IsKeyed (asked (middle_row mode) (role ∷ key ∷ segment ∷ chain ∷ text ∷ []))
    (λ k. first_refusal (chain_questions (hex_value chain) (segment_questions (length text / 2))))
    (λ k. segment_fields k mode (chain_of (hex_value chain)) (hex_value text))
middle_keyed Encipher cipher role key segment chain text = record { undrawn = refl; has = λ s bench g is. is.0; verdict = λ s. refl; makes = λ s. refl }
middle_keyed Decipher cipher role key segment chain text = record { undrawn = refl; has = λ s bench g is. is.0; verdict = λ s. refl; makes = λ s. refl }
middle_keyed (Mac rule) cipher role key segment chain text = absurd cipher

pub last_keyed : (mode : Mode) → IsCipher mode → (role key segment chain pad text : List ℕ)
    → IsKeyed (asked (last_row mode) (role ∷ key ∷ segment ∷ chain ∷ pad ∷ text ∷ []))
    (λ k. first_refusal (chain_questions (hex_value chain)
    (last_text_questions mode k (chain_of (hex_value chain)) (pad_named pad) (length text / 2) (hex_value text))))
    (λ k. last_text_fields k mode (chain_of (hex_value chain)) (pad_named pad) (hex_value text))
last_keyed Encipher cipher role key segment chain pad text = record { undrawn = refl; has = λ s bench g is. is.0; verdict = λ s. refl; makes = λ s. refl }
last_keyed Decipher cipher role key segment chain pad text = record { undrawn = refl; has = λ s bench g is. is.0; verdict = λ s. refl; makes = λ s. refl }
last_keyed (Mac rule) cipher role key segment chain pad text = absurd cipher

-- ---- codes

pub whole_code_keyed : (purpose : Purpose) (role key rule text : List ℕ)
    → IsKeyed (asked (whole_code_row purpose) (role ∷ key ∷ rule ∷ purpose_text purpose ∷ text ∷ []))
    (λ k. first_refusal (mac_questions (mac_rule_named rule) (length text / 2) k))
    (λ k. code_fields purpose (code_of (mac_rule_named rule) k (hex_value text)))
whole_code_keyed (Generate count) role key rule text = record { undrawn = refl; has = λ s bench g is. is.0; verdict = λ s. refl; makes = λ s. refl }
whole_code_keyed (Verify mac) role key rule text = record { undrawn = refl; has = λ s bench g is. is.0; verdict = λ s. refl; makes = λ s. refl }

pub first_code_keyed : (verifies : Bool) (role key rule segment text : List ℕ)
    → IsKeyed (asked (first_code_row verifies) (role ∷ key ∷ rule ∷ segment ∷ text ∷ []))
    (λ k. first_refusal (code_key_questions (mac_rule_named rule) k (segment_questions (length text / 2))))
    (λ k. code_segment_fields k (mac_rule_named rule) (first_chain zero_block) (hex_value text))
first_code_keyed false role key rule segment text = record { undrawn = refl; has = λ s bench g is. is.0; verdict = λ s. refl; makes = λ s. refl }
first_code_keyed true role key rule segment text = record { undrawn = refl; has = λ s bench g is. is.0; verdict = λ s. refl; makes = λ s. refl }

pub middle_code_keyed : (verifies : Bool) (role key rule segment chain text : List ℕ)
    → IsKeyed (asked (middle_code_row verifies) (role ∷ key ∷ rule ∷ segment ∷ chain ∷ text ∷ []))
    (λ k. first_refusal (chain_questions (hex_value chain)
    (code_key_questions (mac_rule_named rule) k (segment_questions (length text / 2)))))
    (λ k. code_segment_fields k (mac_rule_named rule) (chain_of (hex_value chain)) (hex_value text))
middle_code_keyed false role key rule segment chain text = record { undrawn = refl; has = λ s bench g is. is.0; verdict = λ s. refl; makes = λ s. refl }
middle_code_keyed true role key rule segment chain text = record { undrawn = refl; has = λ s bench g is. is.0; verdict = λ s. refl; makes = λ s. refl }

pub last_code_keyed : (purpose : Purpose) (role key rule segment chain text : List ℕ)
    → IsKeyed (asked (last_code_row purpose) (role ∷ key ∷ rule ∷ segment ∷ purpose_text purpose ∷ chain ∷ text ∷ []))
    (λ k. first_refusal (chain_questions (hex_value chain) (code_key_questions (mac_rule_named rule) k
    (last_segment_questions (Mac (mac_rule_named rule)) padding.None (chain_of (hex_value chain)) (length text / 2)))))
    (λ k. code_fields purpose (last_code k (mac_rule_named rule) (chain_of (hex_value chain)) (hex_value text)))
last_code_keyed (Generate count) role key rule segment chain text = record { undrawn = refl; has = λ s bench g is. is.0; verdict = λ s. refl; makes = λ s. refl }
last_code_keyed (Verify mac) role key rule segment chain text = record { undrawn = refl; has = λ s bench g is. is.0; verdict = λ s. refl; makes = λ s. refl }
