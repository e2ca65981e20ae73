-- Whole texts, by what they are given for.
use Rattle.std.specs.Prelude.{ℕ, List, [], ◌∷◌, codes}
use Rattle.cipher_verbs.specs.CipherTexts.{enciphering}
use Rattle.cipher_verbs.specs.declared.padding.Pad.{Pad}
use Rattle.key_tokens.specs.Denotes.{ClearKey}
use Rattle.text_segments.specs.Chains.{first_chain}
use Rattle.text_segments.specs.Segments.{last_checks}
use Rattle.text_segments.specs.declared.modes.Mode.{Mode}
use Rattle.text_segments.specs.declared.modes.Mode.TheVariants.{Encipher, Decipher, Mac}
use Rattle.verb_rules.specs.LengthChecks.{text_checks}
use Rattle.verb_rules.specs.declared.lengths.TextUse.{TextUse}
use Rattle.verb_rules.specs.declared.lengths.TextUse.TheVariants as use_of
use Rattle.verb_script.specs.declared.rows.RequestName.{RequestName}
use Rattle.verb_script.specs.declared.rows.RequestName.TheVariants.{Csnbdec, Csnbenc, Csnbmgn}
use Rattle.cca_machine.specs.Verdict.{Questions, questions}

-- its row: of a code that of the verb that makes it
abbrev pub whole_row : Mode → RequestName
whole_row Encipher = Csnbenc
whole_row Decipher = Csnbdec
whole_row (Mac rule) = Csnbmgn

-- what a whole text is given for
abbrev pub whole_use : Mode → Pad → TextUse
whole_use Encipher padding = enciphering padding
whole_use Decipher padding = use_of.Decipher
whole_use (Mac rule) padding = use_of.Mac

-- rule 23 of a whole text, and rule 31 of what it gives: it goes on from no other segment
abbrev pub whole_questions : Mode → ClearKey → List ℕ → Pad → ℕ → List ℕ → List Questions
whole_questions mode clear start padding size text =
    questions (codes "text") (text_checks (whole_use mode padding) size)
    ∷ questions (codes "text") (last_checks clear mode (first_chain start) padding text) ∷ []
