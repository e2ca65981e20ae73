-- Message authentication codes of a text under a clear key (FIPS 113, ANSI X9.9, ANSI X9.19).
use Rattle.std.specs.Prelude.{ℕ, Bool, List, length, take}
use Rattle.std.specs.Str.{bytes_eq}
use Rattle.des_blocks.specs.Modes.{mac_x99, mac_x919}
use Rattle.key_tokens.specs.Denotes.{ClearKey}
use Rattle.verb_rules.specs.declared.lengths.MacRule.{MacRule}
use Rattle.verb_rules.specs.declared.lengths.MacRule.TheVariants.{X99, X919}

-- the eight bytes of a code
abbrev pub code_of : MacRule → ClearKey → List ℕ → List ℕ
code_of X99 clear text = mac_x99 clear.key text
code_of X919 clear text = mac_x919 clear.key text

-- the bytes are the leftmost so many of the code
abbrev pub is_code : MacRule → ClearKey → List ℕ → List ℕ → Bool
is_code rule clear text mac = bytes_eq mac (take (length mac) (code_of rule clear text))
