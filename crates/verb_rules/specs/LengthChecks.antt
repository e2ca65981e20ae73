-- The rules on lengths: of a text, by its use, of the key of a message authentication code, and of a key part.
use Rattle.std.specs.Prelude.{ℕ, ◌+◌, ◌%◌, Bool, not, nat_le, ◌&&◌, List, [], ◌∷◌, ◌==◌, codes, Option, None, Some, if◌then◌else◌}
use Rattle.std.specs.Str.{bytes_eq}
use Rattle.cca_vectors.specs.Checks.{Check, check}
use Rattle.verb_rules.specs.declared.lengths.MacRule.{MacRule}
use Rattle.verb_rules.specs.declared.lengths.MacRule.TheVariants.{X99, X919}
use Rattle.verb_rules.specs.declared.lengths.TextUse.{TextUse}
use Rattle.verb_rules.specs.declared.lengths.TextUse.TheVariants.{EncipherPlain, EncipherPadded, Decipher, Mac, Segment, LastPlain, LastPadded, LastDecipher, LastMac}

-- the greatest length of a text
abbrev pub text_room : ℕ
text_room = 4096

-- the greatest length of a segment of a text
abbrev pub segment_room : ℕ
segment_room = 4088

-- whole blocks of 8 bytes, one at least
abbrev pub are_blocks : ℕ → Bool
are_blocks length = length % 8 == 0 && nat_le 8 length

abbrev pub is_whole : ℕ → Bool
is_whole length = are_blocks length && nat_le length text_room

abbrev pub is_segment : ℕ → Bool
is_segment length = nat_le length segment_room

-- the lengths of texts, in bytes; of the last segment of a text together with the bytes that the one before carried over
abbrev pub has_length : TextUse → ℕ → Bool
has_length EncipherPlain length = is_whole length
has_length EncipherPadded length = nat_le length 4095
has_length Decipher length = is_whole length
has_length Mac length = nat_le 1 length && nat_le length text_room
has_length Segment length = is_segment length
has_length (LastPlain carried) length = is_segment length && are_blocks (length + carried)
has_length LastPadded length = is_segment length
has_length (LastDecipher carried) length = is_segment length && are_blocks (length + carried)
has_length (LastMac carried) length = is_segment length && nat_le 1 (length + carried)

-- rule 23
abbrev pub text_checks : TextUse → ℕ → List Check
text_checks use_of length = check 23 (not (has_length use_of length)) ∷ []

-- the rule of a code with this name
abbrev pub rule_of_name : List ℕ → Option MacRule
rule_of_name text =
    if bytes_eq text (codes "X9.9-1") then Some X99
    else if bytes_eq text (codes "X9.19OPT") then Some X919
    else None

-- how many bytes the key of a code has: X9.9-1 is DES's, X9.19OPT has a double-length key
abbrev pub mac_key_length : MacRule → ℕ
mac_key_length X99 = 8
mac_key_length X919 = 16

-- rule 32 of a code
abbrev pub mac_checks : MacRule → ℕ → List Check
mac_checks rule length = check 32 (not (length == mac_key_length rule)) ∷ []
