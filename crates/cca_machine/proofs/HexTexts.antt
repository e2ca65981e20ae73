-- How many bytes digits spell.
use Rattle.std.proofs.Common.{◌≡◌, ℕ, ◌/◌, ◌%◌, ◌==◌, true, List, [], length, ap, ◌∙◌, arith}
use Rattle.std.specs.List.{list_all}
use Rattle.std.specs.Prelude.{IsTrue}
use Rattle.std.specs.Result.{result_unwrap_or}
use Rattle.std.proofs.lemmas.Bool.{and_parts}
use Rattle.std.proofs.lemmas.Bool.Decides.{Decides-eqb}
use Rattle.std.proofs.lemmas.List.Sums.{AllPass-from_list_all}
use Rattle.hex.specs.Hex.{is_hex_digit, decode_of}
use Rattle.hex.proofs.HexLemmas.{decode_of-digits, decode_of-ok}
use Rattle.verb_script.specs.Grammar.{accepts, hex_text}
use Rattle.verb_script.specs.Values.{hex_value, is_hex}

spelled_length : (digits : List ℕ) → length digits % 2 ≡ 0 → list_all is_hex_digit digits ≡ true → length (hex_value digits) ≡ length digits / 2
spelled_length digits even hex =
    let bytes = decode_of-digits digits even (AllPass-from_list_all is_hex_digit digits hex) in
    let twice = (decode_of-ok digits bytes.0 bytes.1).2 in
    ap (λ r. length (result_unwrap_or r [])) bytes.1 ∙ omega (arith, twice)

-- of an even number of digits half as many
pub text_length : (digits : List ℕ) → IsTrue (accepts hex_text digits) → length (hex_value digits) ≡ length digits / 2
text_length digits is =
    let both = and_parts (length digits % 2 == 0) (list_all is_hex_digit digits) is in
    spelled_length digits ((Decides-eqb (length digits % 2) 0).0 both.0) both.1

-- of 16 digits 8
pub block_length : (digits : List ℕ) → IsTrue (is_hex 16 digits) → length (hex_value digits) ≡ 8
block_length digits is =
    let both = and_parts (length digits == 16) (list_all is_hex_digit digits) is in
    let count : length digits ≡ 16 = (Decides-eqb (length digits) 16).0 both.0 in
    spelled_length digits (omega (arith, count)) both.1 ∙ omega (arith, count)
