-- Keys and key parts that a field spells by digits.
use Rattle.std.proofs.Common.{◌≡◌, ◌≤◌, ◌/◌, ◌++◌, IsTrue, List, ℕ, length, take, subst, arith}
use Rattle.std.proofs.Math.Seq.{take-append_seam}
use Rattle.verb_script.specs.Grammar.{accepts, hex_text, part_text}
use Rattle.verb_script.specs.Values.{hex_value}

-- the bytes that the digits spell stand first, whatever lies behind
pub spelled_first : (digits rest : List ℕ) → length (hex_value digits) ≡ length digits / 2
    → take (length digits / 2) (hex_value digits ++ rest) ≡ hex_value digits
spelled_first digits rest size =
    subst (λ n. take n (hex_value digits ++ rest) ≡ hex_value digits) size (take-append_seam (hex_value digits) rest)

-- a key part is spelled by an even number of digits, 32 at most
pub part_digits : (digits : List ℕ) → IsTrue (accepts part_text digits) → IsTrue (accepts hex_text digits)
part_digits digits part = grind arith

pub part_room : (digits : List ℕ) → IsTrue (accepts part_text digits) → length digits ≤ 32
part_room digits part = grind arith
