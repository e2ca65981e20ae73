-- The key begins with the bytes that its 16 digits spell.
use Rattle.std.proofs.Common.{◌≡◌, ◌≤◌, ◌/◌, ◌++◌, IsTrue, List, ℕ, length, take, arith}
use Rattle.std.proofs.lemmas.List.{take-append-le}
use Rattle.verb_script.specs.Values.{hex_value, is_hex}
use Rattle.request_verbs.proofs.verbs.csnbcki.put_clear.Goals as goal

-- the first 8 of what 16 digits spell, whatever lies behind
front : (digits rest : List ℕ) → IsTrue (is_hex 16 digits)
    → length (hex_value digits) ≡ length digits / 2
    → take 8 (hex_value digits ++ rest) ≡ take 8 (hex_value digits)
front digits rest fits size =
    let sixteen : length digits ≡ 16 = grind arith in
    let eight : 8 ≤ length (hex_value digits) = grind arith in
    take-append-le 8 (hex_value digits) rest eight

pub returns-clause-key : goal.returns-clause-key
returns-clause-key c = grind (arith, front)
