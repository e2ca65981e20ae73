-- A record as the body of a cell.
use Rattle.std.specs.Prelude.{◌≡◌, ℕ, ◌^◌, ◌<◌, List, [], ◌∷◌, ◌++◌, replicate}
use Rattle.std.specs.Int.{to_be_bytes, w64}
use Rattle.audit_trail.specs.Entries.{IsEntry}
use Rattle.audit_trail.specs.declared.entries.Entry.{Entry}

-- Byte 0 is X'01', byte 1 the rule. The number stands at 2, most significant byte first, the role at 10, the verb at 18,
-- the length of the label at 28 and the label at 29. Every other byte is zero.
unfoldable pub record_body : ℕ → Entry → List ℕ
record_body number e =
    (1 ∷ e.rule ∷ []) ++ to_be_bytes w64 number ++ e.role ++ e.verb ++ (e.label_length ∷ []) ++ e.label
    ++ replicate 99 0

unfoldable pub blank_body : List ℕ
blank_body = replicate 192 0

-- the body spells the record of this number
pub record Spells (bytes : List ℕ) (number : ℕ) (e : Entry) : Type 0 where
  pub entry : IsEntry e
  pub below : number < 2 ^ 63
  pub body : bytes ≡ record_body number e
