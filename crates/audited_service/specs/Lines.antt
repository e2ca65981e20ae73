-- The lines of a listing.
use Rattle.std.specs.Prelude.{◌==◌, ◌+◌, ◌-◌, ◌++◌, ◌∷◌, [], ℕ, List, length, codes, decimal}
use Rattle.std.specs.List.{before_first, flat_map, range_with_len}
use Rattle.line_service.specs.Lines.{newline}
use Rattle.line_service.specs.Replies.{two_digits}
use Rattle.audit_trail.specs.Entries.{entry_at}
use Rattle.audit_trail.specs.declared.entries.Entry.{Entry}

-- what stands in a field before its first zero
abbrev pub text_of : List ℕ → List ℕ
text_of field = before_first (λ byte. byte == 0) field

-- a text, or `-` where it is empty
abbrev pub or_dash : List ℕ → List ℕ
or_dash [] = codes "-"
or_dash (byte ∷ bytes) = byte ∷ bytes

-- a space, and a text or `-`
unfoldable pub word : List ℕ → List ℕ
word text = codes " " ++ or_dash text

-- the number of a record in decimal digits, its rule in two, and its role, verb and label
unfoldable pub record_line : ℕ → Entry → List ℕ
record_line number e =
    decimal number ++ word (two_digits e.rule)
    ++ word (text_of e.role) ++ word (text_of e.verb) ++ word (text_of e.label) ++ newline ∷ []

-- the least number that is held of n records
abbrev pub held_from : ℕ → ℕ
held_from n = n - 4096

-- the lines of the records that are held and whose numbers are below `next`, ascending
abbrev pub lines_below : List Entry → ℕ → List ℕ
lines_below es next =
    let first = held_from (length es) in
    flat_map (λ m. record_line m (entry_at es m)) (range_with_len first (next - first))

-- the lines of all records that are held
abbrev pub listing : List Entry → List ℕ
listing es = lines_below es (length es)

-- the lines of some entries, of which the first has this number
abbrev pub lines_from : ℕ → List Entry → List ℕ
lines_from number [] = []
lines_from number (e ∷ es) = record_line number e ++ lines_from (number + 1) es
