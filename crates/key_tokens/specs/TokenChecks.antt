-- The rules that the 64 bytes of a key token can break, in their order, as tests.
use Rattle.std.specs.Prelude.{ℕ, Bool, not, ◌&&◌, ◌||◌, List, [], ◌∷◌, ◌++◌, slice_index, slice_range, ◌==◌}
use Rattle.key_cells.specs.Bytes.{is_zero}
use Rattle.cca_vectors.specs.Checks.{Check, check}
use Rattle.cca_vectors.specs.Vectors.{length_of}
use Rattle.cca_vectors.specs.VectorChecks.{vector_checks}
use Rattle.key_tokens.specs.declared.key_token.Asked.{Asked}
use Rattle.key_tokens.specs.declared.key_token.TokenFault.{TokenFault}
use Rattle.key_tokens.specs.declared.key_token.TokenFault.TheVariants.{Kind, Tvv, Version, Flag, Reserved, Parity, AntiVariant, Form}
use Rattle.key_tokens.specs.Kinds.{is_asked}
use Rattle.key_tokens.specs.Fields.{vector_bytes_of}
use Rattle.key_tokens.specs.Tvv.{word_at, tvv_of}

-- the value that the token says
abbrev pub stored_tvv : List ℕ → ℕ
stored_tvv bytes = word_at bytes 60

abbrev pub has_flag : List ℕ → Bool
has_flag bytes =
    slice_index bytes 6 == 0xc0 || (slice_index bytes 6 == 0x80 && is_zero (vector_bytes_of bytes))

-- bytes 1 to 3, 5, 7 and 48 to 59, and in an external token bytes 8 to 15
abbrev pub reserved_is_zero : List ℕ → Bool
reserved_is_zero bytes =
    is_zero (slice_range bytes 1 4) && is_zero (slice_range bytes 5 6)
    && is_zero (slice_range bytes 7 8)
    && is_zero (slice_range bytes 48 60)
    && (not (slice_index bytes 0 == 0x02) || is_zero (slice_range bytes 8 16))

-- rule 9, kind; rule 10, TVV; rule 11, version; rule 12, flag; rule 13, reserved bytes
abbrev pub header_checks : Asked → List ℕ → List Check
header_checks asked bytes =
    check 9 (not (is_asked asked (slice_index bytes 0)))
    ∷ check 10 (not (stored_tvv bytes == tvv_of bytes))
    ∷ check 11 (not (slice_index bytes 4 == 0x00))
    ∷ check 12 (not (has_flag bytes))
    ∷ check 13 (not (reserved_is_zero bytes))
    ∷ []

-- the right half of a single-length key is zero
abbrev pub has_right_half : List ℕ → Bool
has_right_half bytes =
    not (length_of (vector_bytes_of bytes) == 8) || is_zero (slice_range bytes 24 32)

-- then rules 14 to 16 of the vector, and rule 16 of the right half
abbrev pub token_checks : Asked → List ℕ → List Check
token_checks asked bytes =
    header_checks asked bytes ++ vector_checks (vector_bytes_of bytes)
    ++ check 16 (not (has_right_half bytes)) ∷ []

-- the rule that a fault says is broken
abbrev pub rule_of : TokenFault → ℕ
rule_of Kind = 9
rule_of Tvv = 10
rule_of Version = 11
rule_of Flag = 12
rule_of Reserved = 13
rule_of Parity = 14
rule_of AntiVariant = 15
rule_of Form = 16
