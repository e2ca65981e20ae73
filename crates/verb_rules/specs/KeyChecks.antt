-- The rules that a key operand can break, in their order, as tests: of the bytes of its token, of the registers'
-- patterns, and of its control vector.
use Rattle.std.specs.Prelude.{ℕ, Bool, false, not, ◌&&◌, List, [], ◌∷◌, ◌++◌, Option, None, Some, is_none, ◌==◌, if◌then◌else◌}
use Rattle.cca_vectors.specs.declared.key_usage.Usage.{Usage}
use Rattle.cca_vectors.specs.Checks.{Check, check}
use Rattle.cca_vectors.specs.Classes.{class_of}
use Rattle.cca_vectors.specs.Permissions.{permits, is_exportable}
use Rattle.cca_vectors.specs.Vectors.{length_of, is_part_of}
use Rattle.key_tokens.specs.declared.key_token.Age.{Age}
use Rattle.key_tokens.specs.declared.key_token.Age.TheVariants.{Current, Old}
use Rattle.key_tokens.specs.declared.key_token.Kind.{Kind}
use Rattle.key_tokens.specs.declared.key_token.Kind.TheVariants.{Internal, External}
use Rattle.key_tokens.specs.declared.key_token.Token.{Token}
use Rattle.key_tokens.specs.Fields.{token_of}
use Rattle.key_tokens.specs.TokenChecks.{token_checks}
use Rattle.master_registers.specs.Loaded.{has_pattern}
use Rattle.master_registers.specs.declared.registers.Registers.{Registers}
use Rattle.verb_rules.specs.declared.needs.Need.{Need}
use Rattle.verb_rules.specs.Classes.{has}

-- the register that has this pattern
abbrev pub register_with : Registers → List ℕ → Option Age
register_with held bytes =
    if has_pattern held.current_pattern bytes then Some Current else
    if has_pattern held.old_pattern bytes then Some Old else None

-- the register that an internal token is under; an external token is under none
abbrev pub age_in : Registers → Kind → List ℕ → Option Age
age_in held Internal pattern = register_with held pattern
age_in held External pattern = None

abbrev pub age_of : Registers → Token → Option Age
age_of held token = age_in held token.kind token.pattern

-- an internal token is under neither register
abbrev pub is_under_none : Registers → Kind → List ℕ → Bool
is_under_none held Internal pattern = is_none (register_with held pattern)
is_under_none held External pattern = false

-- the permission bit of the use that is asked for is off
abbrev pub is_forbidden : Option Usage → List ℕ → Bool
is_forbidden None vector = false
is_forbidden (Some use_of) vector = not (permits vector use_of)

-- rule 17: the key is a key part, where parts aren't taken
abbrev pub part_check : Need → List ℕ → Check
part_check need vector = check 17 (not need.parts && is_part_of vector)

-- rule 18: the pattern is that of neither register
abbrev pub pattern_check : Registers → Token → Check
pattern_check held token = check 18 (is_under_none held token.kind token.pattern)

-- rule 19, class; rule 20, use; rule 21, export; rule 22, the length of a transport key
abbrev pub vector_use_checks : Need → List ℕ → List Check
vector_use_checks need vector =
    check 19 (not (has need.classes (class_of vector)))
    ∷ check 20 (is_forbidden need.usage vector)
    ∷ check 21 (need.export && not (is_exportable vector))
    ∷ check 22 (need.double && length_of vector == 8)
    ∷ []

-- the rules of a key that was read before: 17 and 19 to 22
abbrev pub use_checks : Need → List ℕ → List Check
use_checks need vector = part_check need vector ∷ vector_use_checks need vector

-- the rules of a token that was read: 17 to 22
abbrev pub read_checks : Need → Registers → Token → List Check
read_checks need held token =
    part_check need token.vector ∷ pattern_check held token ∷ vector_use_checks need token.vector

-- the rules of 64 bytes that are given as a token: 09 to 22
abbrev pub key_checks : Need → Registers → List ℕ → List Check
key_checks need held bytes = token_checks need.asked bytes ++ read_checks need held (token_of bytes)
