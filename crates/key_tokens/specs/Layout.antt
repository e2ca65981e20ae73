-- The 64 bytes of a key token, as a table of places.
use Rattle.std.specs.Prelude.{◌≡◌, ◌⊎◌, ℕ, ◌+◌, List, [], ◌∷◌, ◌++◌, length, replicate, slice_index, slice_range, ⊤}
use Rattle.std.specs.Int.{to_be_bytes, w32}
use Rattle.key_cells.specs.Bytes.{IsZero}
use Rattle.cca_vectors.specs.Vectors.{IsValid, length_of}
use Rattle.key_tokens.specs.declared.key_token.Kind.{Kind}
use Rattle.key_tokens.specs.declared.key_token.Kind.TheVariants.{Internal, External}
use Rattle.key_tokens.specs.declared.key_token.Token.{Token}
use Rattle.key_tokens.specs.Kinds.{kind_byte}
use Rattle.key_tokens.specs.Tvv.{tvv_of}

-- what stands from a first byte to a last one
pub record Place : Type 0 where
  pub first : ℕ
  pub last : ℕ
  pub content : List ℕ

abbrev pub place : ℕ → ℕ → List ℕ → Place
place first last content = record { first = first; last = last; content = content }

abbrev pub zeros : ℕ → List ℕ
zeros n = replicate n 0

-- the table: what stands where in a token with this flag and this validation value
abbrev pub layout : Token → ℕ → ℕ → List Place
layout token flag tvv =
    place 0 0 (kind_byte token.kind ∷ [])
    ∷ place 1 3 (zeros 3)
    ∷ place 4 4 (0x00 ∷ [])  -- the version
    ∷ place 5 5 (zeros 1)
    ∷ place 6 6 (flag ∷ [])
    ∷ place 7 7 (zeros 1)
    ∷ place 8 15 token.pattern
    ∷ place 16 23 token.sealed.left
    ∷ place 24 31 token.sealed.right
    ∷ place 32 47 token.vector
    ∷ place 48 59 (zeros 12)
    ∷ place 60 63 (to_be_bytes w32 tvv)
    ∷ []

-- each place of the table has its content
abbrev pub HasPlaces : List ℕ → List Place → Type 0
HasPlaces bytes [] = ⊤
HasPlaces bytes (p ∷ places) =
    (slice_range bytes p.first (p.last + 1) ≡ p.content) × HasPlaces bytes places

-- the contents of the places, one after another
abbrev pub contents : List Place → List ℕ
contents [] = []
contents (p ∷ places) = p.content ++ contents places

-- the bytes of a token as it is written: flag c0, and the sum of the words before the validation value
unfoldable pub made : Token → List ℕ
made token = contents (layout token 0xc0 (tvv_of (contents (layout token 0xc0 0))))

-- the flag says that a key is there; where the vector is all zero it may leave out that a vector is
abbrev pub IsFlag : ℕ → List ℕ → Type 0
IsFlag flag vector = (flag ≡ 0xc0) ⊎ ((flag ≡ 0x80) × IsZero vector)

-- an external token has no pattern
abbrev pub IsPatternFor : Kind → List ℕ → Type 0
IsPatternFor Internal pattern = ⊤
IsPatternFor External pattern = IsZero pattern

-- the 64 bytes are this token: the table holds with the sum of the words before it, the vector is valid, and
-- a single-length key has no right half
pub record IsToken (bytes : List ℕ) (token : Token) : Type 0 where
  pub whole : length bytes ≡ 64
  pub places : HasPlaces bytes (layout token (slice_index bytes 6) (tvv_of bytes))
  pub flag : IsFlag (slice_index bytes 6) token.vector
  pub pattern : IsPatternFor token.kind token.pattern
  pub vector : IsValid token.vector
  pub right : length_of token.vector ≡ 8 → IsZero token.sealed.right
