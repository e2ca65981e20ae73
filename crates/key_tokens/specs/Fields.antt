-- The fields of a key token, by their places in its 64 bytes.
use Rattle.std.specs.Prelude.{ℕ, List, slice_index, slice_range}
use Rattle.key_tokens.specs.declared.key_token.Kind.{Kind}
use Rattle.multi_encipher.specs.declared.halves.Sealed.{Sealed}
use Rattle.key_tokens.specs.declared.key_token.Token.{Token}
use Rattle.key_tokens.specs.Kinds.{kind_at}

abbrev pub kind_of : List ℕ → Kind
kind_of bytes = kind_at (slice_index bytes 0)

-- the pattern of the master key that an internal token is under
abbrev pub pattern_of_token : List ℕ → List ℕ
pattern_of_token bytes = slice_range bytes 8 16

-- the halves of the key as they are enciphered
abbrev pub sealed_of : List ℕ → Sealed
sealed_of bytes = record { left = slice_range bytes 16 24; right = slice_range bytes 24 32 }

abbrev pub vector_bytes_of : List ℕ → List ℕ
vector_bytes_of bytes = slice_range bytes 32 48

abbrev pub token_of : List ℕ → Token
token_of bytes = record {
  kind = kind_of bytes;
  pattern = pattern_of_token bytes;
  sealed = sealed_of bytes;
  vector = vector_bytes_of bytes;
}
