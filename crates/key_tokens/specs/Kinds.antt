-- What byte 0 of a token says.
use Rattle.std.specs.Prelude.{◌≡◌, ℕ, Bool, ◌||◌, ◌==◌, if◌then◌else◌, ⊤}
use Rattle.key_tokens.specs.declared.key_token.Kind.{Kind}
use Rattle.key_tokens.specs.declared.key_token.Kind.TheVariants as kind
use Rattle.key_tokens.specs.declared.key_token.Asked.{Asked}
use Rattle.key_tokens.specs.declared.key_token.Asked.TheVariants.{Internal, External, Either}

abbrev pub kind_byte : Kind → ℕ
kind_byte kind.Internal = 0x01
kind_byte kind.External = 0x02

abbrev pub kind_at : ℕ → Kind
kind_at byte = if byte == 0x01 then kind.Internal else kind.External

-- the kind is the one that is asked for
abbrev pub IsAsked : Asked → Kind → Type 0
IsAsked Internal k = k ≡ kind.Internal
IsAsked External k = k ≡ kind.External
IsAsked Either k = ⊤

-- byte 0 is that of a kind that is asked for
abbrev pub is_asked : Asked → ℕ → Bool
is_asked Internal byte = byte == 0x01
is_asked External byte = byte == 0x02
is_asked Either byte = byte == 0x01 || byte == 0x02
