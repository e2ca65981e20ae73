-- What a reply line is.
use Rattle.std.specs.Prelude.{◌≡◌, ◌≤◌, ℕ, List, [], ◌∷◌, ◌++◌}
use Rattle.std.specs.List.{All}
use Rattle.line_service.specs.Lines.{newline, NoNewline}

-- one line: a text in which no byte is a newline, and a newline behind it
pub record IsOneLine (bytes : List ℕ) : Type 0 where
  pub text : List ℕ
  pub whole : bytes ≡ text ++ newline ∷ []
  pub clean : NoNewline text

-- a line of printable ASCII: a text in which no byte is below a space or above a tilde, and a newline behind it
pub record IsPrintableLine (bytes : List ℕ) : Type 0 where
  pub text : List ℕ
  pub whole : bytes ≡ text ++ newline ∷ []
  pub printable : All (λ c. (0x20 ≤ c) × (c ≤ 0x7e)) text
