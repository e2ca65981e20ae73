-- Replies, and the bytes of their lines.
use Rattle.std.specs.Prelude.{◌≡◌, [], ◌∷◌, ◌++◌, codes}
use Rattle.line_service.specs.Lines.{newline}
use Rattle.line_service.specs.Replies.{Hex, Text, Number, Refused, Done, spelled}

pub record RepliesSpelled : Type 0 where
  pub bare : spelled (Done []) ≡ codes "OK" ++ newline ∷ []
  pub of_text : spelled (Done (Text (codes "kind") (codes "external") ∷ []))
      ≡ codes "OK kind=external" ++ newline ∷ []
  pub of_number : spelled (Done (Number (codes "length") 16 ∷ Number (codes "count") 0 ∷ []))
      ≡ codes "OK length=16 count=0" ++ newline ∷ []
  pub in_hexadecimal : spelled (Done (Hex (codes "vector") (0x00 ∷ 0x41 ∷ 0x7d ∷ 0xff ∷ []) ∷ []))
      ≡ codes "OK vector=00417dff" ++ newline ∷ []
  pub refused : spelled (Refused 1 (codes "-")) ≡ codes "NO 01 -" ++ newline ∷ []
  pub refused_for : spelled (Refused 10 (codes "token")) ≡ codes "NO 10 token" ++ newline ∷ []
