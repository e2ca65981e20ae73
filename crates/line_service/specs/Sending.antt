-- What a sink got of a piece.
use Rattle.std.specs.Prelude.{◌≡◌, ℕ, ◌<◌, List, ◌++◌, length}
use Rattle.std.specs.List.{All, concat}
use Rattle.line_service.specs.Lines.{EndsInNewline}

-- a part of the piece stands behind what the sink held, and some of it is missing
pub record GotPart (before now piece : List ℕ) : Type 0 where
  pub sent : List ℕ
  pub missing : List ℕ
  pub held : now ≡ before ++ sent
  pub parts : piece ≡ sent ++ missing
  pub some : 0 < length missing

-- a reply, which ends with a newline, was added
abbrev pub GotReply : List ℕ → List ℕ → Type 0
GotReply before now = (reply : List ℕ) × EndsInNewline reply × (now ≡ before ++ reply)

-- so many replies were added
pub record GotReplies (count : ℕ) (before now : List ℕ) : Type 0 where
  pub replies : List (List ℕ)
  pub as_many : length replies ≡ count
  pub end : All EndsInNewline replies
  pub held : now ≡ before ++ concat replies

-- bytes were only added
abbrev pub Grows : List ℕ → List ℕ → Type 0
Grows before now = (sent : List ℕ) × (now ≡ before ++ sent)
