-- What a line buffer holds between two calls, and what a call takes from the bytes ahead.
use Rattle.std.specs.Prelude.{◌≡◌, ℕ, ◌+◌, ◌-◌, ◌^◌, ◌<◌, ◌≤◌, ◌⊎◌, ⊤, Bool, false, IsTrue, List, [], ◌∷◌, ◌++◌, length, take, Contains}
use Rattle.line_service.specs.Lines.{newline, lines, NoNewline}
use Rattle.line_service.specs.declared.lines.Taken.{Taken}
use Rattle.line_service.specs.declared.lines.Taken.TheVariants.{Line, TooLong, End}

-- the longest line that is answered, in bytes
abbrev pub line_limit : ℕ
line_limit = 9216

-- how many bytes are taken from a source at most
abbrev pub input_limit : ℕ
input_limit = 2 ^ 40

pub record Reading : Type 0 where
  -- the line that the last call took, empty where it took none
  pub line : List ℕ
  -- the bytes taken from the source that belong to later lines
  pub pending : List ℕ
  -- whether the source gave its end
  pub ended : Bool
  -- how many bytes were taken from the source
  pub taken : ℕ

-- nothing was taken yet
abbrev pub blank : Reading
blank = record { line = []; pending = []; ended = false; taken = 0 }

-- how many bytes may still come into lines: those pending, and those that may yet be taken
abbrev pub bytes_ahead : Reading → ℕ
bytes_ahead r = length r.pending + (input_limit - r.taken)

-- a call needs no read: a whole line is pending, the source gave its end, or no byte may be taken
abbrev pub IsReady : Reading → Type 0
IsReady r = Contains r.pending newline ⊎ (IsTrue r.ended ⊎ (r.taken ≡ input_limit))

-- `line` is the first line of the bytes ahead, and `rest` is what follows it: it ends at its newline,
-- or at the end that the source gave
pub record TakesLine (ahead line rest : List ℕ) (ended : Bool) : Type 0 where
  pub first : lines ahead ≡ line ∷ lines rest
  pub bytes : (ahead ≡ line ++ newline ∷ rest) ⊎ ((ahead ≡ line) × (rest ≡ []) × IsTrue ended)
  pub clean : NoNewline line

-- what an answer says of the bytes ahead before the call, the reading after it and the bytes ahead
-- then
abbrev pub Takes : Taken → List ℕ → Reading → List ℕ → Type 0
Takes Line ahead now rest = TakesLine ahead now.line rest now.ended × (length now.line ≤ line_limit)
Takes TooLong ahead now rest =
    (line : List ℕ) × TakesLine ahead line rest now.ended × (line_limit < length line)
Takes End ahead now rest = (ahead ≡ []) × (rest ≡ []) × IsTrue now.ended

-- fewer bytes may come after each line
abbrev pub Advances : Taken → Reading → Reading → Type 0
Advances Line old now = bytes_ahead now < bytes_ahead old
Advances TooLong old now = bytes_ahead now < bytes_ahead old
Advances End old now = ⊤

-- the line that is shown is there for the answer `Line` alone
abbrev pub Shows : Taken → Reading → Type 0
Shows Line now = NoNewline now.line × (length now.line ≤ line_limit)
Shows TooLong now = now.line ≡ []
Shows End now = now.line ≡ []

-- a part of a line without its newline was taken
abbrev pub LosesPart : List ℕ → List ℕ → Type 0
LosesPart ahead rest = (part : List ℕ) × NoNewline part × (ahead ≡ part ++ rest)

-- A part of a line without its newline was taken of the bytes ahead, and `rest` follows it. Its first 9,217 bytes, one more
-- than a line may have, are kept.
pub record KeepsPart (ahead kept rest : List ℕ) : Type 0 where
  pub part : List ℕ
  pub clean : NoNewline part
  pub front : kept ≡ take 9217 part
  pub bytes : ahead ≡ part ++ rest

-- the bytes of `before` that a source gave, where `after` is what it has left of them
abbrev pub given : List ℕ → List ℕ → List ℕ
given before after = take (length before - length after) before
