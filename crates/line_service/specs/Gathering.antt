-- How a line is gathered from the bytes ahead, piece after piece.
use Rattle.std.specs.Prelude.{◌≡◌, ℕ, ◌+◌, ◌<◌, ◌≤◌, ◌⊎◌, Bool, true, false, IsTrue, List, [], ◌∷◌, ◌++◌, length, take, Option, Result, Ok, Err}
use Rattle.std.specs.Io.KnownBytes.{IsAtEnd}
use Rattle.device_cells.specs.WhereTold.{WhereTold}
use Rattle.line_service.specs.Lines.{newline, NoNewline}
use Rattle.line_service.specs.Reading.{Reading, KeepsPart, line_limit, input_limit, bytes_ahead}
use Rattle.line_service.specs.declared.lines.LineFault.{LineFault}
use Rattle.line_service.specs.declared.lines.Taken.{Taken}
use Rattle.line_service.specs.declared.lines.Taken.TheVariants.{Line, TooLong, End}

-- how many bytes of a line are kept: one more than a line may have
abbrev pub line_room : ℕ
line_room = line_limit + 1

-- no more than the limit was taken, and an end that was given came before it
pub record IsBounded (r : Reading) : Type 0 where
  pub within : r.taken ≤ input_limit
  pub early : IsTrue r.ended → r.taken < input_limit

-- the bytes pending moved to the line, up to their first newline, and whether there was one
abbrev pub Moves : Bool → Reading → Reading → Type 0
Moves true old now =
    (part : List ℕ) × NoNewline part × (old.pending ≡ part ++ newline ∷ now.pending)
    × (now ≡ record old { line = take line_room (old.line ++ part); pending = now.pending })
Moves false old now =
    NoNewline old.pending
    × (now ≡ record old { line = take line_room (old.line ++ old.pending); pending = [] })

-- a read of the source, whose bytes are pending
pub record Refills (before after : Option (List ℕ)) (old now : Reading) : Type 0 where
  pub line : now.line ≡ old.line
  pub bytes : WhereTold before after (λ x y. x ≡ now.pending ++ y)
  pub taken : now.taken ≡ old.taken + length now.pending
  pub some : (0 < length now.pending) × (now.ended ≡ old.ended) ⊎ IsTrue now.ended
  pub at_end : IsTrue now.ended → IsAtEnd after
  pub bounded : IsBounded now

-- what was gathered since the reading `old`; `cut` is the newline that ended the line, or nothing
pub record Gathering (cut : List ℕ) (before after : Option (List ℕ)) (old now : Reading) : Type 0 where
  pub told : WhereTold before after (λ x y.
      KeepsPart (old.pending ++ x) now.line (cut ++ now.pending ++ y))
  pub counted : WhereTold before after (λ x y. now.taken + length y ≡ old.taken + length x)
  pub clean : NoNewline now.line
  pub fewer : bytes_ahead now + length now.line + length cut ≤ bytes_ahead old
  pub ended : IsTrue old.ended → IsTrue now.ended
  pub at_end : IsTrue now.ended → IsAtEnd after
  pub later : old.taken ≤ now.taken
  pub bounded : IsBounded now

-- what ended the line
abbrev pub cut_of : Result Bool LineFault → List ℕ
cut_of (Ok true) = newline ∷ []
cut_of (Ok false) = []
cut_of (Err fault) = []

-- the answer for what was gathered, and the line that stays
abbrev pub Judges : Bool → Taken → Reading → Reading → Type 0
Judges whole Line old now =
    (now ≡ old) × (length old.line ≤ line_limit) × (whole ≡ false → 0 < length old.line)
Judges whole TooLong old now = (now ≡ record old { line = [] }) × (line_limit < length old.line)
Judges whole End old now = (now ≡ old) × (whole ≡ false) × (old.line ≡ [])
