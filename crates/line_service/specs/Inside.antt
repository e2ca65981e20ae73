-- How the fields of a line buffer stand for a reading.
use Rattle.std.specs.Prelude.{◌≡◌, ◌<◌, ◌≤◌, IsTrue, length, slice_range, vec_capacity}
use Rattle.line_service.specs.Reading.{Reading, input_limit}
use Rattle.line_service.specs.declared.lines.LineBuffer.TheInside.{Inside}
use Rattle.line_service.specs.declared.lines.TheConstants.{CHUNK, LINE_ROOM}

-- the pending bytes are those of the chunk from start to end
abbrev pub reading_of : Inside → Reading
reading_of b = record {
  line = b.line.items;
  pending = slice_range b.chunk.items b.start b.end;
  ended = b.ended;
  taken = b.taken;
}

-- the chunk is whole, the line has its memory, and the end was given before the limit
pub record IsSound (b : Inside) : Type 0 where
  pub chunk : length b.chunk.items ≡ CHUNK
  pub ordered : b.start ≤ b.end
  pub within : b.end ≤ CHUNK
  pub memory : LINE_ROOM ≤ vec_capacity b.line
  pub line : length b.line.items ≤ LINE_ROOM
  pub taken : b.taken ≤ input_limit
  pub ended : IsTrue b.ended → b.taken < input_limit
