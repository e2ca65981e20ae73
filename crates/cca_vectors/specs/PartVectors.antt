-- The control vector of a key made that of a key part, and that of a key part made that of the whole key.
use Rattle.std.specs.Prelude.{ℕ, ◌-◌, ◌/◌, ◌%◌, ◌^◌, List, ◌++◌, slice_index, slice_set, bit_xor, if◌then◌else◌}
use Rattle.key_cells.specs.Bytes.{is_zero}
use Rattle.cca_vectors.specs.Vectors.{left_of, right_of}

-- the same bytes with bit n changed
abbrev pub with_bit_changed : List ℕ → ℕ → List ℕ
with_bit_changed bytes n =
    slice_set bytes (n / 8) (bit_xor (slice_index bytes (n / 8)) (2 ^ (7 - n % 8)))

-- a half that isn't all zero, with bit 44, the key-part bit, changed, and bit 47, so that its byte keeps its parity
abbrev pub part_half : List ℕ → List ℕ
part_half half =
    if is_zero half then half else with_bit_changed (with_bit_changed half 44) 47

-- the vector of a part of the key, or the vector of the key of which it is that of a part
abbrev pub as_part : List ℕ → List ℕ
as_part vector = part_half (left_of vector) ++ part_half (right_of vector)
