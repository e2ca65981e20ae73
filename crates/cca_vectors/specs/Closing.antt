-- A control vector made one that forbids export.
use Rattle.std.specs.Prelude.{ℕ, ◌-◌, ◌*◌, ◌/◌, ◌%◌, List, ◌++◌, slice_index, slice_set, if◌then◌else◌}
use Rattle.key_cells.specs.Bytes.{is_zero}
use Rattle.cca_vectors.specs.Bits.{even_byte}
use Rattle.cca_vectors.specs.DefaultVectors.{vector_with}
use Rattle.cca_vectors.specs.Permissions.{is_exportable}
use Rattle.cca_vectors.specs.Vectors.{left_of, right_of}

-- byte 2 of a half with bit 17 off and bit 23 as the parity of the byte asks
abbrev pub closed_byte : ℕ → ℕ
closed_byte byte = even_byte (byte - 64 * (byte / 64 % 2))

-- a half that isn't all zero, with bit 17 off and bit 23 as the parity of byte 2 asks
abbrev pub closed_half : List ℕ → List ℕ
closed_half half =
    if is_zero half then half else slice_set half 2 (closed_byte (slice_index half 2))

-- the all-zero vector that may not be exported: that of a single-length DATA key
abbrev pub closed_zero : List ℕ
closed_zero = vector_with 0x00003C0003000000 0

-- the vector with its export bit off: as it is, where it forbids export
abbrev pub closed_to_export : List ℕ → List ℕ
closed_to_export vector =
    if is_exportable vector then
    (if is_zero vector then closed_zero
    else closed_half (left_of vector) ++ closed_half (right_of vector))
    else vector
