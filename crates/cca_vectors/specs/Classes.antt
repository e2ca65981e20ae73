-- The class of a key, by byte 1 of its control vector: main key type, subtype and parity bit.
use Rattle.std.specs.Prelude.{ℕ, List, slice_index, ◌==◌, if◌then◌else◌}
use Rattle.cca_vectors.specs.declared.key_class.Class.{Class}
use Rattle.cca_vectors.specs.declared.key_class.Class.TheVariants.{Data, Cipher, Mac, Exporter, Importer, Other}

abbrev pub class_at : ℕ → Class
class_at byte =
    if byte == 0x00 then Data else
    if byte == 0x03 then Cipher else
    if byte == 0x05 then Mac else
    if byte == 0x41 then Exporter else
    if byte == 0x42 then Importer else Other

abbrev pub class_of : List ℕ → Class
class_of vector = class_at (slice_index vector 1)
