-- The control vectors that generated keys have, by type and length, and a vector made one that forbids export.
use Rattle.std.specs.Prelude.{ℕ, List, ◌++◌, codes, slice_set, Option, None, Some, option_map, ◌==◌, if◌then◌else◌}
use Rattle.std.specs.Str.{bytes_eq}
use Rattle.std.specs.Int.{to_be_bytes, w64}
use Rattle.cca_vectors.specs.declared.key_length.Length.{Length}
use Rattle.cca_vectors.specs.declared.key_length.Length.TheVariants.{Eight, Sixteen, Unique}
use Rattle.cca_vectors.specs.declared.key_type.KeyType.{KeyType}
use Rattle.cca_vectors.specs.declared.key_type.KeyType.TheVariants.{Data, Datac, Datam, Datamv, Cipher, Encipher, Decipher, Mac, Macver, Exporter, Importer, Okeyxlat, Ikeyxlat}

-- a vector, by its two halves as big-endian numbers
abbrev pub vector_with : ℕ → ℕ → List ℕ
vector_with left right = to_be_bytes w64 left ++ to_be_bytes w64 right

-- the left half of the vector of a single-length key, where the type has this length; the right half is zero
abbrev pub single_default : KeyType → Option ℕ
single_default Data = Some 0x00007D0003000000
single_default Datac = None
single_default Datam = None
single_default Datamv = None
single_default Cipher = Some 0x0003710003000000
single_default Encipher = Some 0x0003600003000000
single_default Decipher = Some 0x0003500003000000
single_default Mac = Some 0x00054D0003000000
single_default Macver = Some 0x0005440003000000
single_default Exporter = None
single_default Importer = None
single_default Okeyxlat = None
single_default Ikeyxlat = None

-- the vector of a double-length key, where the type has this length
abbrev pub double_default : KeyType → Option (List ℕ)
double_default Data = Some (vector_with 0x00007D0003410000 0x00007D0003210000)
double_default Datac = Some (vector_with 0x0000710003410000 0x0000710003210000)
double_default Datam = Some (vector_with 0x00004D0003410000 0x00004D0003210000)
double_default Datamv = Some (vector_with 0x0000440003410000 0x0000440003210000)
double_default Cipher = None
double_default Encipher = None
double_default Decipher = None
double_default Mac = Some (vector_with 0x00054D0003410000 0x00054D0003210000)
double_default Macver = Some (vector_with 0x0005440003410000 0x0005440003210000)
double_default Exporter = Some (vector_with 0x00417D0003410000 0x00417D0003210000)
double_default Importer = Some (vector_with 0x00427D0003410000 0x00427D0003210000)
double_default Okeyxlat = Some (vector_with 0x0041420003410000 0x0041420003210000)
double_default Ikeyxlat = Some (vector_with 0x0042420003410000 0x0042420003210000)

-- the vector of a type and a length in bytes
abbrev pub default_vector : KeyType → ℕ → Option (List ℕ)
default_vector kind length =
    if length == 8 then option_map (λ left. vector_with left 0) (single_default kind) else
    if length == 16 then double_default kind else None

-- the length with this name
abbrev pub length_of_name : List ℕ → Option Length
length_of_name text =
    if bytes_eq text (codes "8") then Some Eight
    else if bytes_eq text (codes "16") then Some Sixteen
    else if bytes_eq text (codes "DOUBLE-O") then Some Unique
    else None

-- how many bytes a key of a length has
abbrev pub size_of : Length → ℕ
size_of Eight = 8
size_of Sixteen = 16
size_of Unique = 16

-- the vector of a double-length key made that of one whose halves are guaranteed unique: byte 5 of each half is changed
abbrev pub with_unique_halves : List ℕ → List ℕ
with_unique_halves vector = slice_set (slice_set vector 5 0xC0) 13 0xA0

-- the vector of a type and a length
abbrev pub default_for : KeyType → Length → Option (List ℕ)
default_for kind Eight = default_vector kind 8
default_for kind Sixteen = default_vector kind 16
default_for kind Unique = option_map with_unique_halves (default_vector kind 16)
