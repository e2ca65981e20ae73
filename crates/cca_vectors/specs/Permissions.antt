-- What a control vector permits, by single bits of its left half. Bit 0 is the most significant bit of byte 0.
use Rattle.std.specs.Prelude.{ℕ, Bool, nat_le, ◌&&◌, ◌||◌, List, ◌==◌}
use Rattle.cca_vectors.specs.declared.key_usage.Usage.{Usage}
use Rattle.cca_vectors.specs.declared.key_usage.Usage.TheVariants as usage
use Rattle.cca_vectors.specs.Bits.{bit}
use Rattle.key_cells.specs.Bytes.{is_zero}
use Rattle.cca_vectors.specs.Vectors.{left_of}

-- the permission bit of each use
abbrev pub usage_bit : Usage → ℕ
usage_bit usage.Encipher = 18
usage_bit usage.Decipher = 19
usage_bit usage.MacGenerate = 20
usage_bit usage.MacVerify = 21
usage_bit usage.Transport = 21
usage_bit usage.Translate = 22
usage_bit usage.PairOperational = 18
usage_bit usage.PairImportExport = 19
usage_bit usage.PairSame = 20

-- bits 18 to 21, which the all-zero vector permits: it is a DATA key with every permission of DATA
abbrev pub is_data_bit : ℕ → Bool
is_data_bit n = nat_le 18 n && nat_le n 21

-- the bit is on, or the vector is all zero and the bit is one of these
abbrev pub permits_bit : List ℕ → ℕ → Bool
permits_bit vector n = bit (left_of vector) n == 1 || (is_zero vector && is_data_bit n)

abbrev pub permits : List ℕ → Usage → Bool
permits vector use_of = permits_bit vector (usage_bit use_of)

-- the export bit, bit 17, is on, or the vector is all zero
abbrev pub is_exportable : List ℕ → Bool
is_exportable vector = is_zero vector || bit (left_of vector) 17 == 1
