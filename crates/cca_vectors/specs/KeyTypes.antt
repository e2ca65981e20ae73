-- The types of keys that can be generated: their names and the pairs that they form.
use Rattle.std.specs.Prelude.{ℕ, Bool, ◌&&◌, ◌||◌, List, [], ◌∷◌, Option, codes, find}
use Rattle.std.specs.List.{list_any}
use Rattle.std.specs.Str.{bytes_eq}
use Rattle.cca_vectors.specs.declared.key_type.KeyType.{KeyType}
use Rattle.cca_vectors.specs.declared.key_type.KeyType.TheVariants.{Data, Datac, Datam, Datamv, Cipher, Encipher, Decipher, Mac, Macver, Exporter, Importer, Okeyxlat, Ikeyxlat}

abbrev pub type_name : KeyType → List ℕ
type_name Data = codes "DATA"
type_name Datac = codes "DATAC"
type_name Datam = codes "DATAM"
type_name Datamv = codes "DATAMV"
type_name Cipher = codes "CIPHER"
type_name Encipher = codes "ENCIPHER"
type_name Decipher = codes "DECIPHER"
type_name Mac = codes "MAC"
type_name Macver = codes "MACVER"
type_name Exporter = codes "EXPORTER"
type_name Importer = codes "IMPORTER"
type_name Okeyxlat = codes "OKEYXLAT"
type_name Ikeyxlat = codes "IKEYXLAT"

abbrev pub key_types : List KeyType
key_types =
    Data ∷ Datac ∷ Datam ∷ Datamv ∷ Cipher ∷ Encipher ∷ Decipher ∷ Mac ∷ Macver ∷ Exporter
    ∷ Importer ∷ Okeyxlat ∷ Ikeyxlat ∷ []

-- the type with this name
abbrev pub type_named : List ℕ → Option KeyType
type_named text = find (λ kind. bytes_eq text (type_name kind)) key_types

-- two types are the same
abbrev pub is_type : KeyType → KeyType → Bool
is_type one other = bytes_eq (type_name one) (type_name other)

-- the types of the two keys of a pair
pub record KeyPair : Type 0 where
  pub one : KeyType
  pub other : KeyType

abbrev pub pair : KeyType → KeyType → KeyPair
pair one other = record { one = one; other = other }

-- the pairs of types, each in either order
abbrev pub key_pairs : List KeyPair
key_pairs =
    pair Data Data
    ∷ pair Datac Datac
    ∷ pair Datam Datam
    ∷ pair Cipher Cipher
    ∷ pair Mac Mac
    ∷ pair Datam Datamv
    ∷ pair Mac Macver
    ∷ pair Encipher Decipher
    ∷ pair Cipher Encipher
    ∷ pair Cipher Decipher
    ∷ pair Exporter Importer
    ∷ pair Okeyxlat Ikeyxlat
    ∷ pair Exporter Ikeyxlat
    ∷ pair Importer Okeyxlat
    ∷ []

-- the types stand in a pair, in this order
abbrev pub is_listed_pair : KeyType → KeyType → Bool
is_listed_pair first second =
    list_any (λ p. is_type p.one first && is_type p.other second) key_pairs

-- the types are a pair, in either order
abbrev pub is_pair : KeyType → KeyType → Bool
is_pair first second = is_listed_pair first second || is_listed_pair second first
