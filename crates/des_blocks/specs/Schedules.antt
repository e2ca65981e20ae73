-- The round keys that schedules hold.
use Rattle.std.specs.Prelude.{◌≡◌, ℕ, ◌<◌, Bool, true, false, List, [], ◌∷◌, ◌++◌, reverse, slice_index, slice_index_or}
use Rattle.std.specs.Int.{w64, to_le_bytes}
use Rattle.key_cells.specs.declared.schedules.Schedule.{Schedule}
use Rattle.des_blocks.specs.Bits.{bits, byte_bits, pieces, to_bytes, xor}
use Rattle.des_blocks.specs.Des.{round_keys, encipher, decipher}

-- the low six bits of each group, one group after another
unfoldable pub group_bits : List ℕ → List ℕ
group_bits [] = []
group_bits (g ∷ gs) = bits 6 g ++ group_bits gs

-- the sixteen round keys of 48 bits that a schedule holds
unfoldable pub keys_of : Schedule → List (List ℕ)
keys_of schedule = pieces 16 48 (group_bits schedule.groups)

-- the schedule holds the round keys of this key of 8 bytes
abbrev pub IsOf : Schedule → List ℕ → Type 0
IsOf schedule key = keys_of schedule ≡ round_keys (byte_bits key)

-- the 48 bits of a round key in a word, its first group lowest
abbrev pub key_in : ℕ → List ℕ
key_in word = group_bits (to_le_bytes w64 word)

-- words hold the sixteen round keys of a key of 64 bits
abbrev pub AreKeysOf : List ℕ → List ℕ → Type 0
AreKeysOf words key =
    (round : ℕ) → round < 16 → key_in (slice_index words round) ≡ slice_index_or (round_keys key) round []

-- round keys XORed with as many others, one by one
unfoldable pub each_xor : List (List ℕ) → List (List ℕ) → List (List ℕ)
each_xor [] others = []
each_xor (key ∷ keys) [] = []
each_xor (key ∷ keys) (other ∷ others) = xor key other ∷ each_xor keys others

-- schedule n of a list, where it has one
abbrev pub schedule_at : List Schedule → ℕ → Schedule
schedule_at schedules n = slice_index_or schedules n (record { groups = [] })

-- three schedules hold the round keys of these three keys
pub record AreOf (schedules : List Schedule) (a b c : List ℕ) : Type 0 where
  pub first : IsOf (schedule_at schedules 0) a
  pub second : IsOf (schedule_at schedules 1) b
  pub third : IsOf (schedule_at schedules 2) c

-- a block enciphered under the first schedule, deciphered under the second and enciphered under the third
unfoldable pub ede_under : List Schedule → List ℕ → List ℕ
ede_under schedules block =
    encipher (keys_of (schedule_at schedules 2))
    (decipher (keys_of (schedule_at schedules 1))
    (encipher (keys_of (schedule_at schedules 0)) block))

-- a block deciphered under the third schedule, enciphered under the second and deciphered under the first
unfoldable pub ded_under : List Schedule → List ℕ → List ℕ
ded_under schedules block =
    decipher (keys_of (schedule_at schedules 0))
    (encipher (keys_of (schedule_at schedules 1))
    (decipher (keys_of (schedule_at schedules 2)) block))

-- round keys forward, or in reverse
unfoldable pub ordered : Bool → List (List ℕ) → List (List ℕ)
ordered false keys = keys
ordered true keys = reverse keys

-- a block of 8 bytes enciphered by DES under a schedule
abbrev pub enciphered_under : Schedule → List ℕ → List ℕ
enciphered_under schedule block = to_bytes (encipher (keys_of schedule) (byte_bits block))

-- its inverse
abbrev pub deciphered_under : Schedule → List ℕ → List ℕ
deciphered_under schedule block = to_bytes (decipher (keys_of schedule) (byte_bits block))

-- a block of 8 bytes by triple DES under three schedules
abbrev pub ede_bytes : List Schedule → List ℕ → List ℕ
ede_bytes schedules block = to_bytes (ede_under schedules (byte_bits block))

-- its inverse
abbrev pub ded_bytes : List Schedule → List ℕ → List ℕ
ded_bytes schedules block = to_bytes (ded_under schedules (byte_bits block))
