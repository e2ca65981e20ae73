-- DES as FIPS 46-3 has it, on lists of bits: tables of places, S-boxes by row and column, rounds as a recursion over the list of round keys.
use Rattle.std.specs.Prelude.{ℕ, ◌+◌, ◌-◌, ◌*◌, List, [], ◌∷◌, ◌++◌, take, drop, map, reverse, slice_index, slice_index_or}
use Rattle.des_blocks.specs.Bits.{bits, number, xor}
use Rattle.des_blocks.specs.Tables.{Box, boxes, initial_permutation, final_permutation, expansion, permutation, key_choice_1, key_choice_2, shifts}

-- the bits at the places of a table; the first bit is number 1
unfoldable pub places : List ℕ → List ℕ → List ℕ
places table xs = map (λ n. slice_index xs (n - 1)) table

-- ---- the round keys

-- a list shifted left in a circle
abbrev pub shifted : ℕ → List ℕ → List ℕ
shifted n xs = drop n xs ++ take n xs

-- before each round the halves C and D are shifted, and permuted choice 2 of both is the round key (FIPS 46-3, Appendix 1, the key schedule KS)
unfoldable pub key_schedule : List ℕ → List ℕ → List ℕ → List (List ℕ)
key_schedule [] c d = []
key_schedule (n ∷ ns) c d =
    places key_choice_2 (shifted n c ++ shifted n d) ∷ key_schedule ns (shifted n c) (shifted n d)

-- the sixteen round keys of a key
unfoldable pub round_keys : List ℕ → List (List ℕ)
round_keys key =
    key_schedule shifts (take 28 (places key_choice_1 key)) (drop 28 (places key_choice_1 key))

-- ---- the cipher function f

-- the four bits that an S-box has for six: the first and the last are the row, the four between them the column (FIPS 46-3, The Cipher Function f)
unfoldable pub look_up : Box → List ℕ → List ℕ
look_up box six = bits 4 (slice_index (slice_index_or box row []) column) where
  row : ℕ
  row = 2 * slice_index six 0 + slice_index six 5

  column : ℕ
  column = number (take 4 (drop 1 six))

-- each six bits through the S-box of its place
unfoldable pub substitute : List Box → List ℕ → List ℕ
substitute [] xs = []
substitute (box ∷ rest) xs = look_up box (take 6 xs) ++ substitute rest (drop 6 xs)

-- f of a right half and a round key (FIPS 46-3, The Cipher Function f)
unfoldable pub f : List ℕ → List ℕ → List ℕ
f r k = places permutation (substitute boxes (xor (places expansion r) k))

-- ---- the cipher

-- the rounds over the round keys that are left; after the last one the halves are taken in the order R, L (FIPS 46-3, Enciphering)
unfoldable pub rounds : List (List ℕ) → List ℕ → List ℕ → List ℕ
rounds [] l r = r ++ l
rounds (k ∷ ks) l r = rounds ks r (xor l (f r k))

-- a block through IP, the rounds and the inverse of IP (FIPS 46-3, Enciphering)
unfoldable pub crypt : List (List ℕ) → List ℕ → List ℕ
crypt keys block =
    places final_permutation
    (rounds keys (take 32 (places initial_permutation block))
    (drop 32 (places initial_permutation block)))

-- enciphered under round keys
abbrev pub encipher : List (List ℕ) → List ℕ → List ℕ
encipher keys block = crypt keys block

-- deciphered under round keys: the same over the round keys in reverse (FIPS 46-3, Deciphering)
abbrev pub decipher : List (List ℕ) → List ℕ → List ℕ
decipher keys block = crypt (reverse keys) block

-- a block of 64 bits enciphered under a key of 64 bits
abbrev pub des : List ℕ → List ℕ → List ℕ
des key block = encipher (round_keys key) block

-- a block of 64 bits deciphered under a key of 64 bits
abbrev pub undes : List ℕ → List ℕ → List ℕ
undes key block = decipher (round_keys key) block
