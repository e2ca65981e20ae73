-- The modes over a block cipher: cipher block chaining of FIPS 81, the message authentication codes of FIPS 113 and ANSI X9.19, and
-- the padding of ANSI X9.23. Blocks are lists of 8 bytes.
use Rattle.std.specs.Prelude.{ℕ, ◌-◌, ◌/◌, ◌%◌, ◌==◌, nat_le, nat_lt, Bool, ◌&&◌, if◌then◌else◌, Option, Some, None, List, [], ◌∷◌, ◌++◌, length, take, drop, replicate, slice_index}
use Rattle.std.specs.List.{flat_map}
use Rattle.des_blocks.specs.Bits.{pieces, xor}
use Rattle.des_blocks.specs.TripleDes.{enciphered, deciphered, ede, ded}

-- the blocks of a text whose length is a multiple of 8
abbrev pub blocks : List ℕ → List (List ℕ)
blocks text = pieces (length text / 8) 8 text

-- blocks joined to a text
abbrev pub joined : List (List ℕ) → List ℕ
joined = flat_map (λ b. b)

-- enciphered in a chain: each block is first combined with the enciphered block before it, the first one with the start (FIPS 81, Cipher Block Chaining Mode)
unfoldable pub cbc : (List ℕ → List ℕ) → List ℕ → List (List ℕ) → List (List ℕ)
cbc e start [] = []
cbc e start (p ∷ ps) = e (xor p start) ∷ cbc e (e (xor p start)) ps

-- deciphered in a chain, by the inverse d of e (FIPS 81, Cipher Block Chaining Mode)
unfoldable pub uncbc : (List ℕ → List ℕ) → List ℕ → List (List ℕ) → List (List ℕ)
uncbc d start [] = []
uncbc d start (c ∷ cs) = xor (d c) start ∷ uncbc d c cs

-- the cipher under a clear key: DES where the key has 8 bytes, triple DES by its left, right and left half where it has 16
unfoldable pub e : List ℕ → List ℕ → List ℕ
e key block =
    if length key == 8 then enciphered key block
    else ede (take 8 key) (drop 8 key) (take 8 key) block

-- its inverse
unfoldable pub une : List ℕ → List ℕ → List ℕ
une key block =
    if length key == 8 then deciphered key block
    else ded (take 8 key) (drop 8 key) (take 8 key) block

-- 8 zero bytes
abbrev pub zero_block : List ℕ
zero_block = replicate 8 0

-- the text and as few zero bytes as make its length a multiple of 8
abbrev pub fill : List ℕ → List ℕ
fill text = text ++ replicate ((8 - length text % 8) % 8) 0

-- the last of some blocks, or the start where there is none
abbrev pub last_block : List ℕ → List (List ℕ) → List ℕ
last_block start [] = start
last_block start (b ∷ bs) = last_block b bs

-- the last block of the chain from a zero start over the filled text: the code X9.9-1 under a key of 8 bytes
unfoldable pub cbc_mac : (List ℕ → List ℕ) → List ℕ → List ℕ
cbc_mac e text = last_block zero_block (cbc e zero_block (blocks (fill text)))

-- the code X9.9-1 (FIPS 113, ANSI X9.9)
abbrev pub mac_x99 : List ℕ → List ℕ → List ℕ
mac_x99 key text = cbc_mac (enciphered key) text

-- the code X9.19OPT (ANSI X9.19) under a key of 16 bytes: X9.9-1 under the left half, deciphered under the right half and enciphered under the left one
abbrev pub mac_x919 : List ℕ → List ℕ → List ℕ
mac_x919 key text = enciphered (take 8 key) (deciphered (drop 8 key) (mac_x99 (take 8 key) text))

-- how many bytes padding adds to a text: 1 to 8
abbrev pub added : List ℕ → ℕ
added text = 8 - length text % 8

-- 1 to 8 bytes more, up to a multiple of 8: zeros, and last their number (ANSI X9.23)
unfoldable pub pad : List ℕ → List ℕ
pad text = text ++ replicate (added text - 1) 0 ++ added text ∷ []

-- the last byte, which says how many bytes were added
abbrev pub pad_count : List ℕ → ℕ
pad_count text = slice_index text (length text - 1)

-- the last byte says a number from 1 to 8
abbrev pub is_padded : List ℕ → Bool
is_padded text = nat_lt 0 (pad_count text) && nat_le (pad_count text) 8

-- the text without the bytes that were added, where the last byte says a number from 1 to 8
unfoldable pub unpad : List ℕ → Option (List ℕ)
unpad text = if is_padded text then Some (take (length text - pad_count text) text) else None
