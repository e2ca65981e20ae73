-- DES and triple DES of FIPS 46-3 on bytes: a key and a block have 8 bytes each.
use Rattle.std.specs.Prelude.{ℕ, List}
use Rattle.des_blocks.specs.Bits.{byte_bits, to_bytes}
use Rattle.des_blocks.specs.Des.{des, undes}

-- a block enciphered under a key
unfoldable pub enciphered : List ℕ → List ℕ → List ℕ
enciphered key block = to_bytes (des (byte_bits key) (byte_bits block))

-- a block deciphered under a key
unfoldable pub deciphered : List ℕ → List ℕ → List ℕ
deciphered key block = to_bytes (undes (byte_bits key) (byte_bits block))

-- a block enciphered under a, deciphered under b and enciphered under c (FIPS 46-3, Triple Data Encryption Algorithm)
unfoldable pub ede : List ℕ → List ℕ → List ℕ → List ℕ → List ℕ
ede a b c block = enciphered c (deciphered b (enciphered a block))

-- the inverse of ede: a block deciphered under c, enciphered under b and deciphered under a
unfoldable pub ded : List ℕ → List ℕ → List ℕ → List ℕ → List ℕ
ded a b c block = deciphered a (enciphered b (deciphered c block))
