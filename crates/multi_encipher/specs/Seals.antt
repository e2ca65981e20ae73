-- Multiple encipherment: each half of a key is enciphered by itself with triple DES, under the three keys of 8
-- bytes of a key bundle, each XORed with the control vector of that half. A bundle is one list of 24 bytes.
use Rattle.std.specs.Prelude.{◌≡◌, ℕ, List, [], ◌++◌, replicate, slice_range, ◌==◌, if◌then◌else◌}
use Rattle.cca_vectors.specs.Vectors.{left_of, right_of, length_of}
use Rattle.key_cells.specs.Bytes.{xor, AreBytes, IsZero}
use Rattle.des_blocks.specs.TripleDes.{ede, ded}
use Rattle.multi_encipher.specs.Bundles.{key_of_bundle}
use Rattle.multi_encipher.specs.declared.halves.Sealed.{Sealed}

-- the variant of key n of a bundle, from 0: the key XORed with a control vector
unfoldable pub variant_key : List ℕ → ℕ → List ℕ → List ℕ
variant_key bundle n vector = xor (key_of_bundle bundle n) vector

-- a half of a key enciphered under a bundle, with the vector of that half
unfoldable pub sealed_half : List ℕ → List ℕ → List ℕ → List ℕ
sealed_half bundle vector half =
    ede (variant_key bundle 0 vector) (variant_key bundle 1 vector) (variant_key bundle 2 vector)
    half

unfoldable pub opened_half : List ℕ → List ℕ → List ℕ → List ℕ
opened_half bundle vector sealed =
    ded (variant_key bundle 0 vector) (variant_key bundle 1 vector) (variant_key bundle 2 vector)
    sealed

-- the halves of a key enciphered under a bundle; a single-length key has a zero right half
unfoldable pub seal : List ℕ → List ℕ → List ℕ → Sealed
seal bundle vector key = record {
  left = sealed_half bundle (left_of vector) (slice_range key 0 8);
  right =
      if length_of vector == 8 then replicate 8 0
      else sealed_half bundle (right_of vector) (slice_range key 8 16);
}

-- the key whose halves these are
unfoldable pub unseal : List ℕ → List ℕ → Sealed → List ℕ
unseal bundle vector sealed =
    opened_half bundle (left_of vector) sealed.left
    ++ (if length_of vector == 8 then [] else opened_half bundle (right_of vector) sealed.right)

-- a clear key of the length that its vector says
abbrev pub IsKey : List ℕ → List ℕ → Type 0
IsKey vector key = AreBytes (length_of vector) key

-- halves of which the right one is zero where the vector says a single-length key
pub record IsSealed (vector : List ℕ) (sealed : Sealed) : Type 0 where
  pub left : AreBytes 8 sealed.left
  pub right : AreBytes 8 sealed.right
  pub single : length_of vector ≡ 8 → IsZero sealed.right

-- under a given bundle and vector, sealing is one to one from the keys onto the halves
pub record SealIsOneToOne (bundle vector : List ℕ) : Type 0 where
  pub sealed : (key : List ℕ) → IsKey vector key → IsSealed vector (seal bundle vector key)
  pub undone : (key : List ℕ) → IsKey vector key
      → unseal bundle vector (seal bundle vector key) ≡ key
  pub opened : (sealed : Sealed) → IsSealed vector sealed
      → IsKey vector (unseal bundle vector sealed)
  pub redone : (sealed : Sealed) → IsSealed vector sealed
      → seal bundle vector (unseal bundle vector sealed) ≡ sealed
