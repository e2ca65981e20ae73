-- Keys that are brought in by parts. Each part has as many bytes as the key, which is the exclusive or (XOR) of all.
use Rattle.std.specs.Prelude.{◌≡◌, ℕ, Bool, true, false, List, [], ◌∷◌, ◌++◌, length, replicate, fold, if◌then◌else◌}
use Rattle.key_cells.specs.Bytes.{AreBytes, xor}
use Rattle.cca_vectors.specs.PartVectors.{as_part}
use Rattle.cca_vectors.specs.declared.key_type.KeyType.{KeyType}
use Rattle.key_cells.specs.Bench.{Bench}
use Rattle.key_tokens.specs.Denotes.{ClearKey}
use Rattle.key_transport.specs.Generated.{vector_for}
use Rattle.multi_encipher.specs.Bundles.{key_in}
use Rattle.verb_rules.specs.Keys.{opened}
use Rattle.verb_rules.specs.declared.judging.Judged.{Judged}

-- ---- the steps

-- FIRST: the part itself, with the vector of a part of its type's keys
abbrev pub first_key : KeyType → List ℕ → ClearKey
first_key kind part = record { key = part; vector = as_part (vector_for kind (length part)) }

-- MIDDLE and LAST: the key part XOR the part; the last one makes the vector that of the whole key
abbrev pub combined_key : Bool → ClearKey → List ℕ → ClearKey
combined_key last clear part = record {
  key = xor clear.key part;
  vector = if last then as_part clear.vector else clear.vector;
}

-- the clear key of a judged token combined with the part in the place `Fresh`
abbrev pub key_with_fresh : Bench → Judged → Bool → ClearKey
key_with_fresh bench key last =
    combined_key last (opened bench key) (key_in key.token.vector bench.fresh)

-- ---- all of them

-- what FIRST, and MIDDLE for each part that follows, leave
abbrev pub key_before_last : KeyType → List ℕ → List (List ℕ) → ClearKey
key_before_last kind first middle = fold (combined_key false) (first_key kind first) middle

-- what LAST leaves then
abbrev pub key_of_parts : KeyType → List ℕ → List (List ℕ) → List ℕ → ClearKey
key_of_parts kind first middle last =
    combined_key true (key_before_last kind first middle) last

-- the exclusive or of all lists of so many bytes
abbrev pub xor_all : ℕ → List (List ℕ) → List ℕ
xor_all size [] = replicate size 0
xor_all size (part ∷ parts) = xor part (xor_all size parts)

-- beside all other parts of a key this one makes the key, and it alone does
pub record IsOnlyPart (size : ℕ) (before after : List (List ℕ)) (key part : List ℕ) : Type 0 where
  pub bytes : AreBytes size part
  pub makes : xor_all size (before ++ part ∷ after) ≡ key
  pub only : (other : List ℕ) → AreBytes size other
      → xor_all size (before ++ other ∷ after) ≡ key → other ≡ part
