-- What a key token stands for: a clear key and its control vector. Nothing is assumed of who made the token.
use Rattle.std.specs.Prelude.{◌≡◌, ◌≢◌, ℕ, Bool, List, Option, None, Some, replicate, is_none, if◌then◌else◌}
use Rattle.std.specs.Str.{bytes_eq}
use Rattle.cca_vectors.specs.Checks.{first_failing}
use Rattle.multi_encipher.specs.Bundles.{transport_bundle}
use Rattle.multi_encipher.specs.Seals.{IsKey, seal, unseal}
use Rattle.key_tokens.specs.declared.key_token.Age.{Age}
use Rattle.key_tokens.specs.declared.key_token.Age.TheVariants.{Current, Old}
use Rattle.key_tokens.specs.declared.key_token.Asked.{Asked}
use Rattle.key_tokens.specs.declared.key_token.Asked.TheVariants as asked
use Rattle.key_tokens.specs.declared.key_token.Kind.{Kind}
use Rattle.key_tokens.specs.declared.key_token.Kind.TheVariants.{Internal, External}
use Rattle.key_tokens.specs.Layout.{IsToken}
use Rattle.key_tokens.specs.Fields.{pattern_of_token, sealed_of, vector_bytes_of}
use Rattle.key_tokens.specs.TokenChecks.{token_checks}

-- a key in clear, of the length that its vector says
pub record ClearKey : Type 0 where
  pub key : List ℕ
  pub vector : List ℕ

-- a master key of 24 bytes, and its verification pattern
pub record MasterKey : Type 0 where
  pub key : List ℕ
  pub pattern : List ℕ

-- the master keys of the current and the old register; None where a register is empty. And that of the new one, where
-- it is full: no token stands for a key under it yet.
pub record MasterKeys : Type 0 where
  pub current : Option MasterKey
  pub former : Option MasterKey
  pub coming : Option MasterKey

-- ---- as a relation

-- the bytes are a token of this kind and pattern whose halves are the key enciphered under three bundle
pub record IsTokenOf (kind : Kind) (pattern bundle bytes : List ℕ) (clear : ClearKey) : Type 0 where
  pub key : IsKey clear.vector clear.key
  pub token : IsToken bytes (record {
    kind = kind;
    pattern = pattern;
    sealed = seal bundle clear.vector clear.key;
    vector = clear.vector;
  })

-- an internal token stands for a key under the master key of the register that has its pattern
abbrev pub Denotes : MasterKeys → List ℕ → ClearKey → Age → Type 0
Denotes masters bytes clear Current =
    (master : MasterKey)
    × ((masters.current ≡ Some master) × IsTokenOf Internal master.pattern master.key bytes clear)
Denotes masters bytes clear Old =
    (master : MasterKey)
    × ((masters.former ≡ Some master) × IsTokenOf Internal master.pattern master.key bytes clear)

-- an external token stands for a key under a transport key
abbrev pub DenotesUnder : List ℕ → List ℕ → ClearKey → Type 0
DenotesUnder transport bytes clear =
    IsTokenOf External (replicate 8 0) (transport_bundle transport) bytes clear

-- the patterns of two registers differ
abbrev pub HaveDistinctPatterns : MasterKeys → Type 0
HaveDistinctPatterns masters =
    (current former : MasterKey) → masters.current ≡ Some current → masters.former ≡ Some former
    → current.pattern ≢ former.pattern

-- ---- as a function

-- the key of an internal token, and the register whose master key it is under
pub record Denoted : Type 0 where
  pub clear : ClearKey
  pub age : Age

-- no rule is broken
abbrev pub is_token : Asked → List ℕ → Bool
is_token asked bytes = is_none (first_failing (token_checks asked bytes))

-- the key whose halves the token holds, enciphered under three bundle
abbrev pub clear_of : List ℕ → List ℕ → ClearKey
clear_of bundle bytes = record {
  key = unseal bundle (vector_bytes_of bytes) (sealed_of bytes);
  vector = vector_bytes_of bytes;
}

-- the token under a register, where it has its pattern, or else another answer
abbrev pub denoted_or : Option MasterKey → Age → List ℕ → Option Denoted → Option Denoted
denoted_or None age bytes other = other
denoted_or (Some master) age bytes other =
    if bytes_eq (pattern_of_token bytes) master.pattern
    then Some (record { clear = clear_of master.key bytes; age = age })
    else other

unfoldable pub denoted : MasterKeys → List ℕ → Option Denoted
denoted masters bytes =
    if is_token asked.Internal bytes
    then denoted_or masters.current Current bytes (denoted_or masters.former Old bytes None)
    else None

unfoldable pub denoted_under : List ℕ → List ℕ → Option ClearKey
denoted_under transport bytes =
    if is_token asked.External bytes
    then Some (clear_of (transport_bundle transport) bytes)
    else None

-- ---- the relation is the function

pub record DenotesOne (masters : MasterKeys) (transport bytes : List ℕ) : Type 0 where
  pub internal : (clear : ClearKey) (age : Age) → Denotes masters bytes clear age
      → denoted masters bytes ≡ Some (record { clear = clear; age = age })
  pub internal_back : (clear : ClearKey) (age : Age)
      → denoted masters bytes ≡ Some (record { clear = clear; age = age })
      → Denotes masters bytes clear age
  pub external : (clear : ClearKey) → DenotesUnder transport bytes clear
      → denoted_under transport bytes ≡ Some clear
  pub external_back : (clear : ClearKey) → denoted_under transport bytes ≡ Some clear
      → DenotesUnder transport bytes clear
