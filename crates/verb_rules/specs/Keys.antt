-- The clear key that a judged token stands for.
use Rattle.std.specs.Prelude.{◌≡◌, List, ℕ, Option, None, Some, option_map, replicate}
use Rattle.key_cells.specs.Bytes.{IsZero}
use Rattle.cca_vectors.specs.Vectors.{length_of}
use Rattle.key_cells.specs.Bench.{Bench}
use Rattle.key_tokens.specs.declared.key_token.Age.{Age}
use Rattle.key_tokens.specs.declared.key_token.Age.TheVariants.{Current, Old}
use Rattle.key_tokens.specs.declared.key_token.Kind.TheVariants.{Internal}
use Rattle.key_tokens.specs.Layout.{made}
use Rattle.key_tokens.specs.Denotes.{ClearKey, Denoted, MasterKey, MasterKeys}
use Rattle.master_registers.specs.Masters.{NewRegister, Empty, Partial, Full, Masters, pattern_of_master}
use Rattle.multi_encipher.specs.Bundles.{transport_bundle}
use Rattle.multi_encipher.specs.Seals.{seal, unseal}
use Rattle.verb_rules.specs.declared.judging.Judged.{Judged}

-- the master key of a register with its pattern, where the register is full
abbrev pub master_key : Option (List ℕ) → Option MasterKey
master_key None = None
master_key (Some bytes) = Some (record { key = bytes; pattern = pattern_of_master bytes })

-- the master key of a full new register
abbrev pub new_key : NewRegister → Option MasterKey
new_key Empty = None
new_key (Partial bytes) = None
new_key (Full bytes) = master_key (Some bytes)

-- the master keys under which tokens stand: of the current and the old register, and of a full new one
abbrev pub keys_of : Masters → MasterKeys
keys_of m = record {
  current = master_key m.current;
  former = master_key m.former;
  coming = new_key m.coming;
}

-- of the current and the old master key the one that a token is under: the old one, where it is under that
abbrev pub master_for : List ℕ → List ℕ → Option Age → List ℕ
master_for current former None = current
master_for current former (Some Current) = current
master_for current former (Some Old) = former

-- the key of a judged token whose halves are enciphered under a key bundle
abbrev pub opened_by : List ℕ → Judged → ClearKey
opened_by bundle judged = record {
  key = unseal bundle judged.token.vector judged.token.sealed;
  vector = judged.token.vector;
}

-- the clear key of a judged internal token, under the master keys of the bench
abbrev pub opened : Bench → Judged → ClearKey
opened bench judged = opened_by (master_for bench.current bench.former judged.age) judged

-- the clear key of a judged external token, under a transport key of 16 bytes
abbrev pub opened_under : List ℕ → Judged → ClearKey
opened_under transport judged = opened_by (transport_bundle transport) judged

-- the clear key of a judged internal token, with the register that it is under
abbrev pub opened_key : Bench → Judged → Option Denoted
opened_key bench judged =
    option_map (λ age. record { clear = opened bench judged; age = age }) judged.age

-- the right half of a single-length key is zero
abbrev pub HasHalves : Judged → Type 0
HasHalves judged = length_of judged.token.vector ≡ 8 → IsZero judged.token.sealed.right

-- the key is of double length, as transport keys are
abbrev pub IsDouble : Judged → Type 0
IsDouble judged = length_of judged.token.vector ≡ 16

-- the master key of the register that a key is under
abbrev pub master_under : MasterKeys → Age → Option MasterKey
master_under masters Current = masters.current
master_under masters Old = masters.former

-- the internal token of a key under a master key
abbrev pub sealed_token : Option MasterKey → ClearKey → List ℕ
sealed_token None clear = replicate 64 0
sealed_token (Some master) clear =
    made (record {
      kind = Internal;
      pattern = master.pattern;
      sealed = seal master.key clear.vector clear.key;
      vector = clear.vector;
    })

-- the one internal token that is written for a key, under the master key of its register
unfoldable pub token_for : MasterKeys → Denoted → List ℕ
token_for masters d = sealed_token (master_under masters d.age) d.clear
