-- The tokens that are written for a clear key: under the current or the new master key, and under a transport key.
use Rattle.std.specs.Prelude.{ℕ, List, codes, replicate, Option, None, Some, if◌then◌else◌}
use Rattle.std.specs.Str.{bytes_eq}
use Rattle.cca_vectors.specs.Closing.{closed_to_export}
use Rattle.key_cells.specs.Bench.{Bench}
use Rattle.key_tokens.specs.declared.key_token.Age.TheVariants as age
use Rattle.key_tokens.specs.declared.key_token.Kind.TheVariants.{External}
use Rattle.key_tokens.specs.Denotes.{ClearKey, Denoted}
use Rattle.key_tokens.specs.Layout.{made}
use Rattle.master_registers.specs.Masters.{Empty, Full, Masters, NewRegister, Partial}
use Rattle.multi_encipher.specs.Bundles.{key_in, transport_bundle}
use Rattle.multi_encipher.specs.Seals.{seal}
use Rattle.verb_rules.specs.Keys.{keys_of, master_key, opened, opened_under, sealed_token, token_for}
use Rattle.verb_rules.specs.declared.judging.Judged.{Judged}
use Rattle.key_transport.specs.declared.changing.Target.{Target}
use Rattle.key_transport.specs.declared.changing.Target.TheVariants.{Current, New}

-- a key that is under the current master key
abbrev pub as_current : ClearKey → Denoted
as_current clear = record { clear = clear; age = age.Current }

-- the internal token of a key under the current master key
abbrev pub current_token : Masters → ClearKey → List ℕ
current_token m clear = token_for (keys_of m) (as_current clear)

-- the bytes of the new register, where it is full
abbrev pub full_bytes : NewRegister → Option (List ℕ)
full_bytes Empty = None
full_bytes (Partial bytes) = None
full_bytes (Full bytes) = Some bytes

-- the internal token of a key under the new master key
unfoldable pub new_token : Masters → ClearKey → List ℕ
new_token m clear = sealed_token (master_key (full_bytes m.coming)) clear

-- the register with this name: the current master key, or the new one
abbrev pub target_of_name : List ℕ → Option Target
target_of_name text =
    if bytes_eq text (codes "RTCMK") then Some Current
    else if bytes_eq text (codes "RTNMK") then Some New
    else None

-- the internal token of a key under the master key of a register
abbrev pub changed_token : Masters → Target → ClearKey → List ℕ
changed_token m Current clear = current_token m clear
changed_token m New clear = new_token m clear

-- the external token of a key under a transport key of 16 bytes; it has no pattern
unfoldable pub external_token : List ℕ → ClearKey → List ℕ
external_token transport clear =
    made (record {
      kind = External;
      pattern = replicate 8 0;
      sealed = seal (transport_bundle transport) clear.vector clear.key;
      vector = clear.vector;
    })

-- the same key, with a control vector that forbids export
abbrev pub closed_key : ClearKey → ClearKey
closed_key clear = record { key = clear.key; vector = closed_to_export clear.vector }

-- the key in the place `Key` with this vector
abbrev pub key_with : Bench → List ℕ → ClearKey
key_with bench vector = record { key = key_in vector bench.key; vector = vector }

-- the clear key of a judged external token, whose transport key is judged too
abbrev pub transported_key : Bench → Judged → Judged → ClearKey
transported_key bench source transport = opened_under (opened bench transport).key source
