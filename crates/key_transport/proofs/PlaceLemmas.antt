-- Keys in the places of the workbench, and the tokens that are written for them.
use Rattle.std.proofs.Common.{◌≡◌, ℕ, ◌-◌, None, Some, List, ◌++◌, replicate, sym, ap, ◌∙◌, arith}
use Rattle.std.proofs.lemmas.List.{append-nil, take_at}
use Rattle.key_cells.specs.Bytes.{AreBytes}
use Rattle.cca_vectors.specs.Vectors.{length_of}
use Rattle.key_cells.specs.Bench.{Bench}
use Rattle.key_cells.specs.Lease.{bench_of, holding}
use Rattle.key_cells.specs.declared.leases.Lease.{Lease}
use Rattle.key_cells.specs.declared.schedules.Schedule.{Schedule}
use Rattle.key_tokens.specs.declared.key_token.Kind.TheVariants.{Internal, External}
use Rattle.key_tokens.specs.Denotes.{ClearKey, MasterKeys, HaveDistinctPatterns, denoted_under}
use Rattle.key_tokens.specs.Layout.{IsToken, made}
use Rattle.key_tokens.proofs.DenotedKeys.{denotes_one}
use Rattle.master_registers.specs.Loaded.{Loaded}
use Rattle.master_registers.specs.Masters.{Empty, Full, Masters, NewRegister, Partial, new_bytes, pattern_of_master, state_of}
use Rattle.master_registers.specs.declared.registers.NewState.TheVariants as state
use Rattle.master_registers.specs.declared.registers.Registers.{Registers}
use Rattle.multi_encipher.specs.Bundles.{key_in, transport_bundle, with_zeros}
use Rattle.multi_encipher.specs.Seals.{IsKey, seal}
use Rattle.verb_rules.specs.Keys.{master_key, sealed_token}
use Rattle.key_transport.specs.Changes.{ChangesKeys}
use Rattle.key_transport.specs.Tokens.{full_bytes, new_token}

-- ---- keys in 16 bytes

-- the key that was put in a place is the one that stands there
pub key_put : (vector key place : List ℕ) → IsKey vector key → place ≡ with_zeros vector key → key_in vector place ≡ key
key_put vector key place bytes is =
    ap (key_in vector) is ∙ take_at key (replicate (16 - length_of vector) 0) (length_of vector - 0) (omega (arith, bytes.size))

-- a double-length key fills its place
pub double_put : (vector key place : List ℕ) → length_of vector ≡ 16 → place ≡ with_zeros vector key → place ≡ key
double_put vector key place double is = is ∙ (ap (λ n. key ++ replicate (16 - n) 0) double ∙ append-nil key)

-- ---- the registers stay

-- a bench with the same registers holds what was loaded
pub still_loaded : (m : Masters) (held : Registers) (old new : Bench) → new.coming ≡ old.coming → new.current ≡ old.current → new.former ≡ old.former → Loaded m held old → Loaded m held new
still_loaded m held old new coming current former loaded = record {
  valid = loaded.valid;
  placed = record { coming = coming ∙ loaded.placed.coming; current = current ∙ loaded.placed.current; former = former ∙ loaded.placed.former };
  told = loaded.told;
}

-- ---- what changes of a lease

abbrev changed : Lease → List ℕ → List ℕ → List Schedule → Lease
changed old first key schedules = holding old (record (bench_of old) { first = first; key = key; schedules = schedules })

-- the place of the key alone has changed
pub key_changes : (old new : Lease) → new ≡ holding old (record (bench_of old) { key = (bench_of new).key }) → ChangesKeys old new
key_changes old new is = is ∙ ap (λ l. changed old (bench_of l).first (bench_of new).key (bench_of l).schedules) (sym is)

-- and then the others
pub key_changes_then : (old between new : Lease) → between ≡ holding old (record (bench_of old) { key = (bench_of between).key })
    → ChangesKeys between new → ChangesKeys old new
key_changes_then old between new is then = then ∙ ap (λ l. changed l (bench_of new).first (bench_of new).key (bench_of new).schedules) is

-- ---- external tokens

abbrev no_masters : MasterKeys
no_masters = record { current = None; former = None; coming = None }

none_apart : HaveDistinctPatterns no_masters
none_apart = λ current former is other. cc

-- an external token stands for its key under its transport key
pub stands_under : (transport bytes : List ℕ) (clear : ClearKey) → AreBytes 64 bytes → IsKey clear.vector clear.key
    → IsToken bytes (record { kind = External; pattern = replicate 8 0; sealed = seal (transport_bundle transport) clear.vector clear.key; vector = clear.vector })
    → denoted_under transport bytes ≡ Some clear
stands_under transport bytes clear are_bytes is_key is_token =
    (denotes_one no_masters transport bytes are_bytes none_apart).external clear (record { key = is_key; token = is_token })

-- ---- the new master key

-- a full new register holds the master key that is in its place
pub new_master : (coming : NewRegister) (place : List ℕ) → state_of coming ≡ state.Full → place ≡ new_bytes coming
    → master_key (full_bytes coming) ≡ Some (record { key = place; pattern = pattern_of_master place })
new_master Empty place full placed = cc
new_master (Partial bytes) place full placed = cc
new_master (Full bytes) place full placed = ap (λ k. Some (record { key = k; pattern = pattern_of_master k })) (sym placed)

pub new_token_is : (m : Masters) (held : Registers) (bench : Bench) (clear : ClearKey) → Loaded m held bench → held.new_state ≡ state.Full
    → new_token m clear ≡ made (record { kind = Internal; pattern = pattern_of_master bench.coming; sealed = seal bench.coming clear.vector clear.key; vector = clear.vector })
unfolding new_token
new_token_is m held bench clear loaded full =
    ap (λ o. sealed_token o clear)
    (new_master m.coming bench.coming (ap (λ (h : Registers). h.new_state) (sym loaded.told) ∙ full) loaded.placed.coming)
