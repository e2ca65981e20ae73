-- The token of a clear key under the current master key.
use Rattle.std.proofs.Common.{◌≡◌, ℕ, List, [], Option, None, Some, sym, ap, ◌∙◌}
use Rattle.key_cells.specs.Bytes.{AreBytes}
use Rattle.key_cells.specs.Bench.{Bench}
use Rattle.key_tokens.specs.declared.key_token.Age.TheVariants.{Current}
use Rattle.key_tokens.specs.declared.key_token.Kind.TheVariants.{Internal}
use Rattle.key_tokens.specs.declared.key_token.Token.{Token}
use Rattle.key_tokens.specs.Denotes.{ClearKey, MasterKey, Denoted, HaveDistinctPatterns, denoted}
use Rattle.key_tokens.specs.Layout.{IsToken, made}
use Rattle.key_tokens.proofs.DenotedKeys.{denotes_one}
use Rattle.multi_encipher.specs.Seals.{IsKey, seal}
use Rattle.master_registers.specs.Masters.{Masters, IsMasters, AreApart, pattern_of_master, kept_bytes}
use Rattle.master_registers.specs.Loaded.{Loaded, pattern_in}
use Rattle.master_registers.specs.declared.registers.Registers.{Registers}
use Rattle.master_registers.specs.declared.patterns.Pattern.{Pattern}
use Rattle.verb_rules.specs.Keys.{keys_of, master_key, sealed_token, token_for}

-- the patterns of the registers differ
pub keys_apart : (m : Masters) → IsMasters m → HaveDistinctPatterns (keys_of m)
keys_apart m valid = apart_by m.current m.former valid.apart
  where
    apart_by : (current former : Option (List ℕ)) → AreApart current former → HaveDistinctPatterns (record { current = master_key current; former = master_key former; coming = None })
    apart_by None former h = λ c f is other. cc is
    apart_by (Some x) None h = λ c f is other. cc other
    apart_by (Some x) (Some y) h = λ c f is other. let one : pattern_of_master x ≡ c.pattern = cc in let two : pattern_of_master y ≡ f.pattern = cc in λ same. h (one ∙ same ∙ sym two)

abbrev bytes_in : Option Pattern → List ℕ → List ℕ
bytes_in None x = x
bytes_in (Some p) x = p.bytes

module _ (m : Masters) (held : Registers) (bench : Bench) (loaded : Loaded m held bench) where
  -- the current master key is in the bench, and its pattern is known
  pub current_is : (pattern : Pattern) → held.current_pattern ≡ Some pattern → (keys_of m).current ≡ Some (record { key = bench.current; pattern = pattern.bytes })
  current_is pattern is = current_by m.current (ap (λ (h : Registers). h.current_pattern) (sym loaded.told) ∙ is) loaded.placed.current
    where
      current_by : (current : Option (List ℕ)) → pattern_in current ≡ Some pattern → bench.current ≡ kept_bytes current → master_key current ≡ Some (record { key = bench.current; pattern = pattern.bytes })
      current_by None is placed = cc is
      current_by (Some x) is placed =
          let same : pattern_of_master x ≡ pattern.bytes = ap (λ (p : Option Pattern). bytes_in p x) is in
          ap (λ p. Some (record { key = x; pattern = p })) same ∙ ap (λ k. Some (record { key = k; pattern = pattern.bytes })) (sym placed)

  module _ (pattern : Pattern) (is : held.current_pattern ≡ Some pattern) (clear : ClearKey) where
    abbrev master : MasterKey
    master = record { key = bench.current; pattern = pattern.bytes }

    abbrev current : Denoted
    current = record { clear = clear; age = Current }

    abbrev pub token_of_key : Token
    token_of_key = record { kind = Internal; pattern = pattern.bytes; sealed = seal bench.current clear.vector clear.key; vector = clear.vector }

    pub token_is : token_for (keys_of m) current ≡ made token_of_key
    unfolding token_for
    token_is = ap (λ o. sealed_token o clear) (current_is pattern is)

    -- it denotes the key
    pub denotes_key : (bytes : List ℕ) → AreBytes 64 bytes → IsToken bytes token_of_key → IsKey clear.vector clear.key → denoted (keys_of m) bytes ≡ Some current
    denotes_key bytes are_bytes is_token is_key =
        (denotes_one (keys_of m) [] bytes are_bytes (keys_apart m loaded.valid)).internal clear Current (master, (current_is pattern is, record { key = is_key; token = is_token }))
