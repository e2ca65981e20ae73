-- The key in the workbench for which a token is written.
use Rattle.std.specs.Prelude.{ℕ, List}
use Rattle.key_cells.specs.Bench.{Bench}
use Rattle.key_tokens.specs.declared.key_token.Age.TheVariants.{Current}
use Rattle.key_tokens.specs.Denotes.{Denoted}
use Rattle.multi_encipher.specs.Bundles.{key_in}

-- the key in the place `Key` with this vector, under the current master key
abbrev pub current_key : Bench → List ℕ → Denoted
current_key bench vector = record {
  clear = record { key = key_in vector bench.key; vector = vector };
  age = Current;
}
