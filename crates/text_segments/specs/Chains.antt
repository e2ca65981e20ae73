-- The chain of a text that goes in segments: the chaining block, and the carried bytes, which are no whole block yet.
-- In 16 bytes: the chaining block, the number of carried bytes, and these, filled with zeros.
use Rattle.std.specs.Prelude.{ℕ, ◌+◌, ◌-◌, nat_le, Bool, not, ◌&&◌, List, [], ◌∷◌, ◌++◌, length, take, drop, replicate, slice_index}
use Rattle.key_cells.specs.Bytes.{is_zero}
use Rattle.cca_vectors.specs.Checks.{Check, check}
use Rattle.text_segments.specs.declared.chains.Chain.{Chain}

-- the chain before the first segment
abbrev pub first_chain : List ℕ → Chain
first_chain start = record { block = start; carried = [] }

-- the 16 bytes of a chain
abbrev pub chain_bytes : Chain → List ℕ
chain_bytes chain =
    chain.block
    ++ (length chain.carried ∷ chain.carried ++ replicate (7 - length chain.carried) 0)

-- how many bytes are carried
abbrev pub carried_count : List ℕ → ℕ
carried_count bytes = slice_index bytes 8

-- 16 bytes are a chain: at most 7 bytes are carried, and those after them are zero
abbrev pub is_chain : List ℕ → Bool
is_chain bytes = nat_le (carried_count bytes) 7 && is_zero (drop (9 + carried_count bytes) bytes)

-- rule 36
abbrev pub chain_checks : List ℕ → List Check
chain_checks bytes = check 36 (not (is_chain bytes)) ∷ []

-- the chain that 16 bytes are
abbrev pub chain_of : List ℕ → Chain
chain_of bytes = record {
  block = take 8 bytes;
  carried = take (carried_count bytes) (drop 9 bytes);
}
