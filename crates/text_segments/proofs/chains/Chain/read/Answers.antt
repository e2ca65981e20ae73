use Rattle.std.proofs.Common.{◌≡◌, ◌∙◌, ◌+◌, ◌-◌, ◌≤◌, ℕ, Bool, ◌&&◌, List, [], length, take, drop, slice_index, ap, refl, subst, sym, arith}
use Rattle.std.proofs.lemmas.Bool.{le-leb, lt-leb}
use Rattle.std.proofs.lemmas.List.{length-drop, length-take, take_all}
use Rattle.cca_vectors.proofs.Judging.{fails_first, passes}
use Rattle.key_cells.specs.Bytes.{IsZero, is_zero}
use Rattle.text_segments.specs.Chains.{chain_bytes, chain_of, is_chain}
use Rattle.text_segments.specs.declared.chains.Chain.{Chain}
use Rattle.text_segments.proofs.ChainLemmas.{same}
use Rattle.text_segments.proofs.chains.Chain.read.Goals as goal
use Rattle.text_segments.proofs.chains.Chain.read.Goals.{then-count-gt-MOST-via-then-count-gt-MOST, then-count-gt-MOST-via-else-count-gt-MOST+then-not-is_zero}

abbrev made : List ℕ → List ℕ → Chain
made block carried = record { block = block; carried = carried }

-- the bytes after the carried ones
rest_all : (bytes : List ℕ) → length bytes ≡ 16
    → take (16 - (9 + slice_index bytes 8)) (drop (9 + slice_index bytes 8) bytes) ≡ drop (9 + slice_index bytes 8) bytes
rest_all bytes size =
    let at = 9 + slice_index bytes 8 in
    take_all (16 - at) (drop at bytes) (omega (arith, length-drop at bytes, size))

-- the test that those are zero, where few are carried
tested : (bytes : List ℕ) (test : Bool) → length bytes ≡ 16 → slice_index bytes 8 ≤ 7
    → test ≡ is_zero (take (16 - (9 + slice_index bytes 8)) (drop (9 + slice_index bytes 8) bytes)) → is_chain bytes ≡ test
tested bytes test size few is =
    ap (λ p. p && is_zero (drop (9 + slice_index bytes 8) bytes)) (le-leb (slice_index bytes 8) 7 few) ∙ ap is_zero (sym (rest_all bytes size))
    ∙ sym is

-- what is read is the chain
chain_is : (c : goal.After-of) → made c.front_block.result c.of.result ≡ chain_of c.args.bytes.now
chain_is c =
    let bytes = c.args.bytes.now in
    let n = slice_index bytes 8 in
    let count : 9 + n - 9 ≡ n = omega arith in
    ap (λ b. made b c.of.result) c.front_block.ensures ∙ ap (made (take 8 bytes)) (c.of.ensures ∙ ap (λ k. take k (drop 9 bytes)) count)

pub returns-then-count-gt-MOST-clause-judges : goal.returns-then-count-gt-MOST-clause-judges
returns-then-count-gt-MOST-clause-judges c = elim c.then-count-gt-MOST.branch [
  | then-count-gt-MOST-via-then-count-gt-MOST w ↦
      fails_first 36 (is_chain c.args.bytes.now) []
      (ap (λ p. p && is_zero (drop (9 + slice_index c.args.bytes.now 8) c.args.bytes.now))
      (lt-leb (slice_index c.args.bytes.now 8) 7 w.if-count-gt-MOST.true))
  | then-count-gt-MOST-via-else-count-gt-MOST+then-not-is_zero w ↦
      fails_first 36 (is_chain c.args.bytes.now) []
      (tested c.args.bytes.now w.is_zero.result c.told-bytes w.if-count-gt-MOST.false w.is_zero.ensures.value ∙ w.if-not-is_zero.true)
]

pub returns-clause-judges : goal.returns-clause-judges
returns-clause-judges c =
    passes 36 (is_chain c.args.bytes.now) []
    (tested c.args.bytes.now c.is_zero.result c.told-bytes c.if-count-gt-MOST.false c.is_zero.ensures.value ∙ c.if-not-is_zero.false) refl

pub returns-clause-chain : goal.returns-clause-chain
returns-clause-chain c = chain_is c

pub returns-clause-same : goal.returns-clause-same
returns-clause-same c =
    ap chain_bytes (chain_is c)
    ∙ same c.args.bytes.now c.told-bytes c.if-count-gt-MOST.false
    (subst IsZero (rest_all c.args.bytes.now c.told-bytes) (c.if-not-is_zero.ensures.zero.0 refl))

pub returns-clause-few : goal.returns-clause-few
returns-clause-few c =
    omega (
      arith,
      ap (λ xs. length xs) c.of.ensures,
      length-take (9 + slice_index c.args.bytes.now 8 - 9) (drop 9 c.args.bytes.now),
      c.if-count-gt-MOST.false,
    )
