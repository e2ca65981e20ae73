-- The pieces are those of the table.
use Rattle.std.proofs.Common.{◌≡◌, List, ℕ, [], ◌∷◌, ◌++◌, length, take, sym, ap, ◌∙◌, arith, rules}
use Rattle.std.specs.Prelude.{replicate}
use Rattle.std.specs.Int.{to_be_bytes, w32}
use Rattle.std.proofs.lemmas.List.{take_all}
use Rattle.cca_vectors.specs.Vectors.{left_of}
use Rattle.key_tokens.specs.Kinds.{kind_byte}
use Rattle.key_tokens.proofs.Written.{halves_joined, joined, with_whole_vector}
use Rattle.key_tokens.proofs.writing.with_tvv.Goals as goal

pub returns-clause-made : goal.returns-clause-made
returns-clause-made c =
    let pattern_long : length c.args.token.now.pattern ≡ 8 = search rules in
    let left_long : length c.args.token.now.sealed.left ≡ 8 = search rules in
    let right_long : length c.args.token.now.sealed.right ≡ 8 = search rules in
    let first_long : length c.left-left_vector.result ≡ 8 = search rules in
    let second_long : length c.right-right_vector.result ≡ 8 = search rules in
    let value_long : length c.write_u32.new.buf ≡ 4 = ap length c.write_u32.ensures in
    let all : c.append.result ≡ 64 =
    omega (
      arith,
      c.append.ensures.end,
      c.append-end-7.ensures.end,
      c.append-end-6.ensures.end,
      c.append-end-5.ensures.end,
      c.append-end-4.ensures.end,
      c.append-end-3.ensures.end,
      c.append-end-2.ensures.end,
      c.append-end.ensures.end,
    ) in
    let header : List ℕ = c.kind_byte.result ∷ 0 ∷ 0 ∷ 0 ∷ 0 ∷ 0 ∷ 0xc0 ∷ 0 ∷ [] in
    sym (take_all 64 c.append.new.bytes (omega (arith, c.append.array_long)))
    ∙ ap (λ n. take n c.append.new.bytes) (sym all)
    ∙ joined header c.args.token.now.pattern c.args.token.now.sealed.left c.args.token.now.sealed.right c.left-left_vector.result c.right-right_vector.result (replicate 12 0)
    c.write_u32.new.buf
    (take c.append-end.result c.append-end.new.bytes) (take c.append-end-2.result c.append-end-2.new.bytes)
    (take c.append-end-3.result c.append-end-3.new.bytes) (take c.append-end-4.result c.append-end-4.new.bytes)
    (take c.append-end-5.result c.append-end-5.new.bytes) (take c.append-end-6.result c.append-end-6.new.bytes)
    (take c.append-end-7.result c.append-end-7.new.bytes) (take c.append.result c.append.new.bytes)
    c.append-end.ensures.pieces c.append-end-2.ensures.pieces c.append-end-3.ensures.pieces c.append-end-4.ensures.pieces
    c.append-end-5.ensures.pieces c.append-end-6.ensures.pieces c.append-end-7.ensures.pieces c.append.ensures.pieces
    ∙ with_whole_vector c.kind_byte.result (kind_byte c.args.token.now.kind) c.args.token.now.pattern c.args.token.now.sealed.left c.args.token.now.sealed.right
    c.left-left_vector.result c.right-right_vector.result c.args.token.now.vector c.write_u32.new.buf (to_be_bytes w32 c.args.tvv)
    c.kind_byte.ensures
    (ap (λ first. first ++ c.right-right_vector.result) c.left-left_vector.ensures.left ∙ ap (λ second. left_of c.args.token.now.vector ++ second) c.right-right_vector.ensures.right
    ∙ halves_joined c.args.token.now.vector c.left-left_vector.ensures.valid.whole)
    c.write_u32.ensures
