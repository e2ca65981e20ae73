use Rattle.std.proofs.Common.{◌≡◌, ◌+◌, ◌%◌, [], get_or, ap, ◌∙◌, arith}
use Rattle.des_blocks.specs.Schedules.{keys_of, ordered}
use Rattle.des_blocks.proofs.HalfLemmas.{half-xor, key-ahead}
use Rattle.des_blocks.proofs.cipher.next_half.Goals as goal

pub returns-clause-half : goal.returns-clause-half
returns-clause-half c l r key p joined = half-xor c.args.left c.cipher_function-out.result l _ p (c.cipher_function-out.ensures r key joined)

pub returns-clause-groups : goal.returns-clause-groups
returns-clause-groups c last =
    let same : (c.args.round + 1) % 16 ≡ c.args.round + 1 = omega (arith, last) in
    key-ahead c.args.left c.round_key-key.result c.cipher_function-out.result _ (c.round_key-key.ensures ∙ ap (λ n. get_or (ordered c.args.reversed (keys_of c.args.keys.now)) n []) same)
