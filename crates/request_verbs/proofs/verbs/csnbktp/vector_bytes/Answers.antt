-- The vector is its halves_joined.
use Rattle.request_verbs.proofs.verbs.csnbktp.vector_bytes.Goals as goal
use Rattle.key_tokens.proofs.Written.{halves_joined}

pub returns : goal.returns
returns c = rw (c.join.ensures, c.left.ensures.left, c.right.ensures.right) (halves_joined c.args.vector.now c.left.ensures.valid.whole)
