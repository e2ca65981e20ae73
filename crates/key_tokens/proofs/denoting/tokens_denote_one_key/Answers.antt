use Rattle.key_tokens.proofs.DenotedKeys.{denotes_one}
use Rattle.key_tokens.proofs.denoting.tokens_denote_one_key.Goals as goal

pub returns : goal.returns
returns c = λ masters transport bytes are_bytes apart. denotes_one masters transport bytes are_bytes apart
