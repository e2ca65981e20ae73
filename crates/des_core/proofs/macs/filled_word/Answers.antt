use Rattle.std.proofs.Common.{◌≡◌, ℕ, ◌<◌, length, get_or, ◌∙◌, rules}
use Rattle.std.proofs.lemmas.Nat.{be_bytes_8}
use Rattle.des_core.proofs.MacLemmas.{fill-front, front-small}
use Rattle.des_core.proofs.macs.filled_word.Goals as goal

pub returns : goal.returns
returns c =
    let long : length c.put_front.new.room ≡ 8 = search rules in
    let bytes : (i : ℕ) → get_or c.args.bytes.now i 0 < 256 = search rules in
    let small : (i : ℕ) → get_or c.put_front.new.room i 0 < 256 = front-small c.args.bytes.now c.put_front.new.room bytes c.put_front.ensures in
    be_bytes_8 c.put_front.new.room c.from_be_bytes.result long small c.from_be_bytes.ensures
    ∙ fill-front c.args.bytes.now c.put_front.new.room c.requires c.put_front.ensures
