use Rattle.std.proofs.Common.{◌≡◌, ◌-◌, ◌<◌, true, false, ap, sym, ◌∙◌, arith}
use Rattle.des_blocks.specs.Schedules.{group_bits}
use Rattle.des_blocks.proofs.GroupLemmas.{key-at, ordered-key}
use Rattle.des_blocks.proofs.cipher.round_key.Goals as goal
use Rattle.des_blocks.proofs.cipher.round_key.Goals.{then-reversed, else-reversed}

pub returns : goal.returns
returns c =
    let at = c.if-reversed.at in
    let back : c.args.reversed ≡ true → at ≡ 15 - c.args.round = λ e. elim c.if-reversed.branch [ then-reversed w ↦ w.at-is | else-reversed w ↦ cc ] in
    let forth : c.args.reversed ≡ false → at ≡ c.args.round = λ e. elim c.if-reversed.branch [ then-reversed w ↦ cc | else-reversed w ↦ w.at-is ] in
    let below : at < 16 = elim c.if-reversed.branch [ then-reversed w ↦ omega (arith, w.at-is, c.requires) | else-reversed w ↦ omega (arith, w.at-is, c.requires) ] in
    ap group_bits c.key_word.ensures ∙ sym (ordered-key c.args.reversed c.args.keys.now c.args.round at c.requires back forth ∙ key-at c.args.keys.now at below)
