use Rattle.std.proofs.Common.{◌≡◌, ◌≤◌, length, replicate, ℕ, sym, ap, subst, ◌∙◌}
use Rattle.std.proofs.lemmas.List.{take-replicate, length-take-le}
use Rattle.slot_disk.proofs.call.Piece.wipe.Goals as goal

pub returns : goal.returns
returns c =
    let fits : c.self.inside.length ≤ 192 = c.self.invariant in
    let size : length c.args.self.now ≡ c.self.inside.length = sym (ap length c.self.view_is) ∙ length-take-le c.self.inside.length c.self.inside.bytes (subst (λ (n : ℕ). c.self.inside.length ≤ n) (sym c.self.told) fits) in
    take-replicate c.self.inside.length 192 0 fits ∙ ap (λ (n : ℕ). replicate n 0) (sym size)
