use Rattle.std.proofs.Common.{◌≡◌, map, take, ap, ◌∙◌}
use borrow.Rule.Slice.PartMut.{post_of}
use Rattle.cca_vectors.specs.DefaultVectors.{size_of}
use Rattle.verb_rules.specs.Parity.{odd_byte}
use Rattle.key_transport.proofs.GeneratedLemmas.{odd_drawn}
use Rattle.key_transport.proofs.generating.fill_key.Goals as goal

pub returns-clause-drawn : goal.returns-clause-drawn
returns-clause-drawn g c =
    let place = c.fill_bytes.new.place in
    let odd = c.set_odd_parity.new.bytes in
    let is : odd ≡ map odd_byte (take (size_of c.args.length) place) =
    c.set_odd_parity.ensures ∙ ap (λ n. map odd_byte (take n place)) c.size.ensures in
    odd_drawn c.args.length (g.E.Entropy.left c.args.entropy.now) (g.E.Entropy.left c.fill_bytes.new.entropy) place odd
    (post_of 0 c.size.result place) c.fill_bytes.array_long is c.in_ok-fill_bytes.ensures.drawn
