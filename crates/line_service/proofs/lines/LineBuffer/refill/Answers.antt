-- The bytes that the read gave are pending, and the count of all that were taken stays within its limit.
use Rattle.std.proofs.Common.{◌≡◌, ◌-◌, ◌<◌, ◌≤◌, length, ap, ◌∙◌, arith}
use Rattle.std.proofs.lemmas.Bool.Decides.{Decides-eqb}
use Rattle.std.proofs.lemmas.List.{with_items_is}
use Rattle.line_service.specs.Inside.{reading_of}
use Rattle.line_service.specs.Reading.{input_limit}
use Rattle.line_service.proofs.RefillLemmas.{refilled}
use Rattle.line_service.proofs.lines.LineBuffer.refill.Goals as goal

pub returns-clause-ok : goal.returns-clause-ok
returns-clause-ok g c =
    let b = c.self.inside in
    let count = c.in_ok-count.count in
    let fits = c.in_ok-count.ensures.size ∙ c.as_mut_slice.ensures.len in
    let size : length c.read_front.new.chunk ≡ 9217 = fits ∙ b.chunk.ok.0 ∙ c.self.invariant.chunk in
    let room : b.taken < input_limit = omega (arith, c.requires.room, ap (λ r. r.taken) c.self.view_is) in
    let left : count ≤ input_limit - b.taken = omega (arith, c.in_ok-count.ensures.bound) in
    let within : count ≤ length c.read_front.new.chunk = omega (arith, c.in_ok-count.ensures.bound, size) in
    rw (← c.self.view_is) (refilled _ _ (reading_of b) c.read_front.new.chunk _ count (with_items_is b.chunk c.read_front.new.chunk fits)
    c.in_ok-count.ensures.bytes.0 c.in_ok-count.ensures.bytes.1 (omega (arith, size)) within room left
    (ap (λ r. r.ended) c.self.view_is ∙ c.requires.going))

pub invariant_of-self-2 : goal.invariant_of-self-2
invariant_of-self-2 g c =
    let b = c.self.inside in
    let fits = c.in_ok-count.ensures.size ∙ c.as_mut_slice.ensures.len in
    let room : b.taken < input_limit = omega (arith, c.requires.room, ap (λ r. r.taken) c.self.view_is) in
    record {
      chunk = ap length (with_items_is b.chunk c.read_front.new.chunk fits) ∙ fits ∙ b.chunk.ok.0 ∙ c.self.invariant.chunk;
      ordered = omega arith;
      within = omega (arith, c.in_ok-count.ensures.bound);
      memory = c.self.invariant.memory;
      line = c.self.invariant.line;
      taken = omega (arith, c.in_ok-count.ensures.bound, room);
      ended = λ is. omega (arith, (Decides-eqb c.in_ok-count.count 0).0 is, room);
    }

pub invariant_of-self : goal.invariant_of-self
invariant_of-self g c =
    let b = c.self.inside in
    let fits = c.in_err-count.ensures.size ∙ c.as_mut_slice.ensures.len in
    record {
      chunk = ap length (with_items_is b.chunk c.read_front.new.chunk fits) ∙ fits ∙ b.chunk.ok.0 ∙ c.self.invariant.chunk;
      ordered = omega arith;
      within = omega arith;
      memory = c.self.invariant.memory;
      line = c.self.invariant.line;
      taken = c.self.invariant.taken;
      ended = c.self.invariant.ended;
    }
