-- The bytes of the line stand at the front of the chunk.
use Rattle.std.proofs.Common.{◌≡◌, ◌-◌, ℕ, List, ◌++◌, length, take, drop, sym, ap, ◌∙◌, arith}
use Rattle.std.specs.List.{slice_range}
use Rattle.std.proofs.lemmas.List.{take_at, with_items_is}
use Rattle.line_service.proofs.PartLemmas.{same-reading}
use Rattle.line_service.proofs.lines.LineBuffer.put_back.Goals as goal

restored : (items room line rest : List ℕ) (count : ℕ) → items ≡ room → room ≡ line ++ rest → count ≡ length line → slice_range items 0 count ≡ line
restored items room line rest count same put size =
    let front : count - 0 ≡ count = omega arith in
    ap (λ n. take n items) front ∙ ap (take count) (same ∙ put) ∙ take_at line rest count (sym size)

pub returns-clause-back : goal.returns-clause-back
returns-clause-back c =
    let b = c.self.inside in
    let fits = c.put_front.auto.room ∙ c.as_mut_slice.ensures.len in
    let put = c.put_front.ensures ∙ ap (λ (line : List ℕ). line ++ drop (length line) c.as_mut_slice.result.now) c.as_slice.ensures.value in
    rw (← c.self.view_is) (same-reading _ _ _ _ _ _ c.clear.ensures.items
    (restored _ c.put_front.new.room b.line.items _ c.len-count.result (with_items_is b.chunk c.put_front.new.room fits) put (c.len-count.ensures ∙ b.line.ok.0)))

pub invariant_of-self : goal.invariant_of-self
invariant_of-self c =
    let b = c.self.inside in
    let fits = c.put_front.auto.room ∙ c.as_mut_slice.ensures.len in
    let sized = c.len-count.ensures ∙ b.line.ok.0 in
    record {
      chunk = ap length (with_items_is b.chunk c.put_front.new.room fits) ∙ fits ∙ b.chunk.ok.0 ∙ c.self.invariant.chunk;
      ordered = omega arith;
      within = omega (arith, sized, c.self.invariant.line);
      memory = omega (arith, c.clear.ensures.capacity, c.self.invariant.memory);
      line = omega (arith, ap length c.clear.ensures.items);
      taken = c.self.invariant.taken;
      ended = c.self.invariant.ended;
    }
