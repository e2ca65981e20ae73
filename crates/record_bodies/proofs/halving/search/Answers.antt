use Rattle.std.proofs.Common.{◌≡◌, ◌≤◌, ◌<◌, ◌+◌, ◌-◌, ◌*◌, ◌^◌, ◌/◌, ℕ, List, Option, Some, length, get_or, sym, ap, subst, ◌∙◌, arith}
use Rattle.std.proofs.lemmas.List.{length-map}
use Rattle.record_bodies.specs.Ascending.{IsBefore, labels_of, text_at, text_in}
use Rattle.record_bodies.specs.Entries.{row_directory}
use Rattle.record_bodies.proofs.HalvingLaws.{greater_before, equal_same, before_middle, after_middle, halved}
use Rattle.record_bodies.proofs.ListedLaws.{among_at, text_of}
use Rattle.record_bodies.proofs.halving.search.Goals as goal

pub label_of-requires : goal.label_of-requires
label_of-requires g c =
    let middle : ℕ = c.halves.low + (c.halves.high - c.halves.low) / 2 in
    c.requires.held (get_or c.args.cells.now middle 0) (among_at c.args.cells.now middle (omega (arith, c.halves-test.true, c.halves.invariant.within)))

pub halves-preserved-in-Less : goal.halves-preserved-in-Less
halves-preserved-in-Less g c =
    let cells : List ℕ = c.args.cells.now in
    let d : List (Option (List ℕ)) = row_directory c.args.rows.now in
    let low : ℕ = c.halves.low in
    let high : ℕ = c.halves.high in
    let middle : ℕ = low + (high - low) / 2 in
    let within : middle < length cells = omega (arith, c.halves-test.true, c.halves.invariant.within) in
    let inside : middle < length (labels_of d cells) = omega (arith, within, length-map cells (text_in d)) in
    let less : IsBefore (text_at (labels_of d cells) middle) c.args.label.now = subst (λ (l : List ℕ). IsBefore l c.args.label.now) (sym (text_of d cells middle c.label_of.result.now within c.label_of.ensures)) (sym c.compare.ensures.order ∙ c.in-Less.is) in
    let steps : c.compare.new.steps - c.args.steps.now ≡ (c.halves.steps - c.args.steps.now) + 1 = omega (arith, c.compare.ensures.step, c.halves.invariant.later) in
    let cost = halved (c.halves.steps - c.args.steps.now) (high - low) (high - (middle + 1)) (length cells) c.halves.invariant.halved (omega (arith, c.halves-test.true)) (omega (arith, c.halves-test.true)) in
    record {
      within = c.halves.invariant.within;
      ordered = omega (arith, c.halves-test.true);
      before = before_middle (labels_of d cells) c.requires.ascending c.args.label.now middle inside less;
      after = c.halves.invariant.after;
      later = omega (arith, c.compare.ensures.step, c.halves.invariant.later);
      halved = subst (λ (k : ℕ). 2 ^ k * (high - (middle + 1)) ≤ length cells) (sym steps) cost.0;
      few = subst (λ (k : ℕ). 2 ^ k ≤ 2 * length cells + 1) (sym steps) cost.1;
    }

pub returns-in-Equal-clause-found : goal.returns-in-Equal-clause-found
returns-in-Equal-clause-found g c = (
  omega (arith, c.halves-test.true, c.halves.invariant.within),
  c.label_of.ensures ∙ ap (λ l. Some l) (equal_same c.label_of.result.now c.args.label.now (sym c.compare.ensures.order ∙ c.in-Equal.is)),
)

pub returns-in-Equal-clause-few : goal.returns-in-Equal-clause-few
returns-in-Equal-clause-few g c =
    let low : ℕ = c.halves.low in
    let high : ℕ = c.halves.high in
    let size : ℕ = length c.args.cells.now in
    let steps : c.compare.new.steps - c.args.steps.now ≡ (c.halves.steps - c.args.steps.now) + 1 = omega (arith, c.compare.ensures.step, c.halves.invariant.later) in
    subst (λ (k : ℕ). 2 ^ k ≤ 2 * size + 1) (sym steps)
    (halved (c.halves.steps - c.args.steps.now) (high - low) 0 size c.halves.invariant.halved (omega (arith, c.halves-test.true)) (omega (arith, c.halves-test.true))).1

pub halves-preserved : goal.halves-preserved
halves-preserved g c =
    let cells : List ℕ = c.args.cells.now in
    let d : List (Option (List ℕ)) = row_directory c.args.rows.now in
    let low : ℕ = c.halves.low in
    let high : ℕ = c.halves.high in
    let middle : ℕ = low + (high - low) / 2 in
    let within : middle < length cells = omega (arith, c.halves-test.true, c.halves.invariant.within) in
    let inside : middle < length (labels_of d cells) = omega (arith, within, length-map cells (text_in d)) in
    let more : IsBefore c.args.label.now (text_at (labels_of d cells) middle) = subst (IsBefore c.args.label.now) (sym (text_of d cells middle c.label_of.result.now within c.label_of.ensures)) (greater_before c.label_of.result.now c.args.label.now (sym c.compare.ensures.order ∙ c.in-Greater.is)) in
    let steps : c.compare.new.steps - c.args.steps.now ≡ (c.halves.steps - c.args.steps.now) + 1 = omega (arith, c.compare.ensures.step, c.halves.invariant.later) in
    let cost = halved (c.halves.steps - c.args.steps.now) (high - low) (middle - low) (length cells) c.halves.invariant.halved (omega (arith, c.halves-test.true)) (omega (arith, c.halves-test.true)) in
    record {
      within = omega (arith, within);
      ordered = omega arith;
      before = c.halves.invariant.before;
      after = λ k above below. after_middle (labels_of d cells) c.requires.ascending c.args.label.now middle inside more k above (omega (arith, below, length-map cells (text_in d)));
      later = omega (arith, c.compare.ensures.step, c.halves.invariant.later);
      halved = subst (λ (k : ℕ). 2 ^ k * (middle - low) ≤ length cells) (sym steps) cost.0;
      few = subst (λ (k : ℕ). 2 ^ k ≤ 2 * length cells + 1) (sym steps) cost.1;
    }
