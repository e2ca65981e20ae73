use Rattle.std.proofs.Common.{◌≡◌, ◌∙◌, inl, inr, false, ⊎_elim, None, Some, refl, sym, true≢false}
use Rattle.std.proofs.lemmas.Bool.{false≢true}
use Rattle.std.specs.Prelude.{IsTrue}
use Rattle.key_cells.specs.Lease.{bench_of}
use Rattle.verb_rules.specs.Keys.{keys_of}
use Rattle.record_bodies.specs.RecordBody.{is_turned, IsPair}
use Rattle.key_records.proofs.PairLaws.{pair_row, turned_as, turned_row}
use Rattle.key_records.proofs.parsing.both_in.Goals as goal

pub returns-in-None-clause-none : goal.returns-in-None-clause-none
returns-in-None-clause-none g c = λ _ both. c.in-None.ensures.none refl both.is_first both.is_second

pub returns-in-Some-kept_pattern-clause-some : goal.returns-in-Some-kept_pattern-clause-some
returns-in-Some-kept_pattern-clause-some g c = λ _. record {
  is_first = c.in-Some.ensures.first refl;
  is_second = c.in-Some.ensures.second refl;
  either = inl (turned_as (keys_of g.m) c.args.token.now c.in-Some.under c.args.second.now c.in-Some.ensures.found
      (Some c.in-Some-kept_pattern.pattern) c.in-Some-kept_pattern.ensures);
}

pub returns-in-Some-kept_pattern-clause-row : goal.returns-in-Some-kept_pattern-clause-row
returns-in-Some-kept_pattern-clause-row g c =
    turned_row (keys_of g.m) c.args.token.now c.in-Some.under c.args.second.now c.in-Some.ensures.found c.args.label.now
    c.in-Some-kept_pattern.pattern c.in-Some-kept_pattern.ensures

pub returns-then-are_pair-clause-some : goal.returns-then-are_pair-clause-some
returns-then-are_pair-clause-some g c = λ _. record {
  is_first = c.in-Some.ensures.first refl;
  is_second = c.in-Some.ensures.second refl;
  either = inr (c.if-are_pair.ensures.pair.0 refl);
}

pub returns-then-are_pair-clause-row : goal.returns-then-are_pair-clause-row
returns-then-are_pair-clause-row g c =
    pair_row g.m c.args.held.now (bench_of c.args.lease.now) c.args.token.now c.requires.0 (c.in-Some.ensures.first refl) c.args.label.now
    c.args.second.now (c.if-are_pair.ensures.pair.0 refl)
    (turned_as (keys_of g.m) c.args.token.now c.in-Some.under c.args.second.now c.in-Some.ensures.found None c.in-None-kept_pattern.ensures)

pub returns-then-are_pair-clause-rest : goal.returns-then-are_pair-clause-rest
returns-then-are_pair-clause-rest g c = c.if-are_pair.ensures.rest

pub returns-else-are_pair-clause-none : goal.returns-else-are_pair-clause-none
returns-else-are_pair-clause-none g c = λ _ both.
    let isnt : is_turned (keys_of g.m) c.args.token.now c.args.second.now ≡ false =
    turned_as (keys_of g.m) c.args.token.now c.in-Some.under c.args.second.now c.in-Some.ensures.found None c.in-None-kept_pattern.ensures in
    ⊎_elim
    (λ (turned : IsTrue (is_turned (keys_of g.m) c.args.token.now c.args.second.now)). true≢false (sym turned ∙ isnt))
    (λ (pair : IsPair (keys_of g.m) c.args.token.now c.args.second.now). false≢true (c.if-are_pair.ensures.pair.1 pair)) both.either

pub returns-else-are_pair-clause-rest : goal.returns-else-are_pair-clause-rest
returns-else-are_pair-clause-rest g c = c.if-are_pair.ensures.rest
