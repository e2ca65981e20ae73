use Rattle.std.proofs.Common.{nat_eq, length, sym, ap, ◌∙◌, arith}
use Rattle.std.specs.List.{starts_with}
use Rattle.record_bodies.specs.Entries.{row_directory}
use Rattle.request_verbs.proofs.ListedLabels.{without_one, count_one}
use Rattle.request_verbs.proofs.verbs.csnbkrl.count_beginning.Goals as goal
use Rattle.request_verbs.proofs.verbs.csnbkrl.count_beginning.Goals.{then-starts_with, else-starts_with}

pub loop-index-preserved : goal.loop-index-preserved
loop-index-preserved c =
    let d = row_directory c.args.records.now in
    let prefix = c.args.prefix.now in
    let label = c.label_at.result.now in
    let same = ap (λ l. starts_with nat_eq l prefix) (sym c.text.ensures.text) in
    elim c.if-starts_with.branch [
      | then-starts_with w ↦
          let more = count_one prefix d c.loop-index.index label c.label_at.ensures (same ∙ (sym c.starts_with.ensures.value ∙ w.if-starts_with.true)) in
          record {
            all = c.loop-index.invariant.all;
            few = c.loop-index.invariant.few;
            within = omega arith;
            count = omega (arith, more);
            most = omega arith;
          }
      | else-starts_with w ↦
          let none = without_one prefix d c.loop-index.index label c.label_at.ensures (same ∙ (sym c.starts_with.ensures.value ∙ w.if-starts_with.false)) in
          record {
            all = c.loop-index.invariant.all;
            few = c.loop-index.invariant.few;
            within = omega arith;
            count = w.count-is ∙ (c.loop-index.invariant.count ∙ sym (ap length none));
            most = omega arith;
          }
    ]
