use Rattle.std.proofs.Common.{◌++◌, nat_eq, length, codes, sym, ap, ◌∙◌, arith}
use Rattle.std.specs.Prelude.{if◌then◌else◌}
use Rattle.std.specs.List.{starts_with}
use Rattle.std.proofs.lemmas.List.{append_assoc}
use Rattle.record_bodies.specs.Entries.{row_directory}
use Rattle.cca_roles.specs.NameLaws.{label_short}
use Rattle.cca_machine.specs.Listing.{with_commas}
use Rattle.request_verbs.proofs.ListedLabels.{so_far, are_none, with_one, without_one, commas_more, none_more}
use Rattle.request_verbs.proofs.verbs.csnbkrl.put_beginning.Goals as goal
use Rattle.request_verbs.proofs.verbs.csnbkrl.put_beginning.Goals.{then-starts_with, else-starts_with}

pub put_label-requires : goal.put_label-requires
put_label-requires c =
    let short = label_short c.label_at.result.now c.text-label.ensures.form in
    omega (arith, short, ap length c.text-label.ensures.text)

pub loop-index-preserved : goal.loop-index-preserved
loop-index-preserved c =
    let d = row_directory c.args.records.now in
    let prefix = c.args.prefix.now in
    let index = c.loop-index.index in
    let label = c.label_at.result.now in
    let text = c.text-label.result.now in
    let start = c.args.reply.now in
    let before = so_far prefix d index in
    let same = ap (λ l. starts_with nat_eq l prefix) (sym c.text-label.ensures.text) in
    elim c.if-starts_with.branch [
      | then-starts_with w ↦
          let more = with_one prefix d index label c.label_at.ensures (same ∙ (sym c.starts_with.ensures.value ∙ w.if-starts_with.true)) in
          let short = label_short label c.text-label.ensures.form in
          record {
            all = c.loop-index.invariant.all;
            few = c.loop-index.invariant.few;
            within = omega arith;
            first = w.first-is ∙ sym (ap are_none more ∙ none_more before label);
            bytes = w.reply-is ∙ (w.put_label.ensures.bytes
                ∙ (ap (λ r. r ++ (if c.loop-index.first then text else codes "," ++ text)) c.loop-index.invariant.bytes
                ∙ (ap (λ l. (start ++ with_commas before) ++ (if c.loop-index.first then l else codes "," ++ l)) c.text-label.ensures.text
                ∙ (ap (λ b. (start ++ with_commas before) ++ (if b then label else codes "," ++ label)) c.loop-index.invariant.first
                ∙ (append_assoc start (with_commas before) (if are_none before then label else codes "," ++ label)
                ∙ (ap (λ t. start ++ t) (sym (commas_more before label)) ∙ sym (ap (λ ls. start ++ with_commas ls) more)))))));
            size = omega (arith, ap length w.reply-is, w.put_label.ensures.size, short, ap length c.text-label.ensures.text);
          }
      | else-starts_with w ↦
          let none = without_one prefix d index label c.label_at.ensures (same ∙ (sym c.starts_with.ensures.value ∙ w.if-starts_with.false)) in
          record {
            all = c.loop-index.invariant.all;
            few = c.loop-index.invariant.few;
            within = omega arith;
            first = w.first-is ∙ (c.loop-index.invariant.first ∙ sym (ap are_none none));
            bytes = w.reply-is ∙ (c.loop-index.invariant.bytes ∙ sym (ap (λ ls. c.args.reply.now ++ with_commas ls) none));
            size = omega (arith, ap length w.reply-is);
          }
    ]
