use Rattle.std.proofs.Common.{◌≡◌, [], ◌++◌, length, codes, refl, sym, ap, ◌∙◌, arith, rules}
use Rattle.std.proofs.lemmas.Fmt.{length-decimal-le_succ}
use Rattle.key_records.proofs.StoreLaws.{same_directory}
use Rattle.record_bodies.specs.Entries.{directory, row_directory}
use Rattle.line_service.specs.Replies.{ok_text, text_field, number_field, written}
use Rattle.verb_rules.specs.Keys.{keys_of}
use Rattle.cca_machine.specs.Listing.{ascending, beginning, label_fields, with_commas}
use Rattle.request_verbs.proofs.ListedLabels.{counted_labels}
use Rattle.cca_machine.proofs.Settling.{shown_settles}
use Rattle.request_verbs.proofs.verbs.csnbkrl.csnbkrl.Goals as goal

pub number-requires : goal.number-requires
number-requires c = omega (arith, length-decimal-le_succ c.count_beginning.result (omega arith), ap length c.requires.empty)

pub returns : goal.returns
unfolding label_fields
returns c = record {
  settles = λ role granted held lease.
      let prefix = c.args.prefix.now in
      let d = row_directory c.args.records.now in
      let labels = beginning prefix (ascending d) in
      let reply : c.put_beginning.new.reply ≡ written (label_fields prefix d) =
      c.put_beginning.ensures.bytes
      ∙ ap (λ t. t ++ with_commas labels) (c.text.ensures.bytes ∙ ap (λ t. t ++ text_field (codes "labels") []) (c.number.ensures.bytes
      ∙ (ap (λ t. t ++ number_field (codes "count") c.count_beginning.result) (c.ok.ensures.bytes ∙ ap (λ t. t ++ ok_text) c.requires.empty)
      ∙ ap (λ n. ok_text ++ number_field (codes "count") n) c.count_beginning.ensures.count)))
      ∙ counted_labels (length labels) (with_commas labels) in
      shown_settles refl (λ s. label_fields prefix (directory s.labels)) refl (λ s. refl) (λ s. refl)
      (λ s is. reply ∙ ap (λ d. written (label_fields prefix d)) (sym (same_directory (keys_of s.registers) c.args.records.now s.labels is.recorded.keeps.agrees)))
      (search rules);
}
