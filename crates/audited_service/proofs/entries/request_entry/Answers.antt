-- The texts of a request fit into the fields of an entry.
use Rattle.std.proofs.Common.{◌≡◌, ◌∙◌, ℕ, true, List, length, sym, subst, arith}
use Rattle.std.specs.Prelude.{◌⊎◌}
use Rattle.std.specs.List.{list_all}
use Rattle.cca_roles.specs.Characters.{is_letter}
use Rattle.cca_roles.specs.NameLaws.{label_short, role_short}
use Rattle.audit_trail.proofs.FieldLaws.{role_size, label_size}
use Rattle.verb_script.specs.Parsed.{seen}
use Rattle.audited_service.proofs.EntryLaws.{whole_labelled, whole_unlabelled, with_label, without_label}
use Rattle.audited_service.proofs.entries.request_entry.Goals as goal

pub put_filled-requires-clause-fits : goal.put_filled-requires-clause-fits
put_filled-requires-clause-fits c =
    omega (arith, role_short c.role.result.now c.role.ensures.name, role_size c.bare_entry-entry.result c.bare_entry-entry.ensures.whole)

pub put_filled-requires-in-Some-clause-fits : goal.put_filled-requires-in-Some-clause-fits
put_filled-requires-in-Some-clause-fits c =
    omega (arith, label_short c.in-Some.label.now c.in-Some.ensures.label, label_size c.bare_entry-entry.result c.bare_entry-entry.ensures.whole)

pub returns-in-Some-clause-entry : goal.returns-in-Some-clause-entry
returns-in-Some-clause-entry c =
    with_label c.bare_entry-entry.result c.args.rule c.bare_entry-entry.ensures.entry (seen c.args.request.now) c.role.result.now c.as_bytes.result.now c.put_filled.new.zeros c.put_filled-2.new.zeros
    c.put_filled.ensures c.put_filled-2.ensures c.role.ensures.role (c.as_bytes.ensures.value ∙ c.verb.ensures.verb)
    c.in-Some.label.now c.put_filled-in-Some.new.zeros c.in-Some.ensures.first c.put_filled-in-Some.ensures

pub returns-in-Some-clause-whole : goal.returns-in-Some-clause-whole
returns-in-Some-clause-whole c =
    whole_labelled c.bare_entry-entry.result c.args.rule c.bare_entry-entry.ensures.entry (seen c.args.request.now) c.role.result.now c.as_bytes.result.now c.put_filled.new.zeros c.put_filled-2.new.zeros
    c.put_filled.ensures c.put_filled-2.ensures c.bare_entry-entry.ensures.whole.rule c.role.ensures.name (subst (λ (word : List ℕ). list_all is_letter word ≡ true) (sym c.as_bytes.ensures.value) c.verb.ensures.letters)
    (subst (λ (word : List ℕ). (length word ≡ 7) ⊎ (length word ≡ 10)) (sym c.as_bytes.ensures.value) c.verb.ensures.size)
    c.in-Some.label.now c.put_filled-in-Some.new.zeros c.in-Some.ensures.label c.put_filled-in-Some.ensures

pub returns-in_default-clause-entry : goal.returns-in_default-clause-entry
returns-in_default-clause-entry c =
    without_label c.bare_entry-entry.result c.args.rule c.bare_entry-entry.ensures.entry (seen c.args.request.now) c.role.result.now c.as_bytes.result.now c.put_filled.new.zeros c.put_filled-2.new.zeros
    c.put_filled.ensures c.put_filled-2.ensures c.role.ensures.role (c.as_bytes.ensures.value ∙ c.verb.ensures.verb) c.in_default.ensures.first

pub returns-in_default-clause-whole : goal.returns-in_default-clause-whole
returns-in_default-clause-whole c =
    whole_unlabelled c.bare_entry-entry.result c.args.rule c.bare_entry-entry.ensures.entry (seen c.args.request.now) c.role.result.now c.as_bytes.result.now c.put_filled.new.zeros c.put_filled-2.new.zeros
    c.put_filled.ensures c.put_filled-2.ensures c.bare_entry-entry.ensures.whole.rule c.role.ensures.name (subst (λ (word : List ℕ). list_all is_letter word ≡ true) (sym c.as_bytes.ensures.value) c.verb.ensures.letters)
    (subst (λ (word : List ℕ). (length word ≡ 7) ⊎ (length word ≡ 10)) (sym c.as_bytes.ensures.value) c.verb.ensures.size)
