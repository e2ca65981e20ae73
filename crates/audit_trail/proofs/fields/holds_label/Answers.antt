use Rattle.std.proofs.Common.{sym, ◌∙◌, arith}
use Rattle.std.proofs.lemmas.Bool.{both_ways, false≢true}
use Rattle.audit_trail.proofs.FieldLaws.{label_blank, label_beyond, label_by_zeros, label_in}
use Rattle.audit_trail.proofs.fields.holds_label.Goals as goal

pub returns-then-at-eq0 : goal.returns-then-at-eq0
returns-then-at-eq0 c =
    let same = label_blank c.args.length c.args.field.now c.if-at-eq0.true c.told-field in (
      λ yes. same.0 (c.is_zero.ensures.zero.0 yes),
      λ held. c.is_zero.ensures.zero.1 (same.1 held),
    )

pub returns-then-at-gt64 : goal.returns-then-at-gt64
returns-then-at-gt64 c = (
  λ yes. absurd (false≢true yes),
  λ held. absurd (label_beyond c.args.length c.args.field.now c.if-at-gt64.true held),
)

pub slice_bounds-is_zero-start : goal.slice_bounds-is_zero-start
slice_bounds-is_zero-start c = omega (arith, c.if-at-gt64.false)

pub slice_bounds-is_zero-end-then-is_label : goal.slice_bounds-is_zero-end-then-is_label
slice_bounds-is_zero-end-then-is_label c = omega arith

pub returns-then-is_label : goal.returns-then-is_label
returns-then-is_label c =
    let same =
    label_by_zeros c.args.length c.args.field.now c.told-field c.if-at-eq0.false c.if-at-gt64.false (sym c.is_label.ensures ∙ c.if-is_label.true) in (
      λ yes. same.0 (c.is_zero-then-is_label.ensures.zero.0 yes),
      λ held. c.is_zero-then-is_label.ensures.zero.1 (same.1 held),
    )

pub returns-else-is_label : goal.returns-else-is_label
returns-else-is_label c = (
  λ yes. absurd (both_ways c.is_label.result c.if-is_label.false yes),
  λ held. c.is_label.ensures ∙ (label_in c.args.length c.args.field.now held c.if-at-eq0.false).0,
)
