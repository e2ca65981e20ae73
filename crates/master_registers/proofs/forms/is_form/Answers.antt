use Rattle.std.proofs.Common.{◌↔◌, refl, arith}
use Rattle.std.specs.Prelude.{IsTrue, slice_range}
use Rattle.key_cells.specs.Bytes.{IsZero}
use Rattle.master_registers.specs.BodyForm.{HasStates, IsZeroWhereEmpty}
use Rattle.master_registers.proofs.ChainLaws.{and_then, and_else, form_in_order}
use Rattle.master_registers.proofs.forms.is_form.Goals.{then-has_states, else-has_states, then-is_zero, else-is_zero, then-is_zero_where_empty, else-is_zero_where_empty, then-is_zero_where_empty-2, else-is_zero_where_empty-2}
use Rattle.master_registers.proofs.forms.is_form.Goals as goal

pub has_states-requires : goal.has_states-requires
has_states-requires c = tt

pub overflow_add-is_zero : goal.overflow_add-is_zero
overflow_add-is_zero c = omega arith

pub slice_bounds-is_zero-count : goal.slice_bounds-is_zero-count
slice_bounds-is_zero-count c = omega arith

pub slice_bounds-is_zero-start : goal.slice_bounds-is_zero-start
slice_bounds-is_zero-start c = omega arith

pub slice_bounds-is_zero-end : goal.slice_bounds-is_zero-end
slice_bounds-is_zero-end c = omega arith

pub is_zero-requires : goal.is_zero-requires
is_zero-requires c = tt

pub is_zero_where_empty-requires-clause-state : goal.is_zero_where_empty-requires-clause-state
is_zero_where_empty-requires-clause-state c = omega arith

pub is_zero_where_empty-requires-clause-within : goal.is_zero_where_empty-requires-clause-within
is_zero_where_empty-requires-clause-within c = omega arith

pub is_zero_where_empty-requires-then-is_zero_where_empty-clause-state :
    goal.is_zero_where_empty-requires-then-is_zero_where_empty-clause-state
is_zero_where_empty-requires-then-is_zero_where_empty-clause-state c = omega arith

pub is_zero_where_empty-requires-then-is_zero_where_empty-clause-within :
    goal.is_zero_where_empty-requires-then-is_zero_where_empty-clause-within
is_zero_where_empty-requires-then-is_zero_where_empty-clause-within c = omega arith

pub is_zero_where_empty-requires-then-is_zero_where_empty-2-clause-state :
    goal.is_zero_where_empty-requires-then-is_zero_where_empty-2-clause-state
is_zero_where_empty-requires-then-is_zero_where_empty-2-clause-state c = omega arith

pub is_zero_where_empty-requires-then-is_zero_where_empty-2-clause-within :
    goal.is_zero_where_empty-requires-then-is_zero_where_empty-2-clause-within
is_zero_where_empty-requires-then-is_zero_where_empty-2-clause-within c = omega arith

pub slice_bounds-is_zero-count-then-is_zero_where_empty-3 :
    goal.slice_bounds-is_zero-count-then-is_zero_where_empty-3
slice_bounds-is_zero-count-then-is_zero_where_empty-3 c = omega arith

pub slice_bounds-is_zero-start-then-is_zero_where_empty-3 :
    goal.slice_bounds-is_zero-start-then-is_zero_where_empty-3
slice_bounds-is_zero-start-then-is_zero_where_empty-3 c = omega arith

pub slice_bounds-is_zero-end-then-is_zero_where_empty-3 :
    goal.slice_bounds-is_zero-end-then-is_zero_where_empty-3
slice_bounds-is_zero-end-then-is_zero_where_empty-3 c = omega arith

pub is_zero-requires-then-is_zero_where_empty-3 : goal.is_zero-requires-then-is_zero_where_empty-3
is_zero-requires-then-is_zero_where_empty-3 c = tt

pub returns-then-is_zero_where_empty-3-clause-form :
    goal.returns-then-is_zero_where_empty-3-clause-form
returns-then-is_zero_where_empty-3-clause-form c =
    let one : IsTrue c.if-has_states.value ↔ (HasStates c.args.body.now × IsZero (slice_range c.args.body.now 4 8)) = elim c.if-has_states.branch [ then-has_states w ↦ and_then _ _ _ w.if-has_states.true w.value-is c.has_states.ensures w.is_zero.ensures.zero | else-has_states w ↦ and_else _ _ w.if-has_states.false w.value-is c.has_states.ensures ] in
    let two : IsTrue c.if-is_zero.value ↔ ((HasStates c.args.body.now × IsZero (slice_range c.args.body.now 4 8)) × IsZeroWhereEmpty c.args.body.now 1 8) = elim c.if-is_zero.branch [ then-is_zero w ↦ and_then _ _ _ w.if-is_zero.true w.value-is one w.is_zero_where_empty.ensures | else-is_zero w ↦ and_else _ _ w.if-is_zero.false w.value-is one ] in
    let three : IsTrue c.if-is_zero_where_empty.value ↔ (((HasStates c.args.body.now × IsZero (slice_range c.args.body.now 4 8)) × IsZeroWhereEmpty c.args.body.now 1 8) × IsZeroWhereEmpty c.args.body.now 2 32) = elim c.if-is_zero_where_empty.branch [ then-is_zero_where_empty w ↦ and_then _ _ _ w.if-is_zero_where_empty.true w.value-is two w.is_zero_where_empty-then-is_zero_where_empty.ensures | else-is_zero_where_empty w ↦ and_else _ _ w.if-is_zero_where_empty.false w.value-is two ] in
    let four : IsTrue c.if-is_zero_where_empty-2.value ↔ ((((HasStates c.args.body.now × IsZero (slice_range c.args.body.now 4 8)) × IsZeroWhereEmpty c.args.body.now 1 8) × IsZeroWhereEmpty c.args.body.now 2 32) × IsZeroWhereEmpty c.args.body.now 3 56) = elim c.if-is_zero_where_empty-2.branch [ then-is_zero_where_empty-2 w ↦ and_then _ _ _ w.if-is_zero_where_empty-2.true w.value-is three w.is_zero_where_empty-then-is_zero_where_empty-2.ensures | else-is_zero_where_empty-2 w ↦ and_else _ _ w.if-is_zero_where_empty-2.false w.value-is three ] in
    form_in_order _ _ (and_then _ _ _ c.if-is_zero_where_empty-3.true refl four c.is_zero-then-is_zero_where_empty-3.ensures.zero)

pub returns-then-is_zero_where_empty-3-clause-bytes :
    goal.returns-then-is_zero_where_empty-3-clause-bytes
returns-then-is_zero_where_empty-3-clause-bytes c = record { size = c.told-body; each = c.fits-body }

pub returns-else-is_zero_where_empty-3-clause-form :
    goal.returns-else-is_zero_where_empty-3-clause-form
returns-else-is_zero_where_empty-3-clause-form c =
    let one : IsTrue c.if-has_states.value ↔ (HasStates c.args.body.now × IsZero (slice_range c.args.body.now 4 8)) = elim c.if-has_states.branch [ then-has_states w ↦ and_then _ _ _ w.if-has_states.true w.value-is c.has_states.ensures w.is_zero.ensures.zero | else-has_states w ↦ and_else _ _ w.if-has_states.false w.value-is c.has_states.ensures ] in
    let two : IsTrue c.if-is_zero.value ↔ ((HasStates c.args.body.now × IsZero (slice_range c.args.body.now 4 8)) × IsZeroWhereEmpty c.args.body.now 1 8) = elim c.if-is_zero.branch [ then-is_zero w ↦ and_then _ _ _ w.if-is_zero.true w.value-is one w.is_zero_where_empty.ensures | else-is_zero w ↦ and_else _ _ w.if-is_zero.false w.value-is one ] in
    let three : IsTrue c.if-is_zero_where_empty.value ↔ (((HasStates c.args.body.now × IsZero (slice_range c.args.body.now 4 8)) × IsZeroWhereEmpty c.args.body.now 1 8) × IsZeroWhereEmpty c.args.body.now 2 32) = elim c.if-is_zero_where_empty.branch [ then-is_zero_where_empty w ↦ and_then _ _ _ w.if-is_zero_where_empty.true w.value-is two w.is_zero_where_empty-then-is_zero_where_empty.ensures | else-is_zero_where_empty w ↦ and_else _ _ w.if-is_zero_where_empty.false w.value-is two ] in
    let four : IsTrue c.if-is_zero_where_empty-2.value ↔ ((((HasStates c.args.body.now × IsZero (slice_range c.args.body.now 4 8)) × IsZeroWhereEmpty c.args.body.now 1 8) × IsZeroWhereEmpty c.args.body.now 2 32) × IsZeroWhereEmpty c.args.body.now 3 56) = elim c.if-is_zero_where_empty-2.branch [ then-is_zero_where_empty-2 w ↦ and_then _ _ _ w.if-is_zero_where_empty-2.true w.value-is three w.is_zero_where_empty-then-is_zero_where_empty-2.ensures | else-is_zero_where_empty-2 w ↦ and_else _ _ w.if-is_zero_where_empty-2.false w.value-is three ] in
    form_in_order _ _ (and_else _ _ c.if-is_zero_where_empty-3.false refl four)

pub returns-else-is_zero_where_empty-3-clause-bytes :
    goal.returns-else-is_zero_where_empty-3-clause-bytes
returns-else-is_zero_where_empty-3-clause-bytes c = record { size = c.told-body; each = c.fits-body }
