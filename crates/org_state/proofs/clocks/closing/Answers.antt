use Rattle.std.proofs.Common.{refl, arith}
use Rattle.std.proofs.lemmas.Result.{err_from_is_err_and}
use Rattle.org_state.specs.Edits.{moved}
use Rattle.org_state.proofs.Switching.{stands, line_terminated, line_open, line_low, line_high, closing_edits, closing_in, closing_refused}
use Rattle.org_state.proofs.clocks.closing.Goals as goal

pub slice_bounds-bytes-count : goal.slice_bounds-bytes-count
slice_bounds-bytes-count c = line_low c.args.text.bytes.now c.args.running (stands c.args.text.bytes.now c.args.running c.args.text.whole c.requires)

pub slice_bounds-bytes-start : goal.slice_bounds-bytes-start
slice_bounds-bytes-start c = omega (arith, line_low c.args.text.bytes.now c.args.running (stands c.args.text.bytes.now c.args.running c.args.text.whole c.requires))

pub slice_bounds-bytes-end : goal.slice_bounds-bytes-end
slice_bounds-bytes-end c = omega (arith, line_high c.args.text.bytes.now c.args.running (stands c.args.text.bytes.now c.args.running c.args.text.whole c.requires))

pub invariant_of-close_clock : goal.invariant_of-close_clock
invariant_of-close_clock c =
    record { whole = line_terminated c.args.text.bytes.now c.args.running (stands c.args.text.bytes.now c.args.running c.args.text.whole c.requires) }

pub close_clock-requires : goal.close_clock-requires
close_clock-requires c = line_open c.args.text.bytes.now c.args.running (stands c.args.text.bytes.now c.args.running c.args.text.whole c.requires)

pub returns-in_err-edit : goal.returns-in_err-edit
returns-in_err-edit c =
    let p = err_from_is_err_and c.from_residual.result c.from_residual.ensures.1 in
    rw (p.1, p.2) (closing_refused c.args.text.bytes.now c.args.running (stands c.args.text.bytes.now c.args.running c.args.text.whole c.requires) c.args.now _ c.in_err-edit.ensures.err)

pub overflow_add-result : goal.overflow_add-result
overflow_add-result c =
    let there = stands c.args.text.bytes.now c.args.running c.args.text.whole c.requires in
    let made = closing_edits c.args.text.bytes.now c.args.running there c.args.now c.in_ok-edit.edit (moved c.args.running.line.start c.in_ok-edit.edit) c.in_ok-edit.ensures.ok refl in
    omega (arith, closing_in c.args.text.bytes.now c.args.running there (moved c.args.running.line.start c.in_ok-edit.edit) made.0 c.args.text.whole made.2)

pub returns : goal.returns
returns c = closing_edits c.args.text.bytes.now c.args.running (stands c.args.text.bytes.now c.args.running c.args.text.whole c.requires) c.args.now c.in_ok-edit.edit _ c.in_ok-edit.ensures.ok refl
