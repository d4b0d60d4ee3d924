use Rattle.std.proofs.Common.{◌≡◌, ◌∙◌, None, arith, inl, inr}
use Rattle.std.specs.Prelude.{◌≢◌}
use Rattle.std.proofs.lemmas.Result.{err_from_is_err_and}
use Rattle.org_outline.specs.Tree.{tree}
use Rattle.org_state.proofs.Switching.{stands}
use Rattle.org_state.proofs.Both.{switched_none, switch_refused, switch_starved, switch_made}
use Rattle.org_state.proofs.clocks.switch_clock.Goals as goal
use Rattle.org_state.proofs.clocks.switch_clock.Goals.{then-number-2, else-number-2}

pub returns-then-number : goal.returns-then-number
returns-then-number c =
    let same : c.args.node ≡ c.args.running.heading = omega (arith, c.if-number.true, c.number.ensures, c.number-2.ensures) in
    (None, switched_none c.args.now c.args.running.heading (tree c.args.outline.now.text) c.args.node same, c.new.ensures.items)

pub returns-in_err-stop : goal.returns-in_err-stop
returns-in_err-stop c =
    let p = err_from_is_err_and c.from_residual.result c.from_residual.ensures.1 in
    let other : c.args.node ≢ c.args.running.heading = λ same. absurd (omega (arith, same, c.if-number.false, c.number.ensures, c.number-2.ensures)) in
    rw (p.1, p.2) (switch_refused c.args.now c.args.outline.now.text c.text.result.now c.args.running.heading c.args.node _ c.text.ensures.value other c.in_err-stop.ensures)

pub returns-in_err-start : goal.returns-in_err-start
returns-in_err-start c =
    let p = err_from_is_err_and c.from_residual-in_err-start.result c.from_residual-in_err-start.ensures.1 in
    let other : c.args.node ≢ c.args.running.heading = λ same. absurd (omega (arith, same, c.if-number.false, c.number.ensures, c.number-2.ensures)) in
    rw p.1 (switch_starved c.args.now c.args.outline.now.text c.text.result.now c.args.running.heading c.args.node c.in_ok-stop.stop p.0 c.text.ensures.value other c.in_ok-stop.ensures p.2)

pub returns-in_err-from_array : goal.returns-in_err-from_array
returns-in_err-from_array c =
    let p = err_from_is_err_and c.from_residual-in_err-from_array.result c.from_residual-in_err-from_array.ensures.1 in
    let other : c.args.node ≢ c.args.running.heading = λ same. absurd (omega (arith, same, c.if-number.false, c.number.ensures, c.number-2.ensures)) in
    rw p.1 (switch_starved c.args.now c.args.outline.now.text c.text.result.now c.args.running.heading c.args.node c.in_ok-stop.stop p.0 c.text.ensures.value other c.in_ok-stop.ensures p.2)

pub returns : goal.returns
returns c =
    let t = c.args.outline.now.text in
    let s = stands t c.args.running c.text.ensures.terminated c.requires.runs in
    let other : c.args.node ≢ c.args.running.heading = λ same. absurd (omega (arith, same, c.if-number.false, c.number.ensures, c.number-2.ensures)) in
    switch_made t c.text.result.now c.args.node c.args.running.heading c.args.now c.in_ok-start.start c.in_ok-stop.stop _ c.text.ensures.value c.text.ensures.terminated c.requires.node s.heading other
    c.in_ok-start.ensures.edits c.in_ok-stop.ensures
    (elim c.if-number-2.branch [
      | then-number-2 w ↦ inl (omega (arith, w.if-number-2.true, c.number-3.ensures, c.number-4.ensures), c.in_ok-from_array.ensures.items ∙ w.edits-is)
      | else-number-2 w ↦ inr (omega (arith, w.if-number-2.false, c.number-3.ensures, c.number-4.ensures), c.in_ok-from_array.ensures.items ∙ w.edits-is)
    ])
