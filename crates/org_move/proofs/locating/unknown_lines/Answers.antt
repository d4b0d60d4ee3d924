use Rattle.std.proofs.Common.{◌≡◌, ℕ, List, sym, subst, arith}
use Rattle.org_splice.specs.Lines.{terminated}
use Rattle.org_splice.proofs.Lines.{terminated-drop}
use Rattle.org_move.proofs.Lines.{leaves_all, leaves_some, lines_from}
use Rattle.org_move.proofs.locating.unknown_lines.Goals as goal

pub returns-in-Some : goal.returns-in-Some
returns-in-Some c =
    leaves_some _ _ _ _ _ _ _ _ _ _ c.saturating_sub.result (lines_from _ _ _ c.args.text.whole c.from_line-left.ensures) (omega (arith, c.min.ensures)) c.split_at.ensures.back c.saturating_sub.ensures c.in-Some.ensures.some
    c.split_at-in-Some.ensures.front c.split_at-in-Some.ensures.back

pub returns-in-None : goal.returns-in-None
returns-in-None c = leaves_all _ _ _ _ _ _ (lines_from _ _ _ c.args.text.whole c.from_line-left.ensures) (omega (arith, c.min.ensures)) c.in-None.ensures.none

pub invariant_of-end : goal.invariant_of-end
invariant_of-end c =
    let from = lines_from c.args.text.bytes.now c.min.result c.from_line-left.result.now c.args.text.whole c.from_line-left.ensures in
    record { whole = subst (λ (t : List ℕ). terminated t ≡ t) (sym c.split_at.ensures.back) (terminated-drop c.saturating_sub.result c.from_line-left.result.now from.terminated_left) }
