use Rattle.std.proofs.Common.{None, Some, sym, ap, ◌∙◌, arith}
use Rattle.std.proofs.lemmas.List.{length-take}
use Rattle.org_stamp.specs.Front.{closed_of}
use Rattle.org_stamp.proofs.Found.{open_until}
use Rattle.org_stamp.proofs.Scanned.{other_closing, same_closing}
use Rattle.org_stamp.proofs.stamp.Stamp.closed.Goals as goal

pub inside-requires : goal.inside-requires
inside-requires c = open_until _ c.in_ok-end.end (sym c.in_ok-end.ensures.first)

pub bounds-text-end : goal.bounds-text-end
bounds-text-end c = c.in_ok-end.ensures.within

pub slice_bounds-inside-end : goal.slice_bounds-inside-end
slice_bounds-inside-end c = omega (arith, c.in_ok-end.ensures.within, length-take c.in_ok-end.end c.args.text.now)

pub returns-in_err-end : goal.returns-in_err-end
returns-in_err-end c = c.from_residual.ensures ∙ ap (closed_of c.args.active c.args.text.now) c.in_err-end.ensures.first

pub returns-then-text-end : goal.returns-then-text-end
returns-then-text-end c =
    other_closing c.args.active c.args.text.now c.in_ok-end.end c.closing.result c.closing.ensures c.if-text-end.true ∙ ap (closed_of c.args.active c.args.text.now) c.in_ok-end.ensures.first

pub returns-in_err-stamp : goal.returns-in_err-stamp
returns-in_err-stamp c =
    c.from_residual-in_err-stamp.ensures ∙ same_closing c.args.active c.args.text.now c.in_ok-end.end c.closing.result None c.closing.ensures c.if-text-end.false c.in_err-stamp.ensures ∙ ap (closed_of c.args.active c.args.text.now) c.in_ok-end.ensures.first

pub returns : goal.returns
returns c =
    same_closing c.args.active c.args.text.now c.in_ok-end.end c.closing.result (Some c.in_ok-stamp.stamp) c.closing.ensures c.if-text-end.false c.in_ok-stamp.ensures ∙ ap (closed_of c.args.active c.args.text.now) c.in_ok-end.ensures.first
