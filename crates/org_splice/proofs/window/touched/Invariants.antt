use Rattle.std.proofs.Common.{◌≤◌}
use Rattle.org_splice.proofs.window.touched.Given as goal

-- the bytes before the edits are some of the text's
abbrev pub invariant-loop-edit : goal.invariant-loop-edit
invariant-loop-edit l = l.untouched.before ≤ l.fn.size
