use Rattle.std.proofs.Common.{◌≡◌, ◌+◌, ◌≤◌, length, take}
use Rattle.std.specs.List.{suffix_len}
use Rattle.org_splice.specs.Blanks.{test_of}
use Rattle.org_splice.proofs.blanks.end_count.Given as goal

-- such bytes alone stand from here on
abbrev pub invariant-loop-start : goal.invariant-loop-start
invariant-loop-start l = record {
  within : l.start ≤ length l.line;
  behind : l.start + suffix_len (test_of l.ending) l.line ≡ length l.line + suffix_len (test_of l.ending) (take l.start l.line);
}

abbrev pub decreases-loop-start : goal.decreases-loop-start
decreases-loop-start l = l.start
