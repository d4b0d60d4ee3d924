use Rattle.std.proofs.Common.{◌≡◌, ◌+◌, ◌≤◌, length, take}
use Rattle.std.specs.List.{suffix_len}
use Rattle.org_merge.specs.Reading.{is_return}
use Rattle.org_merge.proofs.text.return_count.Given as goal

-- carriage returns alone stand from here on
abbrev pub invariant-loop-start : goal.invariant-loop-start
invariant-loop-start l = record {
  within : l.start ≤ length l.line;
  rest : l.start + suffix_len is_return l.line ≡ length l.line + suffix_len is_return (take l.start l.line);
}

abbrev pub decreases-loop-start : goal.decreases-loop-start
decreases-loop-start l = l.start
