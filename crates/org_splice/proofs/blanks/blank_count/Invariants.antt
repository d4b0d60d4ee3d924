use Rattle.std.proofs.Common.{◌≡◌, ◌+◌, drop}
use Rattle.std.specs.List.{prefix_len}
use Rattle.org_splice.specs.Blanks.{is_blank}
use Rattle.org_splice.proofs.blanks.blank_count.Given as goal

abbrev pub invariant-loop-count : goal.invariant-loop-count
invariant-loop-count l = l.count + prefix_len is_blank (drop l.count l.line) ≡ prefix_len is_blank l.line
