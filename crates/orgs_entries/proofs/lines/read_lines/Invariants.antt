use Rattle.std.proofs.Common.{◌≡◌, ◌<◌, ◌≤◌, ℕ, map, length}
use Rattle.std.specs.List.{range_with_len}
use Rattle.org_outline.specs.Tree.{node_at, node_count, tree}
use Rattle.orgs_entries.specs.Lines.{line_at, line_of}
use Rattle.orgs_entries.proofs.lines.read_lines.Given as goal

-- `line` is that of the place `counted`, after which all later headings stand
abbrev pub invariant-loop-index : goal.invariant-loop-index
invariant-loop-index l = record {
  items : l.lines.items ≡ map (line_of l.outline.text) (range_with_len 0 l.index);
  line : l.line ≡ line_at l.outline.text l.counted;
  within : l.counted ≤ length l.outline.text;
  before : (j : ℕ) → l.index ≤ j → j < node_count (tree l.outline.text) → l.counted ≤ (node_at (tree l.outline.text) j).at;
}
