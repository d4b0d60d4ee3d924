use Rattle.std.proofs.Common.{◌≡◌, ◌+◌, drop}
use Rattle.std.specs.List.{prefix_len}
use Rattle.org_splice.specs.Blanks.{is_solid}
use Rattle.org_outline.proofs.text.word_len.Given as goal

abbrev pub invariant-loop-count : goal.invariant-loop-count
invariant-loop-count l = l.count + prefix_len is_solid (drop l.count l.text) ≡ prefix_len is_solid l.text
