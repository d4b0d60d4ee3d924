use Rattle.std.proofs.Common.{◌≡◌, ◌+◌, drop}
use Rattle.std.specs.List.{prefix_len}
use Rattle.org_headings.specs.Beginnings.{is_of_word}
use Rattle.org_headings.proofs.beginnings.word_len.Given as goal

abbrev pub invariant-loop-count : goal.invariant-loop-count
invariant-loop-count l = l.count + prefix_len is_of_word (drop l.count l.text) ≡ prefix_len is_of_word l.text
