use Rattle.std.proofs.Common.{◌≡◌, drop}
use Rattle.org_outline.specs.States.{has_word}
use Rattle.orgs_lists.proofs.filter.has_word.Given as goal

abbrev pub invariant-loop-other : goal.invariant-loop-other
invariant-loop-other l = has_word (drop l.other-index l.words) l.word ≡ has_word l.words l.word
