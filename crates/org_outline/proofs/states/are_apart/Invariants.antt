use Rattle.std.proofs.Common.{◌≡◌, drop, ◌++◌}
use Rattle.org_outline.specs.States.{all_distinct, words_of}
use Rattle.org_outline.proofs.states.are_apart.Given as goal

abbrev pub invariant-loop-index : goal.invariant-loop-index
invariant-loop-index l = all_distinct (words_of (drop l.index l.words) ++ words_of l.more) ≡ all_distinct (words_of l.words ++ words_of l.more)
