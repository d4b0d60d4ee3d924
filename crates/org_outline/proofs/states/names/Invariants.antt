use Rattle.std.proofs.Common.{◌≡◌, drop, map}
use Rattle.std.specs.String.{string_bytes}
use Rattle.org_outline.specs.States.{has_word}
use Rattle.org_outline.proofs.states.names.Given as goal

abbrev pub invariant-loop-other : goal.invariant-loop-other
invariant-loop-other l = has_word (map string_bytes (drop l.other-index l.words)) l.word ≡ has_word (map string_bytes l.words) l.word
