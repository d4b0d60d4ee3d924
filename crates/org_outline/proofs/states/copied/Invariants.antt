use Rattle.std.proofs.Common.{◌≡◌, take, map}
use Rattle.std.specs.String.{string_bytes}
use Rattle.org_outline.specs.States.{words_of}
use Rattle.org_outline.proofs.states.copied.Given as goal

abbrev pub invariant-loop-word : goal.invariant-loop-word
invariant-loop-word l = map string_bytes l.copies.items ≡ words_of (take l.word-index l.words)
