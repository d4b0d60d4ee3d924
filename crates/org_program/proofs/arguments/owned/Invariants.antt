use Rattle.std.specs.Prelude.{◌≡◌, map, string_bytes, take}
use Rattle.org_program.proofs.arguments.owned.Given as goal

abbrev pub invariant-loop-word : goal.invariant-loop-word
invariant-loop-word l = map string_bytes l.owned.items ≡ map (λ word. word.now) (take l.word-index l.words)
