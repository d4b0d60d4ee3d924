use Rattle.std.proofs.Common.{ℕ, List, Bor, ◌∙◌}
use Rattle.org_outline.proofs.Words.{list_any-flipped}
use Rattle.org_outline.proofs.states.has.Goals as goal

pub returns : goal.returns
returns c = c.contains.ensures.value ∙ list_any-flipped (λ (w : Bor (List ℕ)). w.now) c.args.word.now c.args.words.now
