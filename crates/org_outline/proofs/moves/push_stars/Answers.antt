use Rattle.std.proofs.Common.{◌∙◌, ◌++◌, [], ◌∷◌, ap, append_assoc}
use Rattle.std.specs.Prelude.{replicate}
use Rattle.std.proofs.lemmas.List.{replicate_more}
use Rattle.org_outline.proofs.moves.push_stars.Goals as goal

pub loop-preserved : goal.loop-preserved
loop-preserved c =
    let out = c.args.out.now.items in
    c.in_ok-push.ensures.items ∙ ap (λ xs. xs ++ 42 ∷ []) c.loop.invariant ∙ append_assoc out (replicate c.loop.counter 42) (42 ∷ []) ∙ ap (λ xs. out ++ xs) (replicate_more c.loop.counter 42)
