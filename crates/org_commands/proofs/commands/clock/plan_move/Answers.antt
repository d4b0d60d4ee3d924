use Rattle.std.proofs.Common.{◌≡◌, ◌∙◌, List, ℕ, [], ◌∷◌, subst}
use Rattle.std.specs.Prelude.{IsSomeAnd}
use Rattle.org_commands.proofs.Clocks.{move_made}
use Rattle.org_commands.proofs.Refiles.{two_made}
use Rattle.org_commands.proofs.commands.clock.plan_move.Goals as goal

pub returns : goal.returns
returns c =
    let a = c.args in
    let clock = a.clock.now in
    let other = a.other.now.text.bytes in
    let text = a.held.now.text.bytes in
    let start = c.in_ok-start.start in
    let stop = c.in_ok-stop.stop in
    let e = c.plan_of_two.ensures in
    let second = subst (λ (n : List ℕ). IsSomeAnd c.plan_of_two.result.second (λ second. (second.file ≡ n) × (second.edits.items ≡ start ∷ []))) c.given-to_file.ensures e.2 in
    move_made a.command.now.moment other text clock.running a.node clock.file a.command.now.file start stop
    c.plan_of_two.result c.text-2.result.now c.outline_of.result.text (c.text-2.ensures.value ∙ c.outline_of-2.ensures.0) c.outline_of.ensures.0 c.in_ok-start.ensures c.in_ok-stop.ensures
    (λ new closes opens. two_made clock.file a.command.now.file other text stop start new c.plan_of_two.result (e.0 ∙ c.made-file.ensures ∙ c.in_ok-clone.ensures.cases, e.1, second) closes opens)
