use Rattle.std.proofs.Common.{◌≡◌, ◌<◌, ℕ, List, subst, arith}
use Rattle.std.specs.Prelude.{IsTrue}
use Rattle.std.proofs.lemmas.Grind.{common_steps}
use Rattle.org_account.specs.Text.{copies, are_rivals, IsToldLine}
use Rattle.org_account.proofs.union.gave_way.Goals as goal

pub returns : goal.returns
returns c = λ yes.
    let told : c.texts.inside.told.now ≡ c.args.texts.now.told = grind (arith, common_steps, c.texts.view_is) in
    let merged : c.texts.inside.merged.now ≡ c.args.texts.now.merged = grind (arith, common_steps, c.texts.view_is) in (
      subst (λ (x : List ℕ). IsToldLine x c.args.line.now) told (c.is_told_line.ensures c.if-not-is_told_line.false),
      subst (λ (x : List ℕ). (other : List ℕ) × (0 < copies other x) × IsTrue (are_rivals c.args.line.now other)) merged (c.has_rival.ensures yes),
    )
