use Rattle.std.proofs.Common.{◌≡◌, ◌∷◌, ℕ, List, sym, subst, ◌∙◌, arith, inl, inr}
use Rattle.std.proofs.lemmas.Grind.{common_steps}
use Rattle.std.proofs.lemmas.Slice.Eq.{bytes_eq-Decides}
use Rattle.org_account.specs.Text.{IsToldLine}
use Rattle.org_account.proofs.EachLine.{heading_quote_of}
use Rattle.org_account.proofs.union.is_heading_quote.Goals as goal

pub returns-then-eq : goal.returns-then-eq
returns-then-eq c = λ yes.
    let heading : List ℕ = c.in-Some.heading.now in
    let told : c.texts.inside.told.now ≡ c.args.texts.now.told = grind (arith, common_steps, c.texts.view_is) in
    let ours : c.texts.inside.ours_line.now ≡ c.args.texts.now.ours_line = grind (arith, common_steps, c.texts.view_is) in
    let one : heading ≡ c.texts.inside.ours_line.now = (bytes_eq-Decides heading c.texts.inside.ours_line.now).0 (sym c.eq.ensures ∙ yes) in (
      heading,
      heading_quote_of c.args.line.now heading c.in-Some.ensures.cases.0 c.in-Some.ensures.cases.1,
      subst (λ (x : List ℕ). IsToldLine x (42 ∷ heading)) told (c.is_told_heading.ensures c.if-not-is_told_heading.false),
      inl (one ∙ ours),
    )

pub returns-else-eq : goal.returns-else-eq
returns-else-eq c = λ yes.
    let heading : List ℕ = c.in-Some.heading.now in
    let told : c.texts.inside.told.now ≡ c.args.texts.now.told = grind (arith, common_steps, c.texts.view_is) in
    let theirs : c.texts.inside.theirs_line.now ≡ c.args.texts.now.theirs_line = grind (arith, common_steps, c.texts.view_is) in
    let one : heading ≡ c.texts.inside.theirs_line.now = (bytes_eq-Decides heading c.texts.inside.theirs_line.now).0 (sym c.eq-else-eq.ensures ∙ yes) in (
      heading,
      heading_quote_of c.args.line.now heading c.in-Some.ensures.cases.0 c.in-Some.ensures.cases.1,
      subst (λ (x : List ℕ). IsToldLine x (42 ∷ heading)) told (c.is_told_heading.ensures c.if-not-is_told_heading.false),
      inr (one ∙ theirs),
    )
