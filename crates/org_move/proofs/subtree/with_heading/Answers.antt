use Rattle.std.proofs.Common.{◌≡◌, ◌∙◌, ◌++◌, ◌∷◌, [], ℕ, List, ap, append_assoc}
use Rattle.std.specs.Prelude.{replicate}
use Rattle.org_headings.specs.Text.{heading_line}
use Rattle.org_move.proofs.subtree.with_heading.Goals as goal

whole : (stars blank titled line made said title below : List ℕ) (n level : ℕ) → n ≡ level → said ≡ title → stars ≡ replicate n 42 → blank ≡ stars ++ 32 ∷ [] → titled ≡ blank ++ said → line ≡ titled ++ 10 ∷ []
    → made ≡ line ++ below → made ≡ (heading_line level (32 ∷ title) ++ 10 ∷ []) ++ below
whole stars blank titled line made said title below n level all same pushed_stars pushed_blank pushed_title pushed_end pushed_below =
    let unedited : stars ≡ replicate level 42 = pushed_stars ∙ ap (λ (k : ℕ). replicate k 42) all in
    pushed_below
    ∙ ap (λ (l : List ℕ). l ++ below)
    (pushed_end
    ∙ ap (λ (l : List ℕ). l ++ 10 ∷ [])
    (pushed_title ∙ ap (λ (l : List ℕ). l ++ said) (pushed_blank ∙ ap (λ (l : List ℕ). l ++ 32 ∷ []) unedited)
    ∙ append_assoc (replicate level 42) (32 ∷ []) said ∙ ap (λ (l : List ℕ). replicate level 42 ++ (32 ∷ l)) same))

pub returns : goal.returns
returns c =
    whole c.in_ok-made.made.items c.push.new.self.items c.extend_from_slice.new.self.items c.push-2.new.self.items c.extend_from_slice-2.new.self.items c.title.result.now c.args.to.now.title c.args.below.now
    c.level.result c.args.to.now.level c.level.ensures.value c.title.ensures (c.in_ok-made.ensures.items_if_clones_equal (λ y same. same))
    c.in_ok-push.ensures.items c.in_ok-extend_from_slice.ensures.items c.in_ok-push-2.ensures.items c.in_ok-extend_from_slice-2.ensures.items
