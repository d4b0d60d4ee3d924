use Rattle.std.proofs.Common.{◌≡◌, ◌∙◌, ◌++◌, ◌∷◌, [], ℕ, ◌+◌, List, ap, append_assoc, arith}
use Rattle.std.specs.Prelude.{replicate}
use Rattle.std.proofs.lemmas.List.{replicate_more}
use Rattle.org_headings.specs.Text.{heading_line}
use Rattle.org_capture.specs.Capture.{rest_of}
use Rattle.org_capture.proofs.inserting.push_heading.Goals as goal

one_star_more : (out now next : List ℕ) (n : ℕ) → now ≡ out ++ replicate n 42 → next ≡ now ++ 42 ∷ [] → next ≡ out ++ replicate (n + 1) 42
one_star_more out now next n so_far pushed =
    pushed ∙ ap (λ (l : List ℕ). l ++ 42 ∷ []) so_far ∙ append_assoc out (replicate n 42) (42 ∷ []) ∙ ap (λ (l : List ℕ). out ++ l) (replicate_more n 42)

whole_line : (out stars blank titled line title : List ℕ) (n level : ℕ) → n ≡ level → stars ≡ out ++ replicate n 42 → blank ≡ stars ++ 32 ∷ [] → titled ≡ blank ++ title → line ≡ titled ++ 10 ∷ []
    → line ≡ out ++ (heading_line level (rest_of title) ++ 10 ∷ [])
whole_line out stars blank titled line title n level all pushed_stars pushed_blank pushed_title pushed_end =
    let unedited : stars ≡ out ++ replicate level 42 = pushed_stars ∙ ap (λ (k : ℕ). out ++ replicate k 42) all in
    pushed_end ∙ ap (λ (l : List ℕ). l ++ 10 ∷ []) (pushed_title ∙ ap (λ (l : List ℕ). l ++ title) (pushed_blank ∙ ap (λ (l : List ℕ). l ++ 32 ∷ []) unedited)
    ∙ append_assoc (out ++ replicate level 42) (32 ∷ []) title ∙ append_assoc out (replicate level 42) (32 ∷ title)) ∙ append_assoc out (replicate level 42 ++ 32 ∷ title) (10 ∷ [])

pub loop-preserved : goal.loop-preserved
loop-preserved c = one_star_more c.args.text.now.items c.loop.text.items c.push.new.self.items c.loop.counter c.loop.invariant c.in_ok-push.ensures.items

pub returns : goal.returns
returns c =
    let all : c.loop.counter ≡ c.args.level = omega (arith, c.loop-test.false, c.loop.auto.counter-end) in
    whole_line c.args.text.now.items c.loop.text.items c.push-2.new.self.items c.extend_from_slice.new.self.items c.push-3.new.self.items c.args.title.now c.loop.counter c.args.level all
    c.loop.invariant c.in_ok-push-2.ensures.items c.in_ok-extend_from_slice.ensures.items c.in_ok-push-3.ensures.items
