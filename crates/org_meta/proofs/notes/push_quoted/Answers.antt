use Rattle.std.proofs.Common.{◌≡◌, ℕ, ◌-◌, ◌∙◌, ◌++◌, ◌∷◌, [], List, length, ap, append-nil, arith}
use Rattle.std.specs.Prelude.{min, replicate}
use Rattle.std.proofs.lemmas.List.{drop-replicate, take_rest}
use Rattle.org_meta.proofs.Pushed.{put_same}
use Rattle.org_meta.proofs.notes.push_quoted.Goals as goal

-- what is left of ten blanks
blanks_left : (n k : ℕ) (blanks : List ℕ) → k ≡ min n 10 → blanks ≡ replicate (10 - k) 32 → blanks ++ [] ≡ replicate (10 - n) 32
blanks_left n k blanks least are = append-nil blanks ∙ are ∙ ap (λ (m : ℕ). replicate m 32) (omega (arith, least))

pub returns : goal.returns
returns c =
    let old = c.args.out.now.items in
    let state = c.args.state.now in
    let left = c.min.result in
    put_same c.push_all.result c.push_all.new.out.items _ _
    (ap (λ (t : List ℕ). old ++ (c.args.before.now ++ (34 ∷ (state ++ (34 ∷ t))))) (blanks_left (length state) left _ c.min.ensures (take_rest (replicate 10 32) left ∙ drop-replicate left 10 32))) c.push_all.ensures
