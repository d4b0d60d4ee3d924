use Rattle.std.proofs.Common.{◌≡◌, ℕ, List, ◌++◌, length, take, sym, ap, ◌∙◌}
use Rattle.std.proofs.lemmas.Option.{some_pair_parts}
use Rattle.std.proofs.Math.Seq.{take-append_seam}
use Rattle.org_stamp.specs.Stamp.{StampValue, IsStampText}
use Rattle.org_stamp.specs.Front.{stamp_at}
use Rattle.org_stamp.proofs.Exact.{stamp_complete}
use Rattle.org_stamp.proofs.laws.one_value.Goals as goal

one : (a b x y : List ℕ) (s t : StampValue) → IsStampText a s → IsStampText b t → a ++ x ≡ b ++ y → (a ≡ b) × (s ≡ t)
one a b x y s t h k e =
    let pair = some_pair_parts s t (length a) (length b) (sym (stamp_complete a x s h) ∙ ap stamp_at e ∙ stamp_complete b y t k) in
    (sym (take-append_seam a x) ∙ ap (λ l. take (length a) l) e ∙ ap (λ n. take n (b ++ y)) pair.1 ∙ take-append_seam b y, pair.0)

pub returns : goal.returns
returns c = one
