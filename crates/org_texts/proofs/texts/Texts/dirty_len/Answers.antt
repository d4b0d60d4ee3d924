use Rattle.std.proofs.Common.{◌≡◌, ◌∙◌, List, ℕ, [], ◌∷◌, map, refl, sym, ap, subst}
use Rattle.std.specs.List.{IsDistinct}
use Rattle.std.specs.Map.{keys_of}
use Rattle.std.specs.Str.{bytes_eq}
use Rattle.org_texts.specs.Texts.{Holding, TextSet, text_of, text_or_none}
use Rattle.org_texts.proofs.texts.Texts.dirty_len.Goals as goal

names : (set : TextSet) (ns : List (List ℕ)) → keys_of (map (λ n. (n, text_or_none (text_of set n))) ns) ≡ ns
names set [] = refl
names set (n ∷ ns) = ap (λ (l : List (List ℕ)). n ∷ l) (names set ns)

pub returns-clause-distinct : goal.returns-clause-distinct
returns-clause-distinct c =
    let set : TextSet = c.args.self.now.now in
    let same : c.self.inside.dirty.keys ≡ set.dirty = ap (λ (h : Holding). h.now.dirty) c.self.view_is in
    subst (IsDistinct bytes_eq) (same ∙ sym (names set set.dirty)) c.len.ensures.unique
