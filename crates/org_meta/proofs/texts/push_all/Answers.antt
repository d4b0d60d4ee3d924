use Rattle.std.proofs.Common.{◌≡◌, ℕ, ◌+◌, ◌<◌, List, ◌++◌, length, take, get_or, sym, ap, ◌∙◌}
use Rattle.std.specs.Borrow.{Bor}
use Rattle.std.specs.List.{flat_map}
use Rattle.std.proofs.lemmas.List.{take_all, take_more, flat_map_more}
use Rattle.org_meta.proofs.texts.push_all.Goals as goal

-- the bytes of all texts
abbrev bytes_of : List (Bor (List ℕ)) → List ℕ
bytes_of texts = flat_map (λ text. text.now) texts

one_more : (old now new : List ℕ) (texts : List (Bor (List ℕ))) (k : ℕ) (d : Bor (List ℕ)) → k < length texts → now ≡ old ++ bytes_of (take k texts) → new ≡ now ++ (get_or texts k d).now → new ≡ old ++ bytes_of (take (k + 1) texts)
one_more old now new texts k d lt before put =
    put ∙ ap (λ (l : List ℕ). l ++ (get_or texts k d).now) before ∙ flat_map_more (λ text. text.now) old (take k texts) (get_or texts k d) ∙ ap (λ ts. old ++ bytes_of ts) (sym (take_more texts k d lt))

pub loop-text-preserved : goal.loop-text-preserved
loop-text-preserved c = one_more c.args.out.now.items c.loop-text.out.items _ c.args.texts.now c.loop-text.text-index _ c.loop-text-test.true c.loop-text.invariant c.in_ok-extend_from_slice.ensures.items

pub returns : goal.returns
returns c = c.loop-text.invariant ∙ ap (λ ts. c.args.out.now.items ++ bytes_of ts) (take_all c.loop-text.text-index c.args.texts.now c.loop-text-test.false)
