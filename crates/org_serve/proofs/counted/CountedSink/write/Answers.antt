use Rattle.std.proofs.Common.{◌≡◌, ◌∙◌, ◌++◌, take, sym, ap, append_assoc}
use Rattle.std.proofs.lemmas.List.{take-append-drop}
use Rattle.org_serve.proofs.Joins.{Appends-append}
use Rattle.org_serve.proofs.counted.CountedSink.write.Goals as goal

pub loop-rest-preserved : goal.loop-rest-preserved
loop-rest-preserved g c =
    let n = c.in_ok-n.n in
    let rest = c.loop-rest.rest.now in
    let more = c.split_at.result.1.now in
    let was = c.loop-rest.invariant.0 in
    let whole : take n rest ++ more ≡ rest = ap (λ t. take n rest ++ t) c.split_at.ensures.back ∙ take-append-drop n rest in (
      (
        was.0 ++ take n rest,
        was.1 ∙ ap (λ t. was.0 ++ t) (sym whole) ∙ sym (append_assoc was.0 (take n rest) more),
        Appends-append (g.T.Write.contents c.args.self.now.inner) (g.T.Write.contents c.loop-rest.self.inner) (g.T.Write.contents c.put.new.self.inner) was.0 (take n rest) was.2 c.in_ok-n.ensures.bytes,
      ),
      c.in_ok-n.ensures.ok ∙ c.loop-rest.invariant.1,
    )
