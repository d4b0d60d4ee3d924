use Rattle.std.proofs.Common.{◌∙◌, take, ap, arith}
use Rattle.std.proofs.Math.Seq.{take-length}
use Rattle.org_texts.specs.Held.{HeldText}
use Rattle.org_texts.proofs.Names.{same_set}
use Rattle.org_texts.proofs.Values.{copied_more, copied_all}
use Rattle.org_texts.proofs.texts.Texts.keep.Goals as goal

pub loop-place-preserved : goal.loop-place-preserved
loop-place-preserved c = record {
  before = copied_more c.loop-place.invariant.before c.index_mut.ensures.value (ap (λ (h : HeldText). h.text) c.keep.ensures) (ap (λ (h : HeldText). h.before) c.keep.ensures);
  dirty = c.loop-place.invariant.dirty;
}

pub returns : goal.returns
returns c =
    let so_far = c.loop-place.invariant in
    let keys = c.loop-place.self-inside.dirty.keys in
    let all = ap (λ n. take n keys) c.len-self-inside.ensures.len ∙ take-length keys in
    rw (← c.self.view_is) record {
      now = same_set so_far.before.from_same so_far.dirty;
      before = same_set (copied_all so_far.before (omega (arith, c.len-place-end.ensures.len))) (all ∙ so_far.dirty);
    }
