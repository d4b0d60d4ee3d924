use Rattle.std.proofs.Common.{◌≡◌, ◌∙◌, take, ap, arith}
use Rattle.std.proofs.lemmas.List.{length-take-le, take_all}
use Rattle.org_texts.proofs.Names.{same_set}
use Rattle.org_texts.proofs.Values.{copied_more, copied_all}
use Rattle.org_texts.proofs.texts.Texts.undo.Goals as goal

pub loop-place-preserved : goal.loop-place-preserved
loop-place-preserved c = record {
  now = copied_more c.loop-place.invariant.now c.index_mut.ensures.value c.undo.ensures.before c.undo.ensures.text;
  dirty = c.loop-place.invariant.dirty;
  first = c.loop-place.invariant.first;
}

-- the names that were dirty before the command
kept : (c : goal.After-truncate) → c.truncate.new.self.keys ≡ take c.self.inside.dirty_before c.self.inside.dirty.keys
kept c =
    c.truncate.ensures.keys ∙ ap (λ n. take n c.loop-place.self-inside.dirty.keys) c.loop-place.invariant.first
    ∙ ap (take c.self.inside.dirty_before) c.loop-place.invariant.dirty

pub returns : goal.returns
returns c =
    let so_far = c.loop-place.invariant in
    let first = c.self.inside.dirty_before in
    let keys = c.self.inside.dirty.keys in
    let once : take first (take first keys) ≡ take first keys = take_all first (take first keys) (omega (arith, length-take-le first keys c.self.invariant.first)) in
    rw (← c.self.view_is) record {
      now = same_set (copied_all so_far.now (omega (arith, c.len-place-end.ensures.len))) (kept c);
      before = same_set so_far.now.from_same (ap (λ n. take n c.truncate.new.self.keys) so_far.first ∙ ap (take first) (kept c) ∙ once);
    }
