use Rattle.std.proofs.Common.{◌∙◌, ◌≤◌, length, refl, sym, ap, arith}
use Rattle.org_splice.specs.Texts.{settled}
use Rattle.org_texts.specs.Held.{HeldText}
use Rattle.org_texts.proofs.Names.{on_disk_again, same_set}
use Rattle.org_texts.proofs.Values.{copied_more, copied_all}
use Rattle.org_texts.proofs.texts.Texts.settle.Goals as goal

pub loop-place-preserved : goal.loop-place-preserved
loop-place-preserved c =
    let again = ap (λ (h : HeldText). settled h.text.bytes) c.settle.ensures in
    record {
      now = copied_more c.loop-place.invariant.now c.index_mut.ensures.value again (ap (λ (h : HeldText). h.text) c.settle.ensures);
      before = copied_more c.loop-place.invariant.before c.index_mut.ensures.value again (ap (λ (h : HeldText). h.before) c.settle.ensures);
    }

pub returns : goal.returns
returns c =
    let so_far = c.loop-place.invariant in
    let all : length c.self.inside.held.entries ≤ c.loop-place.place = omega (arith, c.len-place-end.ensures.len) in
    let disk = sym (on_disk_again c.self.inside.held.entries) in
    rw (← c.self.view_is) record {
      now = same_set (copied_all so_far.now all ∙ disk) c.clear.ensures.empty;
      before = same_set (copied_all so_far.before all ∙ disk) refl;
    }
