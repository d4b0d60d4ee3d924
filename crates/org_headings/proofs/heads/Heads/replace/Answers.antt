use Rattle.std.proofs.Common.{◌∙◌, ◌+◌, take, List, length, ap, arith}
use Rattle.org_headings.specs.declared.heads.Heading.{Heading}
use Rattle.org_headings.proofs.KeptLines.{kept_when_replaced}
use Rattle.org_headings.proofs.heads.Heads.replace.Goals as goal

pub invariant_of-self-2 : goal.invariant_of-self-2
invariant_of-self-2 c =
    kept_when_replaced _ _ _ _ _ _ _ _ _ _ _ _ c.self.invariant c.follow.ensures (c.self.inside.beginnings.ok.0) (c.len-count.ensures ∙ c.self.inside.headings.ok.0) (omega (arith, c.requires.ordered, c.requires.within, ap (λ (l : List Heading). length l) c.self.view_is)) (c.len.ensures ∙ c.args.fresh.ok.0)
    (c.in_ok-replace.ensures.ok) (c.split_at.ensures.front ∙ ap (take (c.args.first + c.len.result)) c.as_slice.ensures.value) c.split_at-2.ensures.back
