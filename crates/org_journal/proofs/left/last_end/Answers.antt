use Rattle.std.proofs.Common.{◌+◌, ◌∙◌, ℕ, ap, arith}
use Rattle.org_journal.proofs.Ends.{last_is, some_patch}
use Rattle.org_journal.proofs.left.last_end.Goals as goal

pub overflow_add-result : goal.overflow_add-result
overflow_add-result c =
    let patches = c.args.patches.now in
    let last = c.index-patches-patches in
    record { fits = omega (arith, last_is patches last.result (some_patch patches c.args.length c.requires) last.is, c.len.ensures, c.requires.within, c.ranges.length.fits) }

pub returns : goal.returns
returns c =
    let patches = c.args.patches.now in
    let last = c.index-patches-patches in
    ap (λ (k : ℕ). last.result.from + k) c.len.ensures ∙ last_is patches last.result (some_patch patches c.args.length c.requires) last.is
