use Rattle.std.proofs.Common.{◌≡◌, ℕ, Bool, sym, ◌∙◌}
use Rattle.orgs_lists.specs.Filters.{is_wanted}
use Rattle.orgs_lists.proofs.Listed.{number_passed, number_taken}
use Rattle.orgs_lists.proofs.listing.wanted.Goals as goal
use Rattle.orgs_lists.proofs.listing.wanted.Goals.{else-is_wanted, then-is_wanted+in_ok-push}

pub loop-index-preserved : goal.loop-index-preserved
loop-index-preserved c =
    let p : ℕ → Bool = is_wanted c.args.filter.now c.args.file.now in
    elim c.if-is_wanted.branch [
      | then-is_wanted+in_ok-push w ↦
          rw (w.headings-is, w.in_ok-push.ensures.items)
          (number_taken p c.loop-index.index c.loop-index.headings.items (sym c.is_wanted.ensures ∙ w.if-is_wanted.true) c.loop-index.invariant)
      | else-is_wanted w ↦
          rw w.headings-is (number_passed p c.loop-index.index c.loop-index.headings.items (sym c.is_wanted.ensures ∙ w.if-is_wanted.false) c.loop-index.invariant)
    ]
