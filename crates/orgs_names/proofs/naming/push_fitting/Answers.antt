use Rattle.std.proofs.Common.{◌≡◌, ◌∷◌, [], ℕ, Bool, List, true, false, refl, sym, ◌∙◌}
use Rattle.orgs_names.specs.Naming.{place_in}
use Rattle.orgs_names.specs.Ways.{fits}
use Rattle.orgs_names.proofs.Filed.{heading_passed, heading_taken}
use Rattle.orgs_names.proofs.naming.push_fitting.Goals as goal
use Rattle.orgs_names.proofs.naming.push_fitting.Goals.{else-branch, then-branch+in_ok-push}

pub loop-heading-preserved : goal.loop-heading-preserved
loop-heading-preserved c =
    let p : ℕ → Bool = fits c.args.way c.args.name.now c.args.entries.now in
    let n = c.loop-heading.heading in
    elim c.if-branch.branch [
      | then-branch+in_ok-push w ↦
          rw (w.places-is, w.in_ok-push.ensures.items)
          (heading_taken (place_in c.args.file) p n c.args.places.now.items c.loop-heading.places.items (place_in c.args.file n) (sym c.in_ok-fits.ensures ∙ w.if-branch.true) c.loop-heading.invariant refl)
      | else-branch w ↦
          rw w.places-is
          (heading_passed (place_in c.args.file) p n c.args.places.now.items c.loop-heading.places.items (sym c.in_ok-fits.ensures ∙ w.if-branch.false) c.loop-heading.invariant)
    ]
