use Rattle.std.proofs.Common.{drop}
use Rattle.org_journal.proofs.Fitting.{FitSoFar}
use Rattle.org_journal.proofs.finding.fits.Given as goal

abbrev pub invariant-loop-patch : goal.invariant-loop-patch
invariant-loop-patch l = FitSoFar (drop l.patch-index l.patches) l.place l.length l.size l.patches
