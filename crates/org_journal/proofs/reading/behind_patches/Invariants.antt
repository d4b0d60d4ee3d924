use Rattle.std.proofs.Common.{◌≡◌, ◌-◌}
use Rattle.std.specs.Prelude.{◌==◌}
use Rattle.org_journal.specs.Reading.{behind, patches_at}
use Rattle.org_journal.proofs.reading.behind_patches.Given as goal

abbrev pub invariant-loop : goal.invariant-loop
invariant-loop l = behind (patches_at l.place l.length (l.count == 1) (l.count - l.counter) l.rest) ≡ behind (patches_at 0 l.length (l.count == 1) l.count l.bytes)
