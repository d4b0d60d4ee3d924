use Rattle.std.proofs.Common.{◌≡◌, ◌-◌}
use Rattle.std.specs.Prelude.{◌==◌}
use Rattle.org_journal.specs.Reading.{patches_at}
use Rattle.org_journal.proofs.Loops.{with_front}
use Rattle.org_journal.proofs.decoding.patches_of.Given as goal

abbrev pub invariant-loop : goal.invariant-loop
invariant-loop l = with_front l.patches.items (patches_at l.place l.length (l.count == 1) (l.count - l.counter) l.rest) ≡ patches_at 0 l.length (l.count == 1) l.count l.bytes
