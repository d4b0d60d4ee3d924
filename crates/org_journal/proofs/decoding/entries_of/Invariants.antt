use Rattle.std.proofs.Common.{◌≡◌, ◌-◌}
use Rattle.org_journal.specs.Reading.{entries_at}
use Rattle.org_journal.proofs.Loops.{with_front}
use Rattle.org_journal.proofs.decoding.entries_of.Given as goal

abbrev pub invariant-loop : goal.invariant-loop
invariant-loop l = with_front l.entries.items (entries_at l.version (l.count - l.counter) l.rest) ≡ entries_at l.version l.count l.bytes
