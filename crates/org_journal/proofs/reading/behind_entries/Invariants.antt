use Rattle.std.proofs.Common.{◌≡◌, ◌-◌}
use Rattle.org_journal.specs.Reading.{behind, entries_at}
use Rattle.org_journal.proofs.reading.behind_entries.Given as goal

abbrev pub invariant-loop : goal.invariant-loop
invariant-loop l = behind (entries_at l.version (l.count - l.counter) l.rest) ≡ behind (entries_at l.version l.count l.bytes)
