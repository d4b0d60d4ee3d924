use Rattle.std.proofs.Common.{◌≡◌, ◌-◌}
use Rattle.org_journal.specs.Reading.{entries_at}
use Rattle.org_journal.proofs.Names.{named_in}
use Rattle.org_journal.proofs.reading.is_named.Given as goal

abbrev pub invariant-loop : goal.invariant-loop
invariant-loop l = named_in l.name (entries_at l.version (l.count - l.counter) l.rest) ≡ named_in l.name (entries_at l.version l.count l.bytes)
