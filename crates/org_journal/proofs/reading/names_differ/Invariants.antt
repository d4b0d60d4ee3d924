use Rattle.std.proofs.Common.{◌≡◌, ◌-◌}
use Rattle.org_journal.specs.Reading.{entries_at}
use Rattle.org_journal.proofs.Names.{differ_in}
use Rattle.org_journal.proofs.reading.names_differ.Given as goal

abbrev pub invariant-loop-i : goal.invariant-loop-i
invariant-loop-i l = differ_in (entries_at l.version (l.count - l.i) l.rest) ≡ differ_in (entries_at l.version l.count l.bytes)
