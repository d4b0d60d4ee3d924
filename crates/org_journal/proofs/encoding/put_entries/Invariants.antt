use Rattle.std.proofs.Common.{◌≡◌, ◌++◌, take}
use Rattle.std.specs.List.{flat_map}
use Rattle.org_journal.specs.declared.record.Version.TheVariants.{Three}
use Rattle.org_journal.specs.Record.{entry_bytes}
use Rattle.org_journal.proofs.encoding.put_entries.Given as goal

abbrev pub invariant-loop-entry : goal.invariant-loop-entry
invariant-loop-entry l = l.out.items ≡ l.fn.out.items ++ flat_map (entry_bytes Three) (take l.entry-index l.entries)
