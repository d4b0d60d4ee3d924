use Rattle.org_journal.specs.declared.record.Version.TheVariants.{Three}
use Rattle.org_journal.specs.Record.{IsEntry, entry_bytes}
use Rattle.org_journal.proofs.Journal.{item_appended, item_of}
use Rattle.org_journal.proofs.encoding.put_entries.Goals as goal

pub loop-entry-preserved : goal.loop-entry-preserved
loop-entry-preserved c = item_appended (entry_bytes Three) c.args.out.now.items c.loop-entry.out.items c.put_entry.new.out.items c.args.entries.now c.loop-entry.entry-index c.entry-item.result c.loop-entry-test.true c.entry-item.is c.loop-entry.invariant c.in_ok-put_entry.ensures

pub put_entry-requires : goal.put_entry-requires
put_entry-requires c = item_of (IsEntry Three) c.args.entries.now c.loop-entry.entry-index c.entry-item.result c.requires c.loop-entry-test.true c.entry-item.is
