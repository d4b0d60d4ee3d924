use Rattle.std.proofs.Common.{◌≡◌, false, Ok}
use Rattle.org_journal.specs.Recovered.{contents}
use Rattle.org_texts.specs.Texts.{held_over}
use Rattle.org_commands.specs.Reading.{ReadsFiles}
use Rattle.org_commands.proofs.Running.{first_from}
use Rattle.org_commands.proofs.commands.running.running_clock.Given as goal

-- no clock runs in the files so far, and all is as it was
abbrev pub invariant-loop-index : goal.invariant-loop-index
invariant-loop-index g l =
    let disk = g.D.Disk in
    record {
      unbroken : l.files.broken ≡ false;
      unedited : l.files.held.now ≡ l.files.held.before;
      files : ReadsFiles {A = Unit {0}} disk l.fn.files l.files (Ok tt);
      passed : disk.honest l.files.disk → let files = held_over l.fn.files.held.before (contents (disk.files l.fn.files.disk)) in first_from files l.fn.files.names l.index ≡ first_from files l.fn.files.names 0;
    }
