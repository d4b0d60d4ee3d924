use Rattle.org_state.specs.Clock.{has_clock}
use Rattle.org_state.proofs.Known.{clocks_stand}
use Rattle.org_move.specs.Location.{has_archive_line}
use Rattle.org_move.proofs.Lines.{archive_lines_stand}
use Rattle.org_commands.proofs.searches.Searches.behind.Goals as goal

pub returns-clause-edited : goal.returns-clause-edited
returns-clause-edited c text long within known = record {
  clocks = c.behind.ensures.edited has_clock clocks_stand text long within known.clocks;
  archive_lines = c.behind-2.ensures.edited has_archive_line archive_lines_stand text long within known.archive_lines;
}

pub returns-clause-unedited : goal.returns-clause-unedited
returns-clause-unedited c text known = record {
  clocks = c.behind.ensures.unedited has_clock clocks_stand text known.clocks;
  archive_lines = c.behind-2.ensures.unedited has_archive_line archive_lines_stand text known.archive_lines;
}
