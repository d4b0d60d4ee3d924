use Rattle.org_state.specs.Clock.{has_clock}
use Rattle.org_state.proofs.Known.{clocks_stand}
use Rattle.org_move.specs.Location.{has_archive_line}
use Rattle.org_move.proofs.Lines.{archive_lines_stand}
use Rattle.org_commands.proofs.searches.Searches.nothing.Goals as goal

pub returns : goal.returns
returns c text = record {
  clocks = c.nothing.ensures has_clock clocks_stand text;
  archive_lines = c.nothing-2.ensures has_archive_line archive_lines_stand text;
}
