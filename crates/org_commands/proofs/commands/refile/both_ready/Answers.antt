use Rattle.org_commands.proofs.Reading.{reads_files_then}
use Rattle.org_commands.proofs.commands.refile.both_ready.Goals as goal

pub returns-clause-files : goal.returns-clause-files
returns-clause-files g c = reads_files_then c.in_ok-ready.ensures.files c.ready-2.ensures.files
