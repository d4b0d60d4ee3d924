use Rattle.org_commands.proofs.Handing.{handed_on}
use Rattle.org_commands.proofs.Reading.{reads_files_memory, reads_files_undone}
use Rattle.org_commands.proofs.files.Files.ready.Goals as goal

pub returns-in_err-make_ready-clause-files : goal.returns-in_err-make_ready-clause-files
returns-in_err-make_ready-clause-files g c =
    reads_files_memory (handed_on c.from_residual-in_err-make_ready.result _ c.from_residual-in_err-make_ready.ensures.1)
    (reads_files_undone c.make_ready.ensures.memory c.make_ready.ensures.before c.in_ok-load.ensures.files)

pub returns-clause-files : goal.returns-clause-files
returns-clause-files g c = reads_files_undone c.make_ready.ensures.memory c.make_ready.ensures.before c.in_ok-load.ensures.files
