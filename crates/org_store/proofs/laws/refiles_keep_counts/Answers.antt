use Rattle.std.proofs.Common.{refl}
use Rattle.org_commands.specs.InOrder.{text_at}
use Rattle.org_store.proofs.NodeCounts.{refile_keeps}
use Rattle.org_store.proofs.laws.refiles_keep_counts.Goals as goal

pub returns : goal.returns
returns c s it files apart each accepts rest section =
    refile_keeps s apart each rest section it.file it.path it.to_file it.to_path it.place (text_at s.names s.files it.file) (text_at s.names s.files it.to_file) files refl refl accepts.1
