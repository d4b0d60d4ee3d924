use Rattle.std.proofs.Common.{◌∙◌, sym}
use Rattle.std.proofs.lemmas.Bool.{false≢true}
use Rattle.org_disk.specs.Names.{journal_name}
use Rattle.org_serve.proofs.laws.closed_folders_have_no_changed_file.Goals as goal

pub returns : goal.returns
returns c = λ files closed image images opened. absurd (false≢true (sym (closed (image journal_name) (images journal_name)) ∙ opened))
