use Rattle.std.proofs.Common.{subst}
use Rattle.std.proofs.lemmas.Str.{IsUtf8-string_bytes}
use Rattle.std.specs.Prelude.{IsUtf8}
use Rattle.org_disk.proofs.name.FileNameClone.clone.Goals as goal

pub returns-in_err-text-clause-utf8 : goal.returns-in_err-text-clause-utf8
returns-in_err-text-clause-utf8 c = subst IsUtf8 c.self.view_is (IsUtf8-string_bytes c.self.inside.text)

pub returns-clause-utf8 : goal.returns-clause-utf8
returns-clause-utf8 c = subst IsUtf8 c.self.view_is (IsUtf8-string_bytes c.self.inside.text)
