use Rattle.std.proofs.Common.{◌≡◌, ℕ, List, sym, ◌∙◌, ap, subst}
use Rattle.std.specs.List.{IsDistinct}
use Rattle.std.specs.Map.{keys_of}
use Rattle.std.specs.Str.{bytes_eq}
use Rattle.std.proofs.lemmas.Map.Made.{keys_of-map_values}
use Rattle.org_splice.specs.Versions.{Versions}
use Rattle.org_disk_tests.proofs.fileset.edited.EditedChangesFileName.len.Goals as goal

pub returns-clause-distinct : goal.returns-clause-distinct
returns-clause-distinct c =
    let entries = c.self.inside.texts.entries in
    let same : keys_of c.args.self.now ≡ keys_of entries = ap keys_of (sym c.self.view_is) ∙ keys_of-map_values (λ (v : Versions). v.text) entries in
    subst (IsDistinct bytes_eq) (sym same) c.len.ensures.unique
