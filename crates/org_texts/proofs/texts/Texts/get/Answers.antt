use Rattle.std.proofs.Common.{◌∙◌, None, Some, sym}
use Rattle.std.specs.Map.{lookup}
use Rattle.std.specs.Str.{bytes_eq}
use Rattle.org_texts.proofs.Looking.{not_there}
use Rattle.org_texts.proofs.Names.{parts_of}
use Rattle.org_texts.proofs.texts.Texts.get.Goals as goal

pub returns-in-Some : goal.returns-in-Some
returns-in-Some c =
    let parts = parts_of c.args.name.now c.self.inside.held.entries (Some c.index.result.now) (sym c.index.ensures ∙ c.in-Some.ensures.place.value) in
    rw (← c.self.view_is) record { text = parts.0; before = parts.1; ready = parts.2 }

pub returns-in-None : goal.returns-in-None
returns-in-None c =
    let es = c.self.inside.held.entries in
    let none = sym (not_there (lookup (bytes_eq c.args.name.now) es) (sym c.in-None.ensures.place.found)) in
    let parts = parts_of c.args.name.now es None none in
    rw (← c.self.view_is) record { text = parts.0; before = parts.1; ready = parts.2 }
