use Rattle.std.proofs.Common.{◌≡◌, ◌∙◌, List, Option, Some, slice_get, sym, ap, rules}
use Rattle.std.proofs.lemmas.Option.{slice_get-get_or}
use Rattle.org_commands.specs.declared.searches.Searches.{Searches}
use Rattle.org_commands.proofs.Noted.{clockless_known}
use Rattle.org_commands.proofs.notes.Notes.is_clockless.Goals as goal

pub returns-in-Nowhere : goal.returns-in-Nowhere
returns-in-Nowhere c =
    let searches = c.in-Some-Some.searches in
    let notes = c.deref.result.now in
    let note : Option Searches = c.in-Some-Some.field-0.now in
    let is : note ≡ Some searches = search rules in
    let lookup = c.in-Some-Some.ensures.lookup in
    let found : slice_get notes c.args.index ≡ Some (Some searches) = slice_get-get_or notes c.args.index note lookup.3.0 ∙ ap (λ (o : Option Searches). Some o) (sym lookup.1 ∙ is) in
    let there : slice_get c.self.inside.notes.items c.args.index ≡ Some (Some searches) = ap (λ (ns : List (Option Searches)). slice_get ns c.args.index) (sym c.deref.ensures.value) ∙ found in
    rw (← c.self.view_is) (λ truth names set are name at. clockless_known searches set name c.in-Nowhere.is (are c.args.index searches there name at))
