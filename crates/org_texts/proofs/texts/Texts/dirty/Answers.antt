use Rattle.std.proofs.Common.{◌≡◌, ◌∙◌, List, ℕ, true, false, Some, map, sym, ap}
use Rattle.std.specs.Prelude.{slice_get}
use Rattle.std.specs.List.{list_any}
use Rattle.std.specs.Map.{keys_of, lookup}
use Rattle.std.specs.Option.{is_some, option_copied, option_map}
use Rattle.std.specs.Str.{bytes_eq}
use Rattle.std.proofs.lemmas.Map.Made.{is_some-lookup, lookup-map_values}
use Rattle.std.proofs.lemmas.Option.{slice_get-map}
use Rattle.org_splice.specs.Texts.{EditedText}
use Rattle.org_splice.specs.Versions.{Versions}
use Rattle.org_texts.specs.Held.{HeldText}
use Rattle.org_texts.specs.Texts.{Holding, now_of, pairs, text_or_none}
use Rattle.org_texts.proofs.Names.{among_at}
use Rattle.org_texts.proofs.texts.Texts.dirty.Goals as goal

pub unreachable-requires-in-None : goal.unreachable-requires-in-None
unreachable-requires-in-None c =
    let es = c.self.inside.held.entries in
    let name = c.in-Some.name.now in
    let at : slice_get c.self.inside.dirty.keys c.args.index ≡ Some name = sym c.get_index.ensures.key ∙ ap option_copied c.in-Some.is in
    let there : list_any (bytes_eq name) (keys_of es) ≡ true = among_at (keys_of es) c.self.inside.dirty.keys c.args.index name c.self.invariant.held at in
    let none : is_some (lookup (bytes_eq name) es) ≡ false = sym (ap is_some c.get.ensures.value) ∙ ap (λ o. is_some (option_copied o)) c.in-None.is in
    let both : true ≡ false = sym there ∙ sym (is_some-lookup (bytes_eq name) es) ∙ none in
    absurd (cc)

pub returns : goal.returns
returns c =
    let es = c.self.inside.held.entries in
    let name = c.in-Some.name.now in
    let held = c.in-Some-get.held.now in
    let at : slice_get c.self.inside.dirty.keys c.args.index ≡ Some name = sym c.get_index.ensures.key ∙ ap option_copied c.in-Some.is in
    let is : lookup (bytes_eq name) es ≡ Some held = sym c.get.ensures.value ∙ ap option_copied c.in-Some-get.is in
    let text : lookup (bytes_eq name) (map now_of es) ≡ Some held.text = lookup-map_values (λ (h : HeldText). h.text) (bytes_eq name) es ∙ ap (option_map (λ (h : HeldText). h.text)) is in
    let pair : List ℕ → List ℕ × EditedText = λ n. (n, text_or_none (lookup (bytes_eq n) (map now_of es))) in
    let own : EditedText → List ℕ × EditedText = λ t. (name, t) in
    ap (λ (h : Holding). slice_get (pairs h.now) c.args.index) (sym c.self.view_is)
    ∙ slice_get-map pair c.self.inside.dirty.keys c.args.index
    ∙ ap (option_map pair) at
    ∙ ap (λ o. Some (own (text_or_none o))) text
    ∙ ap (λ (v : Versions). Some (own v.text)) (sym c.text.ensures)
