use Rattle.std.proofs.Common.{◌≡◌, ◌∙◌, inl, inr, ℕ, List, Some, slice_get, true, sym, ap}
use Rattle.std.proofs.lemmas.Bool.{false≢true}
use Rattle.std.proofs.lemmas.Option.{slice_get-get_or}
use Rattle.std.specs.Str.{bytes_eq}
use Rattle.org_disk.proofs.Names.{name_cases}
use Rattle.org_commands.proofs.notes.number_of.Goals as goal

pub returns-then-eq : goal.returns-then-eq
returns-then-eq c =
    let names = c.args.names.now in
    let file = c.args.file.now in
    let name = c.index-names-index.result in
    let here : slice_get names c.loop-index.index ≡ Some name = slice_get-get_or names c.loop-index.index name c.loop-index-test.true ∙ ap (λ (n : List ℕ). Some n) (sym c.index-names-index.is) in
    let equal : bytes_eq name file ≡ true = sym c.eq.ensures ∙ c.if-eq.true in
    elim (name_cases name file) [
      | inl same ↦ here ∙ ap (λ (n : List ℕ). Some n) same.0
      | inr apart ↦ absurd (false≢true (sym apart.1 ∙ equal))
    ]
