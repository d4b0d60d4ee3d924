use Rattle.std.proofs.Common.{◌≡◌, inl, inr, ⊎_elim, ℕ, List, [], ◌∷◌, map, refl, ◌∙◌, ap}
use Rattle.std.specs.Str.{bytes_eq}
use Rattle.std.proofs.lemmas.Bool.{cases_Bool}
use Rattle.indexmap.specs.IndexMap.{insert_entry}
use Rattle.org_disk_tests.specs.Edited.{with_text}
use Rattle.org_splice.specs.Texts.{EditedText}
use Rattle.org_splice.specs.Versions.{Versions}
use Rattle.org_disk_tests.proofs.fileset.edited.Edited.put.Goals as goal

abbrev seen : List ℕ × Versions → List ℕ × EditedText
seen e = (e.0, e.1.text)

-- what the map's insert leaves, seen as changes
seen_with : (entries : List (List ℕ × Versions)) (name : List ℕ) (text : Versions) → map seen (insert_entry bytes_eq entries name text) ≡ with_text (map seen entries) name text.text
seen_with [] name text = refl
seen_with (e ∷ entries) name text = elim (cases_Bool (bytes_eq name e.0)) [
  | inl same ↦ rw same refl
  | inr other ↦ rw other (ap (λ (l : List (List ℕ × EditedText)). seen e ∷ l) (seen_with entries name text))
]

pub returns : goal.returns
returns c =
    ap (map seen) c.in_ok-insert.ensures.entries ∙ seen_with c.self.inside.texts.entries c.args.name c.args.text
    ∙ ap (λ (l : List (List ℕ × EditedText)). with_text l c.args.name c.args.text.text) c.self.view_is
