-- Refile: a subtree made a child of another heading, of its file or of another one (Org manual,
-- "Refile and Copy").
use Rattle.std.specs.Prelude.{◌≡◌, ℕ, List, [], ◌∷◌, None, IsSomeAnd}
use Rattle.org_splice.specs.Edits.{AreEdits}
use Rattle.org_outline.specs.Tree.{Document, print}
use Rattle.org_texts.specs.declared.plan.Plan.{Plan}
use Rattle.org_move.specs.Refile.{Moved}

-- the new text of a file within which a subtree moves
abbrev pub text_within : List ℕ → Document → List (List ℕ × List ℕ)
text_within file new = (file, print new) ∷ []

-- the new texts of two files between which a subtree moves
abbrev pub texts_across : List ℕ → List ℕ → Moved → List (List ℕ × List ℕ)
texts_across file to_file new = (file, print new.source) ∷ (to_file, print new.target) ∷ []

-- the plan makes this document of a file's text, and changes no other
abbrev pub MakesDocument : List ℕ → List ℕ → Document → Plan → Type 0
MakesDocument file text new plan =
    (plan.first.file ≡ file)
    × (plan.second ≡ None)
    × AreEdits plan.first.edits.items text (print new)

-- the plan makes these documents of the texts of two files, the source first
abbrev pub MakesDocuments : List ℕ → List ℕ → List ℕ → List ℕ → Moved → Plan → Type 0
MakesDocuments file to_file text target new plan =
    (plan.first.file ≡ file) × AreEdits plan.first.edits.items text (print new.source)
    × IsSomeAnd plan.second
    (λ second. (second.file ≡ to_file) × AreEdits second.edits.items target (print new.target))
