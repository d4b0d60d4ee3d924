-- What is known of a text after a search, and stays known after edits.
use Rattle.std.specs.Prelude.{◌≡◌, ℕ, ◌<◌, ◌≤◌, ◌+◌, Bool, false, List, [], ◌++◌, length}
use Rattle.org_splice.specs.Edits.{applied}
use Rattle.org_splice.specs.Lines.{terminated}
use Rattle.org_splice.specs.declared.edit.Edit.{Edit}
use Rattle.org_splice.specs.declared.searched.Searched.{Searched}
use Rattle.org_splice.specs.declared.searched.Searched.TheVariants.{Nowhere, Ends}

-- what is sought stands in whole lines: a text without it has it neither in its first lines nor in
-- those after them
pub record StandsInLines (has : List ℕ → Bool) : Type 0 where
  pub none : has [] ≡ false
  pub front : (a b : List ℕ) → terminated a ≡ a → has (a ++ b) ≡ false → has a ≡ false
  pub back : (a b : List ℕ) → terminated a ≡ a → has (a ++ b) ≡ false → has b ≡ false

-- the whole lines that stand within the first `front` bytes of a text don't have it
abbrev pub IsFrontWithout : (List ℕ → Bool) → ℕ → List ℕ → Type 0
IsFrontWithout has front text =
    (a b : List ℕ) → text ≡ a ++ b → terminated a ≡ a → length a ≤ front → has a ≡ false

-- .. nor do those that begin within its last `back` bytes, and after the first of these
abbrev pub IsBackWithout : (List ℕ → Bool) → ℕ → List ℕ → Type 0
IsBackWithout has back text =
    (a b : List ℕ) → text ≡ a ++ b → terminated a ≡ a → length b < back → has b ≡ false

-- what is known is so
abbrev pub IsSearched : (List ℕ → Bool) → Searched → List ℕ → Type 0
IsSearched has Nowhere text = has text ≡ false
IsSearched has (Ends front back) text = IsFrontWithout has front text × IsBackWithout has back text

-- what is known instead is so of the same texts
abbrev pub StaysSearched : Searched → Searched → Type 0
StaysSearched was searched =
    (has : List ℕ → Bool) → StandsInLines has → (text : List ℕ)
    → IsSearched has was text → IsSearched has searched text

-- .. and of texts of this size, or larger ones, after an edit
abbrev pub FollowsEdit : ℕ → Edit → Searched → Searched → Type 0
FollowsEdit size edit was searched =
    (has : List ℕ → Bool) → StandsInLines has → (text : List ℕ) → size ≤ length text
    → edit.at + edit.removed ≤ length text → IsSearched has was text
    → IsSearched has searched (applied edit text)
