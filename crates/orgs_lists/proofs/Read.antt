-- What is read of a heading, by the headings of its file and not by their outline.
use Rattle.std.proofs.Common.{◌≡◌, ℕ, ◌<◌, List, subst}
use Rattle.org_splice.specs.Lines.{terminated}
use Rattle.org_splice.specs.declared.Span.{Span}
use Rattle.org_outline.specs.Outline.{IsSection}
use Rattle.org_outline.specs.Parts.{AreParts}
use Rattle.org_outline.specs.Source.{Source}
use Rattle.org_outline.specs.Tree.{node_at, tree}
use Rattle.org_outline.specs.declared.parts.HeadParts.{HeadParts}
use Rattle.orgs_lists.specs.Filters.{parts_at}

pub section_of : (a b : Source) (i j : ℕ) (span : Span) → a ≡ b → i ≡ j → IsSection a.text (node_at (tree a.text) i) span → IsSection b.text (node_at (tree b.text) j) span
section_of a b i j span same at is =
    subst (λ (k : ℕ). IsSection b.text (node_at (tree b.text) k) span) at (subst (λ (s : Source). IsSection s.text (node_at (tree s.text) i) span) same is)

pub parts_in : (a b : Source) (i j : ℕ) (parts : HeadParts) → a ≡ b → i ≡ j → AreParts parts (parts_at a.states (tree a.text) i) → AreParts parts (parts_at b.states (tree b.text) j)
parts_in a b i j parts same at are =
    subst (λ (k : ℕ). AreParts parts (parts_at b.states (tree b.text) k)) at (subst (λ (s : Source). AreParts parts (parts_at s.states (tree s.text) i)) same are)

pub whole_of : (a b : Source) → a ≡ b → terminated a.text ≡ a.text → terminated b.text ≡ b.text
whole_of a b same whole = subst (λ (s : Source). terminated s.text ≡ s.text) same whole
