-- A subtree made a child of another heading, of its own document or of another one (Org manual,
-- "Refile and Copy").
use Rattle.std.specs.Prelude.{ℕ, ◌+◌, nat_le, nat_lt, Bool, ◌&&◌, if◌then◌else◌, List, Some, Result, Ok, Err}
use Rattle.org_fault.specs.declared.refusal.Refusal.{Refusal}
use Rattle.org_fault.specs.declared.refusal.Refusal.TheVariants.{InsideItself}
use Rattle.org_outline.specs.declared.steps.Step.{Step}
use Rattle.org_outline.specs.declared.moves.Place.{Place}
use Rattle.org_outline.specs.declared.paths.PathFault.{PathFault}
use Rattle.org_outline.specs.States.{Keywords}
use Rattle.org_outline.specs.Tree.{Document, node_at}
use Rattle.org_outline.specs.Moves.{insert, take}
use Rattle.org_outline.specs.Numbers.{size_of, parent_without}
use Rattle.org_outline.specs.Paths.{find_path, refusal_of}

-- what is made of the heading at a path, and the refusal where there is none
abbrev pub with_found : {A : Type 0} → Result ℕ PathFault → (ℕ → Result A Refusal)
    → Result A Refusal
with_found (Ok i) make = make i
with_found (Err fault) make = Err (refusal_of fault)

-- a heading is `top`, or lies below it
abbrev pub is_inside : Document → ℕ → ℕ → Bool
is_inside d top i = nat_le top i && nat_lt i (top + size_of d top)

-- the subtree of heading i taken out, and then put below heading p, which isn't inside it: both are
-- numbers of d
abbrev pub moved : ℕ → ℕ → Place → Document → Document
moved i p place d =
    insert (parent_without i (size_of d i) (Some p)) place (node_at d i).node (take i d)

-- refiling within a document: the heading at `path` goes below the one at `to`
abbrev pub refile_within : Keywords → List Step → List Step → Place → Document
    → Result Document Refusal
refile_within states path to place d =
    with_found (find_path states d path) (λ i.
    with_found (find_path states d to) (λ p.
    if is_inside d i p then Err InsideItself else Ok (moved i p place d)))

-- two documents that a move between them leaves
pub record Moved : Type 0 where
  pub source : Document
  pub target : Document

-- refiling into another document: the heading at `path` of the source goes below the one at `to` of
-- the target
abbrev pub refile_across : Keywords → List Step → Document → Keywords → List Step → Document
    → Place → Result Moved Refusal
refile_across states path source there to target place =
    with_found (find_path states source path) (λ i.
    with_found (find_path there target to) (λ p.
    Ok (record {
      source = take i source;
      target = insert (Some p) place (node_at source i).node target;
    })))
