-- Which of a list of names leads to the file of one before it.
use Rattle.std.specs.Prelude.{◌≡◌, ◌<◌, ℕ, Bool, false, ◌&&◌, nat_eq, List, [], length, get_or, take, drop, Option, Some, None, IsFalse}
use Rattle.std.specs.List.{Contains, list_any}
use Rattle.org_folder.specs.Calls.{Event}
use Rattle.org_folder.specs.Calls.Event.{Absent, There}
use Rattle.org_folder.specs.declared.aliases.Node.{Node}
use Rattle.org_folder.specs.declared.aliases.AliasFault.{AliasFault}
use Rattle.org_folder.specs.declared.aliases.AliasFault.TheVariants.{SameFile, Linked, Unseen}

-- both are files, and they are one
abbrev pub is_same : Option Node → Option Node → Bool
is_same (Some one) (Some other) = nat_eq one.device other.device && nat_eq one.number other.number
is_same (Some one) None = false
is_same None other = false

-- the file at this place is that of an earlier one
abbrev pub is_again : List (Option Node) → ℕ → Bool
is_again nodes at = list_any (λ other. is_same other (get_or nodes at None)) (take at nodes)

-- A look among these calls found this file under a name, or none.
abbrev pub IsSeen : List Event → List ℕ → Option Node → Type 0
IsSeen calls name (Some node) =
    (plain : Bool) × (link : Bool)
    × Contains calls (There name node.device node.number plain link)
IsSeen calls name None = Contains calls (Absent name)

-- .. under each of the first names
abbrev pub AreSeen : List Event → List (List ℕ) → List (Option Node) → Type 0
AreSeen calls names nodes =
    (i : ℕ) → i < length nodes → IsSeen calls (get_or names i []) (get_or nodes i None)

-- Looks among these calls found under these names what tells them apart: no two lead to one file.
pub record AreApart (calls : List Event) (names : List (List ℕ)) : Type 0 where
  pub nodes : List (Option Node)
  pub size : length nodes ≡ length names
  pub seen : AreSeen calls names nodes
  pub apart : (i : ℕ) → i < length nodes → IsFalse (is_again nodes i)

-- of these names one after the first may be reported, which leads to the file of one before it
abbrev pub MayReport : List (List ℕ) → AliasFault → Type 0
MayReport names (SameFile name) = Contains (drop 1 names) name
MayReport names Linked = Unit {0}
MayReport names (Unseen cause) = Unit {0}
