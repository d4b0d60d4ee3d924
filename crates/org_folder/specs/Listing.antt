-- What a record shows of a walk: the folders that were listed, the looks at their entries that are
-- named as Org files, and at those that may be folders of the store.
use Rattle.std.specs.Prelude.{◌≡◌, ◌⊎◌, ◌≤◌, ◌==◌, ◌&&◌, ℕ, Bool, true, false, not, List, [], ◌∷◌, ◌++◌, codes, length, map, filter, IsTrue, IsFalse}
use Rattle.std.specs.List.{All, Contains, list_any}
use Rattle.org_disk.specs.Names.{is_file_name}
use Rattle.org_folder.specs.Calls.{Event, entries_in, with_entries, IsLook}
use Rattle.org_folder.specs.Calls.Event.{Listed, Folder, There, Unseen, Absent}
use Rattle.org_folder.specs.OrgFiles.{is_org_file}
use Rattle.org_folder.specs.declared.aliases.Node.{Node}
use Rattle.org_folder.specs.declared.list.Linked.{Linked}

-- the most files of a store that are looked for
abbrev pub most_files : ℕ
most_files = 256

-- a file of a folder at this path can have a name
abbrev pub can_have_files : List ℕ → Bool
can_have_files path = is_file_name (path ++ codes "/a.org")

abbrev pub is_node : Node → Node → Bool
is_node one other = (one.device == other.device) && (one.number == other.number)

abbrev pub node_of : ℕ → ℕ → Node
node_of device number = record { device = device; number = number }

-- The names that were found to be files', but for links: a name that leads nowhere is one, and so is
-- one that can't be looked at.
abbrev pub names_in : List Event → List (List ℕ)
names_in [] = []
names_in (There name device number true false ∷ earlier) = names_in earlier ++ name ∷ []
names_in (Absent name ∷ earlier) = names_in earlier ++ name ∷ []
names_in (Unseen name ∷ earlier) = names_in earlier ++ name ∷ []
names_in (_ ∷ earlier) = names_in earlier

-- the plain files that they lead to
abbrev pub nodes_in : List Event → List Node
nodes_in [] = []
nodes_in (There name device number true false ∷ earlier) =
    nodes_in earlier ++ node_of device number ∷ []
nodes_in (_ ∷ earlier) = nodes_in earlier

-- the links to plain files
abbrev pub links_in : List Event → List Linked
links_in [] = []
links_in (There name device number true true ∷ earlier) =
    let link : Linked = record { name = name; node = node_of device number } in
    links_in earlier ++ link ∷ []
links_in (_ ∷ earlier) = links_in earlier

-- the names of those links that lead to none of these files
abbrev pub names_of_links : List Node → List Linked → List (List ℕ)
names_of_links nodes links =
    map (λ link. link.name) (filter (λ link. not (list_any (is_node link.node) nodes)) links)

-- the paths of all entries that were listed
abbrev pub paths_in : List Event → List (List ℕ)
paths_in [] = []
paths_in (Listed folder ok ∷ earlier) =
    map (λ entry. folder ++ entry) (entries_in earlier) ++ paths_in earlier
paths_in (_ ∷ earlier) = paths_in earlier

-- a name was looked at
abbrev pub IsLookedAt : List ℕ → List Event → Type 0
IsLookedAt name calls =
    Contains calls (Unseen name)
    ⊎ Contains calls (Absent name)
    ⊎ ((device : ℕ) × (number : ℕ) × (plain : Bool) × (link : Bool)
    × Contains calls (There name device number plain link))

-- a folder isn't the store's, or it was listed, or can't be read
abbrev pub IsTried : List ℕ → List Event → Type 0
IsTried path calls =
    Contains calls (Folder path false) ⊎ ((ok : Bool) × Contains calls (Listed (path ++ codes "/") ok))

-- what stands at the path of an entry was not left out, if it may be a file or a folder with files
pub record IsSeen (path : List ℕ) (calls : List Event) : Type 0 where
  pub file : IsTrue (is_org_file path) → IsLookedAt path calls
  pub folder : IsFalse (is_org_file path) → IsTrue (can_have_files path) → IsTried path calls

-- A folder was listed, and the paths of its entries put with those that are still to be looked at;
-- or it can't be read.
pub record ListsFolder (folder : List ℕ) (ok : Bool) (before todo : List (List ℕ))
    (old new : List Event) : Type 0 where
  pub entries : List (List ℕ)
  pub listed : new ≡ Listed folder ok ∷ with_entries entries old
  pub more : todo ≡ before ++ map (λ entry. folder ++ entry) entries

-- the store's own folder, or one that was found to be the store's
abbrev pub IsOwn : List ℕ → List Event → Type 0
IsOwn folder calls =
    (folder ≡ []) ⊎ ((path : List ℕ) × (folder ≡ path ++ codes "/")
    × Contains calls (Folder path true))

-- The store's folder was listed, and then the folders below that were found to be the store's. These
-- names are the files that were found there. Where they are more than a store can have, others may
-- be missing.
pub record Lists (names : List (List ℕ)) (old new : List Event) : Type 0 where
  pub calls : List Event
  pub after : new ≡ calls ++ old
  pub root : Contains calls (Listed [] true)
  pub own : (folder : List ℕ) (ok : Bool) → Contains calls (Listed folder ok)
      → IsOwn folder calls
  pub found : names ≡ names_in calls ++ names_of_links (nodes_in calls) (links_in calls)
  pub whole : length names ≤ most_files → All (λ path. IsSeen path calls) (paths_in calls)

-- A walk so far, by its calls: what was found, and the paths that are still to be looked at.
pub record WalksOver (names : List (List ℕ)) (nodes : List Node) (links : List Linked)
    (todo : List (List ℕ)) (calls : List Event) : Type 0 where
  pub looks : All IsLook calls
  -- no entry stands last, which would be taken for one of the next folder
  pub at_rest : entries_in calls ≡ []
  pub own : (folder : List ℕ) (ok : Bool) → Contains calls (Listed folder ok)
      → IsOwn folder calls
  pub are_names : names ≡ names_in calls
  pub are_nodes : nodes ≡ nodes_in calls
  pub are_links : links ≡ links_in calls
  pub seen : All (λ path. Contains todo path ⊎ IsSeen path calls) (paths_in calls)

-- The store's folder was listed, and then so far.
pub record Walks (names : List (List ℕ)) (nodes : List Node) (links : List Linked)
    (todo : List (List ℕ)) (old new : List Event) : Type 0 where
  pub calls : List Event
  pub after : new ≡ calls ++ old
  pub root : Contains calls (Listed [] true)
  pub over : WalksOver names nodes links todo calls
