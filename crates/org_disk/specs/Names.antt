-- The names of the files of a store: Org files, their archive files, and the journal.
use Rattle.std.specs.Prelude.{◌≡◌, ◌≢◌, ◌⊎◌, ℕ, ◌-◌, Bool, true, false, not, ◌&&◌, ◌||◌, ◌==◌, nat_eq, nat_le, List, [], ◌∷◌, ◌++◌, length, take, drop, codes, if◌then◌else◌, IsTrue, IsFalse}
use Rattle.std.specs.List.{starts_with, ends_with, list_all, list_any, slice_split}

abbrev pub archive_suffix : List ℕ
archive_suffix = codes "_archive"

abbrev pub journal_name : List ℕ
journal_name = codes "orgstore.journal"

-- no control character and no DEL
abbrev pub is_name_byte : ℕ → Bool
is_name_byte b = nat_le 32 b && not (b == 127)

abbrev pub is_slash : ℕ → Bool
is_slash b = b == 47

-- the parts of a name between its slashes: `work` and `a.org` of `work/a.org`
abbrev pub parts : List ℕ → List (List ℕ)
parts name = slice_split is_slash name

-- at most 200 bytes, and neither empty nor hidden
abbrev pub is_part : List ℕ → Bool
is_part part =
    nat_le 1 (length part)
    && nat_le (length part) 200
    && not (starts_with nat_eq part (codes "."))

abbrev pub ends_in_org : List ℕ → Bool
ends_in_org name = ends_with nat_eq name (codes ".org")

-- an archive file's name, such as `inbox.org_archive` (Org manual, "Moving a tree to an archive file")
abbrev pub is_archive_name : List ℕ → Bool
is_archive_name name = ends_with nat_eq name archive_suffix

abbrev pub archive_name : List ℕ → List ℕ
archive_name name = name ++ archive_suffix

-- the name without the suffix of an archive file
abbrev pub base_name : List ℕ → List ℕ
base_name name =
    if is_archive_name name then take (length name - length archive_suffix) name else name

-- the name of a folder below the store's: it isn't named as a file
abbrev pub is_folder_part : List ℕ → Bool
is_folder_part part = is_part part && not (ends_in_org (base_name part))

-- the folders that lead to a file, and the file's own name
abbrev pub is_way : List (List ℕ) → Bool
is_way [] = false
is_way (file ∷ []) = is_part file && ends_in_org file
is_way (folder ∷ next ∷ rest) = is_folder_part folder && is_way (next ∷ rest)

-- the name of an Org file, such as `inbox.org` or `work/inbox.org`: at most 1,000 bytes
abbrev pub is_org_name : List ℕ → Bool
is_org_name name = nat_le (length name) 1_000 && list_all is_name_byte name && is_way (parts name)

-- the name of an Org file or of an archive file, among the UTF-8 texts
abbrev pub is_file_name : List ℕ → Bool
is_file_name name = is_org_name (base_name name)

-- the name of a file that a store has on its disk
abbrev pub IsDiskName : List ℕ → Type 0
IsDiskName name = IsTrue (is_file_name name) ⊎ (name ≡ journal_name)

-- of such names, an Org file's: neither an archive file's nor the journal's
abbrev pub IsOrgFile : List ℕ → Type 0
IsOrgFile name = IsFalse (is_archive_name name) × (name ≢ journal_name)

-- a name as far as its last slash: `work/` of `work/a.org`, and nothing of `a.org`
abbrev pub folder_of : List ℕ → List ℕ
folder_of [] = []
folder_of (b ∷ rest) = if list_any is_slash (b ∷ rest) then b ∷ folder_of rest else []

-- what stands after that: `a.org` of both
abbrev pub last_part : List ℕ → List ℕ
last_part name = drop (length (folder_of name)) name

-- a way that leads on by these bytes: each beginning of it that a slash follows
abbrev pub folders_from : List ℕ → List ℕ → List (List ℕ)
folders_from way [] = []
folders_from way (b ∷ rest) =
    if is_slash b then way ∷ folders_from (way ++ b ∷ []) rest
    else folders_from (way ++ b ∷ []) rest

-- the folders that lead to a file, the outermost first: `a` and `a/b` of `a/b/c.org`
abbrev pub folders_on : List ℕ → List (List ℕ)
folders_on name = folders_from [] name
