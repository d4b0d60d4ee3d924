-- What a refusal names.
use Rattle.std.specs.Prelude.{ℕ, ◌<◌, ⊤, List, length}
use Rattle.org_account.specs.declared.table.Row.{Row}
use Rattle.org_account.specs.declared.table.Folder.{Folder}
use Rattle.org_account.specs.declared.table.Folder.TheVariants.{Base, Ours, Theirs, Merged}
use Rattle.org_account.specs.declared.refused.Refused.{Refused}
use Rattle.org_account.specs.declared.refused.Refused.TheVariants.{Report, Name, Unit, Row as OfRow, Order, Deletion, Memory}
use Rattle.org_account.specs.Units.{Unit as UnitOf, File, units_of}

-- how many units each folder has
abbrev pub counts_of : (base ours theirs merged : List UnitOf) → Folder → ℕ
counts_of base ours theirs merged Base = length base
counts_of base ours theirs merged Ours = length ours
counts_of base ours theirs merged Theirs = length theirs
counts_of base ours theirs merged Merged = length merged

-- a row that the refusal names is one of the table, and a unit one of its folder
abbrev pub IsPlace : List Row → (Folder → ℕ) → Refused → Type 0
IsPlace table counts Report = ⊤
IsPlace table counts (Name folder row) = row < length table
IsPlace table counts (Unit folder unit) = unit < counts folder
IsPlace table counts (OfRow row) = row < length table
IsPlace table counts (Order row) = row < length table
IsPlace table counts (Deletion folder row) = row < length table
IsPlace table counts Memory = ⊤

-- the same in the folders with these files
abbrev pub IsPlaceIn : List Row → (base ours theirs merged : List File) → Refused → Type 0
IsPlaceIn table base ours theirs merged why =
    IsPlace table (counts_of (units_of base) (units_of ours) (units_of theirs) (units_of merged))
    why
