-- The table of a merge: which units of base, ours, theirs and the result are one.
use Rattle.std.specs.Prelude.{◌≡◌, ℕ, ◌<◌, List, [], ◌∷◌, ◌++◌, length, slice_get, slice_index, Option, None, Some}
use Rattle.std.specs.Option.{option_map}
use Rattle.org_account.specs.declared.table.Row.{Row}
use Rattle.org_account.specs.declared.table.Folder.{Folder}
use Rattle.org_account.specs.declared.table.Folder.TheVariants.{Base, Ours, Theirs, Merged}
use Rattle.org_account.specs.Units.{Unit}

-- the unit of a folder that a row names
abbrev pub named : Folder → Row → Option ℕ
named Base row = row.base
named Ours row = row.ours
named Theirs row = row.theirs
named Merged row = row.merged

-- `rows` lists the row of each of a folder's units: this row names the unit, and no other row does;
-- and no row names a unit that the folder doesn't have
pub record AreRowsOf (folder : Folder) (table : List Row) (count : ℕ) (rows : List ℕ) : Type 0 where
  pub all : length rows ≡ count
  pub each : (i : ℕ) → i < count
      → (row : Row) × (slice_get table (slice_index rows i) ≡ Some row)
      × (named folder row ≡ Some i)
  pub only : (k i : ℕ) (row : Row) → slice_get table k ≡ Some row → named folder row ≡ Some i
      → (i < count) × (slice_index rows i ≡ k)

-- a unit as the table sees it: the row of the unit that it stands below, and its own parts
pub record Seen : Type 0 where
  pub above : Option ℕ
  pub step : ℕ
  pub line : List ℕ
  pub section : List ℕ

abbrev pub seen : List ℕ → Unit → Seen
seen rows unit = record {
  above = option_map (λ i. slice_index rows i) unit.above;
  step = unit.step;
  line = unit.line;
  section = unit.section;
}

-- what a folder has of a row
abbrev pub seen_at : List Unit → List ℕ → Option ℕ → Option Seen
seen_at units rows None = None
seen_at units rows (Some i) = option_map (seen rows) (slice_get units i)

-- the report: what is told of each row, in their order
abbrev pub report_of : List Row → List ℕ
report_of [] = []
report_of (row ∷ rows) = row.told.now ++ report_of rows

-- ---- while the rows are read

-- `rows` has the row of each unit that one of the first k rows names
pub record AreFilled (folder : Folder) (table : List Row) (count k : ℕ) (rows : List ℕ)
    : Type 0 where
  pub below : (i : ℕ) → i < count → slice_index rows i < length table
      → (slice_index rows i < k)
      × ((row : Row) × (slice_get table (slice_index rows i) ≡ Some row)
      × (named folder row ≡ Some i))
  pub only : (j i : ℕ) (row : Row) → j < k → slice_get table j ≡ Some row
      → named folder row ≡ Some i
      → (i < count) × (slice_index rows i ≡ j)
