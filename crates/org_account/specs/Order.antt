-- A folder in the table, and the order of siblings.
use Rattle.std.specs.Prelude.{◌≡◌, ◌⊎◌, ℕ, suc, ◌<◌, Bool, true, false, not, ◌&&◌, ◌||◌, IsTrue, List, length, slice_get, slice_index, slice_index_or, Option, Some}
use Rattle.std.specs.Option.{option_and_then}
use Rattle.org_account.specs.declared.table.Row.{Row}
use Rattle.org_account.specs.declared.table.Folder.{Folder}
use Rattle.org_account.specs.Units.{Unit}
use Rattle.org_account.specs.Table.{named, Seen, seen_at}

-- a folder's units, and the row of each
pub record Placed : Type 0 where
  pub folder : Folder
  pub units : List Unit
  pub rows : List ℕ

-- what the folder has of a row
abbrev pub seen_of : Placed → Row → Option Seen
seen_of placed row = seen_at placed.units placed.rows (named placed.folder row)

-- the row of what a unit stands below
abbrev pub row_above : Placed → ℕ → Option ℕ
row_above placed u =
    option_and_then (λ (s : Seen). s.above) (seen_at placed.units placed.rows (Some u))

-- the unit of the second folder that is the same as u of the first
abbrev pub twin : List Row → Placed → Placed → ℕ → Option ℕ
twin table first second u =
    option_and_then (named second.folder) (slice_get table (slice_index first.rows u))

-- u of the first folder is v of the second, and both have it below the unit of row p
pub record AreBelow (table : List Row) (first second : Placed) (p u v : ℕ) : Type 0 where
  pub one : twin table first second u ≡ Some v
  pub in_first : row_above first u ≡ Some p
  pub in_second : row_above second v ≡ Some p

-- what both folders have below the unit of row p stands there in one order
abbrev pub HaveOneOrder : List Row → Placed → Placed → ℕ → Type 0
HaveOneOrder table first second p =
    (u v i j : ℕ) → AreBelow table first second p u i → AreBelow table first second p v j → u < v
    → i < j

-- ---- while the units are read

-- what is known of row p after the first units of the first folder: `last` is one more than the
-- last number there, and `same` says whether the numbers only rose
pub record IsKnown (table : List Row) (first second : Placed) (units p last : ℕ) (same : Bool)
    : Type 0 where
  pub below : IsTrue same → (u v : ℕ) → u < units → AreBelow table first second p u v → v < last
  pub rising : IsTrue same → (u v i j : ℕ) → v < units → AreBelow table first second p u i
      → AreBelow table first second p v j → u < v → i < j
  pub last_is : (last ≡ 0)
      ⊎ ((u : ℕ) × ((v : ℕ) × (u < units) × AreBelow table first second p u v × (last ≡ suc v)))
  pub other : same ≡ false → HaveOneOrder table first second p → ⊥

pub record AreKnown (table : List Row) (first second : Placed) (units : ℕ) (last : List ℕ)
    (same : List Bool) : Type 0 where
  pub last_all : length last ≡ length table
  pub same_all : length same ≡ length table
  pub each : (p : ℕ) → p < length table
      → IsKnown table first second units p (slice_index last p) (slice_index_or same p true)

-- ---- of all rows

-- for each row, whether the two folders have one order there
pub record IsDecided (table : List Row) (first second : Placed) (p : ℕ) (same : Bool) : Type 0 where
  pub yes : IsTrue same → HaveOneOrder table first second p
  pub no : same ≡ false → HaveOneOrder table first second p → ⊥

pub record AreDecided (table : List Row) (first second : Placed) (same : List Bool) : Type 0 where
  pub all : length same ≡ length table
  pub each : (p : ℕ) → p < length table
      → IsDecided table first second p (slice_index_or same p true)

-- an order is allowed, by what is in one order: the result and each side, the sides, base and each
-- side
abbrev pub is_allowed : (merged_ours merged_theirs sides base_ours base_theirs told : Bool) → Bool
is_allowed merged_ours merged_theirs sides base_ours base_theirs told =
    (merged_ours && merged_theirs)
    || (not sides
    && ((merged_ours && (base_theirs || told)) || (merged_theirs && base_ours)))
