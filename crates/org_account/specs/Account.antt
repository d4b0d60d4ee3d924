-- The account of a merge: nothing is lost, nothing is doubled, nothing comes back, and what one
-- side alone changed is as that side has it. What a conflict decides otherwise, the report tells.
use Rattle.std.specs.Prelude.{◌≡◌, ◌≢◌, ◌⊎◌, ℕ, List, [], ◌∷◌, ◌++◌, codes, length, slice_get, nat_eq, IsTrue, Option, None, Some}
use Rattle.std.specs.Option.{option_map}
use Rattle.std.specs.List.{ends_with}
use Rattle.org_splice.specs.Lines.{terminated}
use Rattle.org_outline.specs.States.{Keywords}
use Rattle.org_account.specs.declared.table.Row.{Row}
use Rattle.org_account.specs.declared.table.Folder.{Folder}
use Rattle.org_account.specs.declared.table.Folder.TheVariants.{Base, Ours, Theirs, Merged}
use Rattle.org_account.specs.Units.{Unit, File, units_of}
use Rattle.org_account.specs.Table.{AreRowsOf, Seen, named, report_of}
use Rattle.org_account.specs.Order.{Placed, seen_of, HaveOneOrder}
use Rattle.org_account.specs.Heading.{IsComposed}
use Rattle.org_account.specs.Text.{Changed, IsTaken, IsUnion, IsToldLine, IsToldOf, IsConflict}

-- the report tells that ours' place was taken
abbrev pub IsToldMove : List ℕ → Type 0
IsToldMove told =
    IsToldOf told (codes "moved to two places, ours taken")
    ⊎ IsToldOf told (codes "moved below itself, ours taken")

-- the report tells that ours' level was taken
abbrev pub IsToldLevel : List ℕ → Type 0
IsToldLevel told = IsToldOf told (codes "two levels, ours taken")

-- the report tells that ours' order was taken
abbrev pub IsToldOrder : List ℕ → Type 0
IsToldOrder told = IsToldOf told (codes "sorted in two ways, ours taken")

-- the report tells that a unit was kept
abbrev pub IsToldKept : List ℕ → Type 0
IsToldKept told = IsToldOf told (codes "kept against a deletion")

-- ---- a unit that one side has

-- An addition is there as its side has it. What the other side deleted is gone if this side left it
-- as it was; or it is kept as this side has it, and told.
abbrev pub IsKept : List ℕ → Option Seen → Seen → Option Seen → Type 0
IsKept told None x r = r ≡ Some x
IsKept told (Some b) x r = ((x ≡ b) × (r ≡ None)) ⊎ (IsToldKept told × (r ≡ Some x))

-- ---- a unit that both sides have

-- the place: as the side has it that changed it; if both moved it and the report tells that, ours'
abbrev pub IsPlaced : List ℕ → Option (Option ℕ) → Option ℕ → Option ℕ → Option ℕ → Type 0
IsPlaced told b o t r = IsTaken b o t r ⊎ (IsToldMove told × (r ≡ o))

-- the step: the same
abbrev pub IsStepped : List ℕ → Option ℕ → ℕ → ℕ → ℕ → Type 0
IsStepped told b o t r = IsTaken b o t r ⊎ (IsToldLevel told × (r ≡ o))

-- the line of a unit whose line both sides changed: one of both, and the report tells the other
abbrev pub IsChosen : List ℕ → List ℕ → List ℕ → List ℕ → Type 0
IsChosen told o t r =
    ((r ≡ o) × IsToldLine told (42 ∷ t)) ⊎ ((r ≡ t) × IsToldLine told (42 ∷ o))

-- the line of a unit: as the side has it that changed it; or a chosen one
abbrev pub IsPlainLine : List ℕ → Option (List ℕ) → List ℕ → List ℕ → List ℕ → Type 0
IsPlainLine told b o t r = IsTaken b o t r ⊎ IsChosen told o t r

-- a line with the tag CONFLICT at its end, alone or after other tags
abbrev pub IsMarked : List ℕ → List ℕ → Type 0
IsMarked line r =
    (r ≡ line ++ codes " :CONFLICT:")
    ⊎ (IsTrue (ends_with nat_eq line (codes ":")) × (r ≡ line ++ codes "CONFLICT:"))

-- the line of a unit, with the tag CONFLICT only if a conflict is told
abbrev pub IsLined : List ℕ → Option (List ℕ) → List ℕ → List ℕ → List ℕ → Type 0
IsLined told b o t r =
    IsPlainLine told b o t r
    ⊎ (IsConflict told × ((line : List ℕ) × IsMarked line r × IsPlainLine told b o t line))

-- both sides changed the text, each otherwise than the other
pub record DifferFrom (b : Option (List ℕ)) (o t : List ℕ) : Type 0 where
  pub ours : b ≢ Some o
  pub theirs : b ≢ Some t
  pub both : o ≢ t

-- both did, or the report tells of a conflict, whose quotes stand in the text
abbrev pub MayUnite : List ℕ → Option (List ℕ) → List ℕ → List ℕ → Type 0
MayUnite told b o t = DifferFrom b o t ⊎ IsConflict told

abbrev pub text_of : Option Seen → List ℕ
text_of None = []
text_of (Some b) = b.section

abbrev pub changed : List ℕ → Option Seen → Seen → Seen → List ℕ → Changed
changed told b o t r = record {
  told = told;
  ours_line = o.line;
  theirs_line = t.line;
  base = text_of b;
  ours = o.section;
  theirs = t.section;
  merged = r;
}

-- the text of a unit: as the side has it that changed it; if both did, or if a conflict is told, a
-- union of both
abbrev pub IsWritten : List ℕ → Option Seen → Seen → Seen → List ℕ → Type 0
IsWritten told b o t r =
    let was : Option (List ℕ) = option_map (λ (s : Seen). s.section) b in
    IsTaken was o.section t.section r
    ⊎ (MayUnite told was o.section t.section × IsUnion (changed told b o t r))

pub record IsMerged (states : Keywords) (told : List ℕ) (b : Option Seen) (o t r : Seen)
    : Type 0 where
  pub place : IsPlaced told (option_map (λ (s : Seen). s.above) b) o.above t.above r.above
  pub step : IsStepped told (option_map (λ (s : Seen). s.step) b) o.step t.step r.step
  pub line : IsLined told (option_map (λ (s : Seen). s.line) b) o.line t.line r.line
      ⊎ IsComposed states told r.above (option_map (λ (s : Seen). s.line) b) o.line t.line r.line
  pub text : IsWritten told b o t r.section

-- ---- rows

-- what base, the two sides and the result have of a row is right
abbrev pub IsRight : Keywords → List ℕ → (b o t r : Option Seen) → Type 0
IsRight states told b None None r = r ≡ None
IsRight states told b (Some o) None r = IsKept told b o r
IsRight states told b None (Some t) r = IsKept told b t r
IsRight states told b (Some o) (Some t) None = ⊥
IsRight states told b (Some o) (Some t) (Some r) = IsMerged states told b o t r

-- the four folders in the table, and the states of their headings
pub record Folders : Type 0 where
  pub states : Keywords
  pub base : Placed
  pub ours : Placed
  pub theirs : Placed
  pub merged : Placed

-- P holds of each row and its number
abbrev pub EachRow : List Row → (ℕ → Row → Type 0) → Type 0
EachRow table P = (k : ℕ) (row : Row) → slice_get table k ≡ Some row → P k row

abbrev pub RowIsRight : Folders → Row → Type 0
RowIsRight of row =
    IsRight of.states row.told.now (seen_of of.base row) (seen_of of.ours row)
    (seen_of of.theirs row) (seen_of of.merged row)

-- ---- the order of siblings

-- The result has the siblings below the unit of row p in the order of both sides. If the sides
-- differ, it has them in the order of the side that alone changed base's order, or, told, in ours.
abbrev pub AreOrdered : List Row → Folders → List ℕ → ℕ → Type 0
AreOrdered table of told p =
    (HaveOneOrder table of.merged of.ours p × HaveOneOrder table of.merged of.theirs p)
    ⊎ ((HaveOneOrder table of.ours of.theirs p → ⊥)
    × ((HaveOneOrder table of.merged of.ours p
    × (HaveOneOrder table of.base of.theirs p ⊎ IsToldOrder told))
    ⊎ (HaveOneOrder table of.merged of.theirs p × HaveOneOrder table of.base of.ours p)))

-- ---- deletions

-- two units of different texts
abbrev pub HaveOtherTexts : Unit → Unit → Type 0
HaveOtherTexts a b = a.line ≡ b.line → a.section ≡ b.section → ⊥

-- the row adds no unit of this text to a side
abbrev pub IsNoCopy : Folder → List Unit → Unit → Row → Type 0
IsNoCopy side units gone row =
    (u : ℕ) (unit : Unit) → row.base ≡ None → named side row ≡ Some u
    → slice_get units u ≡ Some unit → HaveOtherTexts gone unit

abbrev pub HaveNoCopy : Folder → List Unit → List Row → Unit → Type 0
HaveNoCopy side units table gone =
    (k : ℕ) (row : Row) → slice_get table k ≡ Some row → IsNoCopy side units gone row

-- if the row says that a side deleted a unit of base, no row adds one of its text to the side
abbrev pub IsDeletion : Folder → List Unit → List Unit → List Row → Row → Type 0
IsDeletion side base units table row =
    (i : ℕ) (unit : Unit) → row.base ≡ Some i → named side row ≡ None → slice_get base i ≡ Some unit
    → HaveNoCopy side units table unit

-- A side really deleted what the rows say: so an entry that it only moved isn't taken for two.
abbrev pub AreDeletions : Folder → List Unit → List Unit → List Row → Type 0
AreDeletions side base units table =
    (k : ℕ) (row : Row) → slice_get table k ≡ Some row → IsDeletion side base units table row

-- ---- the account

-- each unit of the folder stands in one row
pub record IsIndexed (folder : Folder) (table : List Row) (placed : Placed) : Type 0 where
  pub is_folder : placed.folder ≡ folder
  pub rows : AreRowsOf folder table (length placed.units) placed.rows

-- the report is what the rows tell, each in whole lines
pub record IsReport (report : List ℕ) (table : List Row) : Type 0 where
  pub bytes : report ≡ report_of table
  pub lines : EachRow table (λ k row. terminated row.told.now ≡ row.told.now)

pub record AreInTable (table : List Row) (of : Folders) : Type 0 where
  pub base : IsIndexed Base table of.base
  pub ours : IsIndexed Ours table of.ours
  pub theirs : IsIndexed Theirs table of.theirs
  pub merged : IsIndexed Merged table of.merged

pub record IsAccounted (table : List Row) (of : Folders) : Type 0 where
  pub units : AreInTable table of
  pub rows : EachRow table (λ k row. RowIsRight of row)
  pub order : EachRow table (λ p row. AreOrdered table of row.told.now p)
  pub ours_deletions : AreDeletions Ours of.base.units of.ours.units table
  pub theirs_deletions : AreDeletions Theirs of.base.units of.theirs.units table

-- the folders have these units
pub record HaveUnits (of : Folders) (base ours theirs merged : List Unit) : Type 0 where
  pub base_are : of.base.units ≡ base
  pub ours_are : of.ours.units ≡ ours
  pub theirs_are : of.theirs.units ≡ theirs
  pub merged_are : of.merged.units ≡ merged

-- The table and the report are an account of the merge of these folders, whose headings have these
-- states.
pub record IsAccountOf (states : Keywords) (table : List Row) (report : List ℕ)
    (base ours theirs merged : List File) : Type 0 where
  pub report_told : IsReport report table
  pub of : Folders
  pub states_are : of.states ≡ states
  pub rows : IsAccounted table of
  pub units : HaveUnits of (units_of base) (units_of ours) (units_of theirs) (units_of merged)
