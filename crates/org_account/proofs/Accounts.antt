-- The account by its parts, as the code names them.
use Rattle.std.proofs.Common.{◌≡◌, List, subst, ◌∙◌}
use Rattle.org_account.specs.declared.table.Row.{Row}
use Rattle.org_account.specs.declared.table.Folder.TheVariants.{Ours, Theirs}
use Rattle.org_account.specs.Units.{Unit, File, units_of}
use Rattle.org_account.specs.Order.{Placed}
use Rattle.org_account.specs.declared.refused.Refused.{Refused}
use Rattle.org_account.specs.Place.{IsPlace, IsPlaceIn, counts_of}
use Rattle.org_account.specs.Account.{Folders, AreInTable, EachRow, RowIsRight, AreOrdered, AreDeletions, IsAccounted, HaveUnits}

pub accounted_by : (table : List Row) (of : Folders) (b o t : Placed) → b ≡ of.base → o ≡ of.ours → t ≡ of.theirs → AreInTable table of
    → EachRow table (λ k row. RowIsRight of row) → EachRow table (λ p row. AreOrdered table of row.told.now p)
    → AreDeletions Ours b.units o.units table → AreDeletions Theirs b.units t.units table → IsAccounted table of
accounted_by table of b o t base ours theirs units rows order of_ours of_theirs = record {
  units = units;
  rows = rows;
  order = order;
  ours_deletions = subst (λ (x : Placed). AreDeletions Ours x.units of.ours.units table) base (subst (λ (x : Placed). AreDeletions Ours b.units x.units table) ours of_ours);
  theirs_deletions = subst (λ (x : Placed). AreDeletions Theirs x.units of.theirs.units table) base (subst (λ (x : Placed). AreDeletions Theirs b.units x.units table) theirs of_theirs);
}

pub units_by : (of : Folders) (b o t m : List Unit) (base ours theirs merged : List File) → b ≡ units_of base → o ≡ units_of ours → t ≡ units_of theirs → m ≡ units_of merged
    → HaveUnits of b o t m → HaveUnits of (units_of base) (units_of ours) (units_of theirs) (units_of merged)
units_by of b o t m base ours theirs merged eb eo et em have = record {
  base_are = have.base_are ∙ eb;
  ours_are = have.ours_are ∙ eo;
  theirs_are = have.theirs_are ∙ et;
  merged_are = have.merged_are ∙ em;
}

-- what a refusal names, by the units as the code names them
pub place_by : (table : List Row) (b o t m : List Unit) (base ours theirs merged : List File) (why : Refused) → b ≡ units_of base → o ≡ units_of ours → t ≡ units_of theirs → m ≡ units_of merged
    → IsPlace table (counts_of b o t m) why → IsPlaceIn table base ours theirs merged why
place_by table b o t m base ours theirs merged why eb eo et em place =
    subst (λ (x : List Unit). IsPlace table (counts_of x (units_of ours) (units_of theirs) (units_of merged)) why) eb
    (subst (λ (x : List Unit). IsPlace table (counts_of b x (units_of theirs) (units_of merged)) why) eo
    (subst (λ (x : List Unit). IsPlace table (counts_of b o x (units_of merged)) why) et
    (subst (λ (x : List Unit). IsPlace table (counts_of b o t x) why) em place)))
