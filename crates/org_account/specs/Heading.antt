-- A heading line of which each side changed another part (Org Syntax, "Headings").
use Rattle.std.specs.Prelude.{◌≡◌, ◌⊎◌, ℕ, Bool, true, ◌==◌, ◌&&◌, ◌||◌, not, List, ◌∷◌, codes, Option, None, Some}
use Rattle.std.specs.List.{AllByRecursion, list_any, slice_split}
use Rattle.std.specs.Str.{bytes_eq}
use Rattle.org_outline.specs.States.{Keywords}
use Rattle.org_outline.specs.Parts.{Parts, parts_of}
use Rattle.org_account.specs.Text.{IsTaken, IsToldLine, IsConflict}

-- what base and the two sides have of a part, and the result; what the report tells, and the heading
-- of theirs
pub record Part : Type 0 where
  pub told : List ℕ
  pub heading : List ℕ
  pub base : List ℕ
  pub ours : List ℕ
  pub theirs : List ℕ
  pub merged : List ℕ

-- a part is as the side has it that changed it; or ours', and the report tells theirs' heading
abbrev pub IsPart : Part → Type 0
IsPart p =
    IsTaken (Some p.base) p.ours p.theirs p.merged
    ⊎ (IsToldLine p.told p.heading × (p.merged ≡ p.ours))

-- ---- tags

abbrev pub is_colon : ℕ → Bool
is_colon b = b == 58

-- a tag stands between two colons
abbrev pub has_tag : List ℕ → List ℕ → Bool
has_tag tag tags = list_any (bytes_eq tag) (slice_split is_colon tags)

-- both sides have a tag, or one added it
abbrev pub is_due_tag : (base ours theirs : Bool) → Bool
is_due_tag base ours theirs = (ours && theirs) || (not base && (ours || theirs))

-- the tag is there if it is due; CONFLICT is also there if the report tells of a conflict
abbrev pub IsRightTag : Part → List ℕ → Type 0
IsRightTag p tag =
    (has_tag tag p.merged
    ≡ is_due_tag (has_tag tag p.base) (has_tag tag p.ours) (has_tag tag p.theirs))
    ⊎ ((tag ≡ codes "CONFLICT") × (has_tag tag p.merged ≡ true) × IsConflict p.told)

-- ---- the line

abbrev pub part : (told heading base ours theirs merged : List ℕ) → Part
part told heading base ours theirs merged = record {
  told = told;
  heading = heading;
  base = base;
  ours = ours;
  theirs = theirs;
  merged = merged;
}

-- each part of a heading line is right: keyword, priority, title and each tag
pub record HasParts (told heading : List ℕ) (b o t r : Parts) : Type 0 where
  pub keyword : IsPart (part told heading b.keyword o.keyword t.keyword r.keyword)
  pub priority : IsPart (part told heading b.priority o.priority t.priority r.priority)
  pub title : IsPart (part told heading b.title o.title t.title r.title)
  pub tags : (tag : List ℕ) → IsRightTag (part told heading b.tags o.tags t.tags r.tags) tag

-- a heading of base, by its parts: blanks between them don't count
abbrev pub IsComposed : Keywords → List ℕ → Option ℕ → Option (List ℕ) → (o t r : List ℕ) → Type 0
IsComposed states told None b o t r = ⊥
IsComposed states told (Some up) None o t r = ⊥
IsComposed states told (Some up) (Some b) o t r =
    HasParts told (42 ∷ t) (parts_of states b) (parts_of states o) (parts_of states t)
    (parts_of states r)

-- ---- while the tags are read

-- P holds of each word between colons
abbrev pub EachTag : (List ℕ → Type 0) → List ℕ → Type 0
EachTag P tags = AllByRecursion P (slice_split is_colon tags)
