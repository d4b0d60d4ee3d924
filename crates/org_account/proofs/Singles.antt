-- Lines that stand once.
use Rattle.std.proofs.Common.{◌≡◌, ℕ, List, true, false, Bool, ◌≤◌, refl}
use Rattle.std.specs.Prelude.{IsTrue, ◌&&◌, max}
use Rattle.org_account.specs.Text.{Changed, copies, is_single, IsAlone, IsSingleLine, EachLine}
use Rattle.org_account.proofs.EachLine.{each_copied}

pub single_by : (c : Changed) (line : List ℕ) → copies line c.merged ≤ max (copies line c.ours) (copies line c.theirs) → EachLine (IsAlone c line) c.merged → IsSingleLine c line
single_by c line few all = record {
  once = λ is. few;
  alone = λ other there. each_copied (IsAlone c line) other c.merged all there;
}

first_of : (a b : Bool) → IsTrue (a && b) → IsTrue a
first_of true b h = refl
first_of false b h = absurd cc

off : (b s : Bool) → b ≡ s → b ≡ false → s ≡ true → ⊥
off b s same not_it is_it = cc

pub single_not : (c : Changed) (line : List ℕ) (b : Bool) → b ≡ is_single line → b ≡ false → IsSingleLine c line
single_not c line b same not_it = record {
  once = λ is_it. absurd (off b (is_single line) same not_it is_it);
  alone = λ other there rivals. absurd (off b (is_single line) same not_it (first_of (is_single line) _ rivals));
}
