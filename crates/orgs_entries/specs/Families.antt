-- Families that are counted in a map.
use Rattle.std.specs.Borrow.{Bor}
use Rattle.std.specs.HashMap.{HashMap, get_by}
use Rattle.std.specs.Prelude.{◌≡◌, ℕ, List, Option, unwrap_or}
use Rattle.org_outline.specs.States.{Keywords}
use Rattle.org_outline.specs.Tree.{Document}
use Rattle.orgs_entries.specs.Twins.{Family, count_below, is_same_family}

-- a family as a map has it
abbrev pub Key : Type 0
Key = Option ℕ × Bor (List ℕ)

abbrev pub family_at : Key → Family
family_at key = (key.0, key.1.now)

-- what a map has of a family, and 0 where it has nothing
abbrev pub counted : {S : Type 0} → HashMap Key ℕ S → Key → ℕ
counted m key = unwrap_or (get_by (λ k. is_same_family (family_at key) (family_at k)) m) 0

-- the families of the first n headings are counted
abbrev pub AreCounted : {S : Type 0} → HashMap Key ℕ S → Keywords → Document → ℕ → Type 0
AreCounted m states d n = (key : Key) → counted m key ≡ count_below states d n (family_at key)
