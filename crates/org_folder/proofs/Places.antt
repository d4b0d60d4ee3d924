-- The place of a name that leads to an earlier one's file.
use Rattle.std.proofs.Common.{◌≡◌, ◌<◌, ℕ, zero, suc, List, [], ◌∷◌, length, drop, get_or, true, arith}
use Rattle.std.proofs.lemmas.Bool.{false≢true}
use Rattle.std.specs.List.{Contains}
use Rattle.std.proofs.lemmas.List.Elements.{Contains-get_or}
use Rattle.std.specs.Prelude.{Option}
use Rattle.org_folder.specs.Aliases.{is_again}
use Rattle.org_folder.specs.declared.aliases.Node.{Node}

pub not_first : (nodes : List (Option Node)) (at : ℕ) → is_again nodes at ≡ true → 0 < at
not_first nodes zero again = absurd (false≢true again)
not_first nodes (suc at) again = omega arith

pub behind_first : {X : Type 0} (xs : List X) (at : ℕ) (other : X) → 0 < at → at < length xs → Contains (drop 1 xs) (get_or xs at other)
behind_first [] at other past within = absurd (omega (arith, within))
behind_first (x ∷ xs) zero other past within = absurd (omega (arith, past))
behind_first (x ∷ xs) (suc at) other past within = Contains-get_or xs at other (omega (arith, within))
