-- How many accepted commands are settled together.
use Rattle.std.specs.Prelude.{ℕ, Bool, false, nat_le}
use Rattle.org_commands.specs.declared.tally.Group.{Group}
use Rattle.org_commands.specs.declared.tally.Group.TheVariants.{Of, Whole}

-- so many commands fill the group; none fill the group of all up to the next settling
abbrev pub are_group : Group → ℕ → Bool
are_group (Of size) pending = nat_le size pending
are_group Whole pending = false
