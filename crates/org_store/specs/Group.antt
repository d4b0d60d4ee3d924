-- How many commands may be settled together.
use Rattle.std.specs.Prelude.{ℕ, ◌≤◌}
use Rattle.org_commands.specs.declared.tally.Group.{Group}
use Rattle.org_commands.specs.declared.tally.Group.TheVariants.{Of, Whole}

abbrev pub IsGroupSize : ℕ → Type 0
IsGroupSize group = (1 ≤ group) × (group ≤ 1000)

abbrev pub IsGroup : Group → Type 0
IsGroup (Of size) = IsGroupSize size
IsGroup Whole = Unit {0}
