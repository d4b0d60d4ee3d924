use Rattle.std.proofs.Common.{◌≡◌, ◌≤◌, false, All, take, drop}
use Rattle.org_disk.specs.Names.{is_slash, parts}
use Rattle.org_move.specs.Location.{at_end}
use Rattle.org_move.proofs.locating.end_of.Given as goal

-- the parts before `start` were taken, and no slash stands between it and this byte
abbrev pub invariant-loop-at : goal.invariant-loop-at
invariant-loop-at l =
    (l.start ≤ l.at)
    × All (λ b. is_slash b ≡ false) (drop l.start (take l.at l.way))
    × (at_end l.path.items (parts (drop l.start l.way)) ≡ at_end l.fn.folder.items (parts l.way))
