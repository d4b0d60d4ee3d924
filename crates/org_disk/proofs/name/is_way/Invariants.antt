use Rattle.std.proofs.Common.{◌≡◌, ◌≤◌, false, All, take, drop}
use Rattle.org_disk.specs.Names.{is_slash, is_way, parts}
use Rattle.org_disk.proofs.name.is_way.Given as goal

-- the parts before `start` are folders, and no slash stands between it and this byte
abbrev pub invariant-loop-at : goal.invariant-loop-at
invariant-loop-at l =
    (l.start ≤ l.at)
    × All (λ b. is_slash b ≡ false) (drop l.start (take l.at l.name))
    × (is_way (parts (drop l.start l.name)) ≡ is_way (parts l.name))
