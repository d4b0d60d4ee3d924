use Rattle.std.proofs.Common.{◌≡◌, length}
use Rattle.org_folder.specs.Aliases.{AreSeen}
use Rattle.org_folder.specs.Calls.{OnlyLooks}
use Rattle.org_folder.specs.Right.{HaveNoFiles}
use Rattle.org_folder.proofs.aliases.nodes_of.Given as goal

abbrev pub invariant-loop-name : goal.invariant-loop-name
invariant-loop-name g l =
    (length l.nodes.items ≡ l.name-index) × HaveNoFiles g.S.System l.system l.absent.keys × OnlyLooks (g.S.System.history l.fn.system) (g.S.System.history l.system)
    × AreSeen (g.S.System.history l.system) l.names l.nodes.items
