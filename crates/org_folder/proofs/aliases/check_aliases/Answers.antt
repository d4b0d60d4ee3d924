use Rattle.std.proofs.Common.{◌<◌, ap, sym, subst, length, drop, arith}
use Rattle.std.specs.List.{Contains}
use Rattle.org_folder.specs.Aliases.{MayReport}
use Rattle.org_folder.proofs.Looked.{fault_passed}
use Rattle.org_folder.proofs.Places.{not_first, behind_first}
use Rattle.org_folder.proofs.aliases.check_aliases.Goals as goal

pub returns-in_ok-fault-in-Some-clause-fault : goal.returns-in_ok-fault-in-Some-clause-fault
returns-in_ok-fault-in-Some-clause-fault g c =
    let names = c.args.names.now in
    let at = c.in-Some.at in
    let nodes = c.as_slice.result.now in
    let within : at < length names = omega (arith, c.in-Some.ensures.found.0, ap length c.as_slice.ensures.value, c.in_ok-nodes.ensures.size) in
    subst (MayReport names) (sym c.in_ok-fault-in-Some.ensures)
    (subst (Contains (drop 1 names)) (sym c.index-names-at.is) (behind_first names at c.index-names-at.result (not_first nodes at c.in-Some.ensures.found.1) within))

pub returns-in_err-nodes-clause-fault : goal.returns-in_err-nodes-clause-fault
returns-in_err-nodes-clause-fault g c =
    fault_passed (MayReport c.args.names.now) c.from_residual.result _ c.from_residual.ensures.1 (c.in_err-nodes.ensures.fault c.args.names.now)
