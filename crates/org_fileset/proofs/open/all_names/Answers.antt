use Rattle.std.proofs.Common.{◌≤◌, length, arith}
use Rattle.org_disk.specs.Names.{IsOrgFile}
use Rattle.org_fileset.specs.Names.{most_names}
use Rattle.org_fileset.proofs.Sorted.{all_sorted, sorted_archives, set_names}
use Rattle.org_fileset.proofs.open.all_names.Goals as goal

pub with_archives-requires : goal.with_archives-requires
with_archives-requires c =
    rw c.deref.ensures.value (all_sorted IsOrgFile c.args.given.items c.in_order-given.result.items c.in_order-given.ensures.sorted c.requires)

pub returns : goal.returns
returns c =
    let given = c.args.given.items in
    let sorted = c.in_order-given.result.items in
    let few : length sorted ≤ most_names = grind arith in
    let all = rw (c.in_ok-names.ensures, c.deref.ensures.value) at c.in_order.ensures in (
      (sorted, c.in_order-given.ensures.sorted, few),
      sorted_archives given sorted c.in_order.result.items c.in_order-given.ensures.sorted all.sorted,
      set_names given sorted c.in_order.result.items c.in_order-given.ensures.sorted few c.requires all.sorted all.shorter,
    )
