use Rattle.std.proofs.Common.{◌≤◌, length, arith}
use Rattle.org_disk.specs.Names.{IsOrgFile}
use Rattle.org_fileset.specs.Names.{AreSorted, most_names}
use Rattle.org_fileset.proofs.Sorted.{all_sorted}
use Rattle.org_serve.proofs.Files.{sorted_files}
use Rattle.org_serve.proofs.names.file_names.Goals as goal

pub with_archives-requires : goal.with_archives-requires
with_archives-requires c =
    let first : AreSorted c.args.given.now c.in_order-given.result.items = rw (c.in_ok-to_vec.ensures.items_if_clones_equal (λ x y is. is)) at c.in_order-given.ensures.sorted in
    rw c.deref.ensures.value (all_sorted IsOrgFile c.args.given.now c.in_order-given.result.items first c.requires)

pub returns-clause-few : goal.returns-clause-few
returns-clause-few c =
    let given = c.args.given.now in
    let sorted = c.in_order-given.result.items in
    let first : AreSorted given sorted = rw (c.in_ok-to_vec.ensures.items_if_clones_equal (λ x y is. is)) at c.in_order-given.ensures.sorted in
    let few : length sorted ≤ most_names = grind arith in
    let second = rw (c.in_ok-push.ensures.items, c.in_ok-names.ensures, c.deref.ensures.value, c.in_ok-journal_name.ensures) at c.in_order.ensures.sorted in
    ((sorted, first, few), sorted_files given sorted c.in_order.result.items first second)
