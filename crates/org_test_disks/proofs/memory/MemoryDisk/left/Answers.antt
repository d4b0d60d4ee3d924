use Rattle.std.proofs.Common.{List, ℕ, subst, sym, ◌∙◌, Vec}
use Rattle.std.proofs.lemmas.Result.{IfOk-weaker}
use Rattle.std.specs.declared.alloc.Global.{Global}
use Rattle.org_disk.specs.Disk.{IsImage}
use Rattle.org_test_disks.specs.Memory.{memory_files}
use Rattle.org_test_disks.specs.RecordLaws.{own_image}
use Rattle.org_test_disks.proofs.memory.MemoryDisk.left.Goals as goal

pub returns-in-Came-All-clause-image : goal.returns-in-Came-All-clause-image
returns-in-Came-All-clause-image c =
    let self = c.args.self.now in
    let name = c.args.name.now in
    IfOk-weaker c.to_vec.result _ (λ (v : Vec ℕ Global). IsImage (memory_files self name) v.items)
    (λ v same. subst (λ (b : List ℕ). IsImage (memory_files self name) b) (sym (same (λ x y e. e) ∙ c.content.ensures)) (own_image self.calls.items name))
    c.to_vec.ensures.items_if_clones_equal
