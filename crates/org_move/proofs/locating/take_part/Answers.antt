use Rattle.std.proofs.Common.{◌≡◌, ◌-◌, ◌∙◌, ap, ℕ, List, true, false, nat_eq, length, take, Some, None, sym, subst, rules}
use Rattle.std.specs.Prelude.{codes}
use Rattle.std.specs.Str.{bytes_eq}
use Rattle.memchr.specs.Find.{IsLastByte, is_byte}
use Rattle.org_disk.specs.Names.{folder_of}
use Rattle.org_move.proofs.Ways.{folder_after, folder_alone, part_up}
use Rattle.org_move.proofs.locating.take_part.Goals as goal
use Rattle.org_move.proofs.locating.take_part.Goals.{in-Some, in-None}

pub returns : goal.returns
returns c =
    let folder = c.args.path.now.items in
    let part = c.args.part.now in
    let path = c.pop.new.self.items in
    let dots : bytes_eq part (codes "..") ≡ true = search rules in
    let some : nat_eq (length folder) 0 ≡ false = search rules in
    let popped : path ≡ take (length folder - 1) folder = search rules in
    let top : take c.match-memrchr.above path ≡ folder_of path = elim c.match-memrchr.branch [
      | in-Some w ↦ ap (λ n. take n path) w.above-is ∙ folder_after path w.in-Some.slash (subst (λ (l : List ℕ). IsLastByte (is_byte 47) l (Some w.in-Some.slash)) c.as_slice-2.ensures.value w.in-Some.ensures)
      | in-None w ↦ ap (λ n. take n path) w.above-is ∙ folder_alone path (subst (λ (l : List ℕ). IsLastByte (is_byte 47) l None) c.as_slice-2.ensures.value w.in-None.ensures)
    ] in
    part_up folder part path c.match-memrchr.above dots some popped top ∙ ap (λ l. Some l) (sym c.truncate.ensures.items)
