use Rattle.std.proofs.Common.{◌≡◌, ⊎_elim, ℕ, List, [], sym, subst}
use Rattle.org_disk.specs.Disk.{stable}
use Rattle.org_folder.specs.Calls.{HasAbsent}
use Rattle.org_folder.specs.Right.{file_of}
use Rattle.org_folder.proofs.folder.Folder.keep_absent.Goals as goal

pub invariant_of-self : goal.invariant_of-self
invariant_of-self g c =
    let self = c.args.self.now in
    let calls = g.S.System.history self.system in
    record {
      held = self.held;
      known = record {
        looked = λ other among. ⊎_elim (λ is. subst (λ (n : List ℕ). HasAbsent n calls) (sym is) c.requires.looked) (λ before. self.known.looked other before) (c.put.ensures other among);
        empty = λ right other among. ⊎_elim (λ is. subst (λ (n : List ℕ). file_of g.S.System self.system n ≡ stable []) (sym is) (c.requires.empty right))
            (λ before. self.known.empty right other before) (c.put.ensures other among);
      };
      known_at_first = self.known_at_first;
      looked = λ other among. ⊎_elim (λ is. subst (λ (n : List ℕ). HasAbsent n calls) (sym is) c.requires.looked) (λ before. self.looked other before) (c.put-2.ensures other among);
      entered = self.entered;
    }
