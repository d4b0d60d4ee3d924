use Rattle.std.proofs.Common.{is_ok}
use Rattle.org_folder.proofs.Since.{all_entered, counts_call, made_absent, made_count, made_entered, made_held, made_looks, made_none}
use Rattle.org_folder.proofs.folder.Folder.made.Goals as goal

pub invariant_of-self : goal.invariant_of-self
invariant_of-self g c =
    let self = c.args.self.now in
    let name = c.args.name.now in
    let ok = is_ok c.make.result in
    let old = g.S.System.history self.system in
    let new = g.S.System.history c.make.new.self in
    let makes = c.make.ensures.made in
    record {
      held = made_held name ok old new makes self.held;
      known = made_none g.S.System.world name ok old new makes self.absent.keys self.known;
      known_at_first = made_none g.S.System.world name ok old new makes self.absent_at_first.keys self.known_at_first;
      looked = λ other among. made_absent name ok old new makes other (self.looked other among);
      entered = all_entered old new self.files.items (made_entered name ok old new makes) self.entered;
    }

pub returns-clause-looks : goal.returns-clause-looks
returns-clause-looks g c =
    made_looks g.S.System.world c.args.name.now (is_ok c.make.result) (g.S.System.history c.args.self.now.system) (g.S.System.history c.make.new.self) c.make.ensures.made

pub returns-clause-failures : goal.returns-clause-failures
returns-clause-failures g c =
    let old = g.S.System.history c.args.self.now.system in
    let new = g.S.System.history c.make.new.self in
    counts_call c.make.result old new (made_count c.args.name.now (is_ok c.make.result) old new c.make.ensures.made)
