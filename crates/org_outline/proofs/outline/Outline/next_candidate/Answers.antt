use Rattle.std.proofs.Common.{refl}
use Rattle.org_outline.proofs.Passing.{none_passed}
use Rattle.org_outline.proofs.outline.Outline.next_candidate.Goals as goal

pub returns-clause-passed : goal.returns-clause-passed
returns-clause-passed c =
    none_passed c.args.self.now.states c.args.self.now.text c.args.title.now c.all_beginnings-lines.result.now _ _ c.args.end _ _ c.all_beginnings-lines.ensures c.if-end-lines.false c.requires.within refl c.of.ensures c.count_others.ensures.count
