use Rattle.std.proofs.Common.{◌∷◌, ◌++◌, List, [], map, string_bytes, subst, ℕ}
use Rattle.org_folder.specs.Listing.{Walks}
use Rattle.org_folder.proofs.Looked.{looks_on}
use Rattle.org_folder.proofs.Walked.{popped}
use Rattle.org_folder.proofs.list.Walk.go.Goals as goal

pub returns-in_err-visit-clause-org : goal.returns-in_err-visit-clause-org
returns-in_err-visit-clause-org g c = λ are. c.visit.ensures.org (c.loop.invariant.1 are)

pub returns-in_err-visit-clause-links : goal.returns-in_err-visit-clause-links
returns-in_err-visit-clause-links g c = λ are. c.visit.ensures.links (c.loop.invariant.2 are)

pub returns-in_err-visit-clause-looks : goal.returns-in_err-visit-clause-looks
returns-in_err-visit-clause-looks g c =
    looks_on (g.S.System.history c.args.system.now) (g.S.System.history c.loop.system) (g.S.System.history c.visit.new.system) c.loop.invariant.3 c.visit.ensures.looks

pub returns-then-len-gt-MOST_FILES-clause-walks : goal.returns-then-len-gt-MOST_FILES-clause-walks
returns-then-len-gt-MOST_FILES-clause-walks g c = λ start before.
    let self = c.loop.self in
    c.in_ok-visit.ensures.walks start
    (subst (λ (todo : List (List ℕ)). Walks self.names.items self.nodes.items self.links.items todo start (g.S.System.history c.loop.system))
    (popped self.todo.items c.pop.new.self.items c.in-Some.path c.in-Some.ensures.items) (c.loop.invariant.0 start before))

pub returns-then-len-gt-MOST_FILES-clause-org : goal.returns-then-len-gt-MOST_FILES-clause-org
returns-then-len-gt-MOST_FILES-clause-org g c = λ are. c.visit.ensures.org (c.loop.invariant.1 are)

pub returns-then-len-gt-MOST_FILES-clause-links : goal.returns-then-len-gt-MOST_FILES-clause-links
returns-then-len-gt-MOST_FILES-clause-links g c = λ are. c.visit.ensures.links (c.loop.invariant.2 are)

pub returns-then-len-gt-MOST_FILES-clause-looks : goal.returns-then-len-gt-MOST_FILES-clause-looks
returns-then-len-gt-MOST_FILES-clause-looks g c =
    looks_on (g.S.System.history c.args.system.now) (g.S.System.history c.loop.system) (g.S.System.history c.visit.new.system) c.loop.invariant.3 c.visit.ensures.looks

pub loop-preserved : goal.loop-preserved
loop-preserved g c =
    let self = c.loop.self in (
      λ start before. c.in_ok-visit.ensures.walks start
          (subst (λ (todo : List (List ℕ)). Walks self.names.items self.nodes.items self.links.items todo start (g.S.System.history c.loop.system))
          (popped self.todo.items c.pop.new.self.items c.in-Some.path c.in-Some.ensures.items) (c.loop.invariant.0 start before)),
      λ are. c.visit.ensures.org (c.loop.invariant.1 are),
      λ are. c.visit.ensures.links (c.loop.invariant.2 are),
      looks_on (g.S.System.history c.args.system.now) (g.S.System.history c.loop.system) (g.S.System.history c.visit.new.system) c.loop.invariant.3 c.visit.ensures.looks,
    )
