use Rattle.std.proofs.Common.{◌≡◌, ◌∙◌, ◌++◌, ◌∷◌, [], ℕ, length, get_or, ap, refl, rules, subst, sym}
use Rattle.std.proofs.lemmas.Option.{get_or_from_slice_get, slice_get_read}
use Rattle.org_folder.specs.Aliases.{AreSeen}
use Rattle.org_folder.proofs.Looked.{looks_on}
use Rattle.org_folder.proofs.Seen.{seen_more}
use Rattle.org_folder.proofs.aliases.nodes_of.Goals as goal

pub returns-in_err-node-clause-looks : goal.returns-in_err-node-clause-looks
returns-in_err-node-clause-looks g c =
    looks_on (g.S.System.history c.args.system.now) (g.S.System.history c.loop-name.system) (g.S.System.history c.node_of.new.system) c.loop-name.invariant.2 c.node_of.ensures.looks

pub loop-name-preserved : goal.loop-name-preserved
loop-name-preserved g c =
    let was = g.S.System.history c.loop-name.system in
    let now = g.S.System.history c.node_of.new.system in
    let names = c.args.names.now in
    let name = c.name-item.result in
    let at = c.loop-name.name-index in
    let is : get_or names (length c.loop-name.nodes.items) [] ≡ name =
    ap (λ (k : ℕ). get_or names k []) c.loop-name.invariant.0 ∙ get_or_from_slice_get names at name [] (slice_get_read names (length names) at name refl c.loop-name-test.true c.name-item.is) in
    let pushed : c.push.new.self.items ≡ c.loop-name.nodes.items ++ c.in_ok-node.node ∷ [] = search rules in (
      search rules,
      c.node_of.ensures.absent,
      looks_on (g.S.System.history c.args.system.now) was now c.loop-name.invariant.2 c.node_of.ensures.looks,
      subst (AreSeen now c.args.names.now) (sym pushed)
          (seen_more was now c.args.names.now c.loop-name.nodes.items name c.in_ok-node.node c.loop-name.invariant.3 c.node_of.ensures.looks is c.in_ok-node.ensures.seen),
    )

pub returns-in_err-push-clause-looks : goal.returns-in_err-push-clause-looks
returns-in_err-push-clause-looks g c =
    looks_on (g.S.System.history c.args.system.now) (g.S.System.history c.loop-name.system) (g.S.System.history c.node_of.new.system) c.loop-name.invariant.2 c.node_of.ensures.looks
