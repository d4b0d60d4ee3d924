use Rattle.std.proofs.Common.{◌≡◌, ◌∙◌, ◌∷◌, ◌++◌, ap, ap₂, Bool, codes, IsFalse, List, map, None, Ok, refl, rules, string_bytes, subst, sym, true, false, ℕ}
use Rattle.org_folder.specs.Calls.{OnlyLooks}
use Rattle.org_folder.specs.Calls.Event.{Folder}
use Rattle.org_folder.specs.Listing.{can_have_files}
use Rattle.org_folder.specs.OrgFiles.{is_org_file}
use Rattle.org_folder.proofs.Walked.{not_named, saw_foreign, saw_neither, went_in}
use Rattle.org_folder.proofs.Looked.{looks_on, same_look, no_look, tried_looks}
use Rattle.org_folder.proofs.list.Walk.visit.Goals as goal
use Rattle.org_folder.proofs.list.Walk.visit.Goals.{then-branch+in_ok-is_own_folder+then-branch-2+in_ok-joined+in_ok-enter, else-branch, else-branch-via-then-branch+in_ok-is_own_folder+else-branch-2, else-branch-via-else-branch}

pub returns-in_err-joined-clause-looks : goal.returns-in_err-joined-clause-looks
returns-in_err-joined-clause-looks g c =
    tried_looks c.deref-then-branch.result.now (g.S.System.history c.args.system.now) (g.S.System.history c.is_own_folder.new.self) c.is_own_folder.result c.is_own_folder.ensures.ok c.is_own_folder.ensures.err

pub returns-in_err-enter-clause-looks : goal.returns-in_err-enter-clause-looks
returns-in_err-enter-clause-looks g c =
    let was = g.S.System.history c.args.system.now in
    let mid = g.S.System.history c.is_own_folder.new.self in
    looks_on was mid (g.S.System.history c.enter.new.system) (tried_looks c.deref-then-branch.result.now was mid c.is_own_folder.result c.is_own_folder.ensures.ok c.is_own_folder.ensures.err) c.enter.ensures.looks

pub returns-clause-walks : goal.returns-clause-walks
returns-clause-walks g c =
    let was = g.S.System.history c.args.system.now in
    let self = c.args.self.now in
    let path = string_bytes c.args.path in
    let none : c.name_of.result ≡ Ok None = c.in_ok-name.was ∙ ap Ok c.in_default.is in
    let unnamed : IsFalse (is_org_file c.deref.result.now) = not_named c.deref.result.now c.name_of.result none c.name_of.ensures.none in
    let nay : IsFalse (is_org_file path) = subst (λ (p : List ℕ). IsFalse (is_org_file p)) c.deref.ensures unnamed in
    elim c.if-branch.branch [
      | then-branch+in_ok-is_own_folder+then-branch-2+in_ok-joined+in_ok-enter w ↦
          let mid = g.S.System.history w.is_own_folder.new.self in
          let new = g.S.System.history w.enter.new.system in
          let more = w.enter.new.self in
          let noted : mid ≡ Folder path true ∷ was = w.in_ok-is_own_folder.ensures.ok ∙ ap₂ (λ (p : List ℕ) (b : Bool). Folder p b ∷ was) w.deref-then-branch.ensures w.if-branch-2.true in
          let spelled : w.deref-then-branch-2-2.result.now ≡ path ++ codes "/" =
          w.deref-then-branch-2-2.ensures ∙ w.in_ok-joined.ensures ∙ ap (λ (p : List ℕ). p ++ codes "/") w.deref-then-branch-2.ensures in
          rw w.system-is (rw w.self-is (λ start before.
          went_in self.names.items self.nodes.items self.links.items (map string_bytes self.todo.items) path start was new before
          w.deref-then-branch-2-2.result.now w.in_ok-enter.field-0 mid more.names.items more.nodes.items more.links.items (map string_bytes more.todo.items)
          nay noted spelled w.in_ok-enter.ensures.lists
          (ap (λ v. v.items) w.enter.ensures.names) (ap (λ v. v.items) w.enter.ensures.nodes) (ap (λ v. v.items) w.enter.ensures.links)))
      | else-branch w ↦ elim w.else-branch.branch [
        | else-branch-via-then-branch+in_ok-is_own_folder+else-branch-2 v ↦
            let new = g.S.System.history v.is_own_folder.new.self in
            let noted : new ≡ Folder path false ∷ was = v.in_ok-is_own_folder.ensures.ok ∙ ap₂ (λ (p : List ℕ) (b : Bool). Folder p b ∷ was) v.deref-then-branch.ensures v.if-branch-2.false in
            rw w.system-is (rw w.self-is (rw v.system-is (λ start before.
            saw_foreign self.names.items self.nodes.items self.links.items (map string_bytes self.todo.items) path start was new before nay noted)))
        | else-branch-via-else-branch v ↦
            let cannot : IsFalse (can_have_files path) = ap can_have_files (sym c.deref-2.ensures) ∙ sym c.in_ok-can_have_files.ensures ∙ v.if-branch.false in
            rw w.system-is (rw w.self-is (rw v.system-is (λ start before.
            saw_neither self.names.items self.nodes.items self.links.items (map string_bytes self.todo.items) path start was was before nay cannot refl)))
      ]
    ]

pub returns-clause-looks : goal.returns-clause-looks
returns-clause-looks g c =
    let was = g.S.System.history c.args.system.now in
    elim c.if-branch.branch [
      | then-branch+in_ok-is_own_folder+then-branch-2+in_ok-joined+in_ok-enter w ↦
          let mid = g.S.System.history w.is_own_folder.new.self in
          rw w.system-is (looks_on was mid (g.S.System.history w.enter.new.system) (tried_looks w.deref-then-branch.result.now was mid w.is_own_folder.result w.is_own_folder.ensures.ok w.is_own_folder.ensures.err) w.enter.ensures.looks)
      | else-branch w ↦ rw w.system-is (elim w.else-branch.branch [
        | else-branch-via-then-branch+in_ok-is_own_folder+else-branch-2 v ↦
            rw v.system-is (tried_looks v.deref-then-branch.result.now was (g.S.System.history v.is_own_folder.new.self) v.is_own_folder.result v.is_own_folder.ensures.ok v.is_own_folder.ensures.err)
        | else-branch-via-else-branch v ↦ rw v.system-is (no_look was)
      ])
    ]
