use Rattle.std.proofs.Common.{◌≡◌, ◌∷◌, Ok, Some, map, rules, string_bytes, true}
use Rattle.org_folder.specs.Calls.Event.{Absent, Unseen}
use Rattle.org_folder.proofs.Looked.{look_made}
use Rattle.org_folder.proofs.Walked.{negated, not_negated, noted_there, saw_file, saw_link, saw_not, saw_nothing, saw_other}
use Rattle.org_folder.proofs.list.Walk.look.Goals as goal
use Rattle.org_folder.proofs.list.Walk.look.Goals.{in_default-via-in-Ok+in_default, in_default-via-in_default}

pub returns-in_err-push-in-Ok-Some-2-clause-looks : goal.returns-in_err-push-in-Ok-Some-2-clause-looks
returns-in_err-push-in-Ok-Some-2-clause-looks g c =
    look_made c.args.name (g.S.System.history c.args.system.now) (g.S.System.history c.look.new.self) c.look.result c.look.ensures.there c.look.ensures.absent c.look.ensures.err

pub returns-in_err-push-in-Ok-Some-3-clause-looks : goal.returns-in_err-push-in-Ok-Some-3-clause-looks
returns-in_err-push-in-Ok-Some-3-clause-looks g c =
    look_made c.args.name (g.S.System.history c.args.system.now) (g.S.System.history c.look.new.self) c.look.result c.look.ensures.there c.look.ensures.absent c.look.ensures.err

pub returns-in_err-push-in-Ok-Some-3-2-clause-looks : goal.returns-in_err-push-in-Ok-Some-3-2-clause-looks
returns-in_err-push-in-Ok-Some-3-2-clause-looks g c =
    look_made c.args.name (g.S.System.history c.args.system.now) (g.S.System.history c.look.new.self) c.look.result c.look.ensures.there c.look.ensures.absent c.look.ensures.err

pub returns-in_err-push-in_default-clause-looks : goal.returns-in_err-push-in_default-clause-looks
returns-in_err-push-in_default-clause-looks g c =
    look_made c.args.name (g.S.System.history c.args.system.now) (g.S.System.history c.look.new.self) c.look.result c.look.ensures.there c.look.ensures.absent c.look.ensures.err

pub returns-in-Ok-Some-clause-looks : goal.returns-in-Ok-Some-clause-looks
returns-in-Ok-Some-clause-looks g c =
    look_made c.args.name (g.S.System.history c.args.system.now) (g.S.System.history c.look.new.self) c.look.result c.look.ensures.there c.look.ensures.absent c.look.ensures.err

pub returns-in_ok-push-in-Ok-Some-2-clause-looks : goal.returns-in_ok-push-in-Ok-Some-2-clause-looks
returns-in_ok-push-in-Ok-Some-2-clause-looks g c =
    look_made c.args.name (g.S.System.history c.args.system.now) (g.S.System.history c.look.new.self) c.look.result c.look.ensures.there c.look.ensures.absent c.look.ensures.err

pub returns-in_ok-push-in-Ok-Some-3-2-clause-looks : goal.returns-in_ok-push-in-Ok-Some-3-2-clause-looks
returns-in_ok-push-in-Ok-Some-3-2-clause-looks g c =
    look_made c.args.name (g.S.System.history c.args.system.now) (g.S.System.history c.look.new.self) c.look.result c.look.ensures.there c.look.ensures.absent c.look.ensures.err

pub returns-in_ok-push-in_default-clause-looks : goal.returns-in_ok-push-in_default-clause-looks
returns-in_ok-push-in_default-clause-looks g c =
    look_made c.args.name (g.S.System.history c.args.system.now) (g.S.System.history c.look.new.self) c.look.result c.look.ensures.there c.look.ensures.absent c.look.ensures.err

pub returns-in-Ok-Some-clause-walks : goal.returns-in-Ok-Some-clause-walks
returns-in-Ok-Some-clause-walks g c = λ start before.
    let self = c.args.self.now in
    let found = c.in-Ok-Some.found in
    let old = g.S.System.history c.args.system.now in
    let new = g.S.System.history c.look.new.self in
    let is : c.look.result ≡ Ok (Some found) = cc in
    saw_other self.names.items self.nodes.items self.links.items (map string_bytes self.todo.items) c.args.name start old new before
    found.node.device found.node.number found.is_plain found.is_link c.requires.named (negated found.is_plain c.if-not-found.true)
    (noted_there c.args.name old new c.look.result found c.look.ensures.there is)

pub returns-in_ok-push-in-Ok-Some-2-clause-walks : goal.returns-in_ok-push-in-Ok-Some-2-clause-walks
returns-in_ok-push-in-Ok-Some-2-clause-walks g c = λ start before.
    let self = c.args.self.now in
    let found = c.in-Ok-Some.found in
    let old = g.S.System.history c.args.system.now in
    let new = g.S.System.history c.look.new.self in
    let is : c.look.result ≡ Ok (Some found) = cc in
    let plain : found.is_plain ≡ true = not_negated found.is_plain c.if-not-found.false in
    saw_link self.names.items self.nodes.items self.links.items (map string_bytes self.todo.items) c.args.name start old new before
    found.node.device found.node.number found.is_plain found.is_link c.push.new.self.items c.requires.named plain c.if-found.true
    (noted_there c.args.name old new c.look.result found c.look.ensures.there is) c.in_ok-push-in-Ok-Some-2.ensures.items

pub returns-in_ok-push-in-Ok-Some-3-2-clause-walks : goal.returns-in_ok-push-in-Ok-Some-3-2-clause-walks
returns-in_ok-push-in-Ok-Some-3-2-clause-walks g c = λ start before.
    let self = c.args.self.now in
    let found = c.in-Ok-Some.found in
    let old = g.S.System.history c.args.system.now in
    let new = g.S.System.history c.look.new.self in
    let is : c.look.result ≡ Ok (Some found) = cc in
    let plain : found.is_plain ≡ true = not_negated found.is_plain c.if-not-found.false in
    saw_file self.names.items self.nodes.items self.links.items (map string_bytes self.todo.items) c.args.name start old new before
    found.node.device found.node.number found.is_plain found.is_link c.push-in-Ok-Some-3-2.new.self.items c.push-in-Ok-Some-3.new.self.items c.requires.named plain
    c.if-found.false
    (noted_there c.args.name old new c.look.result found c.look.ensures.there is) c.in_ok-push-in-Ok-Some-3-2.ensures.items c.in_ok-push-in-Ok-Some-3.ensures.items

pub returns-in_ok-push-in_default-clause-walks : goal.returns-in_ok-push-in_default-clause-walks
returns-in_ok-push-in_default-clause-walks g c = elim c.in_default.branch [
  | in_default-via-in-Ok+in_default w ↦ λ start before.
      let self = c.args.self.now in
      let noted : g.S.System.history c.look.new.self ≡ Absent c.args.name ∷ g.S.System.history c.args.system.now = search rules in
      saw_nothing self.names.items self.nodes.items self.links.items (map string_bytes self.todo.items) c.args.name start (g.S.System.history c.args.system.now) (g.S.System.history c.look.new.self) before
      c.push-in_default.new.self.items c.requires.named noted c.in_ok-push-in_default.ensures.items
  | in_default-via-in_default w ↦ λ start before.
      let self = c.args.self.now in
      let noted : g.S.System.history c.look.new.self ≡ Unseen c.args.name ∷ g.S.System.history c.args.system.now = search rules in
      saw_not self.names.items self.nodes.items self.links.items (map string_bytes self.todo.items) c.args.name start (g.S.System.history c.args.system.now) (g.S.System.history c.look.new.self) before
      c.push-in_default.new.self.items c.requires.named noted c.in_ok-push-in_default.ensures.items
]
