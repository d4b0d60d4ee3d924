use Rattle.std.proofs.Common.{◌≡◌, ◌∷◌, List, rules, string_bytes, subst, sym}
use Rattle.org_folder.specs.Calls.{Event, OnlyLooks}
use Rattle.org_folder.specs.Calls.Event.{Above, Alone, Locked}
use Rattle.org_folder.proofs.Looked.{looks_on, one_look}
use Rattle.org_program.proofs.program.hold.Goals as goal

pub returns-in_err-store-clause-looks : goal.returns-in_err-store-clause-looks
returns-in_err-store-clause-looks g c =
    let old = g.S.System.history c.args.system.now in
    let new = g.S.System.history c.store_above.new.self in
    let locked : new ≡ Locked c.args.folder.now ∷ old = search rules in
    one_look (Locked c.args.folder.now) old new tt locked

pub returns-in-Some-clause-looks : goal.returns-in-Some-clause-looks
returns-in-Some-clause-looks g c =
    let old = g.S.System.history c.args.system.now in
    let mid = g.S.System.history c.lock.new.self in
    let new = g.S.System.history c.store_above.new.self in
    let locked : mid ≡ Locked c.args.folder.now ∷ old = search rules in
    let above : new ≡ Above (string_bytes c.in-Some.store) ∷ mid = search rules in
    looks_on old mid new (one_look (Locked c.args.folder.now) old mid tt locked) (one_look (Above (string_bytes c.in-Some.store)) mid new tt above)

pub returns-in-None-clause-looks : goal.returns-in-None-clause-looks
returns-in-None-clause-looks g c =
    let old = g.S.System.history c.args.system.now in
    let mid = g.S.System.history c.lock.new.self in
    let new = g.S.System.history c.store_above.new.self in
    let locked : mid ≡ Locked c.args.folder.now ∷ old = search rules in
    let alone : new ≡ Alone ∷ mid = search rules in
    looks_on old mid new (one_look (Locked c.args.folder.now) old mid tt locked) (one_look Alone mid new tt alone)
