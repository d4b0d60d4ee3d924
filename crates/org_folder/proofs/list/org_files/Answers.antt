use Rattle.std.proofs.Common.{◌≡◌, ◌∙◌, ◌++◌, [], All, ap, inl, inr, map, string_bytes, subst, sym, ⊎_elim}
use Rattle.std.proofs.lemmas.List.Elements.{All-append, All-nil}
use Rattle.std.proofs.lemmas.Result.{IfOk-weaker}
use Rattle.org_disk.specs.Names.{IsOrgFile}
use Rattle.org_folder.specs.Listing.{Lists, Walks, names_of_links}
use Rattle.org_folder.proofs.Looked.{looks_on}
use Rattle.org_folder.proofs.Walked.{links_named, walk_ends, walk_started}
use Rattle.org_folder.proofs.list.org_files.Goals as goal

pub returns-in_err-go-clause-looks : goal.returns-in_err-go-clause-looks
returns-in_err-go-clause-looks g c =
    looks_on (g.S.System.history c.args.system.now) (g.S.System.history c.enter.new.system) (g.S.System.history c.go.new.system) c.enter.ensures.looks c.go.ensures.looks

pub returns-clause-looks : goal.returns-clause-looks
returns-clause-looks g c =
    looks_on (g.S.System.history c.args.system.now) (g.S.System.history c.enter.new.system) (g.S.System.history c.go.new.system) c.enter.ensures.looks c.go.ensures.looks

pub returns-clause-org : goal.returns-clause-org
returns-clause-org g c =
    let first = c.enter.new.self in
    let last = c.go.new.self in
    let no_names : first.names.items ≡ [] = ap (λ v. v.items) c.enter.ensures.names ∙ c.new-walk.ensures.names in
    let no_links : first.links.items ≡ [] = ap (λ v. v.items) c.enter.ensures.links ∙ c.new-walk.ensures.links in
    let names : All IsOrgFile last.names.items = c.go.ensures.org (subst (All IsOrgFile) (sym no_names) (All-nil IsOrgFile)) in
    let links : All (λ link. IsOrgFile link.name) last.links.items = c.go.ensures.links (subst (All (λ link. IsOrgFile link.name)) (sym no_links) (All-nil (λ link. IsOrgFile link.name))) in
    IfOk-weaker c.with_links.result (λ names. names.items ≡ last.names.items ++ names_of_links last.nodes.items last.links.items) (λ names. All IsOrgFile names.items)
    (λ all made. subst (All IsOrgFile) (sym made) (All-append IsOrgFile last.names.items (names_of_links last.nodes.items last.links.items) names (links_named last.nodes.items last.links.items links)))
    c.with_links.ensures

pub returns-clause-lists : goal.returns-clause-lists
returns-clause-lists g c =
    let was = g.S.System.history c.args.system.now in
    let mid = g.S.System.history c.enter.new.system in
    let new = g.S.System.history c.go.new.system in
    let walk = c.new-walk.result in
    let first = c.enter.new.self in
    let last = c.go.new.self in
    let began : Walks first.names.items first.nodes.items first.links.items (map string_bytes first.todo.items) was mid =
    walk_started first.names.items first.nodes.items first.links.items (map string_bytes walk.todo.items) (map string_bytes first.todo.items) c.in_ok-enter.field-0 was mid
    (ap (λ v. v.items) c.enter.ensures.names ∙ c.new-walk.ensures.names)
    (ap (λ v. v.items) c.enter.ensures.nodes ∙ c.new-walk.ensures.nodes)
    (ap (λ v. v.items) c.enter.ensures.links ∙ c.new-walk.ensures.links)
    (ap (map string_bytes) c.new-walk.ensures.todo)
    c.if-not-branch.false
    c.in_ok-enter.ensures.lists in
    let walks : Walks last.names.items last.nodes.items last.links.items (map string_bytes last.todo.items) was new = c.in_ok-go.ensures.walks was began in
    IfOk-weaker c.with_links.result (λ names. names.items ≡ last.names.items ++ names_of_links last.nodes.items last.links.items) (λ names. Lists names.items was new)
    (λ names made. walk_ends last.names.items last.nodes.items last.links.items (map string_bytes last.todo.items) names.items was new walks
    (⊎_elim (λ none. inl (ap (map string_bytes) none)) (λ many. inr many) c.in_ok-go.ensures.whole) made)
    c.with_links.ensures
