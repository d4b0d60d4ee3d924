use Rattle.org_folder.proofs.Since.{keep_counts, keep_looks, kept_as}
use Rattle.org_folder.proofs.folder.Folder.make.Goals as goal

pub returns-in-Err-clause-looks : goal.returns-in-Err-clause-looks
returns-in-Err-clause-looks g c =
    let old = g.S.System.history c.args.self.now.system in
    let mid = g.S.System.history c.made.new.self.system in
    let new = g.S.System.history c.keep.new.self.system in
    keep_looks g.S.System.world c.in_ok-opened.opened.name c.keep.result old mid new (kept_as g.S.System.history c.keep.result c.keep.new.self.system c.made.new.self.system c.keep.ensures.kept) c.keep.ensures.given_up c.made.ensures.looks

pub returns-in-Err-clause-failures : goal.returns-in-Err-clause-failures
returns-in-Err-clause-failures g c =
    let old = g.S.System.history c.args.self.now.system in
    let mid = g.S.System.history c.made.new.self.system in
    let new = g.S.System.history c.keep.new.self.system in
    keep_counts c.in_ok-opened.opened.name c.keep.result old mid new (kept_as g.S.System.history c.keep.result c.keep.new.self.system c.made.new.self.system c.keep.ensures.kept) c.keep.ensures.given_up c.in_ok-opened.ensures.failures.kept
