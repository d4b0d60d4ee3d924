use Rattle.std.proofs.Common.{List, ℕ, sym, subst}
use Rattle.org_folder.specs.Raw.{IsFolderSynced}
use Rattle.org_folder.proofs.Accounting.{put_in}
use Rattle.org_folder.proofs.system.calls_system.put.Goals as goal

pub returns-in-Ok : goal.returns-in-Ok
returns-in-Ok c = λ calls here are.
    put_in _ c.args.paths.now.keys c.insert.new.self.keys c.in-Ok.path c.insert.result calls c.insert.ensures.keys c.insert.ensures.err
    (subst (λ (f : List ℕ). IsFolderSynced f calls) (sym c.in-Ok.ensures.ok) here) are
