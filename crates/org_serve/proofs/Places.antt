-- What stands in the list of an intermediate store.
use Rattle.std.proofs.Common.{inl, inr, [], ◌∷◌, refl, sym, subst, arith}
use Rattle.org_disk.specs.declared.disk.Disk.{Ghosts}
use Rattle.org_journal.specs.Recovered.{Image, contents}
use Rattle.org_commands.specs.Session.{Session}
use Rattle.org_store.specs.History.{Trace, Lists}
use Rattle.org_serve.specs.declared.end.ServeEnd.{ServeEnd}
use Rattle.org_serve.specs.declared.whole.Setup.{Setup}
use Rattle.org_serve.specs.Pipes.{Exchange}
use Rattle.org_serve.specs.Whole.{Begins, ListsFiles, ServesOver}
use Rattle.org_serve.proofs.History.{lists_end, lists_lines}
use Rattle.org_serve.proofs.Honest.{sound_lines, sound_traced}

-- what is listed of a store that was just opened
pub lists_first : (setup : Setup) (files : Image) (begin : Session) → Begins setup files begin → Lists begin (begin.files ∷ [])
lists_first setup files begin begins =
    subst (λ (s : Session). Lists s (s.files ∷ [])) (sym begins.session) (record { size = refl; order = omega arith; files = λ sound. refl; settled = λ sound. refl })

module _ {D : Type 0} {g : Ghosts D} {setup : Setup} {disk now : D} {end : ServeEnd} {io : Exchange} (served : ServesOver g setup disk now end io) where
  pub lists_begun : Lists served.first.store.session served.first.texts
  lists_begun =
      subst (Lists served.first.store.session) (sym served.texts) (lists_first setup (contents (g.files served.first.store.disk)) served.first.store.session served.begins)

  pub lists_files : ListsFiles served
  lists_files here (inl way) honestly =
      lists_lines g served.first here way.answered way.written (sound_lines g served.first way.answered way.written here way.before honestly).0 lists_begun
  lists_files here (inr last) honestly =
      let whole = sound_traced g served.run (subst (λ (p : Trace D). g.honest p.store.disk) last honestly) in
      subst (λ (p : Trace D). Lists p.store.session p.texts) (sym last)
      (lists_end g whole.0.mid served.last whole.0.ends (lists_lines g served.first whole.0.mid whole.0.ran whole.0.out whole.0.answered lists_begun))
