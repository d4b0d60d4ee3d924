-- A run writes no file but its own.
use Rattle.std.proofs.Common.{◌≡◌, ◌⊎◌, inl, inr, ⊎_elim, ℕ, List, [], ◌∷◌, Result, Ok, Err, refl, sym, ap, subst}
use Rattle.org_disk.specs.declared.disk.Disk.{Ghosts}
use Rattle.std.proofs.lemmas.Bool.{cases_Bool}
use Rattle.org_disk.specs.CountsFailures.{LeavesOver}
use Rattle.org_disk.specs.Disk.{AreImages}
use Rattle.org_disk.specs.Names.{journal_name}
use Rattle.org_disk.proofs.Moments.{passes_as}
use Rattle.org_journal.specs.Recovered.{contents}
use Rattle.org_fileset.specs.Names.{with_archives}
use Rattle.org_fileset.specs.Writes.{LeavesAlone}
use Rattle.org_fileset.proofs.Elements.{cons_later}
use Rattle.org_fileset.proofs.Writes.{alone_fewer, alone_then}
use Rattle.org_commands.specs.declared.command.Command.{Command}
use Rattle.org_store.specs.History.{Trace}
use Rattle.org_commands.specs.InOrder.{AreNames, is_name}
use Rattle.org_store.specs.Left.{IsApart}
use Rattle.org_commands.proofs.InOrder.{named}
use Rattle.org_store.proofs.Own.{KeepsToItsOwn, own_none, own_run, own_settling, own_then}
use Rattle.org_serve.specs.declared.whole.Setup.{Setup}
use Rattle.org_serve.specs.Pipes.{Exchange}
use Rattle.org_serve.specs.declared.end.ServeEnd.{ServeEnd}
use Rattle.org_fault.specs.declared.fault.Fault.{Fault}
use Rattle.org_serve.specs.declared.fault.BadLine.{BadLine}
use Rattle.org_serve.specs.Serving.{Answers, AnswersRead, HasSettled, RunsLines}
use Rattle.org_serve.specs.Syncing.{IsNotStored}
use Rattle.org_serve.specs.Whole.{IsForeign, LeavesForeign, ServesOver}
use Rattle.org_serve.proofs.Honest.{sound_traced, sound_traces, up_to}

module _ {D : Type 0} (g : Ghosts D) where
  -- a store whose dirty files are its own
  abbrev Ready : Trace D → Type 0
  Ready past = AreNames past.store.session.names past.store.dirty

  abbrev Own : Trace D → Trace D → Type 0
  Own old new = KeepsToItsOwn g old.store new.store

  own_same : (old new : Trace D) → Ready old → new ≡ old → Own old new
  own_same old new ready same = own_none g old.store new.store ready (ap (λ (p : Trace D). p.store) same)

  own_read : (old : Trace D) (read : Result Command (Fault BadLine)) (out : List ℕ) (new : Trace D) → Ready old → AnswersRead (sound_traces g) old read out new → Own old new
  own_read old (Err fault) out new ready ran = own_same old new ready ran.1
  own_read old (Ok command) out new ready ran = own_run g old.store new.store command ran.0 ready ran.1.0.0

  own_lines : (old new : Trace D) (lines : List (List ℕ)) (out : List ℕ) → Answers (sound_traces g) old lines out new → Ready old → Own old new
  own_lines old new [] out a ready = own_same old new ready a.1
  own_lines old new (line ∷ lines) out a ready =
      own_then g old.store a.0.store new.store (own_read old a.3.0 a.1 a.0 ready a.3.2) (λ ready. own_lines a.0 new lines a.2 a.5 ready)

  own_end : (mid last : Trace D) → (last ≡ mid) ⊎ HasSettled (sound_traces g) mid last → Ready mid → Own mid last
  own_end mid last ends ready = ⊎_elim
      (λ same. own_same mid last ready same)
      (λ settled. own_settling g mid.store last.store settled.0 ready settled.1.0.0)
      ends

  pub own_runs : {first last : Trace D} {end : ServeEnd} {io : Exchange} → RunsLines (sound_traces g) first last end io → Ready first → Own first last
  own_runs {first} {last} run ready =
      own_then g first.store run.mid.store last.store (own_lines first run.mid run.ran run.out run.answered ready) (λ ready. own_end run.mid last run.ends ready)

-- the syncs of a store's files
pub synced_alone : {D : Type 0} (g : Ghosts D) (given : List (List ℕ)) (journal : List ℕ) (disk mid : D)
    → ((name : List ℕ) → IsNotStored given name → g.files mid name ≡ g.files disk name) → LeavesOver g disk mid (AreImages (g.files disk)) → LeavesAlone g (IsForeign given journal) disk mid
synced_alone g given journal disk mid others time = record {
  same = λ name foreign. others name foreign.outside;
  time = passes_as time.passes (λ image left name foreign. left name);
}

module _ {D : Type 0} {g : Ghosts D}
    {setup : Setup} {disk now : D} {end : ServeEnd} {io : Exchange}
    (served : ServesOver g setup disk now end io) where
  abbrev journal : List ℕ
  journal = contents (g.files disk) journal_name

  -- a file that is none of the run's is none of its store's
  apart : (name : List ℕ) → IsForeign setup.names.items journal name → IsApart served.first.store.session.names name
  apart name foreign = record {
    apart = foreign.unconcerned.apart;
    unnamed = elim (cases_Bool (is_name served.first.store.session.names name)) [
      | inl t ↦ absurd (foreign.outside (cons_later journal_name (with_archives setup.names.items) name ((served.begins.names.members name).0 (named served.first.store.session.names name t))))
      | inr f ↦ f
    ];
  }

  ready : AreNames served.first.store.session.names served.first.store.dirty
  ready = subst (AreNames served.first.store.session.names) (sym served.dirty_files) tt

  alone_to : (here : Trace D) → g.honest served.first.store.disk → KeepsToItsOwn g served.first.store here.store → LeavesAlone g (IsForeign setup.names.items journal) disk here.store.disk
  alone_to here began own =
      alone_then g (IsForeign setup.names.items journal) disk served.first.store.disk here.store.disk (served.alone began)
      (alone_fewer g (IsForeign setup.names.items journal) (IsApart served.first.store.session.names) served.first.store.disk here.store.disk own.alone apart)

  pub leaves_foreign : LeavesForeign served
  leaves_foreign here (inl way) honestly =
      let whole = sound_traced g (up_to served.run here way) honestly in
      alone_to here whole.1 (own_runs g whole.0 ready)
  leaves_foreign here (inr same) honestly =
      let whole = sound_traced g served.run (subst (λ (p : Trace D). g.honest p.store.disk) same honestly) in
      subst (λ (p : Trace D). LeavesAlone g (IsForeign setup.names.items journal) disk p.store.disk) (sym same)
      (alone_to served.last whole.1 (own_runs g whole.0 ready))

  -- at its end
  pub given_back_alone : g.honest now → LeavesAlone g (IsForeign setup.names.items journal) disk now
  given_back_alone honestly =
      subst (λ (d : D). LeavesAlone g (IsForeign setup.names.items journal) disk d) (sym served.given_up)
      (leaves_foreign served.last (inr refl) (subst g.honest served.given_up honestly))
