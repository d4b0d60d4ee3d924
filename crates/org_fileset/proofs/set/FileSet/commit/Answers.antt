use Rattle.std.proofs.Common.{◌≡◌, ℕ, List, [], Option, Some, Ok, Err, length, refl, sym, ◌∙◌, ap, subst, arith}
use Rattle.std.specs.Map.{keys_of}
use Rattle.std.specs.List.{Contains}
use Rattle.std.proofs.lemmas.List.{nil_from_length}
use Rattle.std.proofs.lemmas.List.Elements.{recursion_from_All}
use Rattle.org_splice.specs.Texts.{EditedText}
use Rattle.org_disk.specs.Names.{journal_name}
use Rattle.org_journal.specs.declared.record.Entry.{Entry}
use Rattle.org_journal.specs.declared.record.Version.TheVariants.{Three}
use Rattle.org_journal.specs.Record.{BeginsWith, IsWellFormed, journal_bytes}
use Rattle.org_journal.specs.Recovered.{contents, replayed}
use Rattle.org_journal.proofs.Journal.{written_begins}
use Rattle.org_fileset.specs.Entries.{HoldTexts, SaySizes, changed}
use Rattle.org_fileset.specs.Lengths.{length_of, with_lengths}
use Rattle.org_fileset.specs.Replay.{AreApplicableTo}
use Rattle.org_fileset.specs.Writes.{IsOther}
use Rattle.org_fileset.specs.declared.fault.SetFault.TheVariants.{Broken, Device}
use Rattle.org_fileset.proofs.Noted.{commit_noted, says_lengths}
use Rattle.org_fileset.proofs.Recorded.{changes_applicable, changes_fit}
use Rattle.org_disk.proofs.Accounting.{accounts_none, accounts_ok}
use Rattle.org_journal.proofs.Accounted.{accounts_answered, accounts_failed, accounts_quiet}
use Rattle.org_fileset.proofs.Sets.{keeps_whole, keeps_broken, keeps_refused, broken_apart, ok_apart, device_apart}
use Rattle.org_fileset.proofs.Committing.{changes_named, committable, all_edits, changes_formed, commits_left, commits_none, none_left, commits_record, commits_refused, has_record}
use Rattle.org_fileset.proofs.Confirming.{texts_replayed}
use Rattle.org_fileset.proofs.set.FileSet.commit.Given.{Over}
use Rattle.org_fileset.proofs.set.FileSet.commit.Goals as goal
use Rattle.org_fileset.proofs.set.FileSet.commit.Goals.{After-encode, Else-len-eq0}

-- there are changes to commit
some : (g : Over) (c : Else-len-eq0 g) → g.C.Changes.pairs c.args.changes.now ≡ [] → ⊥
some g c none = omega (arith, c.if-len-eq0.false, c.len.ensures.len ∙ ap length none)

pub returns-then-self-clause-commits : goal.returns-then-self-clause-commits
returns-then-self-clause-commits g c = record {
  commits =
      λ honest. let d = g.D.Disk in
      let disk = c.args.self.now.disk in
      let after = changed (g.C.Changes.pairs c.args.changes.now) (contents (d.files disk)) in
      commits_none d after (IsOther (keys_of (g.C.Changes.pairs c.args.changes.now))) disk (Err Broken) (λ image left. g.met.D.Disk.only_now disk image honest left) tt;
  record_stands = λ honest. tt;
  left = λ honest. none_left g.D.Disk c.args.self.now.disk (λ image left. g.met.D.Disk.only_now c.args.self.now.disk image honest left);
  memory = λ e. refl;
  set = rw (← c.self.view_is) (keeps_refused _ c.if-self.true);
  accounts = accounts_quiet broken_apart (accounts_none _ _);
}

pub returns-then-len-eq0-clause-commits : goal.returns-then-len-eq0-clause-commits
returns-then-len-eq0-clause-commits g c = record {
  commits =
      λ honest. let d = g.D.Disk in
      let disk = c.args.self.now.disk in
      let changes = g.C.Changes.pairs c.args.changes.now in
      let files = contents (d.files disk) in
      let none : changes ≡ [] = nil_from_length changes (omega (arith, c.if-len-eq0.true, c.len.ensures.len)) in
      commits_none d (changed changes files) (IsOther (keys_of changes)) disk (Ok tt) (λ image left. g.met.D.Disk.only_now disk image honest left)
      (record { made = λ name not. ap (λ (l : List (List ℕ × EditedText)). changed l files name) (sym none); rest = λ rest. rest });
  record_stands =
      λ honest. let changes = g.C.Changes.pairs c.args.changes.now in
      let none : changes ≡ [] = nil_from_length changes (omega (arith, c.if-len-eq0.true, c.len.ensures.len)) in
      rw none tt;
  left = λ honest. none_left g.D.Disk c.args.self.now.disk (λ image left. g.met.D.Disk.only_now c.args.self.now.disk image honest left);
  memory = λ e. refl;
  set = rw (← c.self.view_is) (keeps_whole _ _ refl c.if-self.false c.if-self.false (Ok (tt {0})) (λ e. cc e) (λ e. cc e));
  accounts = accounts_answered (accounts_none _ _);
}

pub returns-in_err-entries : goal.returns-in_err-entries
returns-in_err-entries g c = record {
  commits = commits_refused g.D.Disk c.args.self.now (g.C.Changes.pairs c.args.changes.now) c.from_residual.result (rw (← c.self.view_is) c.if-self.false) (g.met.D.Disk.only_now c.args.self.now.disk) c.from_residual.ensures.1;
  nothing = λ none. absurd (some g (goal.at.returns-in_err-entries g c).Else-len-eq0 none);
}

pub returns-in_err-body : goal.returns-in_err-body
returns-in_err-body g c = record {
  commits = commits_refused g.D.Disk c.args.self.now (g.C.Changes.pairs c.args.changes.now) c.from_residual-in_err-body.result (rw (← c.self.view_is) c.if-self.false) (g.met.D.Disk.only_now c.args.self.now.disk) c.from_residual-in_err-body.ensures.1;
  nothing = λ none. absurd (some g (goal.at.returns-in_err-body g c).Else-len-eq0 none);
}

-- each entry says how long its file is
says : (g : Over) (c : After-encode g) → g.D.Disk.honest c.self.inside.disk → SaySizes (λ n. length (contents (g.D.Disk.files c.self.inside.disk) n)) c.in_ok-entries.entries.items
says g c honest =
    let set = c.self.inside in
    let named = rw (← c.self.view_is) at c.requires.named in
    let changes = g.C.Changes.pairs c.args.changes.now in
    let sizes = subst (λ (l : List ℕ). SaySizes (length_of set.names.items l) c.in_ok-entries.entries.items) c.deref-2.ensures.value
    (subst (λ (n : List (List ℕ)). SaySizes (length_of n c.deref-2.result.now) c.in_ok-entries.entries.items) c.deref.ensures.value c.in_ok-entries.ensures.sizes) in
    says_lengths set.names.items set.lengths.items (contents (g.D.Disk.files set.disk)) changes c.in_ok-entries.entries.items (c.self.invariant.lengths_are c.if-self.false honest)
    c.in_ok-entries.ensures.entries (recursion_from_All (λ (change : List ℕ × EditedText). Contains set.names.items change.0) changes named) sizes

-- .. and they can be applied
can : (g : Over) (c : After-encode g) → g.D.Disk.honest c.self.inside.disk → AreApplicableTo c.in_ok-entries.entries.items (g.D.Disk.files c.self.inside.disk)
can g c honest =
    let named = rw (← c.self.view_is) at c.requires.named in
    let edits = (rw (← c.self.view_is) at c.requires.edits) c.if-self.false in
    let changes = g.C.Changes.pairs c.args.changes.now in
    let are = c.in_ok-entries.ensures.entries in
    record {
      applicable = changes_applicable changes c.in_ok-entries.entries.items are c.in_ok-entries.ensures.distinct (committable c.self.inside.names.items changes c.self.invariant.each named c.requires.small);
      fits = changes_fit changes c.in_ok-entries.entries.items (contents (g.D.Disk.files c.self.inside.disk)) are (all_edits (contents (g.D.Disk.files c.self.inside.disk)) changes (edits honest));
    }

pub returns-in-Ok : goal.returns-in-Ok
returns-in-Ok g c = record {
  commits = record {
    commits =
        rw (← c.self.view_is) (λ ended.
        let honest = c.commit_entries.ensures.accounts.was_honest ended in
        let edits = (rw (← c.self.view_is) at c.requires.edits) c.if-self.false honest in
        commits_record g.D.Disk (g.C.Changes.pairs c.args.changes.now) c.in_ok-entries.entries.items _ c.self.inside.disk c.commit_entries.new.disk (Ok tt) (Ok tt) (some g (goal.at.returns-in-Ok g c).Else-len-eq0) c.in_ok-entries.ensures.entries
        (says g (goal.at.returns-in-Ok g c).After-encode honest) (c.as_slice.ensures ∙ c.new-record.ensures) edits (c.in-Ok.ensures.commits ended) (λ made. made.done));
    record_stands =
        λ ended. let journal = contents (g.D.Disk.files c.commit_entries.new.disk) journal_name in
        has_record (g.C.Changes.pairs c.args.changes.now) c.in_ok-entries.entries.items journal c.in_ok-entries.ensures.entries
        ((c.in-Ok.ensures.commits ended).closed.found ∙ ap (λ (l : List Entry). let o : Option (List Entry) = Some l in o) (c.as_slice.ensures ∙ c.new-record.ensures));
    left = rw (← c.self.view_is) (λ ended rest.
        let honest = c.commit_entries.ensures.accounts.was_honest ended in
        let edits = (rw (← c.self.view_is) at c.requires.edits) c.if-self.false honest in
        let at = (goal.at.returns-in-Ok g c).After-encode in
        commits_left g.D.Disk (g.C.Changes.pairs c.args.changes.now) c.in_ok-entries.entries.items _ c.self.inside.disk c.commit_entries.new.disk (Ok tt) c.in_ok-entries.ensures.entries
        (says g at honest) (c.as_slice.ensures ∙ c.new-record.ensures) edits (can g at honest) (λ image left. g.met.D.Disk.only_now c.self.inside.disk image honest left) (c.in-Ok.ensures.commits ended) rest);
    memory = λ e. absurd (ok_apart e);
    set = rw (← c.self.view_is) (keeps_whole _ _ refl c.if-self.false c.if-self.false (Ok (tt {0})) (λ e. cc e) (λ e. cc e));
    accounts = rw (← c.self.view_is) (accounts_answered (accounts_ok c.in-Ok.ensures.accounts));
  };
  nothing = λ none. absurd (some g (goal.at.returns-in-Ok g c).Else-len-eq0 none);
}

pub returns : goal.returns
returns g c = record {
  commits = record {
    commits =
        rw (← c.self.view_is) (λ ended.
        let honest = c.commit_entries.ensures.accounts.was_honest ended in
        let edits = (rw (← c.self.view_is) at c.requires.edits) c.if-self.false honest in
        commits_record g.D.Disk (g.C.Changes.pairs c.args.changes.now) c.in_ok-entries.entries.items _ c.self.inside.disk c.commit_entries.new.disk c.commit_entries.result (Err Device) (some g (goal.at.returns g c).Else-len-eq0) c.in_ok-entries.ensures.entries
        (says g (goal.at.returns g c).After-encode honest) (c.as_slice.ensures ∙ c.new-record.ensures) edits (c.commit_entries.ensures.commits ended) (λ made. tt));
    record_stands = λ honest. tt;
    left = rw (← c.self.view_is) (λ ended rest.
        let honest = c.commit_entries.ensures.accounts.was_honest ended in
        let edits = (rw (← c.self.view_is) at c.requires.edits) c.if-self.false honest in
        let at = (goal.at.returns g c).After-encode in
        commits_left g.D.Disk (g.C.Changes.pairs c.args.changes.now) c.in_ok-entries.entries.items _ c.self.inside.disk c.commit_entries.new.disk c.commit_entries.result c.in_ok-entries.ensures.entries
        (says g at honest) (c.as_slice.ensures ∙ c.new-record.ensures) edits (can g at honest) (λ image left. g.met.D.Disk.only_now c.self.inside.disk image honest left) (c.commit_entries.ensures.commits ended) rest);
    memory = λ e. absurd (device_apart e);
    set = rw (← c.self.view_is) (keeps_broken _ _ refl c.if-self.false refl);
    accounts = rw (← c.self.view_is) (accounts_failed refl c.in-Err.ensures.accounts);
  };
  nothing = λ none. absurd (some g (goal.at.returns g c).Else-len-eq0 none);
}

pub encode-requires : goal.encode-requires
encode-requires g c =
    let named = rw (← c.self.view_is) at c.requires.named in
    subst (λ (l : List Entry). IsWellFormed Three l) (sym c.new-record.ensures)
    (changes_formed c.self.inside.names.items (g.C.Changes.pairs c.args.changes.now) c.in_ok-entries.entries.items c.in_ok-entries.ensures.entries c.in_ok-entries.ensures.distinct
    (some g (goal.at.encode-requires g c).Else-len-eq0) c.self.invariant.each c.self.invariant.few named c.requires.small)

pub commit_entries-requires-clause-applicable : goal.commit_entries-requires-clause-applicable
commit_entries-requires-clause-applicable g c honest =
    let named = rw (← c.self.view_is) at c.requires.named in
    let edits = (rw (← c.self.view_is) at c.requires.edits) c.if-self.false in
    let changes = g.C.Changes.pairs c.args.changes.now in
    let files = g.D.Disk.files c.self.inside.disk in
    let entries = c.in_ok-entries.entries.items in
    let are = c.in_ok-entries.ensures.entries in
    subst (λ (l : List Entry). AreApplicableTo l files) (sym (c.as_slice.ensures ∙ c.new-record.ensures)) (record {
      applicable = changes_applicable changes entries are c.in_ok-entries.ensures.distinct (committable c.self.inside.names.items changes c.self.invariant.each named c.requires.small);
      fits = changes_fit changes entries (contents files) are (all_edits (contents files) changes (edits honest));
    })

pub commit_entries-requires-clause-body : goal.commit_entries-requires-clause-body
commit_entries-requires-clause-body g c =
    let named = rw (← c.self.view_is) at c.requires.named in
    let changes = g.C.Changes.pairs c.args.changes.now in
    let entries = c.in_ok-entries.entries.items in
    let record_is = c.as_slice.ensures ∙ c.new-record.ensures in
    let formed = changes_formed c.self.inside.names.items changes entries c.in_ok-entries.ensures.entries c.in_ok-entries.ensures.distinct
    (some g (goal.at.commit_entries-requires-clause-body g c).Else-len-eq0) c.self.invariant.each c.self.invariant.few named c.requires.small in
    subst (λ (l : List Entry). BeginsWith c.deref-3.result.now l) (sym record_is)
    (written_begins c.deref-3.result.now entries formed (c.deref-3.ensures.value ∙ c.in_ok-body.ensures.bytes ∙ ap (λ (l : List Entry). journal_bytes Three l) c.new-record.ensures))

-- after a commit the lengths are those of the new texts
pub invariant_of-self : goal.invariant_of-self
invariant_of-self g c =
    let set = c.self.inside in
    let changes = g.C.Changes.pairs c.args.changes.now in
    let old = g.D.Disk.files set.disk in
    let new = g.D.Disk.files c.commit_entries.new.disk in
    let made = c.in_ok-entries.entries.items in
    let are = c.in_ok-entries.ensures.entries in
    let entries = c.as_slice.result.now in
    let named = rw (← c.self.view_is) at c.requires.named in
    let edits = (rw (← c.self.view_is) at c.requires.edits) c.if-self.false in
    record {
      journal_is = c.self.invariant.journal_is;
      each = c.self.invariant.each;
      few = c.self.invariant.few;
      gate = λ whole ended. (c.in-Ok.ensures.commits ended).closed.gate;
      lengths_are = λ whole ended.
          let honest = c.commit_entries.ensures.accounts.was_honest ended in
          let can : AreApplicableTo entries old = subst (λ (l : List Entry). AreApplicableTo l old) (sym (c.as_slice.ensures ∙ c.new-record.ensures)) (record {
            applicable = changes_applicable changes made are c.in_ok-entries.ensures.distinct (committable set.names.items changes c.self.invariant.each named c.requires.small);
            fits = changes_fit changes made (contents old) are (all_edits (contents old) changes (edits honest));
          }) in
          commit_noted set.names.items c.deref-in-Ok.result.now set.lengths.items c.deref_mut.result.now c.note_lengths.new.lengths set.lengths.len c.deref-in-Ok.ensures.value c.deref_mut.ensures.value
          set.lengths.ok.0 entries old new (c.note_lengths.ensures ∙ ap (with_lengths c.deref-in-Ok.result.now c.deref_mut.result.now) (c.as_slice-in-Ok.ensures ∙ sym c.as_slice.ensures))
          c.self.invariant.each can
          (subst (λ (l : List Entry). SaySizes (λ n. length (contents old n)) l) (sym (c.as_slice.ensures ∙ c.new-record.ensures)) (says g (goal.at.invariant_of-self g c).After-encode honest))
          (c.self.invariant.lengths_are whole honest) (c.in-Ok.ensures.commits ended).commits.done.made;
    }

pub commit_entries-requires-clause-named : goal.commit_entries-requires-clause-named
commit_entries-requires-clause-named g c =
    let named = rw (← c.self.view_is) at c.requires.named in
    changes_named c.self.inside.names.items (g.C.Changes.pairs c.args.changes.now) c.self.invariant.each named

pub commit_entries-requires-clause-texts : goal.commit_entries-requires-clause-texts
commit_entries-requires-clause-texts g c honest =
    let edits = (rw (← c.self.view_is) at c.requires.edits) c.if-self.false in
    let changes = g.C.Changes.pairs c.args.changes.now in
    let files = contents (g.D.Disk.files c.self.inside.disk) in
    subst (λ (l : List Entry). HoldTexts changes (replayed l files)) (sym (c.as_slice.ensures ∙ c.new-record.ensures))
    (texts_replayed changes c.in_ok-entries.entries.items files c.in_ok-entries.ensures.entries (says g (goal.at.commit_entries-requires-clause-texts g c).After-encode honest)
    (all_edits files changes (edits honest)) c.in_ok-entries.ensures.distinct)
