use Rattle.std.proofs.Common.{◌∙◌, ap, sym, subst, List, ℕ, length}
use Rattle.org_disk.specs.Disk.{FileState}
use Rattle.org_disk.specs.Names.{journal_name}
use Rattle.org_journal.specs.Gate.{HasClosedGate}
use Rattle.org_journal.specs.Recovered.{contents}
use Rattle.org_fileset.proofs.Noted.{read_noted}
use Rattle.org_fileset.proofs.set.FileSet.read.Goals as goal

pub invariant_of-self : goal.invariant_of-self
invariant_of-self g c =
    let set = c.self.inside in
    let old = g.D.Disk.files set.disk in
    record {
      journal_is = c.self.invariant.journal_is;
      each = c.self.invariant.each;
      few = c.self.invariant.few;
      gate = λ whole ended. subst (λ (f : List ℕ → FileState). HasClosedGate (f journal_name)) (sym (c.read_file.ensures.looks ended).same) (c.self.invariant.gate whole (c.read_file.ensures.accounts.was_honest ended));
      lengths_are = λ whole ended.
          read_noted set.names.items c.deref.result.now set.lengths.items c.deref_mut.result.now c.note_length.new.lengths set.lengths.len c.deref.ensures.value c.deref_mut.ensures.value
          (sym c.deref_mut.ensures.len ∙ ap length c.deref_mut.ensures.value) c.args.name.now c.len.result (contents old) (contents (g.D.Disk.files c.read_file.new.disk)) c.note_length.ensures
          (c.self.invariant.lengths_are whole (c.read_file.ensures.accounts.was_honest ended)) (ap (λ (f : List ℕ → FileState). contents f) (c.read_file.ensures.looks ended).same)
          (c.len.ensures ∙ c.in-Ok.bytes.ok.0 ∙ ap length (c.in-Ok.ensures.text ended));
    }
