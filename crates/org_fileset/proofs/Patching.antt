-- How the calls on one file go on while an entry is applied to it.
use Rattle.std.proofs.Common.{◌≡◌, ⊎_elim, ℕ, ◌≤◌, List, length, Result, Ok, Err, Some, Bool, true, refl, sym, ◌∙◌, ap, subst}
use Rattle.std.specs.Prelude.{slice_get}
use Rattle.org_disk.specs.Disk.{FileState, IsImage, MayLeave, AreLeftBy, Changes, AreImages, Passes, write, cut}
use Rattle.org_disk.specs.declared.disk.DiskFault.{DiskFault}
use Rattle.org_disk.proofs.Moments.{Image, passes_as, passes_none, passes_then}
use Rattle.org_disk.proofs.Back.{before_write, before_cut}
use Rattle.org_splice.specs.Patches.{AreWellFormed}
use Rattle.org_splice.specs.Texts.{pairs_of}
use Rattle.org_journal.specs.declared.record.Entry.{Entry}
use Rattle.org_journal.specs.Recovered.{may_cut}
use Rattle.org_fileset.specs.Replay.{EachMadeBy, IsMadeBy, LeavesMaking, Applies}
use Rattle.org_fileset.proofs.Allowed.{entry_cut, entry_write}
use Rattle.org_fileset.proofs.Always.{always_kept}
use Rattle.org_fileset.proofs.Made.{made_written, made_cut}

module _ {keep : Bool} {entry : Entry} {to : List ℕ} where
  -- what a call may leave of the file, where its effect keeps what the entry makes
  pub may_leave : (effect : FileState → FileState) (file : FileState) → EachMadeBy keep entry to file → EachMadeBy keep entry to (effect file)
      → (text : List ℕ) → MayLeave effect file text → IsMadeBy keep entry text to
  may_leave effect file before after text left = ⊎_elim (before text) (after text) left

  -- a write of one of the patches
  pub takes_write : (file : FileState) (k from : ℕ) (bytes : List ℕ) → AreWellFormed (pairs_of entry.patches) entry.length → slice_get (pairs_of entry.patches) k ≡ Some (from, bytes)
      → from ≤ length file.content → IsImage file file.content → EachMadeBy keep entry to file → EachMadeBy keep entry to (write from bytes file)
  takes_write file k from bytes formed is le own takes text image =
      let earlier = before_write from bytes file le own text image in
      made_written entry formed text earlier.0 to k from bytes is earlier.2.before earlier.2.after
      (λ kept. always_kept entry (write from bytes) file own (λ other found. (takes other found).left kept) (entry_write entry file k from bytes formed is le) text image) (takes earlier.0 earlier.1)

  -- a cut to the final length
  pub takes_cut : (file : FileState) → AreWellFormed (pairs_of entry.patches) entry.length → may_cut entry.before entry.length ≡ true → entry.length ≤ length file.content
      → IsImage file file.content → EachMadeBy keep entry to file → EachMadeBy keep entry to (cut entry.length file)
  takes_cut file formed cuts le own takes text image =
      let earlier = before_cut entry.length file text le own image in
      made_cut entry formed text earlier.0 to cuts earlier.2
      (λ kept. always_kept entry (cut entry.length) file own (λ other found. (takes other found).left kept) (entry_cut entry file formed) text image) (takes earlier.0 earlier.1)

module _ {keep : Bool} {entry : Entry} {to : List ℕ} where
  -- no call
  pub applies_none : (m : ℕ) (s : ℕ → Image → Type 0) (files : List ℕ → FileState) → EachMadeBy keep entry to (files entry.name) → Applies keep entry to m m s s files files
  applies_none m s files takes = record { any_moment = passes_none m s (LeavesMaking keep entry to files); takes = takes; others = λ other apart. refl }

  takes_after : (effect : FileState → FileState) (old new : List ℕ → FileState) (r : Result (Unit {0}) DiskFault)
      → EachMadeBy keep entry to (old entry.name) → EachMadeBy keep entry to (effect (old entry.name)) → Changes effect entry.name old new r → EachMadeBy keep entry to (new entry.name)
  takes_after effect old new (Ok x) before after changes text image = after text (subst (λ f. IsImage f text) changes.ok image)
  takes_after effect old new (Err e) before after changes text image = may_leave effect (old entry.name) before after text (changes.err.images text image)

  -- a call with an effect that keeps it
  pub applies_call : {m n k : ℕ} {s u v : ℕ → Image → Type 0} {old mid new : List ℕ → FileState} (effect : FileState → FileState) (r : Result (Unit {0}) DiskFault)
      → Applies keep entry to m n s u old mid → EachMadeBy keep entry to (effect (mid entry.name))
      → Changes effect entry.name mid new r → Passes n k u v (AreLeftBy effect entry.name mid) → Applies keep entry to m k s v old new
  applies_call {old = old} {mid = mid} {new = new} effect r sofar after changes time = record {
    any_moment = passes_then sofar.any_moment time (λ image left. record {
      here = may_leave effect (mid entry.name) sofar.takes after (image entry.name) left.here;
      others = λ other apart. subst (λ f. IsImage f (image other)) (sofar.others other apart) (left.others other apart);
    });
    takes = takes_after effect mid new r sofar.takes after changes;
    others = λ other apart. changes.others other apart ∙ sofar.others other apart;
  }

  -- a call that changes nothing
  pub applies_read : {m n k : ℕ} {s u v : ℕ → Image → Type 0} {old mid new : List ℕ → FileState}
      → Applies keep entry to m n s u old mid → new ≡ mid → Passes n k u v (AreImages mid) → Applies keep entry to m k s v old new
  applies_read {old = old} {mid = mid} {new = new} sofar same time = record {
    any_moment = passes_then sofar.any_moment time (λ image left. record {
      here = sofar.takes (image entry.name) (left entry.name);
      others = λ other apart. subst (λ f. IsImage f (image other)) (sofar.others other apart) (left other);
    });
    takes = λ text image. sofar.takes text (subst (λ (f : List ℕ → FileState). IsImage (f entry.name) text) same image);
    others = λ other apart. ap (λ (f : List ℕ → FileState). f other) same ∙ sofar.others other apart;
  }

  -- calls after one that changes nothing
  pub applies_behind : {m n k : ℕ} {s u v : ℕ → Image → Type 0} {old mid new : List ℕ → FileState} → EachMadeBy keep entry to (old entry.name)
      → mid ≡ old → Passes m n s u (AreImages old) → (EachMadeBy keep entry to (mid entry.name) → Applies keep entry to n k u v mid new)
      → Applies keep entry to m k s v old new
  applies_behind {n = n} {k = k} {u = u} {v = v} {old = old} {mid = mid} {new = new} takes same time made =
      let all = subst (λ (f : List ℕ → FileState). EachMadeBy keep entry to (f entry.name) → Applies keep entry to n k u v f new) same made takes in
      record {
        any_moment = passes_then (passes_as time (λ image left. record { here = takes (image entry.name) (left entry.name); others = λ other apart. left other })) all.any_moment (λ image left. left);
        takes = all.takes;
        others = all.others;
      }

  -- a write of one of the patches
  pub applies_write : {m n k : ℕ} {s u v : ℕ → Image → Type 0} {old mid new : List ℕ → FileState} (i : ℕ) {from : ℕ} {bytes : List ℕ} (r : Result (Unit {0}) DiskFault)
      → AreWellFormed (pairs_of entry.patches) entry.length → slice_get (pairs_of entry.patches) i ≡ Some (from, bytes) → from ≤ length (mid entry.name).content → IsImage (mid entry.name) (mid entry.name).content
      → Applies keep entry to m n s u old mid → Changes (write from bytes) entry.name mid new r → Passes n k u v (AreLeftBy (write from bytes) entry.name mid)
      → Applies keep entry to m k s v old new
  applies_write {mid = mid} i {from} {bytes} r formed is le own sofar changes time =
      applies_call (write from bytes) r sofar (takes_write (mid entry.name) i from bytes formed is le own sofar.takes) changes time

  -- a look, and a cut to the final length
  pub applies_cut : {m n j k : ℕ} {s u v t : ℕ → Image → Type 0} {old mid seen new : List ℕ → FileState} (r : Result (Unit {0}) DiskFault)
      → AreWellFormed (pairs_of entry.patches) entry.length → may_cut entry.before entry.length ≡ true → entry.length ≤ length (mid entry.name).content → IsImage (seen entry.name) (seen entry.name).content
      → Applies keep entry to m n s u old mid → seen ≡ mid → Passes n j u v (AreImages mid) → Changes (cut entry.length) entry.name seen new r → Passes j k v t (AreLeftBy (cut entry.length) entry.name seen)
      → Applies keep entry to m k s t old new
  applies_cut {seen = seen} r formed cuts long own sofar same looked changes time =
      let enough = subst (λ (f : List ℕ → FileState). entry.length ≤ length (f entry.name).content) (sym same) long in
      let read = applies_read sofar same looked in
      applies_call (cut entry.length) r read (takes_cut (seen entry.name) formed cuts enough own read.takes) changes time
