-- Files that are tried after an opened gate, which is closed where a try fails.
use Rattle.std.proofs.Common.{◌≡◌, ◌≤◌, ℕ, List, length, drop, Result, Ok, Err, IsErr, refl, sym, ◌∙◌, ap, subst, arith, true, false, inl}
use Rattle.std.proofs.lemmas.Grind.{common_steps}
use Rattle.org_disk.specs.declared.disk.Disk.{Ghosts}
use Rattle.org_disk.specs.declared.disk.DiskFault.{DiskFault}
use Rattle.org_disk.specs.CountsFailures.{CountsFailures, LooksOver, PassesOver}
use Rattle.org_disk.specs.Disk.{FileState, IsImage, IsStable, AreImages}
use Rattle.org_disk.specs.Names.{journal_name}
use Rattle.org_disk.proofs.Images.{only_image}
use Rattle.org_disk.proofs.Moments.{Image, leaves_only, passes_as, passes_then}
use Rattle.org_journal.specs.declared.record.Entry.{Entry}
use Rattle.org_journal.specs.Gate.{front_size, LeavesBody, Puts}
use Rattle.org_journal.specs.Recovered.{contents, replayed}
use Rattle.org_fileset.specs.Left.{IsLeft}
use Rattle.org_fileset.specs.Replay.{AreApplicableTo, CommitsEntriesOver, EachTakes, IsOpenOver}
use Rattle.org_fileset.specs.Writes.{IsUnwritten, TriesAgainOver, TriesOver}
use Rattle.org_fileset.proofs.OpenGate.{on_ok_never, open_long}
use Rattle.org_fileset.proofs.Commits.{WritesRecord, at_rest_recovers, stands_open}
use Rattle.org_fileset.proofs.Lefts.{body_left_by, takes_same}
use Rattle.org_fileset.proofs.Tried.{still_stable}
use Rattle.org_fileset.proofs.Writes.{alone_then, alone_looks}

-- a call that failed, and one after it that didn't
pub accounts_told : {D : Type 0} {g : Ghosts D} {old mid new : D} → CountsFailures g old mid (true ≡ true) → CountsFailures g mid new (false ≡ true) → CountsFailures g old new (true ≡ true)
accounts_told first second = grind (arith, common_steps)

module _ {D : Type 0} (g : Ghosts D) (entries : List Entry) (old : D) (is : IsOpenOver entries (g.files old)) where
  -- tries leave the journal as it is
  module _ (mid : D) (images : (name bytes : List ℕ) → IsImage (g.files mid name) bytes → IsImage (g.files old name) bytes) (own : (n : List ℕ) → IsImage (g.files mid n) (g.files mid n).content) where
    pub journal_stays : IsStable (g.files mid journal_name)
    journal_stays = still_stable (g.files old journal_name) (g.files mid journal_name) is.stable (own journal_name) (images journal_name)

    same_journal : (g.files mid journal_name).content ≡ (g.files old journal_name).content
    same_journal = only_image is.stable (g.files mid journal_name).content (images journal_name (g.files mid journal_name).content (own journal_name))

    pub journal_long : 1 ≤ length (g.files mid journal_name).content
    journal_long =
        let long : front_size ≤ length (g.files old journal_name).content = open_long (g.files old journal_name).content is.opened in
        omega (arith, long, ap length same_journal)

    body_of : (image : Image) → LeavesBody journal_name (g.files mid) image → LeavesBody journal_name (g.files old) image
    body_of image left = record {
      body = left.body ∙ ap (λ (l : List ℕ). drop 1 l) same_journal;
      others = λ other apart. images other (image other) (left.others other apart);
    }

  body_left : (image : Image) → AreImages (g.files old) image → LeavesBody journal_name (g.files old) image
  body_left image left = record {
    body = ap (λ (l : List ℕ). drop 1 l) (only_image is.stable (image journal_name) (left journal_name));
    others = λ other apart. left other;
  }

  -- all went well
  pub again_ok : (new : D) → TriesOver g entries old new (Ok tt) → TriesAgainOver g entries old new (Ok tt)
  again_ok new tries = record {
    ok = tries.ok;
    time = passes_as tries.time body_left;
    images = λ name apart bytes image. tries.images name bytes image;
    others = tries.others;
  }

  -- one failed, and the gate was closed, or that failed too
  pub again_shut : (journal : List ℕ) → journal ≡ journal_name → (mid new : D) (fault : DiskFault) → TriesOver g entries old mid (Err fault) → ((n : List ℕ) → IsImage (g.files mid n) (g.files mid n).content)
      → {content : List ℕ} {shut : Result (Unit {0}) DiskFault} → PassesOver g mid new (LeavesBody journal (g.files mid)) → Puts journal content (g.files mid) (g.files new) shut
      → (result : Result (Unit {0}) DiskFault) → IsErr result → TriesAgainOver g entries old new result
  again_shut journal name_is mid new fault tries own {content} {shut} time put result failed =
      let puts = subst (λ (n : List ℕ). Puts n content (g.files mid) (g.files new) shut) name_is put in
      let closing = subst (λ (n : List ℕ). PassesOver g mid new (LeavesBody n (g.files mid))) name_is time in
      record {
        ok = on_ok_never _ result failed;
        time = passes_then (passes_as tries.time body_left) closing (body_of mid tries.images own);
        images = λ name apart bytes image. tries.images name bytes (subst (λ (f : FileState). IsImage f bytes) (puts.others name apart) image);
        others = λ name un. puts.others name un.apart ∙ tries.others name un;
      }

-- A commit whose files were tried again after the opened gate.

module _ {D : Type 0} (g : Ghosts D) (entries : List Entry) (old mid : D) (done : Unit {0}) (written : WritesRecord g entries old mid (Ok done)) where
  -- the files are as the entries allow, while the gate stands open or is closed
  still_left : AreApplicableTo entries (g.files old) → EachTakes true entries (replayed entries (contents (g.files old))) (g.files old) → (image : Image) → LeavesBody journal_name (g.files mid) image → IsLeft image
  still_left can takes = body_left_by entries (replayed entries (contents (g.files old))) (g.files mid) journal_name refl can.applicable written.opened.found
      (takes_same entries (replayed entries (contents (g.files old))) (g.files old) (g.files mid) written.others takes)

  -- they are as they were
  pub writes_again : AreApplicableTo entries (g.files old) → (new : D) → LooksOver g mid new → WritesRecord g entries old new (Ok tt)
  writes_again can new looks = record {
    opened = subst (λ (f : List ℕ → FileState). IsOpenOver entries f) (sym looks.same) written.opened;
    any_moment = λ rest. passes_then (written.any_moment rest) looks.time
        (λ image left. stands_open entries (g.files old) can (g.files mid) written.opened written.others rest image (body_left g entries mid written.opened image left));
    others = λ name not. ap (λ (f : List ℕ → FileState). f name) looks.same ∙ written.others name not;
    left = λ rest takes. passes_then (written.left rest takes) looks.time (λ image left. still_left can takes image (body_left g entries mid written.opened image left));
    alone = alone_then g (IsUnwritten entries) old mid new written.alone (alone_looks g (IsUnwritten entries) mid new looks);
  }

  -- one wasn't
  pub commits_again : AreApplicableTo entries (g.files old) → ((image : Image) → g.left_since old (g.instant old) image → AreImages (g.files old) image)
      → (new : D) (answer : Result (Unit {0}) DiskFault) → TriesAgainOver g entries mid new answer → ((n : List ℕ) → IsImage (g.files new n) (g.files new n).content)
      → (result : Result (Unit {0}) DiskFault) → IsErr result → CommitsEntriesOver g entries old new result
  commits_again can only_now new answer tries own result failed = record {
    commits = record {
      done = on_ok_never _ result failed;
      any_moment = λ rest. leaves_only (passes_then (written.any_moment rest) tries.time (stands_open entries (g.files old) can (g.files mid) written.opened written.others rest))
          (λ image left. inl (at_rest_recovers (g.files old) rest image (only_now image left)));
      recoverable = λ rest. inl (λ n not. still_stable (g.files old n) (g.files new n) (rest.stable n) (own n)
          (λ bytes image. subst (λ (f : FileState). IsImage f bytes) (written.others n not) (tries.images n not bytes image)));
      alone = alone_then g (IsUnwritten entries) old mid new written.alone (record {
        same = tries.others;
        time = passes_as tries.time (λ image left n un. left.others n un.apart);
      });
    };
    closed = on_ok_never _ result failed;
    left = λ rest takes. passes_then (written.left rest takes) tries.time (still_left can takes);
  }
