-- The stages of a commit, and what is left in each.
use Rattle.std.proofs.Common.{◌≡◌, ◌≢◌, inl, inr, ℕ, ◌+◌, ◌≤◌, ◌++◌, List, [], ◌∷◌, length, drop, true, false, Some, Result, Ok, OnOk, refl, sym, ◌∙◌, ap, subst, arith}
use Rattle.org_disk.specs.declared.disk.Disk.{Ghosts}
use Rattle.std.specs.Prelude.{is_some, nat_le, slice_index, ◌==◌}
use Rattle.std.proofs.lemmas.Bool.{cases_Bool, and_right, ne_eqb}
use Rattle.org_splice.specs.Overwritten.{overwritten}
use Rattle.org_disk.specs.Disk.{FileState, IsImage, IsStable, AreImages}
use Rattle.org_disk.specs.Names.{journal_name}
use Rattle.org_disk.specs.CountsFailures.{PassesOver}
use Rattle.org_disk.specs.declared.disk.DiskFault.{DiskFault}
use Rattle.org_disk.proofs.Images.{only_image}
use Rattle.org_disk.proofs.Moments.{passes_as, passes_then}
use Rattle.org_journal.specs.declared.record.Entry.{Entry}
use Rattle.org_journal.specs.Gate.{is_open, HasClosedGate, LeavesClosed, LeavesBody, Puts}
use Rattle.org_journal.specs.Reading.{journal_at}
use Rattle.org_journal.specs.Record.{BeginsWith}
use Rattle.org_journal.proofs.Fitting.{opens}
use Rattle.org_journal.proofs.Journal.{begins_again}
use Rattle.org_journal.specs.Recovered.{Image, SameFiles, RecoversTo, replayed, contents}
use Rattle.org_fileset.specs.Replay.{TakesTo, AreApplicableTo, EachTakes, IsOpenOver, IsAtRest, IsBeforeOrAfter}
use Rattle.org_fileset.specs.Left.{IsLeft}
use Rattle.org_fileset.specs.Writes.{LeavesAlone, IsUnwritten}
use Rattle.org_fileset.proofs.Lefts.{arming_left, body_left_by, closed_left, takes_same}
use Rattle.org_fileset.proofs.OpenGate.{on_ok_both}
use Rattle.org_fileset.proofs.Writes.{alone_journal, alone_then}
use Rattle.org_fileset.proofs.Recovers.{recovers_open, recovers_closed, takes-replayed, replayed-takes, all_fit-takes}

pub shut : (journal : List ℕ) → slice_index journal 0 ≢ 1 → is_open journal ≡ false
shut journal not = and_right (nat_le 16 (length journal)) (slice_index journal 0 == 1) (ne_eqb (slice_index journal 0) 1 not)

-- after the first byte stands what was written there, and then whatever was there
drop-overwritten : (body text : List ℕ) → 1 ≤ length text → drop 1 (overwritten 1 body text) ≡ body ++ drop (1 + length body) text
drop-overwritten body [] long = absurd (omega arith)
drop-overwritten body (x ∷ text) long = refl

-- what a crash leaves of a disk at rest has a closed gate
pub rest_left : (files : List ℕ → FileState) → IsAtRest files → (image : Image) → AreImages files image → IsLeft image
rest_left files rest image left =
    closed_left image (ap is_open (only_image (rest.stable journal_name) (image journal_name) (left journal_name)) ∙ shut (contents files journal_name) rest.gate.closed)

-- a disk at rest recovers to what it holds
pub at_rest_recovers : (files : List ℕ → FileState) → IsAtRest files → (image : Image) → AreImages files image → RecoversTo (contents files) image
at_rest_recovers files rest image left =
    let same : (name : List ℕ) → image name ≡ contents files name = λ name. only_image (rest.stable name) (image name) (left name) in
    recovers_closed (contents files) image (ap is_open (same journal_name) ∙ shut (contents files journal_name) rest.gate.closed) (λ name not. same name)

module _ (entries : List Entry) (files : List ℕ → FileState) (can : AreApplicableTo entries files) where
  abbrev after : Image
  after = replayed entries (contents files)

  abbrev Stands : Image → Type 0
  Stands image = IsBeforeOrAfter (contents files) (replayed entries (contents files)) image

  -- of the files as they are the record makes the new ones
  takes : (name text : List ℕ) → text ≡ contents files name → TakesTo false entries name text (after name)
  takes name text same = subst (λ (t : List ℕ). TakesTo false entries name t (after name)) (sym same) (takes-replayed entries (contents files) name (after name) can.fits refl)

  pub while_arming : IsAtRest files → (image : Image) → LeavesClosed journal_name files image → Stands image
  while_arming rest image left = inl (recovers_closed (contents files) image left.closed (λ name not. only_image (rest.stable name) (image name) (left.others name not)))

  -- every file but the journal is as it was: the record fits the files as it did, and makes of them what it made
  module _ (last : List ℕ → FileState) (others : (other : List ℕ) → other ≢ journal_name → last other ≡ files other) where
    pub still_can : AreApplicableTo entries last
    still_can = record {
      applicable = can.applicable;
      fits = all_fit-takes entries (contents last) after can.applicable (λ name not. takes name (contents last name) (ap (λ (f : FileState). f.content) (others name not)));
    }

    pub still_made : SameFiles (replayed entries (contents last)) after
    still_made name not = replayed-takes entries (contents last) name (after name) (takes name (contents last name) (ap (λ (f : FileState). f.content) (others name not)))

    pub still_takes : IsAtRest files → EachTakes false entries after last
    still_takes rest = record {
      each = λ name not text image. takes name text (only_image (rest.stable name) text (subst (λ f. IsImage f text) (others name not) image));
    }

  -- the body stands after the gate
  module _ (gate : HasClosedGate (files journal_name)) (body : List ℕ) (begins : BeginsWith body entries) (mid : List ℕ → FileState) (over_record : (mid journal_name).content ≡ overwritten 1 body (contents files journal_name))
      (same : (other : List ℕ) → other ≢ journal_name → mid other ≡ files other) where
    behind : drop 1 (mid journal_name).content ≡ body ++ drop (1 + length body) (contents files journal_name)
    behind = ap (λ (l : List ℕ). drop 1 l) over_record ∙ drop-overwritten body (contents files journal_name) gate.nonempty

    reported : (text : List ℕ) → drop 1 text ≡ drop 1 (mid journal_name).content → journal_at (drop 1 text) ≡ Some entries
    reported text is = ap journal_at (is ∙ behind) ∙ begins_again body entries begins (drop (1 + length body) (contents files journal_name))

    -- the gate is open over the record
    pub opened_over : (last : List ℕ → FileState) → IsStable (last journal_name) → (last journal_name).content ≡ 1 ∷ drop 1 (mid journal_name).content → IsOpenOver entries last
    opened_over last only is = record {
      stable = only;
      opened = opens (last journal_name).content (mid journal_name).content (ap is_some (reported (mid journal_name).content refl)) is;
      found = ap (λ (l : List ℕ). journal_at (drop 1 l)) is ∙ reported (1 ∷ drop 1 (mid journal_name).content) refl;
    }

    -- where all files were on the disk
    module _ (rest : IsAtRest files) where
      own : (other : List ℕ) (text : List ℕ) → IsImage (files other) text → text ≡ contents files other
      own other text image = only_image (rest.stable other) text image

      pub while_opening : (image : Image) → LeavesBody journal_name mid image → Stands image
      while_opening image left =
          let other_is : (name : List ℕ) → name ≢ journal_name → image name ≡ contents files name =
          λ name not. own name (image name) (subst (λ f. IsImage f (image name)) (same name not) (left.others name not)) in
          elim (cases_Bool (is_open (image journal_name))) [
            | inl opened ↦ inr (recovers_open entries after image can.applicable opened (reported (image journal_name) left.body) (λ name not. takes name (image name) (other_is name not)))
            | inr closed ↦ inl (recovers_closed (contents files) image closed other_is)
          ]

-- Where the gate stands open over the record, and every other file is as it was when all was on the
-- disk: what is left with the journal's body recovers to the files before, or to those after.
pub stands_open : (entries : List Entry) (files : List ℕ → FileState) → AreApplicableTo entries files → (last : List ℕ → FileState) → IsOpenOver entries last
    → ((other : List ℕ) → other ≢ journal_name → last other ≡ files other) → IsAtRest files → (image : Image) → LeavesBody journal_name last image
    → IsBeforeOrAfter (contents files) (replayed entries (contents files)) image
stands_open entries files can last over same rest image left =
    let other_is : (name : List ℕ) → name ≢ journal_name → image name ≡ contents files name =
    λ name not. only_image (rest.stable name) (image name) (subst (λ f. IsImage f (image name)) (same name not) (left.others name not)) in
    elim (cases_Bool (is_open (image journal_name))) [
      | inl opened ↦ inr (recovers_open entries (replayed entries (contents files)) image can.applicable opened (ap journal_at left.body ∙ over.found)
          (λ name not. takes entries files can name (image name) (other_is name not)))
      | inr closed ↦ inl (recovers_closed (contents files) image closed other_is)
    ]

-- What calls do that write a record after a closed gate and open the gate over it, where the disk is honest after them. The journal alone is written; where all was on the disk, a crash leaves
-- what recovers to the files before, or to those that the record makes of them.
pub record WritesRecord {D : Type 0} (g : Ghosts D) (entries : List Entry) (old new : D) (result : Result (Unit {0}) DiskFault) : Type 0 where
  pub opened : OnOk result (IsOpenOver entries (g.files new))
  pub any_moment : IsAtRest (g.files old) → PassesOver g old new (IsBeforeOrAfter (contents (g.files old)) (replayed entries (contents (g.files old))))
  pub others : (name : List ℕ) → name ≢ journal_name → g.files new name ≡ g.files old name
  pub left : IsAtRest (g.files old) → EachTakes true entries (replayed entries (contents (g.files old))) (g.files old) → PassesOver g old new IsLeft
  pub alone : LeavesAlone g (IsUnwritten entries) old new

-- What a call did that wrote a record after the closed gate, or failed there; and what one that opened the gate then.
module _ {D : Type 0} (g : Ghosts D) (old : D) (journal : List ℕ) (name_is : journal ≡ journal_name) (entries : List Entry)
    (can : AreApplicableTo entries (g.files old)) where
  arming : (new : D) → PassesOver g old new (LeavesClosed journal (g.files old)) → IsAtRest (g.files old)
      → PassesOver g old new (IsBeforeOrAfter (contents (g.files old)) (replayed entries (contents (g.files old))))
  arming new time rest = passes_as time (λ image left. while_arming entries (g.files old) can rest image (subst (λ (n : List ℕ). LeavesClosed n (g.files old) image) name_is left))

  arming_alone : (new : D) (r : Result (Unit {0}) DiskFault) {content : List ℕ} → PassesOver g old new (LeavesClosed journal (g.files old)) → Puts journal content (g.files old) (g.files new) r
      → LeavesAlone g (IsUnwritten entries) old new
  arming_alone new r time puts =
      alone_journal g journal (IsUnwritten entries) (LeavesClosed journal (g.files old)) old new name_is (λ name is. is.apart) puts.others time (λ image left. left.others)

  pub open_writes : (new : D) (r reported : Result (Unit {0}) DiskFault) → PassesOver g old new (LeavesClosed journal (g.files old)) → {content : List ℕ} → Puts journal content (g.files old) (g.files new) r
      → OnOk reported (IsOpenOver entries (g.files new)) → WritesRecord g entries old new reported
  open_writes new r reported time puts opened = record {
    opened = opened;
    any_moment = arming new time;
    others = subst (λ (n : List ℕ). (other : List ℕ) → other ≢ n → g.files new other ≡ g.files old other) name_is puts.others;
    left = λ rest takes. passes_as time (arming_left (g.files old) journal name_is);
    alone = arming_alone new r time puts;
  }

  pub opened_writes : HasClosedGate (g.files old journal_name) → (body : List ℕ) → BeginsWith body entries → (mid new : D) (r : Result (Unit {0}) DiskFault)
      → PassesOver g old mid (LeavesClosed journal (g.files old)) → Puts journal (overwritten 1 body (g.files old journal).content) (g.files old) (g.files mid) (Ok tt)
      → PassesOver g mid new (LeavesBody journal (g.files mid)) → Puts journal (1 ∷ drop 1 (g.files mid journal).content) (g.files mid) (g.files new) r
      → WritesRecord g entries old new r
  opened_writes gate body begins mid new r arm_time arms opening opens =
      let over_record = subst (λ (n : List ℕ). Puts n (overwritten 1 body (g.files old n).content) (g.files old) (g.files mid) (Ok tt)) name_is arms in
      let opened = subst (λ (n : List ℕ). Puts n (1 ∷ drop 1 (g.files mid n).content) (g.files mid) (g.files new) r) name_is opens in
      record {
        opened = on_ok_both r opened.stable opened.is (opened_over entries (g.files old) can gate body begins (g.files mid) over_record.is over_record.others (g.files new));
        any_moment = λ rest. passes_then (arming mid arm_time rest) opening (λ image left.
            while_opening entries (g.files old) can gate body begins (g.files mid) over_record.is over_record.others rest image (subst (λ (n : List ℕ). LeavesBody n (g.files mid) image) name_is left));
        others = λ name not. opened.others name not ∙ over_record.others name not;
        left = λ rest takes. passes_then (passes_as arm_time (arming_left (g.files old) journal name_is)) opening
            (body_left_by entries (replayed entries (contents (g.files old))) (g.files mid) journal name_is can.applicable
            (reported entries (g.files old) can gate body begins (g.files mid) over_record.is over_record.others (contents (g.files mid) journal_name) refl)
            (takes_same entries (replayed entries (contents (g.files old))) (g.files old) (g.files mid) over_record.others takes));
        alone = alone_then g (IsUnwritten entries) old mid new (arming_alone mid (Ok tt) arm_time arms)
            (alone_journal g journal (IsUnwritten entries) (LeavesBody journal (g.files mid)) mid new name_is (λ name is. is.apart) opens.others opening (λ image left. left.others));
      }
