-- A journal that stands open while its record is applied, and is then closed.
use Rattle.std.proofs.Common.{◌≡◌, ◌≢◌, inl, inr, ℕ, ◌≤◌, List, ◌∷◌, length, drop, Bool, true, false, Some, Result, Ok, Err, OnOk, IsErr, sym, ◌∙◌, ap, subst, arith}
use Rattle.std.proofs.lemmas.Grind.{common_steps}
use Rattle.std.specs.Prelude.{nat_le, slice_index, ◌==◌}
use Rattle.std.proofs.lemmas.Bool.{cases_Bool, and_parts, leb-true}
use Rattle.std.proofs.lemmas.Result.{IfOk-from_err}
use Rattle.org_disk.specs.Disk.{FileState, IsImage, IsStable}
use Rattle.org_disk.specs.Names.{journal_name}
use Rattle.org_disk.proofs.Images.{only_image}
use Rattle.org_disk.proofs.Moments.{passes_then}
use Rattle.org_disk.proofs.Names.{name_cases}
use Rattle.org_journal.specs.declared.record.Entry.{Entry}
use Rattle.org_journal.specs.Gate.{front_size, is_open, HasClosedGate, LeavesBody}
use Rattle.org_journal.specs.Reading.{journal_at}
use Rattle.org_journal.specs.Record.{is_named}
use Rattle.org_journal.specs.Recovered.{Image, SameFiles, RecoversTo, IsOpenOverRecord, contents}
use Rattle.org_fileset.specs.Replay.{TakesTo, AreApplicable, EachTakes, LeavesTaking, Replays, IsOpenOver, IsReplayable, IsAtRest}
use Rattle.org_fileset.proofs.Takes.{journal_unnamed}
use Rattle.org_fileset.proofs.Recovers.{recovers_open, recovers_closed}

-- one run of calls after another
pub replays_then : {keep : Bool} {entries : List Entry} {texts : Image} {m n k : ℕ} {s u v : ℕ → Image → Type 0} {old mid new : List ℕ → FileState} → AreApplicable entries
    → Replays keep entries texts m n s u old mid → Replays keep entries texts n k u v mid new → Replays keep entries texts m k s v old new
replays_then {entries} applicable first second = grind (arith, common_steps, passes_then, journal_unnamed)

-- what is left while the record is applied recovers to what it makes
pub taking_recovers : (entries : List Entry) (texts : Image) (journal : List ℕ) → AreApplicable entries → is_open journal ≡ true → journal_at (drop 1 journal) ≡ Some entries
    → (image : Image) → LeavesTaking false journal entries texts image → RecoversTo texts image
taking_recovers entries texts journal applicable opened found image left =
    recovers_open entries texts image applicable (ap is_open left.same_journal ∙ opened) (ap (λ (l : List ℕ). journal_at (drop 1 l)) left.same_journal ∙ found) left.each

-- such a disk is one with an open record
pub replayable_open : (entries : List Entry) (files : List ℕ → FileState) → AreApplicable entries → IsOpenOver entries files → IsReplayable entries files → IsOpenOverRecord files
replayable_open entries files applicable is can = record {
  entries = entries;
  opened = λ bytes image. ap is_open (only_image is.stable bytes image) ∙ is.opened;
  found = λ bytes image. ap (λ (l : List ℕ). journal_at (drop 1 l)) (only_image is.stable bytes image) ∙ is.found;
  others = can.others;
  texts = can.texts;
  same = λ image left.
      let journal = only_image is.stable (image journal_name) (left journal_name) in
      recovers_open entries can.texts image applicable (ap is_open journal ∙ is.opened) (ap (λ (l : List ℕ). journal_at (drop 1 l)) journal ∙ is.found)
      (λ name not. can.takes.each name not (image name) (left name));
}

-- it stays one while the record is applied
pub still_open : (entries : List Entry) (old new : List ℕ → FileState) → AreApplicable entries → IsOpenOver entries old
    → ((name : List ℕ) → is_named name entries ≡ false → new name ≡ old name) → IsOpenOver entries new
still_open entries old new applicable is others = record {
  stable = subst IsStable (sym same) is.stable;
  opened = ap (λ (f : FileState). is_open f.content) same ∙ is.opened;
  found = ap (λ (f : FileState). journal_at (drop 1 f.content)) same ∙ is.found;
}
  where
    same : new journal_name ≡ old journal_name
    same = others journal_name (journal_unnamed entries applicable.each)

pub still_replayable : {entries : List Entry} {m n : ℕ} {s u : ℕ → Image → Type 0} {old new : List ℕ → FileState} (can : IsReplayable entries old) → Replays false entries can.texts m n s u old new
    → IsReplayable entries new
still_replayable can replays = grind (arith, common_steps)

-- all files but the journal are on the disk with their new texts
pub record IsDone (entries : List Entry) (texts : Image) (files : List ℕ → FileState) : Type 0 where
  pub takes : EachTakes false entries texts files
  pub stable : (name : List ℕ) → IsStable (files name)
  pub have : SameFiles (contents files) texts
  pub found : journal_at (drop 1 (files journal_name).content) ≡ Some entries

-- what is left while the gate is closed
pub closing_recovers : (entries : List Entry) (texts : Image) (files : List ℕ → FileState) (journal : List ℕ) → journal ≡ journal_name → AreApplicable entries
    → ((name : List ℕ) → IsImage (files name) (files name).content) → IsDone entries texts files → (image : Image) → LeavesBody journal files image → RecoversTo texts image
closing_recovers entries texts files journal name_is applicable own done image left = elim (cases_Bool (is_open (image journal_name))) [
  | inl opened ↦ recovers_open entries texts image applicable opened (ap journal_at here.body ∙ done.found) (λ name not.
      subst (λ (t : List ℕ). TakesTo false entries name t (texts name)) (sym (same name not)) (done.takes.each name not (files name).content (own name)))
  | inr shut ↦ recovers_closed texts image shut (λ name not. same name not ∙ done.have name not)
]
  where
    here : LeavesBody journal_name files image
    here = subst (λ (n : List ℕ). LeavesBody n files image) name_is left

    same : (name : List ℕ) → name ≢ journal_name → image name ≡ (files name).content
    same name not = only_image (done.stable name) (image name) (here.others name not)

-- a gate that was written is closed on the disk
pub closed_after : (file : FileState) (rest : List ℕ) → IsStable file → file.content ≡ 0 ∷ rest → HasClosedGate file
closed_after file rest only is = grind (arith, common_steps)

-- the gate closed, all is at rest
pub rest_after : (old new : List ℕ → FileState) (rest : List ℕ) → IsStable (new journal_name) → (new journal_name).content ≡ 0 ∷ rest
    → ((other : List ℕ) → other ≢ journal_name → new other ≡ old other) → ((name : List ℕ) → name ≢ journal_name → IsStable (old name)) → IsAtRest new
rest_after old new rest only is others stable = record {
  gate = closed_after (new journal_name) rest only is;
  stable = λ name. elim (name_cases name journal_name) [
    | inl same ↦ subst (λ (n : List ℕ). IsStable (new n)) (sym same.0) only
    | inr apart ↦ subst IsStable (sym (others name apart.0)) (stable name apart.0)
  ];
}

pub open_long : (journal : List ℕ) → is_open journal ≡ true → front_size ≤ length journal
open_long journal opened = leb-true front_size (length journal) (and_parts (nat_le front_size (length journal)) (slice_index journal 0 == 1) opened).0

-- .. as the journal under its name is, once the record's files were written
pub long_open : (entries : List Entry) (old new : List ℕ → FileState) → AreApplicable entries → IsOpenOver entries old
    → ((name : List ℕ) → is_named name entries ≡ false → new name ≡ old name) → (journal : List ℕ) → journal ≡ journal_name → 1 ≤ length (new journal).content
long_open entries old new applicable is others journal name_is =
    let long : front_size ≤ length (new journal_name).content = open_long (new journal_name).content (still_open entries old new applicable is others).opened in
    subst (λ (n : List ℕ). 1 ≤ length (new n).content) (sym name_is) (omega arith)

-- what is asked of an Ok alone
pub on_ok_never : {T E : Type 0} (P : Type 0) (r : Result T E) → IsErr r → OnOk r P
on_ok_never P r failed = IfOk-from_err r (λ done. P) failed

-- what holds anyway
pub on_ok_always : {T E P : Type 0} (r : Result T E) → P → OnOk r P
on_ok_always (Ok x) p = p
on_ok_always (Err e) p = tt

-- two facts of an Ok
pub on_ok_both : {T E P Q R : Type 0} (r : Result T E) → OnOk r P → OnOk r Q → (P → Q → R) → OnOk r R
on_ok_both (Ok x) p q both = both p q
on_ok_both (Err e) p q both = tt
