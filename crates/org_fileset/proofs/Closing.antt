-- A record that is applied to its files and synced, and whose gate is then closed.
use Rattle.std.proofs.Common.{◌≡◌, ◌≢◌, inl, inr, ℕ, List, ◌∷◌, length, drop, Bool, true, false, Result, Ok, Err, OnOk, IsErr, sym, ◌∙◌, ap, subst}
use Rattle.std.specs.Prelude.{IsFalse}
use Rattle.org_disk.specs.declared.disk.Disk.{Ghosts}
use Rattle.org_disk.specs.declared.disk.DiskFault.{DiskFault}
use Rattle.org_disk.specs.CountsFailures.{LooksOver, PassesOver}
use Rattle.org_disk.specs.Disk.{FileState, IsImage, IsStable}
use Rattle.org_disk.specs.Names.{journal_name}
use Rattle.org_disk.proofs.Images.{only_image}
use Rattle.org_disk.proofs.Moments.{passes_as, passes_then}
use Rattle.org_disk.proofs.Names.{name_cases}
use Rattle.org_journal.specs.declared.record.Entry.{Entry}
use Rattle.org_journal.specs.Gate.{LeavesBody, Puts}
use Rattle.org_journal.specs.Record.{is_named}
use Rattle.org_journal.specs.Recovered.{Image, contents, replayed}
use Rattle.org_fileset.specs.Replay.{AreApplicable, AreApplicableTo, EachTakes, IsOpenOver, IsReplayable, Replays, ReplaysOver, TakesOver}
use Rattle.org_fileset.specs.Writes.{IsUnwritten, LeavesAlone}
use Rattle.org_fileset.proofs.Lefts.{body_left_by, taking_left}
use Rattle.org_fileset.proofs.OpenGate.{replays_then, taking_recovers, replayable_open, still_open, still_replayable, IsDone, closing_recovers, closed_after, rest_after, on_ok_always, on_ok_both, on_ok_never}
use Rattle.org_fileset.proofs.Recovers.{replayed-takes}
use Rattle.org_fileset.proofs.Takes.{journal_unnamed}
use Rattle.org_fileset.proofs.Writes.{alone_applied, alone_journal, alone_looked, alone_then}

-- the record is applied to its files, and they are synced
pub record IsSynced {D : Type 0} (g : Ghosts D) (entries : List Entry) (old new : D) : Type 0 where
  pub replays : TakesOver g entries old new
  pub made : (name : List ℕ) → contents (g.files new) name ≡ replayed entries (contents (g.files old)) name
  pub stable : (name : List ℕ) → (IsFalse (is_named name entries) → IsStable (g.files old name)) → IsStable (g.files new name)
  pub alone : LeavesAlone g (λ name. IsFalse (is_named name entries)) old new

module _ {D : Type 0} (g : Ghosts D) (entries : List Entry) where
  -- files that are only looked at
  looks_replays : (keep : Bool) (texts : Image) (old new : D) → IsStable (g.files old journal_name) → EachTakes keep entries texts (g.files old) → LooksOver g old new
      → Replays keep entries texts (g.instant old) (g.instant new) (g.left_since old) (g.left_since new) (g.files old) (g.files new)
  looks_replays keep texts old new stable takes looks = record {
    any_moment = passes_as looks.time (λ image left. record {
      same_journal = only_image stable (image journal_name) (left journal_name);
      each = λ name not. takes.each name not (image name) (left name);
    });
    takes = subst (λ (f : List ℕ → FileState). EachTakes keep entries texts f) (sym looks.same) takes;
    others = λ name none. ap (λ (f : List ℕ → FileState). f name) looks.same;
  }

  -- they stay so where they are only looked at
  pub synced_looked : AreApplicable entries → (old mid new : D) → IsSynced g entries old mid → LooksOver g mid new → IsSynced g entries old new
  synced_looked applicable old mid new synced looks = record {
    replays = λ stable keep texts takes.
        let first = synced.replays stable keep texts takes in
        replays_then applicable first (looks_replays keep texts mid new (synced.stable journal_name (λ none. stable)) first.takes looks);
    made = λ name. ap (λ (f : List ℕ → FileState). (f name).content) looks.same ∙ synced.made name;
    stable = λ name before. subst (λ (f : List ℕ → FileState). IsStable (f name)) (sym looks.same) (synced.stable name before);
    alone = alone_looked synced.alone looks;
  }

  module _ (old : D) (applicable : AreApplicable entries) (opened : IsOpenOver entries (g.files old)) where
    -- one of the calls failed
    pub replays_failed : (new : D) → TakesOver g entries old new → LeavesAlone g (λ name. IsFalse (is_named name entries)) old new → (result : Result (Unit {0}) DiskFault) → IsErr result
        → ReplaysOver g entries old new result
    replays_failed new replays alone result failed =
        let files = g.files old in
        let applied = λ (can : IsReplayable entries files). replays opened.stable false can.texts can.takes in
        record {
          done = on_ok_never _ result failed;
          any_moment = λ can. passes_as (applied can).any_moment (taking_recovers entries can.texts (files journal_name).content applicable opened.opened opened.found);
          recoverable = λ can. inr (replayable_open entries (g.files new) applicable (still_open entries files (g.files new) applicable opened alone.same) (still_replayable can (applied can)));
          left = λ texts takes. passes_as (replays opened.stable true texts takes).any_moment (taking_left entries texts (files journal_name).content applicable opened.found);
          alone = alone_applied g entries old new alone;
        }

    -- the gate was closed, or that failed
    pub replays_closed : (mid new : D) → ((name : List ℕ) → IsImage (g.files old name) (g.files old name).content) → ((name : List ℕ) → IsImage (g.files mid name) (g.files mid name).content)
        → IsSynced g entries old mid → (journal : List ℕ) → journal ≡ journal_name → (result : Result (Unit {0}) DiskFault) → PassesOver g mid new (LeavesBody journal (g.files mid))
        → Puts journal (0 ∷ drop 1 (g.files mid journal).content) (g.files mid) (g.files new) result → ReplaysOver g entries old new result
    replays_closed mid new own_old own_mid synced journal is result passes puts_there =
        let files = g.files old in
        let last = g.files mid in
        let after = g.files new in
        let taken = λ (can : IsReplayable entries files). synced.replays opened.stable false can.texts can.takes in
        let still = still_open entries files last applicable opened synced.alone.same in
        let stable : IsReplayable entries files → (name : List ℕ) → IsStable (last name) = λ can name. synced.stable name (λ none. elim (name_cases name journal_name) [
          | inl same ↦ subst (λ (n : List ℕ). IsStable (files n)) (sym same.0) opened.stable
          | inr apart ↦ can.others name apart.0 none
        ]) in
        let has : (can : IsReplayable entries files) → IsDone entries can.texts last = λ can. record {
          takes = (taken can).takes;
          stable = stable can;
          have = λ name not. synced.made name ∙ replayed-takes entries (contents files) name (can.texts name) (can.takes.each name not (contents files name) (own_old name));
          found = still.found;
        } in
        let same : last journal_name ≡ files journal_name = synced.alone.same journal_name (journal_unnamed entries applicable.each) in
        let puts = subst (λ (n : List ℕ). Puts n (0 ∷ drop 1 (last n).content) last after result) is puts_there in
        record {
          any_moment = λ can. passes_then (passes_as (taken can).any_moment (taking_recovers entries can.texts (files journal_name).content applicable opened.opened opened.found)) passes
              (closing_recovers entries can.texts last journal is applicable own_mid (has can));
          recoverable = λ can. inl (λ name not. subst IsStable (sym (puts.others name not)) (stable can name));
          left = λ texts takes.
              let both = synced.replays opened.stable true texts takes in
              passes_then (passes_as both.any_moment (taking_left entries texts (files journal_name).content applicable opened.found)) passes
              (body_left_by entries texts last journal is applicable still.found both.takes);
          done = on_ok_both result puts.stable puts.is (λ only zero. record {
            gate = closed_after (after journal_name) (drop 1 (last journal_name).content) only zero;
            journal = zero ∙ ap (λ (f : FileState). 0 ∷ drop 1 f.content) same;
            made = λ name not. ap (λ (f : FileState). f.content) (puts.others name not) ∙ synced.made name;
            rest = λ can. rest_after last after (drop 1 (last journal_name).content) only zero puts.others (λ name apart. stable can name);
          });
          alone = alone_then g (IsUnwritten entries) old mid new (alone_applied g entries old mid synced.alone)
              (alone_journal g journal (IsUnwritten entries) (LeavesBody journal last) mid new is (λ name unwritten. unwritten.apart) puts_there.others passes (λ image left. left.others));
        }

  -- whatever is answered after all was done, or after a failure
  pub replays_answered : (old new : D) (result : Result (Unit {0}) DiskFault) → ReplaysOver g entries old new (Ok tt) → ReplaysOver g entries old new result
  replays_answered old new result replays = record {
    done = on_ok_always result replays.done;
    any_moment = replays.any_moment;
    recoverable = replays.recoverable;
    left = replays.left;
    alone = replays.alone;
  }

  pub replays_err : (old new : D) (answer result : Result (Unit {0}) DiskFault) → ReplaysOver g entries old new answer → IsErr result → ReplaysOver g entries old new result
  replays_err old new answer result replays failed = record {
    done = on_ok_never _ result failed;
    any_moment = replays.any_moment;
    recoverable = replays.recoverable;
    left = replays.left;
    alone = replays.alone;
  }
