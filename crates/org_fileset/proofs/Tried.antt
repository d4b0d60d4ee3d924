-- Files that were tried, by writes of no bytes, and a commit that begins with that.
use Rattle.std.proofs.Common.{◌≡◌, ◌≢◌, ◌⊎◌, inl, inr, ⊎_elim, ℕ, suc, ◌+◌, ◌<◌, ◌++◌, List, [], ◌∷◌, length, drop, get_or, take, set, Result, Ok, Err, IsErr, OnOk, true, sym, ◌∙◌, ap, subst, arith}
use Rattle.std.proofs.lemmas.Bool.{cases_lt}
use Rattle.std.proofs.lemmas.Result.{on_ok_weaker}
use Rattle.std.proofs.lemmas.List.{get_or-take, get_or_append_left, get_or-set_same, get_or-set_other, length-append, length-set, length-take-le}
use Rattle.org_disk.specs.declared.disk.Disk.{Ghosts}
use Rattle.org_disk.specs.declared.disk.DiskFault.{DiskFault}
use Rattle.org_disk.specs.CountsFailures.{LooksOver, PassesOver}
use Rattle.org_disk.specs.Names.{journal_name}
use Rattle.org_disk.specs.Disk.{FileState, IsImage, IsOutside, IsStable, AreImages, AreLeftBy, Changes, MayLeave, write}
use Rattle.org_disk.proofs.Accounting.{looks_then}
use Rattle.org_disk.proofs.Images.{only_image}
use Rattle.org_disk.proofs.Moments.{Image, leaves_only, passes_as, passes_then}
use Rattle.org_disk.proofs.Names.{name_cases}
use Rattle.org_disk.proofs.Ranges.{nothing_written}
use Rattle.org_journal.specs.declared.record.Entry.{Entry}
use Rattle.org_journal.specs.Gate.{is_open, HasClosedGate}
use Rattle.org_journal.specs.Reading.{journal_at}
use Rattle.org_journal.specs.Recovered.{RecoversTo, SameFiles, contents, replayed}
use Rattle.org_fileset.specs.Replay.{AreApplicableTo, CommitsEntriesOver, EachTakes, IsAtRest, IsBeforeOrAfter, IsClosedOver, IsCommitted, IsReplayable, ReplaysOver}
use Rattle.org_fileset.specs.Writes.{IsUnwritten, TriesOver}
use Rattle.org_fileset.proofs.OpenGate.{on_ok_never}
use Rattle.org_fileset.proofs.Lefts.{takes_same}
use Rattle.org_fileset.proofs.Commits.{rest_left, WritesRecord, at_rest_recovers, shut, still_made, still_takes}
use Rattle.org_fileset.proofs.Recovers.{recovers_closed}
use Rattle.org_fileset.proofs.Writes.{alone_looks, alone_then}

-- A stable file of which a crash leaves no more than before is stable: of a file whose call failed
-- nothing else is known.

-- a position lies in none of the ranges, or in one
outside_cases : (ranges : List (ℕ × ℕ)) (i : ℕ) → IsOutside ranges i ⊎ (IsOutside ranges i → ⊥)
outside_cases [] i = inl tt
outside_cases (range ∷ ranges) i = elim (outside_cases ranges i) [
  | inr among ↦ inr (λ outside. among outside.1)
  | inl rest ↦ ⊎_elim
      (λ before. inl (inl before, rest))
      (λ from. ⊎_elim
      (λ within. inr (λ outside. ⊎_elim (λ before. omega (arith, before, from)) (λ behind. omega (arith, behind, within)) outside.0))
      (λ behind. inl (inr behind, rest))
      (cases_lt i (range.0 + range.1)))
      (cases_lt i range.0)
]

-- a file whose content is its only image
module _ (file : FileState) (own : IsImage file file.content) (only : (bytes : List ℕ) → IsImage file bytes → bytes ≡ file.content) where
  least_is : file.least ≡ length file.content
  least_is = ⊎_elim
      (λ less.
      let short : length (take file.least file.content) ≡ file.least = length-take-le file.least file.content (omega (arith, less)) in
      let same = ap length (only (take file.least file.content) (record {
        no_shorter = omega (arith, short);
        no_longer = omega (arith, short, less, own.no_longer);
        fixed = λ i fixed. get_or-take file.least file.content i 0 fixed.0;
      })) in
      absurd (omega (arith, short, same, less)))
      (λ not. omega (arith, not, own.no_shorter))
      (cases_lt file.least (length file.content))

  greatest_is : file.greatest ≡ length file.content
  greatest_is = ⊎_elim
      (λ more.
      let long : length (file.content ++ 0 ∷ []) ≡ length file.content + 1 = length-append file.content (0 ∷ []) in
      let same = ap length (only (file.content ++ 0 ∷ []) (record {
        no_shorter = omega (arith, long, own.no_shorter);
        no_longer = omega (arith, long, more);
        fixed = λ i fixed. get_or_append_left file.content (0 ∷ []) 0 i (omega (arith, fixed.0, own.no_shorter));
      })) in
      absurd (omega (arith, long, same)))
      (λ not. omega (arith, not, own.no_longer))
      (cases_lt (length file.content) file.greatest)

  all_fixed : (i : ℕ) → i < length file.content → IsOutside file.written i
  all_fixed i within = ⊎_elim
      (λ outside. outside)
      (λ among.
      let other = set file.content i (suc (get_or file.content i 0)) in
      let long : length other ≡ length file.content = length-set file.content i (suc (get_or file.content i 0)) in
      let same = only other (record {
        no_shorter = omega (arith, long, own.no_shorter);
        no_longer = omega (arith, long, own.no_longer);
        fixed = λ k fixed. get_or-set_other file.content i k (suc (get_or file.content i 0)) 0
            (λ is. among (subst (λ (n : ℕ). IsOutside file.written n) is fixed.1));
      }) in
      let here : get_or other i 0 ≡ suc (get_or file.content i 0) = get_or-set_same file.content i (suc (get_or file.content i 0)) 0 within in
      let there : get_or other i 0 ≡ get_or file.content i 0 = ap (λ (l : List ℕ). get_or l i 0) same in
      absurd (omega (arith, here, there)))
      (outside_cases file.written i)

  stable_alone : IsStable file
  stable_alone = record { least = least_is; greatest = greatest_is; fixed = all_fixed }

pub still_stable : (old new : FileState) → IsStable old → IsImage new new.content → ((bytes : List ℕ) → IsImage new bytes → IsImage old bytes) → IsStable new
still_stable old new stable own images =
    stable_alone new own (λ bytes image. only_image stable bytes (images bytes image) ∙ sym (only_image stable new.content (images new.content own)))

-- A try of the file of this name, which is the journal's or one of the record's.

module _ {D : Type 0} (g : Ghosts D) (entries : List Entry) (name : List ℕ) (old new : D) (own : (n : List ℕ) → IsImage (g.files old n) (g.files old n).content)
    (tried : (n : List ℕ) → IsUnwritten entries n → n ≢ name) where
  nothing : write 0 [] (g.files old name) ≡ g.files old name
  nothing = nothing_written 0 (g.files old name) (omega arith) (own name)

  before : (bytes : List ℕ) → MayLeave (write 0 []) (g.files old name) bytes → IsImage (g.files old name) bytes
  before bytes may = ⊎_elim (λ image. image) (λ after. subst (λ (f : FileState). IsImage f bytes) nothing after) may

  passes : PassesOver g old new (AreLeftBy (write 0 []) name (g.files old)) → PassesOver g old new (AreImages (g.files old))
  passes time = passes_as time (λ image left n. elim (name_cases n name) [
    | inl same ↦ subst (λ (m : List ℕ). IsImage (g.files old m) (image m)) (sym same.0) (before (image name) left.here)
    | inr apart ↦ left.others n apart.0
  ])

  -- what is so of this file is so of each, since the others are the same
  each_file : (P : List ℕ → Type 0) → P name → ((n : List ℕ) → n ≢ name → P n) → (n : List ℕ) → P n
  each_file P here others n = elim (name_cases n name) [
    | inl is ↦ subst P (sym is.0) here
    | inr apart ↦ others n apart.0
  ]

  pub one_try : (result : Result (Unit {0}) DiskFault) → Changes (write 0 []) name (g.files old) (g.files new) result
      → PassesOver g old new (AreLeftBy (write 0 []) name (g.files old)) → TriesOver g entries old new result
  one_try (Ok done) changes time =
      let same : (n : List ℕ) → g.files new n ≡ g.files old n = each_file (λ n. g.files new n ≡ g.files old n) (changes.ok ∙ nothing) changes.others in
      record {
        ok = record { same = λ j n. same n j; time = passes time };
        time = passes time;
        images = λ n bytes image. subst (λ (f : FileState). IsImage f bytes) (same n) image;
        others = λ n is. same n;
      }
  one_try (Err fault) changes time = record {
    ok = tt;
    time = passes time;
    images = each_file (λ n. (bytes : List ℕ) → IsImage (g.files new n) bytes → IsImage (g.files old n) bytes)
        (λ bytes image. before bytes (changes.err.images bytes image))
        (λ n apart bytes image. subst (λ (f : FileState). IsImage f bytes) (changes.others n apart) image);
    others = λ n is. changes.others n (tried n is);
  }

-- an answer is Ok or not
on_ok_all : (result : Result (Unit {0}) DiskFault) → OnOk result (Unit {0})
on_ok_all (Ok done) = tt
on_ok_all (Err fault) = tt

-- Tries, one after another

module _ {D : Type 0} (g : Ghosts D) (entries : List Entry) where
  -- those before the last went well
  pub tries_then : (old mid new : D) (done : Unit {0}) (result : Result (Unit {0}) DiskFault) → TriesOver g entries old mid (Ok done)
      → TriesOver g entries mid new result → TriesOver g entries old new result
  tries_then old mid new done result first last =
      let same : (n : List ℕ) → g.files mid n ≡ g.files old n = λ n. ap (λ (f : List ℕ → FileState). f n) first.ok.same in
      record {
        ok = on_ok_weaker result (λ looks. looks_then first.ok looks) last.ok;
        time = passes_then first.time last.time (λ image left n. subst (λ (f : FileState). IsImage f (image n)) (same n) (left n));
        images = λ n bytes image. subst (λ (f : FileState). IsImage f bytes) (same n) (last.images n bytes image);
        others = λ n is. last.others n is ∙ same n;
      }

  -- one failed, and so does the call that made it
  pub tries_failed : (old new : D) (answer result : Result (Unit {0}) DiskFault) → TriesOver g entries old new answer → IsErr result → TriesOver g entries old new result
  tries_failed old new answer result tries failed = record {
    ok = on_ok_never _ result failed;
    time = tries.time;
    images = tries.images;
    others = tries.others;
  }

  -- calls that only look tried nothing, and did no more
  pub looks_tries : (old new : D) (result : Result (Unit {0}) DiskFault) → LooksOver g old new → TriesOver g entries old new result
  looks_tries old new result looks = record {
    ok = on_ok_weaker result (λ done. looks) (on_ok_all result);
    time = looks.time;
    images = λ n bytes image. subst (λ (f : List ℕ → FileState). IsImage (f n) bytes) looks.same image;
    others = λ n is. ap (λ (f : List ℕ → FileState). f n) looks.same;
  }

-- A record that is written once its files were tried: they are as at the start.

module _ {D : Type 0} (g : Ghosts D) (entries : List Entry) (old tried : D) (looks : LooksOver g old tried) where
  pub applicable_tried : AreApplicableTo entries (g.files old) → AreApplicableTo entries (g.files tried)
  applicable_tried can = subst (λ (f : List ℕ → FileState). AreApplicableTo entries f) (sym looks.same) can

  pub gate_tried : HasClosedGate (g.files old journal_name) → HasClosedGate (g.files tried journal_name)
  gate_tried gate = subst (λ (f : List ℕ → FileState). HasClosedGate (f journal_name)) (sym looks.same) gate

  pub writes_tried : (new : D) (result : Result (Unit {0}) DiskFault) → WritesRecord g entries tried new result → WritesRecord g entries old new result
  writes_tried new result writes = record {
    opened = writes.opened;
    any_moment = λ rest. passes_then
        (passes_as looks.time (λ image left. inl (at_rest_recovers (g.files old) rest image left)))
        (writes.any_moment (subst IsAtRest (sym looks.same) rest))
        (λ image stands. subst (λ (f : List ℕ → FileState). IsBeforeOrAfter (contents f) (replayed entries (contents f)) image) looks.same stands);
    others = λ n not. writes.others n not ∙ ap (λ (f : List ℕ → FileState). f n) looks.same;
    left = λ rest takes. passes_then (passes_as looks.time (rest_left (g.files old) rest))
        (writes.left (subst IsAtRest (sym looks.same) rest)
        (subst (λ (f : List ℕ → FileState). EachTakes true entries (replayed entries (contents f)) f) (sym looks.same) takes)) (λ image left. left);
    alone = alone_then g (IsUnwritten entries) old tried new (alone_looks g (IsUnwritten entries) old tried looks) writes.alone;
  }

-- The commit whose files were tried

-- a disk at rest recovers to the files that were made on it
made_recovers : (files : List ℕ → FileState) → IsAtRest files → {after : Image} → SameFiles (contents files) after → (image : Image) → AreImages files image → RecoversTo after image
made_recovers files rest {after} made image left =
    let same : (name : List ℕ) → image name ≡ contents files name = λ name. only_image (rest.stable name) (image name) (left name) in
    recovers_closed after image (ap is_open (same journal_name) ∙ shut (contents files journal_name) rest.gate.closed) (λ name not. same name ∙ made name not)

module _ {D : Type 0} (g : Ghosts D) (entries : List Entry) (old : D) (only_now : (image : Image) → g.left_since old (g.instant old) image → AreImages (g.files old) image) where
  -- a try failed: nothing was done
  pub commits_failed : (new : D) (answer : Result (Unit {0}) DiskFault) → TriesOver g entries old new answer → ((n : List ℕ) → IsImage (g.files new n) (g.files new n).content)
      → (result : Result (Unit {0}) DiskFault) → IsErr result → CommitsEntriesOver g entries old new result
  commits_failed new answer tries own result failed = record {
    commits = record {
      done = on_ok_never _ result failed;
      any_moment = λ rest. leaves_only (passes_as tries.time (λ image left. inl (at_rest_recovers (g.files old) rest image left)))
          (λ image left. inl (at_rest_recovers (g.files old) rest image (only_now image left)));
      recoverable = λ rest. inl (λ n not. still_stable (g.files old n) (g.files new n) (rest.stable n) (own n) (tries.images n));
      alone = record { same = tries.others; time = passes_as tries.time (λ image left n this. left n) };
    };
    closed = on_ok_never _ result failed;
    left = λ rest takes. passes_as tries.time (rest_left (g.files old) rest);
  }

  -- no record was written, or the gate wasn't opened over it
  pub commits_unwritten : (new : D) (answer : Result (Unit {0}) DiskFault) → WritesRecord g entries old new answer → (result : Result (Unit {0}) DiskFault) → IsErr result
      → CommitsEntriesOver g entries old new result
  commits_unwritten new answer written result failed = record {
    commits = record {
      done = on_ok_never _ result failed;
      any_moment = λ rest. leaves_only (written.any_moment rest) (λ image left. inl (at_rest_recovers (g.files old) rest image (only_now image left)));
      recoverable = λ rest. inl (λ n not. subst IsStable (sym (written.others n not)) (rest.stable n));
      alone = written.alone;
    };
    closed = on_ok_never _ result failed;
    left = written.left;
  }

  -- the gate was opened over the record, which was applied to its files
  pub commits_written : AreApplicableTo entries (g.files old) → (mid new : D) (done : Unit {0}) → WritesRecord g entries old mid (Ok done)
      → (result : Result (Unit {0}) DiskFault) → ReplaysOver g entries mid new result → CommitsEntriesOver g entries old new result
  commits_written can mid new done written result replays =
      let files = g.files old in
      let last = g.files mid in
      let replayable : IsAtRest files → IsReplayable entries last = λ rest. record {
        others = λ n not none. subst IsStable (sym (written.others n not)) (rest.stable n);
        texts = replayed entries (contents files);
        takes = still_takes entries files can last written.others rest;
      } in
      record {
        commits = record {
          done = on_ok_weaker result (λ made. record {
            made = λ n not. made.made n not ∙ still_made entries files can last written.others n not;
            rest = λ rest. made.rest (replayable rest);
          }) replays.done;
          any_moment = λ rest. leaves_only (passes_then (written.any_moment rest) (replays.any_moment (replayable rest)) (λ image stands. inr stands))
              (λ image left. inl (at_rest_recovers files rest image (only_now image left)));
          recoverable = λ rest. replays.recoverable (replayable rest);
          alone = alone_then g (IsUnwritten entries) old mid new written.alone replays.alone;
        };
        -- the record stays after the gate
        closed = on_ok_weaker result (λ made. record {
          gate = made.gate;
          found = ap (λ (l : List ℕ). journal_at (drop 1 l)) made.journal ∙ written.opened.found;
        }) replays.done;
        left = λ rest takes. passes_then (written.left rest takes) (replays.left (replayed entries (contents files)) (takes_same entries (replayed entries (contents files)) files last written.others takes)) (λ image left. left);
      }

  -- the commit failed, and so does the call that made it
  pub commits_err : (new : D) (answer result : Result (Unit {0}) DiskFault) → CommitsEntriesOver g entries old new answer → IsErr result → CommitsEntriesOver g entries old new result
  commits_err new answer result commits failed = record {
    commits = record {
      done = on_ok_never _ result failed;
      any_moment = commits.commits.any_moment;
      recoverable = commits.commits.recoverable;
      alone = commits.commits.alone;
    };
    closed = on_ok_never _ result failed;
    left = commits.left;
  }

  -- all was done, and the files were tried again
  pub commits_tried : (mid new : D) (done : Unit {0}) (result : Result (Unit {0}) DiskFault) → CommitsEntriesOver g entries old mid (Ok done) → TriesOver g entries mid new result
      → ((n : List ℕ) → IsImage (g.files new n) (g.files new n).content) → CommitsEntriesOver g entries old new result
  commits_tried mid new done result first tries own = record {
    commits = record {
      done = on_ok_weaker result (λ looks. subst (λ (f : List ℕ → FileState). IsCommitted (replayed entries (contents (g.files old))) (g.files old) f) (sym looks.same) first.commits.done) tries.ok;
      any_moment = λ rest. leaves_only (passes_then (first.commits.any_moment rest).passes tries.time
          (λ image left. inr (made_recovers (g.files mid) (first.commits.done.rest rest) first.commits.done.made image left)))
          (λ image left. inl (at_rest_recovers (g.files old) rest image (only_now image left)));
      recoverable = λ rest. inl (λ n not. still_stable (g.files mid n) (g.files new n) ((first.commits.done.rest rest).stable n) (own n) (tries.images n));
      alone = alone_then g (IsUnwritten entries) old mid new first.commits.alone (record { same = tries.others; time = passes_as tries.time (λ image left n this. left n) });
    };
    closed = on_ok_weaker result (λ looks. subst (λ (f : List ℕ → FileState). IsClosedOver entries f) (sym looks.same) first.closed) tries.ok;
    left = λ rest takes. passes_then (first.left rest takes) tries.time (rest_left (g.files mid) (first.commits.done.rest rest));
  }
