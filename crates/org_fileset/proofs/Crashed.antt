-- A disk that is found after a crash, and an opening of it.
use Rattle.std.proofs.Common.{◌≡◌, ◌≢◌, inl, ⊎_elim, ℕ, List, length, Option, Some, None, refl, sym, ◌∙◌, ap, subst, arith, is_some, IsTrue}
use Rattle.std.specs.Prelude.{IsSomeAnd, slice_index}
use Rattle.org_disk.specs.Disk.{FileState, AreImages}
use Rattle.org_disk.specs.Names.{journal_name}
use Rattle.org_disk.proofs.Images.{only_image}
use Rattle.org_journal.specs.Gate.{HasClosedGate}
use Rattle.org_journal.specs.Recovered.{Image, SameFiles, RecoversTo, recovered, contents}
use Rattle.org_fileset.specs.Left.{EachIsLeft, IsLeft}
use Rattle.org_fileset.specs.Laws.{AllStable, IsFound, AreAtRest}
use Rattle.org_fileset.specs.Recovery.{RecoversAsBefore, IsReopened}
use Rattle.org_fileset.specs.Replay.{IsAtRest, IsBeforeOrAfter}
use Rattle.org_fileset.proofs.Commits.{at_rest_recovers}
use Rattle.org_fileset.proofs.Recovers.{recovers_as}

-- the one image of a disk that is all on the disk
one_image : (files : List ℕ → FileState) → AllStable files → (image : Image) → AreImages files image → contents files ≡ image
one_image files all image left j name = sym (only_image (all name) (image name) (left name)) j

-- what recovers to something
some_recovered : (o : Option Image) (P : Image → Type 0) → IsSomeAnd o P → IsTrue (is_some o)
some_recovered (Some recovered_then) P is = refl
some_recovered None P is = absurd is

-- an image recovers to files in one way
same_recovered : (o : Option Image) (one other : Image) → IsSomeAnd o (λ found. SameFiles found one) → IsSomeAnd o (λ found. SameFiles found other) → SameFiles one other
same_recovered (Some recovered_then) one other is also = λ name not. sym (is name not) ∙ also name not
same_recovered None one other is also = absurd is

is_found : (files : List ℕ → FileState) (P : Image → Type 0) → AllStable files → IsTrue (is_some (recovered (contents files))) → P (contents files) → IsFound P files
is_found files P all stand has = record {
  recoverable = inl (λ name not. all name);
  each_recovers = λ image left. subst (λ (i : Image). IsTrue (is_some (recovered i))) (one_image files all image left) stand;
  each = λ image left. subst P (one_image files all image left) has;
}

pub found_image : (texts : Image) (files : List ℕ → FileState) → AllStable files → RecoversTo texts (contents files) → IsFound (RecoversTo texts) files
found_image texts files all stand = is_found files (RecoversTo texts) all (some_recovered (recovered (contents files)) (λ (i : Image). SameFiles i texts) stand) stand

pub found_at_rest : (old files : List ℕ → FileState) → IsAtRest old → AllStable files → AreImages old (contents files)
    → AreAtRest (contents old) files × IsFound (RecoversTo (contents old)) files
found_at_rest old files rest all left =
    (record { rest = record { gate = gate; stable = all }; same = λ name not. same name }, found_image (contents old) files all (at_rest_recovers old rest (contents files) left))
  where
    same : (name : List ℕ) → contents files name ≡ contents old name
    same name = only_image (rest.stable name) (contents files name) (left name)

    long : length (contents files journal_name) ≡ length (contents old journal_name)
    long = ap length (same journal_name)

    gate : HasClosedGate (files journal_name)
    gate = record {
      nonempty = omega (arith, long, rest.gate.nonempty);
      fixed = (omega (arith, (all journal_name).least, long, rest.gate.nonempty), (all journal_name).fixed 0 (omega (arith, long, rest.gate.nonempty)));
      closed = subst (λ (j : List ℕ). slice_index j 0 ≢ 1) (sym (same journal_name)) rest.gate.closed;
    }

pub found_commit : (before after : Image) (files : List ℕ → FileState) → AllStable files → IsBeforeOrAfter before after (contents files) → IsFound (IsBeforeOrAfter before after) files
found_commit before after files all left = is_found files (IsBeforeOrAfter before after) all
    (⊎_elim (λ is. some_recovered (recovered (contents files)) (λ (i : Image). SameFiles i before) is) (λ is. some_recovered (recovered (contents files)) (λ (i : Image). SameFiles i after) is) left) left

pub found_opening : (old files : List ℕ → FileState) → AllStable files → RecoversAsBefore old (contents files) → IsFound (RecoversAsBefore old) files
found_opening old files all left = is_found files (RecoversAsBefore old) all (some_recovered (recovered (contents files)) (λ (i : Image). SameFiles i left.texts) left.recovers_now) left

pub opened_anew : (texts image : Image) (files : List ℕ → FileState) → AllStable files → RecoversTo texts (contents files) → RecoversAsBefore files image → RecoversTo texts image
opened_anew texts image files all stand left =
    let recovered_then : RecoversTo left.texts (contents files) = subst (RecoversTo left.texts) (sym (one_image files all left.start left.left)) left.recovered_then in
    recovers_as left.texts texts image (same_recovered (recovered (contents files)) left.texts texts recovered_then stand) left.recovers_now

made_of : (o : Option Image) (now texts : Image) → IsSomeAnd o (SameFiles now) → IsSomeAnd o (λ found. SameFiles found texts) → SameFiles now texts
made_of (Some recovered_then) now texts made is = λ name not. made name not ∙ is name not
made_of None now texts made is = absurd made

pub opened_whole : (texts : Image) (old new : List ℕ → FileState) → AllStable old → RecoversTo texts (contents old) → IsReopened old new → AreAtRest texts new
opened_whole texts old new all stand opened =
    let is = found_image texts old all stand in
    record { rest = opened.rest is.recoverable is.each_recovers; same = made_of (recovered (contents old)) (contents new) texts opened.recovered_then stand }

-- its only image is what lies in it
pub found_left : (files : List ℕ → FileState) → AllStable files → IsLeft (contents files) → EachIsLeft files
found_left files stable left image has = subst IsLeft (one_image files stable image has) left
