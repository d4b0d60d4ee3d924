-- An image that recovers to small files is opened again.
use Rattle.std.proofs.Common.{◌≡◌, ◌≢◌, ◌⊎◌, inl, inr, ⊎_elim, ℕ, ◌+◌, ◌≤◌, nat_lt, Bool, true, false, List, [], ◌∷◌, length, Option, Some, None, Result, Ok, Err, refl, sym, ◌∙◌, ap, subst, if◌then◌else◌, arith}
use Rattle.std.specs.Prelude.{IsSomeAnd}
use Rattle.std.specs.List.{All, AllByRecursion, Contains}
use Rattle.std.specs.Str.{bytes_eq}
use Rattle.std.proofs.lemmas.Bool.{false≢true}
use Rattle.std.proofs.lemmas.Bool.Decides.{nat_tests}
use Rattle.std.proofs.lemmas.List.Elements.{All-from_recursion, recursion_from_All}
use Rattle.org_disk.specs.Names.{journal_name, IsOrgFile}
use Rattle.org_disk.proofs.Names.{name_cases}
use Rattle.org_journal.specs.Recovered.{Image, SameFiles, recovered}
use Rattle.org_fileset.specs.Names.{with_archives, AreSorted, AreFew, first_large, limit}
use Rattle.org_fileset.specs.Opening.{IsFoundOver, IsReason}
use Rattle.org_fileset.specs.declared.open.OpenFault.{OpenFault}
use Rattle.org_fileset.specs.declared.open.OpenFault.TheVariants.{TooManyFiles, BadJournal, Changed, Outside, TooLarge, Device, OutOfMemory}
use Rattle.org_fileset.proofs.Elements.{no_member, cons_cases, cons_here, cons_later}
use Rattle.org_fileset.proofs.Sorted.{all_sorted, archives_apart, archives_grow}
use Rattle.org_commands.specs.declared.command.Command.{Command}
use Rattle.org_commands.specs.declared.command.Reply.{Reply}
use Rattle.org_commands.specs.declared.command.Reply.TheVariants.{Done, Safe, Text, Time}
use Rattle.org_commands.specs.declared.command.RunFault.{RunFault}
use Rattle.org_commands.specs.declared.command.RunFault.TheVariants as run
use Rattle.org_commands.specs.InOrder.{texts_of, with_all, with_text, with_texts}
use Rattle.org_commands.specs.Session.{Session, Holds}
use Rattle.org_commands.specs.Outcome.{IsAccepted, Outcome, Accepts, Shows, Reports, AsksToSettle, Refuses, outcome}
use Rattle.org_commands.specs.Step.{Step, fills, done, settled}
use Rattle.org_store.specs.Left.{IsLeft, PutsOnDisk}
use Rattle.org_store.specs.Opening.{IsWithheld}
use Rattle.org_store.specs.Reopening.{AreSameNames, IsOpenable, AreSmall}
use Rattle.org_store.proofs.Accepted.{AreWithin, accepted_puts}
use Rattle.org_store.proofs.Runs.{falls}
use Rattle.org_store.proofs.Sortings.{few_or_many, one_sorting}

-- the first file past the limit, where files agree
same_large : (one other : Image) (names : List (List ℕ)) → AllByRecursion (λ name. name ≢ journal_name) names → SameFiles one other → first_large one names ≡ first_large other names
same_large one other [] apart same = refl
same_large one other (name ∷ names) apart same = rw (same name apart.0, same_large one other names apart.1 same) refl

-- what the disk recovered to, and what lies on it once that was brought about
agreeing : (recovered_then : Option Image) (now texts : Image) → IsSomeAnd recovered_then (SameFiles now) → IsSomeAnd recovered_then (λ found. SameFiles found texts) → SameFiles now texts
agreeing (Some found) now texts made is = λ name not. made name not ∙ is name not
agreeing None now texts made is = absurd made

pub apart_names : (given names : List (List ℕ)) → All IsOrgFile given → AreSorted (with_archives given) names → AllByRecursion (λ name. name ≢ journal_name) names
apart_names given names all sorted =
    recursion_from_All (λ name. name ≢ journal_name) names
    (all_sorted (λ name. name ≢ journal_name) (with_archives given) names sorted
    (All-from_recursion (λ name. name ≢ journal_name) (with_archives given) (archives_apart given (recursion_from_All IsOrgFile given all))))

withheld : {name : List ℕ} {image now : Image} → IsFoundOver name image now → IsFoundOver name image image
withheld found = record { opened = found.opened; entries = found.entries; found = found.found; named = found.named; same = refl }

pub only_faults : (given : List (List ℕ)) (honest : Type 0) (image now : Image) (fault : OpenFault) → All IsOrgFile given → honest → IsOpenable given image → IsReason given honest image now fault
    → (((fault ≡ OutOfMemory) ⊎ (fault ≡ Device)) ⊎ IsWithheld image fault)
only_faults given honest image now TooManyFiles all is can many = absurd (few_or_many given can.few many)
only_faults given honest image now BadJournal all is can reason =
    absurd (subst (λ (o : Option Image). IsSomeAnd o (λ found. SameFiles found can.texts)) (reason.1 is).0 can.recovers_to)
only_faults given honest image now (TooLarge name) all is can reason =
    let found = reason.1 is in
    let one_names : found.0 ≡ can.names = one_sorting (with_archives given) found.0 can.names found.1 can.sorted in
    let same : SameFiles now can.texts = agreeing (recovered image) now can.texts found.3.files can.recovers_to in
    let large : first_large can.texts can.names ≡ Some name =
    sym (same_large now can.texts can.names (apart_names given can.names all can.sorted) same) ∙ ap (first_large now) (sym one_names) ∙ found.2 in
    let small = can.small in
    absurd (cc)
only_faults given honest image now (Changed name) all is can reason = inr (withheld (reason.1 is))
only_faults given honest image now (Outside name) all is can reason = inr (withheld (reason.1 is))
only_faults given honest image now Device all is can reason = inl (inr refl)
only_faults given honest image now OutOfMemory all is can reason = inl (inl refl)

-- the fault of the disk comes with a failure
pub counted_faults : (given : List (List ℕ)) (honest Counted : Type 0) (image now : Image) (fault : OpenFault) → All IsOrgFile given → honest → IsOpenable given image
    → IsReason given honest image now fault → (fault ≡ Device → Counted) → (fault ≡ OutOfMemory) ⊎ ((fault ≡ Device) × Counted) ⊎ IsWithheld image fault
counted_faults given honest Counted image now fault all is can reason counted =
    ⊎_elim (λ transient. ⊎_elim (λ memory. inl memory) (λ device. inr (inl (device, counted device))) transient) (λ held. inr (inr held)) (only_faults given honest image now fault all is can reason)

-- the same names, put in order
in_order : (given more names : List (List ℕ)) → AreSameNames given more → AreSorted given names → AreSorted more names
in_order given more names same sorted = record {
  ordered = sorted.ordered;
  members = λ name. (λ there. (same name).0 ((sorted.members name).0 there), λ there. (sorted.members name).1 ((same name).1 there));
}

pub any_order : (given more : List (List ℕ)) (image : Image) → AreSameNames given more → IsOpenable given image → IsOpenable more image
any_order given more image same can = record {
  few = (can.few.0, in_order given more can.few.0 same can.few.1, can.few.2);
  names = can.names;
  sorted = in_order (with_archives given) (with_archives more) can.names
      (λ name. (archives_grow given more (λ one there. (same one).0 there) name, archives_grow more given (λ one there. (same one).1 there) name)) can.sorted;
  texts = can.texts;
  recovers_to = can.recovers_to;
  small = can.small;
}

-- what holds of each text holds of the file of each name
of_each : (P : List ℕ → Type 0) (names texts : List (List ℕ)) (others : Image) (name : List ℕ) → length texts ≡ length names → AllByRecursion P texts → Contains names name
    → P (with_texts names texts others name)
of_each P [] texts others name size each there = absurd (no_member name there)
of_each P (one ∷ names) [] others name size each there = absurd (omega arith)
of_each P (one ∷ names) (text ∷ texts) others name size each there = elim (name_cases one name) [
  | inl is ↦ let t = is.1 in rw t each.0
  | inr apart ↦
      let f = apart.1 in
      rw f (of_each P names texts others name (omega arith) each.1 (⊎_elim (λ e. absurd (apart.0 e)) (λ later. later) (cons_cases one names name there)))
]

none_large : (files : Image) (names : List (List ℕ)) → ((name : List ℕ) → Contains names name → length (files name) ≤ limit) → first_large files names ≡ None
none_large files [] small = refl
none_large files (name ∷ names) small =
    let here = small name (cons_here name names) in
    let within : nat_lt limit (length (files name)) ≡ false = grind (arith, nat_tests, here) in
    rw within (none_large files names (λ one there. small one (cons_later name names one there)))

pub held_opens : (given : List (List ℕ)) (s : Session) (others image : Image) (texts : List (List ℕ)) → AreFew given → AreSorted (with_archives given) s.names → AreSmall s.names texts → Holds s others texts image
    → IsOpenable given image
held_opens given s others image texts few sorted are holds = record {
  few = few;
  names = s.names;
  sorted = sorted;
  texts = with_texts s.names texts others;
  recovers_to = holds;
  small = none_large (with_texts s.names texts others) s.names
      (λ name there. of_each (λ text. length text ≤ limit) s.names texts others name are.one_each (recursion_from_All (λ text. length text ≤ limit) texts are.small) there);
}

-- the files of a store that was just opened
small_texts : (files : Image) (names : List (List ℕ)) → first_large files names ≡ None → AllByRecursion (λ text. length text ≤ limit) (texts_of files names)
small_texts files [] none = tt
small_texts files (name ∷ names) none = go (nat_lt limit (length (files name))) refl (small_texts files names)
  where
    go : (large : Bool) → nat_lt limit (length (files name)) ≡ large → (first_large files names ≡ None → AllByRecursion (λ text. length text ≤ limit) (texts_of files names))
        → (length (files name) ≤ limit) × AllByRecursion (λ text. length text ≤ limit) (texts_of files names)
    go true is rest = let first : first_large files (name ∷ names) ≡ Some name = rw is refl in absurd (cc)
    go false is rest =
        let first : first_large files (name ∷ names) ≡ first_large files names = rw is refl in
        (grind (arith, nat_tests, is), rest (sym first ∙ none))

length-texts_of : (files : Image) (names : List (List ℕ)) → length (texts_of files names) ≡ length names
length-texts_of files [] = refl
length-texts_of files (name ∷ names) = let rest = length-texts_of files names in omega (arith, rest)

pub opened_small : (files : Image) (names : List (List ℕ)) → first_large files names ≡ None → AreSmall names (texts_of files names)
opened_small files names none = record {
  one_each = length-texts_of files names;
  small = All-from_recursion (λ text. length text ≤ limit) (texts_of files names) (small_texts files names none);
}

-- one text in the place of another
length-with_text : (names texts : List (List ℕ)) (name new : List ℕ) → length texts ≡ length names → length (with_text names texts name new) ≡ length names
length-with_text [] texts name new size = refl
length-with_text (one ∷ names) [] name new size = absurd (omega arith)
length-with_text (one ∷ names) (text ∷ texts) name new size = let rest = length-with_text names texts name new (omega arith) in omega (arith, rest)

all_with : (P : List ℕ → Type 0) (names texts : List (List ℕ)) (name new : List ℕ) → P new → AllByRecursion P texts → AllByRecursion P (with_text names texts name new)
all_with P [] texts name new here each = tt
all_with P (one ∷ names) [] name new here each = tt
all_with P (one ∷ names) (text ∷ texts) name new here each = (either (bytes_eq one name), all_with P names texts name new here each.1)
  where
    either : (same : Bool) → P (if same then new else text)
    either true = here
    either false = each.0

small_with : (names texts : List (List ℕ)) (name new : List ℕ) → length new ≤ limit → AreSmall names texts → AreSmall names (with_text names texts name new)
small_with names texts name new here are = record {
  one_each = length-with_text names texts name new are.one_each;
  small = All-from_recursion (λ text. length text ≤ limit) (with_text names texts name new)
      (all_with (λ text. length text ≤ limit) names texts name new here (recursion_from_All (λ text. length text ≤ limit) texts are.small));
}

small_with_all : (names texts : List (List ℕ)) (changes : List (List ℕ × List ℕ)) → AreWithin changes → AreSmall names texts → AreSmall names (with_all names texts changes)
small_with_all names texts [] each are = are
small_with_all names texts (change ∷ changes) each are =
    small_with_all names (with_text names texts change.0 change.1) changes each.1 (small_with names texts change.0 change.1 each.0 are)

pub accepted_small : (s : Session) (command : Command) (files : List (List ℕ)) → AreSmall s.names s.files → IsAccepted (outcome s command) files → AreSmall s.names files
accepted_small s command files are accepts = let put = accepted_puts s command files accepts.1 in subst (AreSmall s.names) put.2 (small_with_all s.names s.files put.0 put.1 are)

-- what a crash leaves while a command runs
small_put : (s : Session) (outcome : Outcome) (accepted : ℕ) (texts : List (List ℕ)) → AreSmall s.names s.files → ((files : List (List ℕ)) → IsAccepted outcome files → AreSmall s.names files)
    → PutsOnDisk s outcome accepted texts → AreSmall s.names texts
small_put s (Accepts names files) accepted texts are small puts = subst (AreSmall s.names) (sym puts.0) (small files (names, refl))
small_put s AsksToSettle accepted texts are small puts = subst (AreSmall s.names) (sym puts) are
small_put s (Shows text) accepted texts are small puts = absurd puts
small_put s (Reports minutes) accepted texts are small puts = absurd puts
small_put s (Refuses why) accepted texts are small puts = absurd puts

pub left_opens : (given : List (List ℕ)) (s : Session) (others image : Image) (command : Command) (answer : Result Reply RunFault) (accepted : ℕ) → AreFew given → AreSorted (with_archives given) s.names
    → AreSmall s.names s.settled → AreSmall s.names s.files → IsLeft s others (outcome s command) answer accepted image → IsOpenable given image
left_opens given s others image command answer accepted few sorted before are left = ⊎_elim
    (λ held. held_opens given s others image s.settled few sorted before held)
    (λ put. held_opens given s others image put.1.0 few sorted (small_put s (outcome s command) accepted put.1.0 are (λ files. accepted_small s command files are) put.1.1) put.1.2)
    left

-- the texts after commands that were run one after another
abbrev pub StaysSmall : Session → Session → Type 0
StaysSmall old new = (new.names ≡ old.names) × AreSmall old.names new.files

stays_same : (old new : Session) → AreSmall old.names old.files → new ≡ old → StaysSmall old new
stays_same old new are same = subst (StaysSmall old) (sym same) (refl, are)

done_small : (old new : Session) (files : List (List ℕ)) → AreSmall old.names files → new ≡ done old files → StaysSmall old new
done_small old new files are is = subst (StaysSmall old) (sym is) (go (fills old))
  where
    go : (full : Bool) → StaysSmall old
        (if full then record old { files = files; settled = files; accepted = old.accepted + 1; acknowledged = old.accepted + 1 } else record old { files = files; accepted = old.accepted + 1 })
    go true = (refl, are)
    go false = (refl, are)

pub step_small : (old new : Session) (command : Command) (answer : Result Reply RunFault) → AreSmall old.names old.files → new.broken ≡ false → Step old command answer new → StaysSmall old new
step_small old new command (Ok (Done n)) are sound step = done_small old new step.1.0 (accepted_small old command step.1.0 are step.1.1) step.1.3
step_small old new command (Ok (Text text)) are sound step = stays_same old new are step.2
step_small old new command (Ok (Time minutes)) are sound step = stays_same old new are step.2
step_small old new command (Ok (Safe n)) are sound step = let is : new ≡ settled old = step.3 in subst (StaysSmall old) (sym is) (refl, are)
step_small old new command (Err (run.Refused why)) are sound step = stays_same old new are step.2
step_small old new command (Err run.OutOfMemory) are sound step = stays_same old new are step.1
step_small old new command (Err run.Device) are sound step = absurd (false≢true (sym sound ∙ falls old new command step))
step_small old new command (Err run.Broken) are sound step = stays_same old new are step.1
