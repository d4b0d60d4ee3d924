-- What an image that holds a store's texts has of each node, and what refiles make of it.
use Rattle.std.proofs.Common.{◌≡◌, inl, inr, ℕ, ◌+◌, Bool, true, false, List, [], ◌∷◌, length, Option, Some, None, Result, Ok, Err, refl, sym, ◌∙◌, ap, subst, if◌then◌else◌, arith}
use Rattle.std.specs.Prelude.{IsSomeAnd}
use Rattle.std.specs.List.{IsDistinct}
use Rattle.std.specs.List.Sorted.{IsStrictlySortedBy}
use Rattle.std.specs.Cmp.Lexicographic.{slice_cmp}
use Rattle.std.specs.Ordering.{nat_cmp, eq_by_cmp}
use Rattle.std.specs.Str.{bytes_eq}
use Rattle.std.proofs.lemmas.Bool.{cases_Bool, false≢true}
use Rattle.std.proofs.lemmas.Map.Keys.{IsDistinct-from_sorted, IsDistinct-head, IsDistinct-tail}
use Rattle.std.proofs.lemmas.Map.Text.{is_eq-slice_cmp}
use Rattle.std.proofs.lemmas.Slice.Eq.{bytes_eq-Decides}
use Rattle.org_disk.proofs.Names.{name_cases}
use Rattle.org_journal.specs.Recovered.{Image, SameFiles, recovered}
use Rattle.org_move.specs.Counts.{count_over}
use Rattle.org_commands.specs.declared.command.Command.{Command}
use Rattle.org_commands.specs.declared.command.Reply.{Reply}
use Rattle.org_commands.specs.declared.command.Reply.TheVariants.{Done, Safe, Text, Time}
use Rattle.org_commands.specs.declared.command.RunFault.{RunFault}
use Rattle.org_commands.specs.declared.command.RunFault.TheVariants.{Refused, OutOfMemory, Device, Broken}
use Rattle.org_commands.specs.InOrder.{is_name, text_at, texts_of, with_texts}
use Rattle.org_store.specs.OnePlace.{HaveSameNodes, HasNodesOf, IsSessionOf, IsRefile, MayBeAccepted, OnlyRefiles}
use Rattle.org_commands.specs.Outcome.{IsAccepted, Accepts, outcome}
use Rattle.org_store.specs.Reopening.{AreSmall}
use Rattle.org_commands.specs.Session.{Session, Holds}
use Rattle.org_commands.specs.Step.{Step, Run, done, fills, settled}
use Rattle.org_commands.proofs.InOrder.{apart_from, texts_same}
use Rattle.org_store.proofs.NodeCounts.{not_again, refile_keeps}
use Rattle.org_store.proofs.Reopening.{StaysSmall, apart_names, step_small}
use Rattle.org_store.proofs.Runs.{falls}

-- ---- the files of a store's names

pub distinct : (names : List (List ℕ)) → IsStrictlySortedBy (slice_cmp nat_cmp) names → IsDistinct bytes_eq names
distinct names sorted =
    let same : eq_by_cmp (slice_cmp nat_cmp) ≡ bytes_eq = λ i x y. is_eq-slice_cmp x y i in
    subst (λ (e : List ℕ → List ℕ → Bool). IsDistinct e names) same (IsDistinct-from_sorted (slice_cmp nat_cmp) names sorted)

pub texts_back : (names texts : List (List ℕ)) (others : Image) → IsDistinct bytes_eq names → length texts ≡ length names → texts_of (with_texts names texts others) names ≡ texts
texts_back [] [] others apart size = refl
texts_back [] (text ∷ texts) others apart size = absurd (cc)
texts_back (one ∷ names) [] others apart size = absurd (cc)
texts_back (one ∷ names) (text ∷ texts) others apart size =
    let own : bytes_eq one one ≡ true = (bytes_eq-Decides one one).1 refl in
    let other : (name : List ℕ) → is_name names name ≡ true → with_texts (one ∷ names) (text ∷ texts) others name ≡ with_texts names texts others name =
    λ name there. elim (name_cases one name) [
      | inl is ↦ absurd (false≢true (sym (subst (λ (n : List ℕ). is_name names n ≡ false) is.0 (not_again one names (IsDistinct-head bytes_eq one names apart))) ∙ there))
      | inr not ↦ let f = not.1 in rw f refl
    ] in
    let rest = texts_same (with_texts (one ∷ names) (text ∷ texts) others) (with_texts names texts others) names other
    ∙ texts_back names texts others (IsDistinct-tail bytes_eq one names apart) (omega (arith, size)) in
    rw (own, rest) refl

-- ---- what an image recovers to

over_some : {A : Type 0} (P Q : A → Type 0) (found : Option A) → ((a : A) → P a → Q a) → IsSomeAnd found P → IsSomeAnd found Q
over_some P Q None weaker has = absurd has
over_some P Q (Some a) weaker has = weaker a has

pub nodes_as : (names texts others : List (List ℕ)) (image : Image) → HaveSameNodes texts others → HasNodesOf names texts image → HasNodesOf names others image
nodes_as names texts others image same =
    over_some (λ (files : Image). HaveSameNodes (texts_of files names) texts) (λ (files : Image). HaveSameNodes (texts_of files names) others) (recovered image)
    (λ files has rest section. has rest section ∙ same rest section)

module _ (given : List (List ℕ)) (s : Session) (of : IsSessionOf given s) where
  pub names_apart : IsDistinct bytes_eq s.names
  names_apart = distinct s.names of.sorted.ordered

  pub holds_nodes : (others : Image) (texts : List (List ℕ)) (image : Image) → AreSmall s.names texts → Holds s others texts image → HasNodesOf s.names texts image
  holds_nodes others texts image small =
      let found = with_texts s.names texts others in
      over_some (λ (files : Image). SameFiles files found) (λ (files : Image). HaveSameNodes (texts_of files s.names) texts) (recovered image)
      (λ files same rest section. ap (count_over rest section)
      (texts_same files found s.names (λ name there. same name (apart_from s.names (apart_names given s.names of.org of.sorted) name there))
      ∙ texts_back s.names texts others names_apart small.one_each))

-- ---- refiles

pub accepted_keeps : (s : Session) (command : Command) (files : List (List ℕ)) → IsDistinct bytes_eq s.names → AreSmall s.names s.files → IsRefile command → IsAccepted (outcome s command) files
    → HaveSameNodes files s.files
accepted_keeps s command files apart small is accepts rest section =
    let it = is.0 in
    let reported = subst (λ (c : Command). outcome s c ≡ Accepts accepts.0 files) is.1 accepts.1 in
    refile_keeps s apart small.one_each rest section it.file it.path it.to_file it.to_path it.place (text_at s.names s.files it.file) (text_at s.names s.files it.to_file) files refl refl reported

then_keeps : (old mid new : Session) → HaveSameNodes new.files mid.files → HaveSameNodes mid.files old.files → HaveSameNodes new.files old.files
then_keeps old mid new later first rest section = later rest section ∙ first rest section

-- ---- runs, one after another

-- What a call that met no failure of the disk makes of the nodes.
abbrev pub KeepsNodes : Session → Session → Type 0
KeepsNodes old new = HaveSameNodes new.files old.files × (HaveSameNodes old.settled old.files → HaveSameNodes new.settled new.files)

keeps_none : (old new : Session) → new ≡ old → KeepsNodes old new
keeps_none old new is = subst (KeepsNodes old) (sym is) (λ rest section. refl, λ same. same)

keeps_done : (old new : Session) (command : Command) (files : List (List ℕ)) → IsDistinct bytes_eq old.names → AreSmall old.names old.files → IsRefile command
    → IsAccepted (outcome old command) files → new ≡ done old files → KeepsNodes old new
keeps_done old new command files apart small is accepts goes = subst (KeepsNodes old) (sym goes) (go (fills old))
  where
    kept : HaveSameNodes files old.files
    kept = accepted_keeps old command files apart small is accepts

    go : (full : Bool) → KeepsNodes old
        (if full then record old { files = files; settled = files; accepted = old.accepted + 1; acknowledged = old.accepted + 1 } else record old { files = files; accepted = old.accepted + 1 })
    go true = (kept, λ same rest section. refl)
    go false = (kept, λ same rest section. same rest section ∙ sym (kept rest section))

keeps_step : (old new : Session) (command : Command) (answer : Result Reply RunFault) → IsDistinct bytes_eq old.names → AreSmall old.names old.files → (MayBeAccepted answer → IsRefile command)
    → new.broken ≡ false → Step old command answer new → StaysSmall old new × KeepsNodes old new
keeps_step old new command (Ok (Done n)) apart small is whole step =
    (step_small old new command (Ok (Done n)) small whole step, keeps_done old new command step.1.0 apart small (is tt) step.1.1 step.1.3)
keeps_step old new command (Ok (Text text)) apart small is whole step = (step_small old new command (Ok (Text text)) small whole step, keeps_none old new step.2)
keeps_step old new command (Ok (Time minutes)) apart small is whole step = (step_small old new command (Ok (Time minutes)) small whole step, keeps_none old new step.2)
keeps_step old new command (Ok (Safe n)) apart small is whole step = (
  step_small old new command (Ok (Safe n)) small whole step,
  let goes : new ≡ settled old = step.3 in
      subst (KeepsNodes old) (sym goes) (λ rest section. refl, λ same rest section. refl),
)
keeps_step old new command (Err (Refused why)) apart small is whole step = (step_small old new command (Err (Refused why)) small whole step, keeps_none old new step.2)
keeps_step old new command (Err OutOfMemory) apart small is whole step = (step_small old new command (Err OutOfMemory) small whole step, keeps_none old new step.1)
keeps_step old new command (Err Device) apart small is whole step = absurd (false≢true (sym whole ∙ falls old new command step))
keeps_step old new command (Err Broken) apart small is whole step = (step_small old new command (Err Broken) small whole step, keeps_none old new step.1)

-- a store that is broken stays so
broken_stays : (old new : Session) (commands : List Command) (answers : List (Result Reply RunFault)) → old.broken ≡ true → Run old commands answers new → new.broken ≡ true
broken_stays old new [] [] fell run = ap (λ (s : Session). s.broken) run ∙ fell
broken_stays old new [] (answer ∷ answers) fell run = absurd run
broken_stays old new (command ∷ commands) [] fell run = absurd run
broken_stays old new (command ∷ commands) (answer ∷ answers) fell run = broken_stays run.0 new commands answers (one answer run.1) run.2
  where
    one : (answer : Result Reply RunFault) → Step old command answer run.0 → run.0.broken ≡ true
    one (Ok (Done n)) step = absurd (false≢true (sym step.0 ∙ fell))
    one (Ok (Text text)) step = absurd (false≢true (sym step.0 ∙ fell))
    one (Ok (Time minutes)) step = absurd (false≢true (sym step.0 ∙ fell))
    one (Ok (Safe n)) step = absurd (false≢true (sym step.0 ∙ fell))
    one (Err (Refused why)) step = absurd (false≢true (sym step.0 ∙ fell))
    one (Err OutOfMemory) step = absurd (false≢true (sym step.0 ∙ fell))
    one (Err Device) step = absurd (false≢true (sym step.0 ∙ fell))
    one (Err Broken) step = ap (λ (s : Session). s.broken) step.1 ∙ fell

pub run_keeps : (old new : Session) (commands : List Command) (answers : List (Result Reply RunFault)) → IsDistinct bytes_eq old.names → AreSmall old.names old.files → OnlyRefiles commands answers
    → new.broken ≡ false → Run old commands answers new → KeepsNodes old new
run_keeps old new [] [] apart small only whole run = keeps_none old new run
run_keeps old new [] (answer ∷ answers) apart small only whole run = absurd run
run_keeps old new (command ∷ commands) [] apart small only whole run = absurd run
run_keeps old new (command ∷ commands) (answer ∷ answers) apart small only whole run =
    let mid = run.0 in
    let unbroken : mid.broken ≡ false = elim (cases_Bool mid.broken) [
      | inl fell ↦ absurd (false≢true (sym whole ∙ broken_stays mid new commands answers fell run.2))
      | inr fine ↦ fine
    ] in
    let first = keeps_step old mid command answer apart small only.0 unbroken run.1 in
    let later = run_keeps mid new commands answers (subst (IsDistinct bytes_eq) (sym first.0.0) apart) (subst (λ names. AreSmall names mid.files) (sym first.0.0) first.0.1) only.1 whole run.2 in
    (then_keeps old mid new later.0 first.1.0, λ same. later.1 (first.1.1 same))
