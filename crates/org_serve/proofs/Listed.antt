-- What holds of each of the texts by which a run is reported, where accepted commands keep it: they are
-- within the limit, and after refiles alone they have the same nodes.
use Rattle.std.proofs.Common.{◌≡◌, inl, inr, ⊎_elim, ℕ, ◌+◌, true, List, [], ◌∷◌, ◌++◌, Result, Ok, Err, refl, sym, ap, ◌∙◌, subst, arith}
use Rattle.org_disk.specs.declared.disk.Disk.{Ghosts}
use Rattle.std.specs.Prelude.{All}
use Rattle.std.specs.List.{AllByRecursion, IsDistinct}
use Rattle.std.specs.Str.{bytes_eq}
use Rattle.std.proofs.lemmas.Bool.{cases_Bool, false≢true}
use Rattle.std.proofs.lemmas.List.Elements.{All-cons, All-nil, All-push, recursion_from_All}
use Rattle.org_journal.specs.Recovered.{Image, contents}
use Rattle.org_fileset.specs.Names.{AreFew}
use Rattle.org_commands.specs.declared.command.Command.{Command}
use Rattle.org_commands.specs.declared.command.Reply.{Reply}
use Rattle.org_commands.specs.declared.command.Reply.TheVariants.{Done, Safe, Text, Time}
use Rattle.org_commands.specs.declared.command.RunFault.{RunFault}
use Rattle.org_commands.specs.declared.command.RunFault.TheVariants.{Refused, OutOfMemory, Device, Broken}
use Rattle.org_store.specs.History.{Trace, Adds, Lists, HoldsPrefix}
use Rattle.org_store.specs.OnePlace.{HaveSameNodes, HasNodesOf, HasNodesOfPrefix, IsSessionOf}
use Rattle.org_commands.specs.Outcome.{Accepts, AsksToSettle, IsAccepted, outcome}
use Rattle.org_store.specs.Reopening.{IsOpenable, AreSmall}
use Rattle.org_commands.specs.Session.{Session}
use Rattle.org_commands.specs.Step.{Step}
use Rattle.org_store.proofs.Accepted.{IsAnswering, question_answers}
use Rattle.org_store.proofs.Follows.{step_setting}
use Rattle.org_store.proofs.History.{Texts, lists_step}
use Rattle.org_store.proofs.Listed.{KeptNodes, each_at, keeps_nodes, keeps_small, prefix_nodes, prefix_opens, prefix_same}
use Rattle.org_store.proofs.OnePlace.{names_apart}
use Rattle.org_store.proofs.Reopening.{opened_small}
use Rattle.org_serve.specs.declared.whole.Setup.{Setup}
use Rattle.org_serve.specs.Pipes.{Exchange}
use Rattle.org_serve.specs.declared.end.ServeEnd.{ServeEnd}
use Rattle.org_fault.specs.declared.fault.Fault.{Fault}
use Rattle.org_serve.specs.declared.fault.BadLine.{BadLine}
use Rattle.org_serve.specs.History.{OnlyRefiles}
use Rattle.org_serve.specs.Serving.{Answers, AnswersRead, IsReadAs, RunsLines, traces_while_honest}
use Rattle.org_serve.specs.Whole.{ServesOver, IsIntermediate}
use Rattle.org_serve.proofs.Honest.{sound_traced, sound_traces, up_to}
use Rattle.org_serve.proofs.Places.{lists_begun}

-- a broken store stays as it is
broken_stays : (old new : Session) (command : Command) (answer : Result Reply RunFault) → Step old command answer new → old.broken ≡ true → new ≡ old
broken_stays old new command (Ok (Done n)) step fell = absurd (false≢true (sym step.0 ∙ fell))
broken_stays old new command (Ok (Text bytes)) step fell = absurd (false≢true (sym step.0 ∙ fell))
broken_stays old new command (Ok (Time minutes)) step fell = absurd (false≢true (sym step.0 ∙ fell))
broken_stays old new command (Ok (Safe n)) step fell = absurd (false≢true (sym step.0 ∙ fell))
broken_stays old new command (Err (Refused why)) step fell = absurd (false≢true (sym step.0 ∙ fell))
broken_stays old new command (Err OutOfMemory) step fell = absurd (false≢true (sym step.0 ∙ fell))
broken_stays old new command (Err Device) step fell = absurd (false≢true (sym step.0 ∙ fell))
broken_stays old new command (Err Broken) step fell = step.1

-- each of the first lines
all_first : (P : List ℕ → Type 0) (some others : List (List ℕ)) → AllByRecursion P (some ++ others) → AllByRecursion P some
all_first P [] others all = tt
all_first P (one ∷ some) others all = (all.0, all_first P some others all.1)

-- Q holds of the texts of all files after a command of a line that is allowed, where it held before
-- it.
module _ (names : List (List ℕ)) (Q : List (List ℕ) → Type 0) (Allowed : List ℕ → Type 0)
    (keeps : (s : Session) (line : List ℕ) (command : Command) (files : List (List ℕ)) → s.names ≡ names → Allowed line → IsReadAs line (Ok command) → Q s.files → IsAccepted (outcome s command) files → Q files) where
  pub record Each (s : Session) (texts : Texts) : Type 0 where
    pub same_names : s.names ≡ names
    pub lists : Lists s texts
    pub all : All Q texts

  each_step : (old new : Session) (line : List ℕ) (command : Command) (answer : Result Reply RunFault) (texts more : Texts) → Allowed line → IsReadAs line (Ok command) → Step old command answer new
      → Adds (outcome old command) old.accepted new.accepted texts more → Each old texts → Each new more
  each_step old new line command answer texts more allowed read step added each = record {
    same_names = (step_setting old new command answer step).1 ∙ each.same_names;
    lists = lists_step old new command answer texts more step added each.lists;
    all = elim added [
      | inl none ↦ subst (All Q) (sym none.1) each.all
      | inr one ↦ subst (All Q) (sym one.1.2) (All-push Q texts one.1.0 each.all (last one.1.0 one.1.1 one.0))
    ];
  }
    where
      last : (files : List (List ℕ)) → IsAccepted (outcome old command) files → new.accepted ≡ old.accepted + 1 → Q files
      last files accepts risen = elim (cases_Bool old.broken) [
        | inl fell ↦ absurd (omega (arith, risen, ap (λ (s : Session). s.accepted) (broken_stays old new command answer step fell)))
        | inr sound ↦ keeps old line command files each.same_names allowed read (each_at Q texts old.accepted old.files each.all (each.lists.files sound)) accepts
      ]

  module _ {D : Type 0} (g : Ghosts D) where
    each_read : (old : Trace D) (line : List ℕ) (read : Result Command (Fault BadLine)) (out : List ℕ) (new : Trace D) → Allowed line → IsReadAs line read
        → AnswersRead (sound_traces g) old read out new → Each old.store.session old.texts → Each new.store.session new.texts
    each_read old line (Err fault) out new allowed read ran each = subst (λ (p : Trace D). Each p.store.session p.texts) (sym ran.1) each
    each_read old line (Ok command) out new allowed read ran each =
        each_step old.store.session new.store.session line command ran.0 old.texts new.texts allowed read ran.1.0.0.step ran.1.0.1 each

    each_lines : (old new : Trace D) (lines : List (List ℕ)) (out : List ℕ) → AllByRecursion Allowed lines → Answers (sound_traces g) old lines out new
        → Each old.store.session old.texts → Each new.store.session new.texts
    each_lines old new [] out allowed a each = subst (λ (p : Trace D). Each p.store.session p.texts) (sym a.1) each
    each_lines old new (line ∷ lines) out allowed a each = each_lines a.0 new lines a.2 allowed.1 a.5 (each_read old line a.3.0 a.1 a.0 allowed.0 a.3.1 a.3.2 each)

    pub each_run : {first last : Trace D} {end : ServeEnd} {io : Exchange}
        (run : RunsLines (sound_traces g) first last end io)
        → AllByRecursion Allowed run.ran → Each first.store.session first.texts → All Q last.texts
    each_run {first} run allowed each =
        let all = (each_lines first run.mid run.ran run.out allowed run.answered each).all in
        ⊎_elim (λ same. subst (λ (p : Trace D). All Q p.texts) (sym same) all) (λ settled. subst (All Q) (sym settled.1.0.1) all) run.ends

  -- the same of an intermediate store
  module _ {D : Type 0} {g : Ghosts D}
      {setup : Setup} {disk now : D} {end : ServeEnd} {io : Exchange}
      (served : ServesOver g setup disk now end io) (allowed : AllByRecursion Allowed served.run.ran)
      (first : g.honest served.first.store.disk → Each served.first.store.session served.first.texts) where
    pub each_intermediate : (here : Trace D) → IsIntermediate served here → g.honest here.store.disk → All Q here.texts
    each_intermediate here (inl way) honestly =
        let reported = sound_traced g (up_to served.run here way) honestly in
        each_run g reported.0 (all_first Allowed way.answered way.others (subst (AllByRecursion Allowed) way.all_lines allowed)) (first reported.1)
    each_intermediate here (inr last) honestly =
        let reported = sound_traced g served.run (subst (λ (p : Trace D). g.honest p.store.disk) last honestly) in
        subst (λ (p : Trace D). All Q p.texts) (sym last) (each_run g reported.0 allowed (first reported.1))

-- Texts that are within the limit.

abbrev Any : List ℕ → Type 0
Any line = Unit {0}

any_line : (lines : List (List ℕ)) → AllByRecursion Any lines
any_line [] = tt
any_line (line ∷ lines) = (tt, any_line lines)

settles : (names files : List (List ℕ)) → AsksToSettle ≡ Accepts names files → ⊥
settles names files accepts = absurd (cc)

line_keeps : (names base : List (List ℕ)) → IsDistinct bytes_eq names → (s : Session) (line : List ℕ) (command : Command) (files : List (List ℕ)) → s.names ≡ names → OnlyRefiles line → IsReadAs line (Ok command)
    → KeptNodes names base s.files → IsAccepted (outcome s command) files → KeptNodes names base files
line_keeps names base apart s line command files same only read kept accepts = ⊎_elim
    (λ refile. keeps_nodes names base apart s command files same refile kept accepts)
    (⊎_elim
    (λ asked. absurd (subst IsAnswering (subst (λ (c : Command). outcome s c ≡ Accepts accepts.0 files) asked.1 accepts.1) (question_answers s asked.0)))
    (λ settle. absurd (settles accepts.0 files (subst (λ (c : Command). outcome s c ≡ Accepts accepts.0 files) settle accepts.1))))
    (only command read.1)

-- a run of a store that has such a list as it begins
module _ {D : Type 0} (g : Ghosts D) (given : List (List ℕ)) (first last : Trace D) {end : ServeEnd}
    {io : Exchange} (run : RunsLines (traces_while_honest g) first last end io)
    (of : IsSessionOf given first.store.session) (lists : Lists first.store.session first.texts) (small : All (AreSmall first.store.session.names) first.texts) (honestly : g.honest last.store.disk)
    (others image : Image) (least : ℕ) where
  abbrev names : List (List ℕ)
  names = first.store.session.names

  run_small : All (AreSmall names) last.texts
  run_small =
      let reported = sound_traced g run honestly in
      each_run names (AreSmall names) Any (λ s line command texts same any read. keeps_small names s command texts same) g reported.0 (any_line reported.0.ran)
      (record { same_names = refl; lists = lists; all = small })

  pub run_opens : AreFew given → HoldsPrefix first.store.session others last.texts least image → IsOpenable given image
  run_opens few = prefix_opens given first.store.session others last.texts least image few of.sorted run_small

  pub run_nodes : HoldsPrefix first.store.session others last.texts least image → HasNodesOfPrefix names last.texts least image
  run_nodes = prefix_nodes given first.store.session others last.texts least image of run_small

  pub run_same : All OnlyRefiles run.ran → All (λ texts. HaveSameNodes texts first.store.session.files) first.texts → HoldsPrefix first.store.session others last.texts least image
      → HasNodesOf names first.store.session.files image
  run_same only same =
      let base = first.store.session.files in
      let reported = sound_traced g run honestly in
      prefix_same given first.store.session others last.texts least image of
      (each_run names (KeptNodes names base) OnlyRefiles (line_keeps names base (names_apart given first.store.session of)) g reported.0 (recursion_from_All OnlyRefiles run.ran only)
      (record { same_names = refl; lists = lists; all = λ k d within. (small k d within, same k d within) }))

-- a whole run
module _ {D : Type 0} {g : Ghosts D}
    {setup : Setup} {disk now : D} {end : ServeEnd} {io : Exchange}
    (served : ServesOver g setup disk now end io) (here : Trace D) (least : ℕ) (image : Image)
    (way : IsIntermediate served here) (honestly : g.honest here.store.disk) where
  abbrev first : Session
  first = served.first.store.session

  abbrev others : Image
  others = contents (g.files served.first.store.disk)

  first_small : g.honest served.first.store.disk → AreSmall first.names first.files
  first_small began = subst (AreSmall first.names) (sym (ap (λ (s : Session). s.files) served.begins.session)) (opened_small others first.names (served.sizes began))

  first_each : (Q : List (List ℕ) → Type 0) → Q first.files → All Q served.first.texts
  first_each Q here = subst (All Q) (sym served.texts) (All-cons Q first.files [] here (All-nil Q))

  first_lists : Lists first served.first.texts
  first_lists = lists_begun served

  pub here_small : All (AreSmall first.names) here.texts
  here_small = each_intermediate first.names (AreSmall first.names) Any (λ s line command texts same any read. keeps_small first.names s command texts same) served (any_line served.run.ran)
      (λ began. record { same_names = refl; lists = first_lists; all = first_each (AreSmall first.names) (first_small began) }) here way honestly

  pub served_opens : HoldsPrefix first others here.texts least image → IsOpenable setup.names.items image
  served_opens = prefix_opens setup.names.items first others here.texts least image served.begins.few served.begins.names here_small
