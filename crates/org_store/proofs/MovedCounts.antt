-- Refiles and archivings, one after another, keep how often each node is there over all files of a
-- store, but for the sections of the entries that are archived and for the headings that are made.
use Rattle.std.proofs.Common.{◌≡◌, ◌⊎◌, inl, inr, ⊎_elim, ℕ, zero, suc, ◌+◌, ◌≤◌, ◌==◌, false, List, [], ◌∷◌, ◌++◌, length, Option, Some, None, refl, sym, ◌∙◌, ap, subst, if◌then◌else◌, arith, length-append}
use Rattle.std.proofs.lemmas.Grind.{common_steps}
use Rattle.org_disk.specs.declared.disk.Disk.{Ghosts}
use Rattle.std.specs.List.{All, AllByRecursion, IsDistinct, sum_by}
use Rattle.std.specs.Prelude.{slice_get}
use Rattle.std.specs.Str.{bytes_eq}
use Rattle.std.proofs.lemmas.Bool.{cases_Bool}
use Rattle.std.proofs.lemmas.List.Elements.{All-push}
use Rattle.std.proofs.lemmas.List.Sums.{sum_by-append}
use Rattle.std.proofs.lemmas.Option.{slice_get_within}
use Rattle.org_disk.specs.Names.{IsDiskName}
use Rattle.org_stamp.specs.Calendar.{Moment}
use Rattle.org_outline.specs.declared.steps.Step.{Step}
use Rattle.org_outline.specs.Tree.{Node, node_at, tree}
use Rattle.org_move.specs.Archive.{archived_section}
use Rattle.org_move.specs.Counts.{count_over, made_count, one_of}
use Rattle.org_move.specs.Location.{Destination}
use Rattle.org_commands.specs.declared.command.Archive.{Archive as Archiving}
use Rattle.org_commands.specs.declared.command.Command.{Command}
use Rattle.org_commands.specs.declared.command.Command.TheVariants.{Change}
use Rattle.org_commands.specs.declared.command.Change.TheVariants.{Archive}
use Rattle.org_store.specs.Calls.{Call, MakesAll, traces}
use Rattle.org_store.specs.History.{Trace, Adds, Lists}
use Rattle.org_store.specs.OnePlace.{ArchivesOne, HaveNodesButFew, IsArchiving, IsRefile, MayMove, NewSection}
use Rattle.org_commands.specs.Outcome.{IsAccepted, Accepts, outcome}
use Rattle.org_store.specs.Reopening.{AreSmall}
use Rattle.org_commands.specs.Session.{Session}
use Rattle.org_store.proofs.ArchivedCounts.{archive_keeps}
use Rattle.org_store.proofs.History.{Texts, before_end}
use Rattle.org_store.proofs.Listed.{each_at, has_calls, keeps_small}
use Rattle.org_store.proofs.OnePlace.{accepted_keeps}

-- ---- one command

-- the heading made, if there is one
abbrev lines_made : Destination → Option ℕ → List (List ℕ)
lines_made to (Some up) = []
lines_made to None = if to.level == 0 then [] else (32 ∷ to.title) ∷ []

made_sum : (rest : List ℕ) (section : List (List ℕ)) (to : Destination) (up : Option ℕ) → sum_by (λ line. one_of rest section line []) (lines_made to up) ≡ made_count rest section to up
made_sum rest section to (Some up) = refl
made_sum rest section to None = elim (cases_Bool (to.level == 0)) [ inl e ↦ rw e refl | inr e ↦ rw e (omega arith) ]

made_few : (to : Destination) (up : Option ℕ) → length (lines_made to up) ≤ 1
made_few to (Some up) = omega arith
made_few to None = elim (cases_Bool (to.level == 0)) [ inl e ↦ rw e (omega arith) | inr e ↦ rw e (omega arith) ]

archived_changes : (s : Session) (file : List ℕ) (path : List Step) (now : Moment) (files : List (List ℕ)) → ArchivesOne s file path now files → HaveNodesButFew 1 files s.files
archived_changes s file path now files a =
    let own : Node = (node_at (tree a.text) a.entry).node in
    let root : NewSection = record { rest = own.rest; old = own.section; new = archived_section s.states file now (tree a.text) a.entry } in
    record {
      roots = root ∷ [];
      made = lines_made a.to a.up;
      few_roots = omega arith;
      few_made = made_few a.to a.up;
      counts = λ rest section. omega (arith, a.counts rest section, made_sum rest section a.to a.up);
    }

accepted_changes : (s : Session) (command : Command) (files : List (List ℕ)) → IsDistinct bytes_eq s.names → AreSmall s.names s.files → IsRefile command ⊎ IsArchiving command → IsAccepted (outcome s command) files
    → HaveNodesButFew 1 files s.files
accepted_changes s command files apart small (inl is) accepts =
    record { roots = []; made = []; few_roots = omega arith; few_made = omega arith; counts = λ rest section. omega (arith, accepted_keeps s command files apart small is accepts rest section) }
accepted_changes s command files apart small (inr is) accepts =
    let it = is.0 in
    archived_changes s it.file it.path it.moment files (archive_keeps s apart small.one_each it is.1 files (subst (λ (c : Command). outcome s c ≡ Accepts accepts.0 files) is.2 accepts.1))

-- ---- commands, one after another

moved_none : (most : ℕ) (texts others : List (List ℕ)) → texts ≡ others → HaveNodesButFew most texts others
moved_none most texts others same =
    record { roots = []; made = []; few_roots = omega arith; few_made = omega arith; counts = λ rest section. omega (arith, ap (count_over rest section) same) }

then_moves : (before most : ℕ) (old mid new : List (List ℕ)) → before + 1 ≤ most → HaveNodesButFew 1 new mid → HaveNodesButFew before mid old → HaveNodesButFew most new old
then_moves before most old mid new few later first = record {
  roots = later.roots ++ first.roots;
  made = later.made ++ first.made;
  few_roots = omega (arith, few, later.few_roots, first.few_roots, length-append later.roots first.roots);
  few_made = omega (arith, later.few_made, first.few_made, length-append later.roots first.roots, length-append later.made first.made);
  counts = λ rest section. omega (
    arith,
    later.counts rest section,
    first.counts rest section,
    sum_by-append (λ (root : NewSection). one_of rest section root.rest root.old) later.roots first.roots,
    sum_by-append (λ (root : NewSection). one_of rest section root.rest root.new) later.roots first.roots,
    sum_by-append (λ (line : List ℕ). one_of rest section line []) later.made first.made,
  );
}

-- From one text of the list to a later one there are at most as many new sections as commands
-- between.
abbrev pub Moved : ℕ → Texts → Type 0
Moved base texts = (i k : ℕ) (one other : List (List ℕ)) → base ≤ i → slice_get texts i ≡ Some one → slice_get texts (i + k) ≡ Some other → HaveNodesButFew k other one

-- the last text of the list
moved_last : (base n : ℕ) (texts : Texts) (last files : List (List ℕ)) → length texts ≡ n + 1 → slice_get texts n ≡ Some last → HaveNodesButFew 1 files last → Moved base texts
    → (i k : ℕ) (one : List (List ℕ)) → base ≤ i → slice_get texts i ≡ Some one → i + k ≡ n + 1 → HaveNodesButFew k files one
moved_last base n texts last files size at_end new moved i zero one low at place = absurd (omega (arith, slice_get_within texts i one at, size, place))
moved_last base n texts last files size at_end new moved i (suc k) one low at place =
    let here : i + k ≡ n = omega (arith, place) in
    then_moves k (suc k) one last files (omega arith) new (moved i k one last low at (subst (λ (j : ℕ). slice_get texts j ≡ Some last) (sym here) at_end))

push_moved : (base n : ℕ) (texts : Texts) (last files : List (List ℕ)) → length texts ≡ n + 1 → slice_get texts n ≡ Some last → HaveNodesButFew 1 files last → Moved base texts → Moved base (texts ++ files ∷ [])
push_moved base n texts last files size at_end new moved i k one other low at later = elim (before_end texts files i one at) [
  | inl old ↦ elim (before_end texts files (i + k) other later) [
    | inl both ↦ moved i k one other low old both
    | inr end ↦
        let same = end.1 in
        subst (λ (t : List (List ℕ)). HaveNodesButFew k t one) (sym same) (moved_last base n texts last files size at_end new moved i k one low old (end.0 ∙ size))
  ]
  | inr first ↦ elim (before_end texts files (i + k) other later) [
    | inl both ↦ absurd (omega (arith, first.0, slice_get_within texts (i + k) other both))
    | inr end ↦ moved_none k other one (end.1 ∙ sym first.1)
  ]
]

-- a list that ends where it begins
moved_first : (n : ℕ) (texts : Texts) → length texts ≡ n + 1 → Moved n texts
moved_first n texts size i k one other low at later = grind (arith, common_steps, slice_get_within, moved_none)

module _ {D : Type 0} (g : Ghosts D) (first last : Trace D) (calls : List Call)
    (run : MakesAll (traces g) first calls last) (lists : Lists first.store.session first.texts) (small : All (AreSmall first.store.session.names) first.texts)
    (apart : IsDistinct bytes_eq first.store.session.names) where
  abbrev names : List (List ℕ)
  names = first.store.session.names

  abbrev base : ℕ
  base = first.store.session.accepted

  abbrev SmallMoved : Texts → Type 0
  SmallMoved texts = All (AreSmall names) texts × Moved base texts

  pub calls_move : AllByRecursion MayMove calls → Moved base last.texts
  calls_move only =
      (has_calls names SmallMoved MayMove
      (λ s command answer texts made is listed sound may accepted accepts had.
      let here = listed.files sound in
      let fits = each_at (AreSmall names) texts s.accepted s.files had.0 here in
      let new = accepted_changes s command made (subst (IsDistinct bytes_eq) (sym is) apart) (subst (λ ns. AreSmall ns s.files) (sym is) fits) (may accepted) accepts in (
        All-push (AreSmall names) texts made had.0 (keeps_small names s command made is fits accepts),
        push_moved base s.accepted texts s.files made listed.size here new had.1,
      ))
      g first last calls only run (record { same_names = refl; lists = lists; has = (small, moved_first base first.texts lists.size) })).1

-- what an archiving adds to the list
pub archive_moves : {D : Type 0} (first last : Trace D) → Lists first.store.session first.texts → IsDistinct bytes_eq first.store.session.names → (it : Archiving)
    → IsDiskName it.file → length first.store.session.files ≡ length first.store.session.names → first.store.session.broken ≡ false
    → Adds (outcome first.store.session (Change (Archive it))) first.store.session.accepted last.store.session.accepted first.texts last.texts
    → (k : ℕ) (texts : List (List ℕ)) → first.store.session.accepted ≤ k → slice_get last.texts k ≡ Some texts → (texts ≡ first.store.session.files) ⊎ ArchivesOne first.store.session it.file it.path it.moment texts
archive_moves first last lists apart it named each sound added k texts low at = ⊎_elim
    (λ none. inl (as_first (subst (λ (l : Texts). slice_get l k ≡ Some texts) none.1 at)))
    (λ one. ⊎_elim
    (λ old. inl (as_first old))
    (λ end. inr (subst (ArchivesOne first.store.session it.file it.path it.moment) (sym end.1) (archive_keeps first.store.session apart each it named one.1.0 one.1.1.1)))
    (before_end first.texts one.1.0 k texts (subst (λ (l : Texts). slice_get l k ≡ Some texts) one.1.2 at)))
    added
  where
    as_first : slice_get first.texts k ≡ Some texts → texts ≡ first.store.session.files
    as_first is =
        let place : k ≡ first.store.session.accepted = omega (arith, low, lists.size, slice_get_within first.texts k texts is) in
        let same : Some texts ≡ Some first.store.session.files = sym is ∙ (ap (slice_get first.texts) place ∙ lists.files sound) in
        cc
