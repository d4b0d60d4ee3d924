use Rattle.std.proofs.Common.{◌≡◌, ◌∙◌, ◌++◌, ◌∷◌, ap, ap₂, refl, subst, ℕ, List, IsTrue, string_bytes}
use Rattle.std.proofs.lemmas.List.Elements.{All-append}
use Rattle.org_disk.specs.Names.{IsOrgFile}
use Rattle.org_folder.specs.Calls.{Event, OnlyLooks}
use Rattle.org_folder.specs.Calls.Event.{Alone, Locked}
use Rattle.org_folder.proofs.Looked.{looks_on, one_look}
use Rattle.org_outline.specs.States.{Keywords, are_states}
use Rattle.org_program.specs.Causes.{MayShare, NameAStore}
use Rattle.org_program.specs.Runs.{ListsNames}
use Rattle.org_program.specs.Lists.{names_in, states_in, states_of}
use Rattle.org_program.proofs.Causing.{of_folder_passed, passed_reported}
use Rattle.org_program.proofs.Files.{shared}
use Rattle.org_program.proofs.program.setup.Given.{Over}
use Rattle.org_program.proofs.program.setup.Goals as goal
use Rattle.org_program.proofs.program.setup.Goals.{In_ok-states, In_ok-hold}

-- the states are the ones that the arguments name
states : (g : Over) (c : In_ok-states g) → c.in_ok-states.states ≡ states_in c.args.arguments.now
states g c = c.in_ok-states.ensures.states ∙ ap₂ states_of c.deref.ensures c.deref-2.ensures

-- .. and with the names they are a store's
good : (g : Over) (c : In_ok-states g) → NameAStore c.args.arguments.now
good g c = (c.in_ok-names.ensures.good, subst (λ (s : Keywords). IsTrue (are_states s)) (states g c) c.in_ok-states.ensures.accepted)

pub check_files-requires : goal.check_files-requires
check_files-requires g c =
    rw (c.deref-4.ensures.value, c.in_ok-append.ensures.items) (All-append IsOrgFile _ _ c.in_ok-names.ensures.openable c.in_ok-listed_names.ensures.listed.org_files)

pub returns-in_err-absent-clause-cause : goal.returns-in_err-absent-clause-cause
returns-in_err-absent-clause-cause g c =
    let listed : List (List ℕ) = c.in_ok-listed_names.field-0.items in
    let all : c.deref-4.result.now ≡ names_in c.args.arguments.now ++ listed = c.deref-4.ensures.value ∙ c.in_ok-append.ensures.items ∙ ap (λ l. l ++ listed) c.in_ok-names.ensures.names in
    let may = subst (λ (names : List (List ℕ)). MayShare names c.in_err-absent.field-0.0) all c.in_err-absent.ensures.fault in
    passed_reported _ _ c.from_residual-in_err-absent.result c.from_residual-in_err-absent.ensures.1
    (shared c.args.arguments.now listed _ (good g (goal.at.returns-in_err-absent-clause-cause g c).In_ok-states) c.in_ok-listed_names.ensures.listed may)

-- the folder is locked and alone, and only looks were made since
locked : (g : Over) (c : In_ok-hold g) → g.S.System.history c.hold.new.system ≡ Alone ∷ Locked (string_bytes c.args.arguments.now.folder) ∷ g.S.System.history c.args.system.now
locked g c = c.in_ok-hold.ensures.alone ∙ ap (λ path. Alone ∷ Locked path ∷ g.S.System.history c.args.system.now) c.deref-3.ensures

pub returns-clause-sets_up : goal.returns-clause-sets_up
returns-clause-sets_up g c = (
  record {
    listed = c.in_ok-listed_names.field-0.items;
    listing = g.S.System.history c.listed_names.new.system;
    are_listed = c.in_ok-listed_names.ensures.listed;
    lists = subst (λ (calls : List Event). ListsNames c.args.arguments.now c.in_ok-listed_names.field-0.items calls (g.S.System.history c.listed_names.new.system)) (locked g (goal.at.returns-clause-sets_up g c).In_ok-hold) c.in_ok-listed_names.ensures.lists;
    since = c.check_files.ensures.looks;
    openable = rw c.in_ok-append.ensures.items (All-append IsOrgFile _ _ c.in_ok-names.ensures.openable c.in_ok-listed_names.ensures.listed.org_files);
    names = c.in_ok-append.ensures.items ∙ ap (λ (l : List (List ℕ)). l ++ c.in_ok-listed_names.field-0.items) c.in_ok-names.ensures.names;
    states = states g (goal.at.returns-clause-sets_up g c).In_ok-states;
    group = refl;
  },
  c.in_ok-absent.ensures.absent,
)

one : (g : Over) (c : In_ok-hold g) → OnlyLooks (g.S.System.history c.args.system.now) (g.S.System.history c.hold.new.system)
one g c = c.hold.ensures.looks

pub returns-in_err-listed_names-clause-looks : goal.returns-in_err-listed_names-clause-looks
returns-in_err-listed_names-clause-looks g c = looks_on _ _ _ (one g (goal.at.returns-in_err-listed_names-clause-looks g c).In_ok-hold) c.listed_names.ensures.looks

pub returns-in_err-append-clause-looks : goal.returns-in_err-append-clause-looks
returns-in_err-append-clause-looks g c = looks_on _ _ _ (one g (goal.at.returns-in_err-append-clause-looks g c).In_ok-hold) c.listed_names.ensures.looks

pub returns-in_err-absent-clause-looks : goal.returns-in_err-absent-clause-looks
returns-in_err-absent-clause-looks g c = looks_on _ _ _ (looks_on _ _ _ (one g (goal.at.returns-in_err-absent-clause-looks g c).In_ok-hold) c.listed_names.ensures.looks) c.check_files.ensures.looks

pub returns-clause-looks : goal.returns-clause-looks
returns-clause-looks g c = looks_on _ _ _ (looks_on _ _ _ (one g (goal.at.returns-clause-looks g c).In_ok-hold) c.listed_names.ensures.looks) c.check_files.ensures.looks

alone : (g : Over) (c : In_ok-hold g) → (new : List Event) → OnlyLooks (g.S.System.history c.hold.new.system) new → OnlyLooks (Alone ∷ Locked (string_bytes c.args.arguments.now.folder) ∷ g.S.System.history c.args.system.now) new
alone g c new looks = subst (λ (calls : List Event). OnlyLooks calls new) (locked g c) looks

pub returns-clause-alone : goal.returns-clause-alone
returns-clause-alone g c =
    alone g (goal.at.returns-clause-alone g c).In_ok-hold (g.S.System.history c.check_files.new.system)
    (looks_on _ _ _ c.listed_names.ensures.looks c.check_files.ensures.looks)

pub returns-clause-locks : goal.returns-clause-locks
returns-clause-locks g c =
    let path = string_bytes c.args.arguments.now.folder in
    let old = g.S.System.history c.args.system.now in
    looks_on (Locked path ∷ old) (Alone ∷ Locked path ∷ old) (g.S.System.history c.check_files.new.system)
    (one_look Alone (Locked path ∷ old) (Alone ∷ Locked path ∷ old) tt refl)
    (alone g (goal.at.returns-clause-locks g c).In_ok-hold (g.S.System.history c.check_files.new.system)
    (looks_on _ _ _ c.listed_names.ensures.looks c.check_files.ensures.looks))

pub returns-in_err-hold-clause-cause : goal.returns-in_err-hold-clause-cause
returns-in_err-hold-clause-cause g c =
    of_folder_passed c.args.arguments.now (good g (goal.at.returns-in_err-hold-clause-cause g c).In_ok-states) c.in_err-hold.field-0.0 c.from_residual-in_err-hold.result c.from_residual-in_err-hold.ensures.1 c.in_err-hold.ensures.fault
