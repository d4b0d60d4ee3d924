-- A walk, one call after another.
use Rattle.std.proofs.Common.{◌≡◌, ◌≢◌, ◌≤◌, ◌<◌, ◌∙◌, ap, ap₂, ℕ, Bool, true, false, List, [], ◌∷◌, ◌++◌, length, map, take, get_or, ◌+◌, String, string_bytes, codes, IsTrue, IsFalse, IfOk, IfSome, Option, Some, None, Result, Ok, refl, sym, subst, inl, inr, ⊎_elim, arith, length-append}
use Rattle.std.specs.Prelude.{◌⊎◌, cond, filter, not, IfNone}
use Rattle.std.specs.List.{All, Contains, list_any}
use Rattle.std.proofs.lemmas.List.{append_assoc, map-append, take_more}
use Rattle.std.proofs.lemmas.List.Elements.{All-append, All-cons, All-contains, All-head, All-map, All-nil, All-tail, All-weaker, Contains-append_cases, Contains-append_left, Contains-append_right, Contains-push_cases}
use Rattle.org_disk.specs.Names.{IsOrgFile}
use Rattle.org_folder.specs.Calls.{Event, IsLook, entries_in, with_entries}
use Rattle.org_folder.specs.Calls.Event.{Entry, Listed, Folder, There, Unseen, Absent}
use Rattle.org_folder.specs.Listing.{IsLookedAt, IsOwn, IsSeen, IsTried, Lists, ListsFolder, WalksOver, Walks, can_have_files, is_node, links_in, most_files, names_in, names_of_links, node_of, nodes_in, paths_in}
use Rattle.org_folder.specs.OrgFiles.{is_org_file}
use Rattle.org_folder.specs.declared.aliases.Node.{Node}
use Rattle.org_folder.specs.declared.list.Linked.{Linked}
use Rattle.org_folder.specs.declared.list.ListFault.{ListFault}
use Rattle.org_folder.specs.declared.system.Found.{Found}

module _ {X : Type 0} where
  contains_more : (x y : X) (xs : List X) → Contains xs y → Contains (x ∷ xs) y
  contains_more x y xs is = Contains-append_right (x ∷ []) xs y is

  contains_first : (x : X) (xs : List X) → Contains (x ∷ xs) x
  contains_first x xs = (0, omega arith, refl)

  contains_cases : (x y : X) (xs : List X) → Contains (x ∷ xs) y → (x ≡ y) ⊎ Contains xs y
  contains_cases x y xs is = ⊎_elim
      (λ here. inl (All-contains (λ z. x ≡ z) (x ∷ []) y (All-cons (λ z. x ≡ z) x [] refl (All-nil (λ z. x ≡ z))) here))
      (λ there. inr there)
      (Contains-append_cases (x ∷ []) xs y is)

-- what was seen is seen after one more call too
looked_more : (event : Event) (name : List ℕ) (calls : List Event) → IsLookedAt name calls → IsLookedAt name (event ∷ calls)
looked_more event name calls (inl unseen) = inl (contains_more event (Unseen name) calls unseen)
looked_more event name calls (inr (inl absent)) = inr (inl (contains_more event (Absent name) calls absent))
looked_more event name calls (inr (inr there)) =
    inr (inr (there.0, there.1, there.2, there.3, contains_more event (There name there.0 there.1 there.2 there.3) calls there.4))

tried_more : (event : Event) (path : List ℕ) (calls : List Event) → IsTried path calls → IsTried path (event ∷ calls)
tried_more event path calls (inl foreign) = inl (contains_more event (Folder path false) calls foreign)
tried_more event path calls (inr listed) = inr (listed.0, contains_more event (Listed (path ++ codes "/") listed.0) calls listed.1)

seen_more : (event : Event) (path : List ℕ) (calls : List Event) → IsSeen path calls → IsSeen path (event ∷ calls)
seen_more event path calls seen = record {
  file = λ is. looked_more event path calls (seen.file is);
  folder = λ is can. tried_more event path calls (seen.folder is can);
}

own_more : (event : Event) (folder : List ℕ) (calls : List Event) → IsOwn folder calls → IsOwn folder (event ∷ calls)
own_more event folder calls (inl root) = inl root
own_more event folder calls (inr below) = inr (below.0, below.1, contains_more event (Folder below.0 true) calls below.2)

-- a call that lists no entry
pub walked_on : (event : Event) (names more_names : List (List ℕ)) (nodes more_nodes : List Node) (links more_links : List Linked) (todo left : List (List ℕ)) (calls : List Event)
    → IsLook event → entries_in (event ∷ calls) ≡ [] → paths_in (event ∷ calls) ≡ paths_in calls → ((folder : List ℕ) (ok : Bool) → event ≢ Listed folder ok)
    → (names ≡ names_in calls → more_names ≡ names_in (event ∷ calls)) → (nodes ≡ nodes_in calls → more_nodes ≡ nodes_in (event ∷ calls)) → (links ≡ links_in calls → more_links ≡ links_in (event ∷ calls))
    → ((path : List ℕ) → Contains todo path → Contains left path ⊎ IsSeen path (event ∷ calls))
    → WalksOver names nodes links todo calls → WalksOver more_names more_nodes more_links left (event ∷ calls)
walked_on event names more_names nodes more_nodes links more_links todo left calls look rest paths other in_names in_nodes in_links pass before = record {
  looks = All-cons IsLook event calls look before.looks;
  at_rest = rest;
  own = λ folder ok among. ⊎_elim
      (λ here. absurd (other folder ok here))
      (λ there. own_more event folder calls (before.own folder ok there))
      (contains_cases event (Listed folder ok) calls among);
  are_names = in_names before.are_names;
  are_nodes = in_nodes before.are_nodes;
  are_links = in_links before.are_links;
  seen = subst (All (λ path. Contains left path ⊎ IsSeen path (event ∷ calls))) (sym paths)
      (All-weaker (λ path. Contains todo path ⊎ IsSeen path calls) (λ path. Contains left path ⊎ IsSeen path (event ∷ calls))
      (λ path is. ⊎_elim (pass path) (λ seen. inr (seen_more event path calls seen)) is)
      (paths_in calls) before.seen);
}

-- the last path taken away
pub without_last : (event : Event) (path : List ℕ) (left : List (List ℕ)) (calls : List Event) → IsSeen path (event ∷ calls) → (other : List ℕ) → Contains (left ++ path ∷ []) other → Contains left other ⊎ IsSeen other (event ∷ calls)
without_last event path left calls seen other among = ⊎_elim
    (λ still. inl still)
    (λ same. inr (subst (λ p. IsSeen p (event ∷ calls)) same seen))
    (Contains-push_cases left path other among)

-- entries
pub with_on : (names : List (List ℕ)) (calls old : List Event) → with_entries names (calls ++ old) ≡ with_entries names calls ++ old
with_on [] calls old = refl
with_on (name ∷ names) calls old = with_on names (Entry name ∷ calls) old

with_names : (names : List (List ℕ)) (calls : List Event) → names_in (with_entries names calls) ≡ names_in calls
with_names [] calls = refl
with_names (name ∷ names) calls = with_names names (Entry name ∷ calls)

with_nodes : (names : List (List ℕ)) (calls : List Event) → nodes_in (with_entries names calls) ≡ nodes_in calls
with_nodes [] calls = refl
with_nodes (name ∷ names) calls = with_nodes names (Entry name ∷ calls)

with_links : (names : List (List ℕ)) (calls : List Event) → links_in (with_entries names calls) ≡ links_in calls
with_links [] calls = refl
with_links (name ∷ names) calls = with_links names (Entry name ∷ calls)

with_paths : (names : List (List ℕ)) (calls : List Event) → paths_in (with_entries names calls) ≡ paths_in calls
with_paths [] calls = refl
with_paths (name ∷ names) calls = with_paths names (Entry name ∷ calls)

with_looks : (names : List (List ℕ)) (calls : List Event) → All IsLook calls → All IsLook (with_entries names calls)
with_looks [] calls are = are
with_looks (name ∷ names) calls are = with_looks names (Entry name ∷ calls) (All-cons IsLook (Entry name) calls tt are)

with_contains : (names : List (List ℕ)) (event : Event) (calls : List Event) → Contains calls event → Contains (with_entries names calls) event
with_contains [] event calls is = is
with_contains (name ∷ names) event calls is = with_contains names event (Entry name ∷ calls) (contains_more (Entry name) event calls is)

with_listed : (names : List (List ℕ)) (folder : List ℕ) (ok : Bool) (calls : List Event) → Contains (with_entries names calls) (Listed folder ok) → Contains calls (Listed folder ok)
with_listed [] folder ok calls is = is
with_listed (name ∷ names) folder ok calls is = ⊎_elim
    (λ here. let bad : Entry name ≡ Listed folder ok = here in cc)
    (λ there. there)
    (contains_cases (Entry name) (Listed folder ok) calls (with_listed names folder ok (Entry name ∷ calls) is))

with_seen : (names : List (List ℕ)) (path : List ℕ) (calls : List Event) → IsSeen path calls → IsSeen path (with_entries names calls)
with_seen [] path calls seen = seen
with_seen (name ∷ names) path calls seen = with_seen names path (Entry name ∷ calls) (seen_more (Entry name) path calls seen)

with_all : (P : List ℕ → Type 0) (names : List (List ℕ)) (calls : List Event) → All P names → All P (entries_in calls) → All P (entries_in (with_entries names calls))
with_all P [] calls are before = before
with_all P (name ∷ names) calls are before =
    with_all P names (Entry name ∷ calls) (All-tail P name names are) (All-cons P name (entries_in calls) (All-head P name names are) before)

all_mapped : (f : List ℕ → List ℕ) (names : List (List ℕ)) → All (λ name. Contains (map f names) (f name)) names
all_mapped f [] = All-nil (λ name. Contains (map f []) (f name))
all_mapped f (name ∷ names) =
    All-cons (λ n. Contains (map f (name ∷ names)) (f n)) name names (contains_first (f name) (map f names))
    (All-weaker (λ n. Contains (map f names) (f n)) (λ n. Contains (map f (name ∷ names)) (f n)) (λ n is. contains_more (f name) (f n) (map f names) is) names (all_mapped f names))

own_with : (names : List (List ℕ)) (last : Event) (folder : List ℕ) (calls : List Event) → IsOwn folder calls → IsOwn folder (last ∷ with_entries names calls)
own_with names last folder calls (inl root) = inl root
own_with names last folder calls (inr below) = inr (below.0, below.1, contains_more last (Folder below.0 true) (with_entries names calls) (with_contains names (Folder below.0 true) calls below.2))

listed_own : (folder other : List ℕ) (ok fine : Bool) (calls : List Event) → Listed folder ok ≡ Listed other fine → IsOwn folder calls → IsOwn other calls
listed_own folder other ok fine calls same own =
    let names : folder ≡ other = cc in
    subst (λ (f : List ℕ). IsOwn f calls) names own

-- a folder that was listed, whose entries are still to be looked at
pub walked_in : (folder : List ℕ) (ok : Bool) (entries : List (List ℕ)) (names : List (List ℕ)) (nodes : List Node) (links : List Linked) (todo left more : List (List ℕ)) (calls : List Event)
    → more ≡ left ++ map (λ entry. folder ++ entry) entries → IsOwn folder calls
    → ((path : List ℕ) → Contains todo path → Contains left path ⊎ IsSeen path (Listed folder ok ∷ with_entries entries calls))
    → WalksOver names nodes links todo calls → WalksOver names nodes links more (Listed folder ok ∷ with_entries entries calls)
walked_in folder ok entries names nodes links todo left more calls is own pass before =
    let now : List Event = Listed folder ok ∷ with_entries entries calls in
    let P : List ℕ → Type 0 = λ (path : List ℕ). Contains more path ⊎ IsSeen path now in
    let to_do : All (λ entry. P (folder ++ entry)) entries =
    All-weaker (λ entry. Contains (map (λ entry. folder ++ entry) entries) (folder ++ entry)) (λ entry. P (folder ++ entry))
    (λ entry among. inl (subst (λ (l : List (List ℕ)). Contains l (folder ++ entry)) (sym is) (Contains-append_right left (map (λ entry. folder ++ entry) entries) (folder ++ entry) among)))
    entries (all_mapped (λ entry. folder ++ entry) entries) in
    let here : All (λ entry. P (folder ++ entry)) (entries_in (with_entries entries calls)) =
    with_all (λ entry. P (folder ++ entry)) entries calls to_do
    (subst (All (λ entry. P (folder ++ entry))) (sym before.at_rest) (All-nil (λ entry. P (folder ++ entry)))) in
    let earlier : All P (paths_in calls) =
    All-weaker (λ path. Contains todo path ⊎ IsSeen path calls) P
    (λ path was. ⊎_elim
    (λ among. ⊎_elim (λ still. inl (subst (λ (l : List (List ℕ)). Contains l path) (sym is) (Contains-append_left left (map (λ entry. folder ++ entry) entries) path still))) (λ seen. inr seen) (pass path among))
    (λ seen. inr (seen_more (Listed folder ok) path (with_entries entries calls) (with_seen entries path calls seen)))
    was)
    (paths_in calls) before.seen in
    record {
      looks = All-cons IsLook (Listed folder ok) (with_entries entries calls) tt (with_looks entries calls before.looks);
      at_rest = refl;
      own = λ other fine among. ⊎_elim
          (λ same. own_with entries (Listed folder ok) other calls (listed_own folder other ok fine calls same own))
          (λ there. own_with entries (Listed folder ok) other calls (before.own other fine (with_listed entries other fine calls there)))
          (contains_cases (Listed folder ok) (Listed other fine) (with_entries entries calls) among);
      are_names = before.are_names ∙ sym (with_names entries calls);
      are_nodes = before.are_nodes ∙ sym (with_nodes entries calls);
      are_links = before.are_links ∙ sym (with_links entries calls);
      seen = All-append P (map (λ entry. folder ++ entry) (entries_in (with_entries entries calls))) (paths_in (with_entries entries calls))
          (All-map P (λ entry. folder ++ entry) (entries_in (with_entries entries calls)) here)
          (subst (All P) (sym (with_paths entries calls)) earlier);
    }

nothing_walked : WalksOver [] [] [] [] []
nothing_walked = record {
  looks = All-nil IsLook;
  at_rest = refl;
  own = λ folder ok among. absurd (omega (arith, among.1));
  are_names = refl;
  are_nodes = refl;
  are_links = refl;
  seen = All-nil (λ path. Contains [] path ⊎ IsSeen path []);
}

-- the listing of the store's own folder
pub walk_begins : (entries more : List (List ℕ)) (old new : List Event) → new ≡ Listed [] true ∷ with_entries entries old → more ≡ [] ++ map (λ entry. [] ++ entry) entries → Walks [] [] [] more old new
walk_begins entries more old new listed is = record {
  calls = Listed [] true ∷ with_entries entries [];
  after = listed ∙ ap (λ l. Listed [] true ∷ l) (with_on entries [] old);
  root = contains_first (Listed [] true) (with_entries entries []);
  over = walked_in [] true entries [] [] [] [] [] more [] is (inl refl) (λ path none. absurd (omega (arith, none.1))) nothing_walked;
}

module _ (names : List (List ℕ)) (nodes : List Node) (links : List Linked) (left : List (List ℕ)) (path : List ℕ) (start old new : List Event) (before : Walks names nodes links (left ++ path ∷ []) start old) where
  seen_name : (event : Event) (calls : List Event) → IsTrue (is_org_file path) → IsLookedAt path (event ∷ calls) → IsSeen path (event ∷ calls)
  seen_name event calls org looked = record {
    file = λ is. looked;
    folder = λ nay can. let bad : true ≡ false = sym org ∙ nay in cc;
  }

  goes_on : (event : Event) (more_names : List (List ℕ)) (more_nodes : List Node) (more_links : List Linked) → new ≡ event ∷ old → WalksOver more_names more_nodes more_links left (event ∷ before.calls) → Walks more_names more_nodes more_links left start new
  goes_on event more_names more_nodes more_links noted over = record {
    calls = event ∷ before.calls;
    after = noted ∙ ap (λ l. event ∷ l) before.after;
    root = contains_more event (Listed [] true) before.calls before.root;
    over = over;
  }

  -- where the name of a file leads
  pub saw_other : (device number : ℕ) (plain link : Bool) → IsTrue (is_org_file path) → plain ≡ false → new ≡ There path device number plain link ∷ old → Walks names nodes links left start new
  saw_other device number plain link org nay noted =
      let event : Event = There path device number false link in
      let at : new ≡ event ∷ old = noted ∙ ap (λ (b : Bool). There path device number b link ∷ old) nay in
      goes_on event names nodes links at
      (walked_on event names names nodes nodes links links (left ++ path ∷ []) left before.calls tt refl refl (λ folder ok e. let bad : There path device number false link ≡ Listed folder ok = e in cc) (λ e. e) (λ e. e) (λ e. e)
      (without_last event path left before.calls (seen_name event before.calls org (inr (inr (device, number, false, link, contains_first event before.calls))))) before.over)

  pub saw_link : (device number : ℕ) (plain link : Bool) (more : List Linked) → IsTrue (is_org_file path) → plain ≡ true → link ≡ true → new ≡ There path device number plain link ∷ old
      → more ≡ links ++ record { name = path; node = node_of device number } ∷ [] → Walks names nodes more left start new
  saw_link device number plain link more org said is noted added =
      let event : Event = There path device number true true in
      let at : new ≡ event ∷ old = noted ∙ ap₂ (λ (b c : Bool). There path device number b c ∷ old) said is in
      goes_on event names nodes more at
      (walked_on event names names nodes nodes links more (left ++ path ∷ []) left before.calls tt refl refl (λ folder ok e. let bad : There path device number true true ≡ Listed folder ok = e in cc) (λ e. e) (λ e. e)
      (λ e. added ∙ ap (λ (l : List Linked). l ++ record { name = path; node = node_of device number } ∷ []) e)
      (without_last event path left before.calls (seen_name event before.calls org (inr (inr (device, number, true, true, contains_first event before.calls))))) before.over)

  pub saw_file : (device number : ℕ) (plain link : Bool) (more_names : List (List ℕ)) (more_nodes : List Node) → IsTrue (is_org_file path) → plain ≡ true → link ≡ false → new ≡ There path device number plain link ∷ old
      → more_names ≡ names ++ path ∷ [] → more_nodes ≡ nodes ++ node_of device number ∷ [] → Walks more_names more_nodes links left start new
  saw_file device number plain link more_names more_nodes org said nay noted named added =
      let event : Event = There path device number true false in
      let at : new ≡ event ∷ old = noted ∙ ap₂ (λ (b c : Bool). There path device number b c ∷ old) said nay in
      goes_on event more_names more_nodes links at
      (walked_on event names more_names nodes more_nodes links links (left ++ path ∷ []) left before.calls tt refl refl (λ folder ok e. let bad : There path device number true false ≡ Listed folder ok = e in cc)
      (λ e. named ∙ ap (λ (l : List (List ℕ)). l ++ path ∷ []) e) (λ e. added ∙ ap (λ (l : List Node). l ++ node_of device number ∷ []) e) (λ e. e)
      (without_last event path left before.calls (seen_name event before.calls org (inr (inr (device, number, true, false, contains_first event before.calls))))) before.over)

  pub saw_nothing : (more_names : List (List ℕ)) → IsTrue (is_org_file path) → new ≡ Absent path ∷ old → more_names ≡ names ++ path ∷ [] → Walks more_names nodes links left start new
  saw_nothing more_names org noted named =
      goes_on (Absent path) more_names nodes links noted
      (walked_on (Absent path) names more_names nodes nodes links links (left ++ path ∷ []) left before.calls tt refl refl (λ folder ok e. let bad : Absent path ≡ Listed folder ok = e in cc)
      (λ e. named ∙ ap (λ (l : List (List ℕ)). l ++ path ∷ []) e) (λ e. e) (λ e. e)
      (without_last (Absent path) path left before.calls (seen_name (Absent path) before.calls org (inr (inl (contains_first (Absent path) before.calls))))) before.over)

  pub saw_not : (more_names : List (List ℕ)) → IsTrue (is_org_file path) → new ≡ Unseen path ∷ old → more_names ≡ names ++ path ∷ [] → Walks more_names nodes links left start new
  saw_not more_names org noted named =
      goes_on (Unseen path) more_names nodes links noted
      (walked_on (Unseen path) names more_names nodes nodes links links (left ++ path ∷ []) left before.calls tt refl refl (λ folder ok e. let bad : Unseen path ≡ Listed folder ok = e in cc)
      (λ e. named ∙ ap (λ (l : List (List ℕ)). l ++ path ∷ []) e) (λ e. e) (λ e. e)
      (without_last (Unseen path) path left before.calls (seen_name (Unseen path) before.calls org (inl (contains_first (Unseen path) before.calls)))) before.over)

  -- what may be a folder
  seen_path : (event : Event) (calls : List Event) → IsFalse (is_org_file path) → IsTried path (event ∷ calls) → IsSeen path (event ∷ calls)
  seen_path event calls nay tried = record {
    file = λ org. let bad : true ≡ false = sym org ∙ nay in cc;
    folder = λ is can. tried;
  }

  pub saw_foreign : IsFalse (is_org_file path) → new ≡ Folder path false ∷ old → Walks names nodes links left start new
  saw_foreign nay noted =
      goes_on (Folder path false) names nodes links noted
      (walked_on (Folder path false) names names nodes nodes links links (left ++ path ∷ []) left before.calls tt refl refl (λ folder ok e. let bad : Folder path false ≡ Listed folder ok = e in cc) (λ e. e) (λ e. e) (λ e. e)
      (without_last (Folder path false) path left before.calls (seen_path (Folder path false) before.calls nay (inl (contains_first (Folder path false) before.calls)))) before.over)

  pub saw_neither : IsFalse (is_org_file path) → IsFalse (can_have_files path) → new ≡ old → Walks names nodes links left start new
  saw_neither nay cannot same =
      let seen : IsSeen path before.calls = record {
        file = λ org. let bad : true ≡ false = sym org ∙ nay in cc;
        folder = λ is can. let bad : true ≡ false = sym can ∙ cannot in cc;
      } in
      record {
        calls = before.calls;
        after = same ∙ before.after;
        root = before.root;
        over = record {
          looks = before.over.looks;
          at_rest = before.over.at_rest;
          own = before.over.own;
          are_names = before.over.are_names;
          are_nodes = before.over.are_nodes;
          are_links = before.over.are_links;
          seen = All-weaker (λ p. Contains (left ++ path ∷ []) p ⊎ IsSeen p before.calls) (λ p. Contains left p ⊎ IsSeen p before.calls)
              (λ p is. ⊎_elim
              (λ among. ⊎_elim (λ still. inl still) (λ here. inr (subst (λ q. IsSeen q before.calls) here seen)) (Contains-push_cases left path p among))
              (λ was. inr was) is)
              (paths_in before.calls) before.over.seen;
        };
      }

  pub saw_folder : (ok : Bool) (mid : List Event) (more : List (List ℕ)) → IsFalse (is_org_file path) → mid ≡ Folder path true ∷ old → ListsFolder (path ++ codes "/") ok left more mid new → Walks names nodes links more start new
  saw_folder ok mid more nay noted lists =
      let found : List Event = Folder path true ∷ before.calls in
      let calls : List Event = Listed (path ++ codes "/") ok ∷ with_entries lists.entries found in
      let first : WalksOver names nodes links (left ++ path ∷ []) found =
      walked_on (Folder path true) names names nodes nodes links links (left ++ path ∷ []) (left ++ path ∷ []) before.calls tt refl refl (λ folder fine e. let bad : Folder path true ≡ Listed folder fine = e in cc) (λ e. e) (λ e. e) (λ e. e) (λ p among. inl among) before.over in
      let seen : IsSeen path calls = seen_path (Listed (path ++ codes "/") ok) (with_entries lists.entries found) nay (inr (ok, contains_first (Listed (path ++ codes "/") ok) (with_entries lists.entries found))) in
      let here : mid ≡ found ++ start = noted ∙ ap (λ l. Folder path true ∷ l) before.after in
      record {
        calls = calls;
        after = lists.listed ∙ ap (λ (l : List Event). Listed (path ++ codes "/") ok ∷ with_entries lists.entries l) here ∙ ap (λ (l : List Event). Listed (path ++ codes "/") ok ∷ l) (with_on lists.entries found start);
        root = contains_more (Listed (path ++ codes "/") ok) (Listed [] true) (with_entries lists.entries found)
            (with_contains lists.entries (Listed [] true) found (contains_more (Folder path true) (Listed [] true) before.calls before.root));
        over = walked_in (path ++ codes "/") ok lists.entries names nodes links (left ++ path ∷ []) left more found lists.more (inr (path, refl, contains_first (Folder path true) before.calls))
            (λ p among. ⊎_elim (λ still. inl still) (λ same. inr (subst (λ q. IsSeen q calls) same seen)) (Contains-push_cases left path p among)) first;
      }

  -- .. in a list that has the same files
  pub went_in : (folder : List ℕ) (ok : Bool) (mid : List Event) (more_names : List (List ℕ)) (more_nodes : List Node) (more_links : List Linked) (more : List (List ℕ))
      → IsFalse (is_org_file path) → mid ≡ Folder path true ∷ old → folder ≡ path ++ codes "/" → ListsFolder folder ok left more mid new
      → more_names ≡ names → more_nodes ≡ nodes → more_links ≡ links → Walks more_names more_nodes more_links more start new
  went_in folder ok mid more_names more_nodes more_links more nay noted spelled lists named noded linked =
      let walks : Walks names nodes links more start new = saw_folder ok mid more nay noted (subst (λ (f : List ℕ). ListsFolder f ok left more mid new) spelled lists) in
      subst (λ (l : List (List ℕ)). Walks l more_nodes more_links more start new) (sym named)
      (subst (λ (l : List Node). Walks names l more_links more start new) (sym noded)
      (subst (λ (l : List Linked). Walks names nodes l more start new) (sym linked) walks))

no_member : (path : List ℕ) → Contains [] path → ⊥
no_member path among = absurd (omega (arith, among.1))

-- the end of a walk
pub walk_ends : (names : List (List ℕ)) (nodes : List Node) (links : List Linked) (todo files : List (List ℕ)) (old new : List Event) → Walks names nodes links todo old new → (todo ≡ []) ⊎ (most_files < length names) → files ≡ names ++ names_of_links nodes links → Lists files old new
walk_ends names nodes links todo files old new walks ended made = record {
  calls = walks.calls;
  after = walks.after;
  root = walks.root;
  own = walks.over.own;
  found = made ∙ ap₂ (λ (l : List (List ℕ)) (m : List (List ℕ)). l ++ m) walks.over.are_names (ap₂ names_of_links walks.over.are_nodes walks.over.are_links);
  whole = λ few. ⊎_elim
      (λ none. All-weaker (λ path. Contains todo path ⊎ IsSeen path walks.calls) (λ path. IsSeen path walks.calls)
      (λ path is. ⊎_elim (λ among. absurd (no_member path (subst (λ (l : List (List ℕ)). Contains l path) none among))) (λ seen. seen) is)
      (paths_in walks.calls) walks.over.seen)
      (λ many. absurd (omega (arith, many, few, ap length made, length-append names (names_of_links nodes links))))
      ended;
}

-- the paths of entries, one after another
module _ {Y : Type 0} (f : List ℕ → List ℕ) where
  pub paths_more : (start : List (List ℕ)) (todo more entries : List (String Y)) (i : ℕ) (entry path : String Y) → i < length entries → entry ≡ get_or entries i entry → more ≡ todo ++ path ∷ [] → string_bytes path ≡ f (string_bytes entry)
      → map string_bytes todo ≡ start ++ map f (map string_bytes (take i entries)) → map string_bytes more ≡ start ++ map f (map string_bytes (take (i + 1) entries))
  paths_more start todo more entries i entry path within is pushed spelled before =
      let front : List (List ℕ) = map f (map string_bytes (take i entries)) in
      let next : map f (map string_bytes (take (i + 1) entries)) ≡ front ++ f (string_bytes entry) ∷ [] =
      ap (λ (l : List (String Y)). map f (map string_bytes l)) (take_more entries i entry within ∙ ap (λ (e : String Y). take i entries ++ e ∷ []) (sym is))
      ∙ ap (map f) (map-append string_bytes (take i entries) (entry ∷ []))
      ∙ map-append f (map string_bytes (take i entries)) (string_bytes entry ∷ []) in
      ap (map string_bytes) pushed
      ∙ map-append string_bytes todo (path ∷ [])
      ∙ ap₂ (λ (l m : List (List ℕ)). l ++ m) before (ap (λ (b : List ℕ). b ∷ []) spelled)
      ∙ append_assoc start front (f (string_bytes entry) ∷ [])
      ∙ ap (λ (l : List (List ℕ)). start ++ l) (sym next)

pub walk_started : (names : List (List ℕ)) (nodes : List Node) (links : List Linked) (before todo : List (List ℕ)) (ok : Bool) (old new : List Event) → names ≡ [] → nodes ≡ [] → links ≡ [] → before ≡ [] → ok ≡ true → ListsFolder [] ok before todo old new → Walks names nodes links todo old new
walk_started names nodes links before todo ok old new no_names no_nodes no_links none said lists =
    let first : Walks [] [] [] todo old new =
    walk_begins lists.entries todo old new (lists.listed ∙ ap (λ (b : Bool). Listed [] b ∷ with_entries lists.entries old) said) (lists.more ∙ ap (λ (l : List (List ℕ)). l ++ map (λ entry. [] ++ entry) lists.entries) none) in
    subst (λ (l : List (List ℕ)). Walks l nodes links todo old new) (sym no_names)
    (subst (λ (l : List Node). Walks [] l links todo old new) (sym no_nodes)
    (subst (λ (l : List Linked). Walks [] [] l todo old new) (sym no_links) first))

-- what a look answered, where that is a file
pub noted_there : (name : List ℕ) (old new : List Event) (result : Result (Option Found) ListFault) (found : Found) → IfOk result (λ answer. IfSome answer (λ f. new ≡ There name f.node.device f.node.number f.is_plain f.is_link ∷ old))
    → result ≡ Ok (Some found) → new ≡ There name found.node.device found.node.number found.is_plain found.is_link ∷ old
noted_there name old new result found there is =
    subst (λ (r : Result (Option Found) ListFault). IfOk r (λ answer. IfSome answer (λ f. new ≡ There name f.node.device f.node.number f.is_plain f.is_link ∷ old))) is there

pub negated : (b : Bool) → not b ≡ true → b ≡ false
negated true is = let bad : false ≡ true = is in cc
negated false is = refl

pub not_negated : (b : Bool) → not b ≡ false → b ≡ true
not_negated true is = refl
not_negated false is = let bad : true ≡ false = is in cc

-- a text that has no name is no Org file's
pub not_named : (text : List ℕ) (result : Result (Option (List ℕ)) ListFault) → result ≡ Ok None → IfOk result (λ found. IfNone found (IsFalse (is_org_file text))) → IsFalse (is_org_file text)
not_named text result is said = subst (λ (r : Result (Option (List ℕ)) ListFault). IfOk r (λ found. IfNone found (IsFalse (is_org_file text)))) is said

-- the last path that is to be looked at
pub popped : {Y : Type 0} (todo rest : List (String Y)) (path : String Y) → todo ≡ rest ++ path ∷ [] → map string_bytes todo ≡ map string_bytes rest ++ string_bytes path ∷ []
popped todo rest path is = ap (map string_bytes) is ∙ map-append string_bytes rest (path ∷ [])

-- the names of links to other files
links_one : (nodes : List Node) (link : Linked) (links : List Linked) (here : Bool) → IsOrgFile link.name → All IsOrgFile (names_of_links nodes links)
    → All IsOrgFile (map (λ l. l.name) (cond (not here) (link ∷ filter (λ l. not (list_any (is_node l.node) nodes)) links) (filter (λ l. not (list_any (is_node l.node) nodes)) links)))
links_one nodes link links true is rest = rest
links_one nodes link links false is rest = All-cons IsOrgFile link.name (names_of_links nodes links) is rest

pub links_named : (nodes : List Node) (links : List Linked) → All (λ link. IsOrgFile link.name) links → All IsOrgFile (names_of_links nodes links)
links_named nodes [] are = All-nil IsOrgFile
links_named nodes (link ∷ links) are =
    links_one nodes link links (list_any (is_node link.node) nodes) (All-head (λ l. IsOrgFile l.name) link links are) (links_named nodes links (All-tail (λ l. IsOrgFile l.name) link links are))

-- the newest call is among the calls
pub noted_first : (event : Event) (old new : List Event) → new ≡ event ∷ old → Contains new event
noted_first event old new noted = subst (λ (l : List Event). Contains l event) (sym noted) (contains_first event old)
