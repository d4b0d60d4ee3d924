-- The names of a set's files.
use Rattle.std.proofs.Common.{◌≡◌, ◌≢◌, ◌+◌, ◌*◌, ◌≤◌, length, get_or, drop, ◌<◌, sym, ◌∙◌, length-append, ⊎_elim, ℕ, List, [], ◌∷◌, ◌++◌, refl, ap, subst, arith}
use Rattle.std.proofs.lemmas.Grind.{common_steps}
use Rattle.std.specs.List.{Contains, All, AllByRecursion}
use Rattle.std.proofs.lemmas.List.Elements.{All-contains, All-contains_itself, All-weaker, All-from_recursion, recursion_from_All}
use Rattle.std.proofs.lemmas.List.{get_or-append-add}
use Rattle.org_disk.specs.Names.{archive_name, archive_suffix, journal_name, IsOrgFile}
use Rattle.org_fileset.specs.Names.{with_archives, AreSorted, most_names, limit, first_large}
use Rattle.org_fileset.specs.Opening.{AreSetNames}
use Rattle.std.specs.Prelude.{Option, Some, None, IsSomeAnd}
use Rattle.org_disk.specs.Disk.{FileState, AreImages}
use Rattle.org_journal.specs.Recovered.{SameFiles, recovered, contents}
use Rattle.org_fileset.specs.Recovery.{RecoversAsBefore}
use Rattle.org_fileset.specs.Replay.{IsAtRest}
use Rattle.org_fileset.proofs.Commits.{at_rest_recovers}
use Rattle.org_fileset.proofs.Elements.{no_member, cons_cases, cons_here, cons_later}

pub with_archives-push : (names : List (List ℕ)) (name : List ℕ) → with_archives (names ++ name ∷ []) ≡ with_archives names ++ name ∷ archive_name name ∷ []
with_archives-push [] name = refl
with_archives-push (n ∷ names) name = ap (λ l. n ∷ archive_name n ∷ l) (with_archives-push names name)

-- what is said of each given name and of its archive file's is said of all
archives_have : (P : List ℕ → Type 0) (names : List (List ℕ)) → ((name : List ℕ) → Contains names name → P name × P (archive_name name)) → (name : List ℕ) → Contains (with_archives names) name → P name
archives_have P [] each name there = absurd (no_member name there)
archives_have P (x ∷ names) each name there = ⊎_elim
    (λ e. subst P e (each x (cons_here x names)).0)
    (λ later. ⊎_elim
    (λ e. subst P e (each x (cons_here x names)).1)
    (λ rest. archives_have P names (λ n h. each n (cons_later x names n h)) name rest)
    (cons_cases (archive_name x) (with_archives names) name later))
    (cons_cases x (archive_name x ∷ with_archives names) name there)

archives_hold : (names : List (List ℕ)) (name : List ℕ) → Contains names name → Contains (with_archives names) name × Contains (with_archives names) (archive_name name)
archives_hold [] name there = absurd (no_member name there)
archives_hold (x ∷ names) name there = ⊎_elim
    (λ e. subst (λ n. Contains (x ∷ archive_name x ∷ with_archives names) n × Contains (x ∷ archive_name x ∷ with_archives names) (archive_name n)) e (
      cons_here x (archive_name x ∷ with_archives names),
      cons_later x (archive_name x ∷ with_archives names) (archive_name x) (cons_here (archive_name x) (with_archives names)),
    ))
    (λ later.
    let both = archives_hold names name later in
    let past : (n : List ℕ) → Contains (with_archives names) n → Contains (x ∷ archive_name x ∷ with_archives names) n =
    λ n h. cons_later x (archive_name x ∷ with_archives names) n (cons_later (archive_name x) (with_archives names) n h) in
    (past name both.0, past (archive_name name) both.1))
    (cons_cases x names name there)

pub archives_grow : (names more : List (List ℕ)) → ((name : List ℕ) → Contains names name → Contains more name) → (name : List ℕ) → Contains (with_archives names) name → Contains (with_archives more) name
archives_grow names more grows = archives_have (Contains (with_archives more)) names (λ name there. archives_hold more name (grows name there))

-- names sorted before and after those of the archive files were added
pub sorted_archives : (given sorted names : List (List ℕ)) → AreSorted given sorted → AreSorted (with_archives sorted) names → AreSorted (with_archives given) names
sorted_archives given sorted names first second = record {
  ordered = second.ordered;
  members = λ name. (
    λ h. archives_grow sorted given (λ n there. (first.members n).0 there) name ((second.members name).0 h),
    λ h. (second.members name).1 (archives_grow given sorted (λ n there. (first.members n).1 there) name h),
  );
}

-- what holds of all given names holds of all sorted ones
pub all_sorted : (P : List ℕ → Type 0) (given sorted : List (List ℕ)) → AreSorted given sorted → All P given → All P sorted
all_sorted P given sorted is all = All-weaker (Contains sorted) P (λ name there. All-contains P given name all ((is.members name).0 there)) sorted (All-contains_itself sorted)

-- an archive file's name isn't the journal's
archive_apart : (name : List ℕ) → archive_name name ≢ journal_name
archive_apart name same =
    let size : length name + 8 ≡ 16 = sym (length-append name archive_suffix) ∙ ap length same in
    let byte : get_or (archive_name name) (length name + 7) 0 ≡ 101 = get_or-append-add name archive_suffix 7 0 in
    let place : length name + 7 ≡ 15 = omega arith in
    let other : get_or journal_name 15 0 ≡ 101 = sym (ap (λ (l : List ℕ). get_or l (length name + 7) 0) same ∙ ap (λ (i : ℕ). get_or journal_name i 0) place) ∙ byte in
    absurd (omega arith)

pub archives_apart : (names : List (List ℕ)) → AllByRecursion IsOrgFile names → AllByRecursion (λ name. name ≢ journal_name) (with_archives names)
archives_apart [] given = tt
archives_apart (name ∷ names) given = (given.0.1, (archive_apart name, archives_apart names given.1))

pub length-with_archives : (names : List (List ℕ)) → length (with_archives names) ≡ 2 * length names
length-with_archives [] = refl
length-with_archives (name ∷ names) = let rest = length-with_archives names in omega (arith, rest)

-- the names of a set: sorted ones of few given ones
pub set_names : (given sorted names : List (List ℕ)) → AreSorted given sorted → length sorted ≤ most_names → All IsOrgFile given → AreSorted (with_archives sorted) names
    → length names ≤ length (with_archives sorted) → AreSetNames names
set_names given sorted names first few all second shorter = record {
  each = recursion_from_All (λ name. name ≢ journal_name) names
      (all_sorted (λ name. name ≢ journal_name) (with_archives sorted) names second
      (All-from_recursion (λ name. name ≢ journal_name) (with_archives sorted) (archives_apart sorted (recursion_from_All IsOrgFile sorted (all_sorted IsOrgFile given sorted first all)))));
  few = omega (arith, shorter, few, length-with_archives sorted);
}

-- a file within the limit isn't the first one past it
pub first_large-next : (files : List ℕ → List ℕ) (names : List (List ℕ)) (i : ℕ) (name : List ℕ) → i < length names → name ≡ get_or names i name → length (files name) ≤ limit
    → first_large files (drop (i + 1) names) ≡ first_large files (drop i names)
first_large-next files names i name within is small = grind (arith, common_steps)

flipped : (o : Option (List ℕ → List ℕ)) (files : List ℕ → List ℕ) → IsSomeAnd o (SameFiles files) → IsSomeAnd o (λ found. SameFiles found files)
flipped (Some found) files same = λ name not. sym (same name not)
flipped None files same = same

-- where a record was brought to its end, what is left recovers to what the files recovered to
pub left_after : (old now : List ℕ → FileState) → AreImages old (contents old) → IsSomeAnd (recovered (contents old)) (SameFiles (contents now)) → IsAtRest now → (image : List ℕ → List ℕ) → AreImages now image → RecoversAsBefore old image
left_after old now own found rest image left = grind (arith, common_steps, contents, flipped, at_rest_recovers)
