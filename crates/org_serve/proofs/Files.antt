-- The names of all files of a store.
use Rattle.std.proofs.Common.{⊎_elim, ℕ, List, [], ◌∷◌, ◌++◌, subst}
use Rattle.std.specs.List.{Contains}
use Rattle.std.proofs.lemmas.List.Elements.{Contains-append_left, Contains-push, Contains-push_cases}
use Rattle.org_disk.specs.Names.{journal_name}
use Rattle.org_fileset.specs.Names.{with_archives, AreSorted}
use Rattle.org_fileset.proofs.Elements.{cons_cases, cons_here, cons_later}
use Rattle.org_fileset.proofs.Sorted.{archives_grow}

-- names sorted before and after those of the archive files and the journal's were added
pub sorted_files : (given sorted names : List (List ℕ)) → AreSorted given sorted → AreSorted (with_archives sorted ++ journal_name ∷ []) names
    → AreSorted (journal_name ∷ with_archives given) names
sorted_files given sorted names first second = record {
  ordered = second.ordered;
  members = λ name. (
    λ h. ⊎_elim
        (λ there. cons_later journal_name (with_archives given) name (archives_grow sorted given (λ n there. (first.members n).0 there) name there))
        (λ is. subst (Contains (journal_name ∷ with_archives given)) is (cons_here journal_name (with_archives given)))
        (Contains-push_cases (with_archives sorted) journal_name name ((second.members name).0 h)),
    λ h. (second.members name).1 (⊎_elim
        (λ is. subst (Contains (with_archives sorted ++ journal_name ∷ [])) is (Contains-push (with_archives sorted) journal_name))
        (λ later. Contains-append_left (with_archives sorted) (journal_name ∷ []) name (archives_grow given sorted (λ n there. (first.members n).1 there) name later))
        (cons_cases journal_name (with_archives given) name h)),
  );
}
