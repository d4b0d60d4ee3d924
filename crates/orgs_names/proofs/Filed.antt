-- Headings that a name fits, one more and one file more.
use Rattle.std.proofs.Common.{◌≡◌, ℕ, zero, suc, ◌+◌, ◌<◌, ◌≤◌, Bool, true, false, cond, List, [], ◌∷◌, ◌++◌, length, take, get_or, filter, map, refl, sym, ap, ◌∙◌, arith, append_assoc}
use Rattle.std.specs.List.{range_with_len}
use Rattle.std.proofs.lemmas.Grind.{common_steps}
use Rattle.std.proofs.lemmas.List.{append-nil, map-append, map-id}
use Rattle.std.proofs.lemmas.List.FromFn.{filter_of_map_range_with_len_more}
use Rattle.org_outline.specs.Source.{Source}
use Rattle.orgs_names.specs.Called.{Called}
use Rattle.orgs_names.specs.Naming.{fitting_from, fitting_in, place_in}
use Rattle.orgs_names.specs.Ways.{fits}
use Rattle.orgs_names.specs.declared.fitting.Way.{Way}
use Rattle.orgs_names.specs.declared.naming.Place.{Place}

-- the headings of one file more
files_more : (way : Way) (name : Called) (at k : ℕ) (files : List Source) (d : Source) → k < length files
    → fitting_from way name at (take (suc k) files) ≡ fitting_from way name at (take k files) ++ fitting_in way name (at + k) (get_or files k d)
files_more way name at k [] d lt = absurd (omega arith)
files_more way name at zero (f ∷ fs) d lt =
    let same : at + zero ≡ at = omega arith in
    append-nil (fitting_in way name at f) ∙ ap (λ n. fitting_in way name n f) (sym same)
files_more way name at (suc k) (f ∷ fs) d lt =
    let next : suc at + k ≡ at + suc k = omega arith in
    ap (λ ps. fitting_in way name at f ++ ps) (files_more way name (suc at) k fs d (omega arith))
    ∙ sym (append_assoc (fitting_in way name at f) (fitting_from way name (suc at) (take k fs)) (fitting_in way name (suc at + k) (get_or fs k d)))
    ∙ ap (λ n. (fitting_in way name at f ++ fitting_from way name (suc at) (take k fs)) ++ fitting_in way name n (get_or fs k d)) next

-- the same as the code makes it
pub file_more : (way : Way) (name : Called) (k : ℕ) (files : List Source) (file : Source) (old new : List Place) → k < length files → file ≡ get_or files k file
    → old ≡ fitting_from way name 0 (take k files) → new ≡ old ++ fitting_in way name k file → new ≡ fitting_from way name 0 (take (k + 1) files)
file_more way name k files file old new lt is was made =
    let next : suc k ≡ k + 1 = omega arith in
    let here : 0 + k ≡ k = omega arith in
    made ∙ ap (λ ps. ps ++ fitting_in way name k file) was
    ∙ ap (λ (f : Source). fitting_from way name 0 (take k files) ++ fitting_in way name k f) is
    ∙ ap (λ n. fitting_from way name 0 (take k files) ++ fitting_in way name n (get_or files k file)) (sym here)
    ∙ sym (files_more way name 0 k files file lt)
    ∙ ap (λ n. fitting_from way name 0 (take n files)) next

-- one heading more that passes a test, and one that doesn't
filter_more : (p : ℕ → Bool) (n : ℕ) → filter p (range_with_len 0 (n + 1)) ≡ filter p (range_with_len 0 n) ++ cond (p n) (n ∷ []) []
filter_more p n =
    ap (filter p) (sym (map-id (range_with_len 0 (n + 1))))
    ∙ filter_of_map_range_with_len_more p (λ (x : ℕ). x) 0 n n (omega arith)
    ∙ ap (λ l. filter p l ++ cond (p n) (n ∷ []) []) (map-id (range_with_len 0 n))

pub heading_taken : (f : ℕ → Place) (p : ℕ → Bool) (n : ℕ) (base old : List Place) (x : Place) → p n ≡ true → old ≡ base ++ map f (filter p (range_with_len 0 n)) → x ≡ f n
    → old ++ x ∷ [] ≡ base ++ map f (filter p (range_with_len 0 (n + 1)))
heading_taken f p n base old x passes was is =
    let more : filter p (range_with_len 0 (n + 1)) ≡ filter p (range_with_len 0 n) ++ n ∷ [] = filter_more p n ∙ ap (λ b. filter p (range_with_len 0 n) ++ cond b (n ∷ []) []) passes in
    ap (λ ps. ps ++ x ∷ []) was
    ∙ append_assoc base (map f (filter p (range_with_len 0 n))) (x ∷ [])
    ∙ ap (λ (y : Place). base ++ (map f (filter p (range_with_len 0 n)) ++ y ∷ [])) is
    ∙ ap (λ ps. base ++ ps) (sym (map-append f (filter p (range_with_len 0 n)) (n ∷ [])))
    ∙ ap (λ is. base ++ map f is) (sym more)

pub heading_passed : (f : ℕ → Place) (p : ℕ → Bool) (n : ℕ) (base old : List Place) → p n ≡ false → old ≡ base ++ map f (filter p (range_with_len 0 n))
    → old ≡ base ++ map f (filter p (range_with_len 0 (n + 1)))
heading_passed f p n base old fails was =
    let same : filter p (range_with_len 0 (n + 1)) ≡ filter p (range_with_len 0 n) = filter_more p n ∙ ap (λ b. filter p (range_with_len 0 n) ++ cond b (n ∷ []) []) fails ∙ append-nil (filter p (range_with_len 0 n)) in
    was ∙ ap (λ is. base ++ map f is) (sym same)
