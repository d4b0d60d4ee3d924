-- Names that are compared, and the names of Org files.
use Rattle.std.proofs.Common.{◌≡◌, ◌≢◌, ◌⊎◌, inl, inr, ⊎_elim, ℕ, List, true, false, refl, subst, IsTrue, IsFalse, ◌+◌, ◌-◌, length, take, sym, ◌∙◌, ap, length-append, arith}
use Rattle.std.specs.Str.{bytes_eq}
use Rattle.std.proofs.lemmas.Bool.{cases_Bool, false≢true, cond-false, cond-true}
use Rattle.std.proofs.lemmas.Bool.Decides.{not_from_Decides, Decides-eqb}
use Rattle.std.proofs.lemmas.Slice.Eq.{bytes_eq-Decides, ends_is}
use Rattle.org_disk.specs.Names.{is_file_name, is_archive_name, IsOrgFile, is_org_name, archive_name, archive_suffix, base_name, journal_name, IsDiskName}
use Rattle.std.proofs.Math.Seq.{take-append_seam}

-- two names are one or they aren't
pub name_cases : (x y : List ℕ) → ((x ≡ y) × (bytes_eq x y ≡ true)) ⊎ ((x ≢ y) × (bytes_eq x y ≡ false))
name_cases x y = ⊎_elim (λ t. inl ((bytes_eq-Decides x y).0 t, t)) (λ f. inr (not_from_Decides (bytes_eq x y) (bytes_eq-Decides x y) f, f)) (cases_Bool (bytes_eq x y))

pub same_name : (x : List ℕ) → bytes_eq x x ≡ true
same_name x = (bytes_eq-Decides x x).1 refl

-- a file name that isn't an archive file's
pub org_file : (name : List ℕ) → IsTrue (is_file_name name) → IsFalse (is_archive_name name) → IsOrgFile name
org_file name accepted plain = (plain, λ journal. false≢true (subst (λ n. IsTrue (is_file_name n)) journal accepted))

ends_so : (name : List ℕ) → is_archive_name (archive_name name) ≡ true
ends_so name = (ends_is Decides-eqb (archive_name name) archive_suffix (is_archive_name (archive_name name)) refl).1 name refl

base_of_archive : (name : List ℕ) → base_name (archive_name name) ≡ name
base_of_archive name =
    let long : length (archive_name name) ≡ length name + length archive_suffix = length-append name archive_suffix in
    let short : length (archive_name name) - length archive_suffix ≡ length name = omega (arith, long) in
    cond-true (is_archive_name (archive_name name)) (take (length (archive_name name) - length archive_suffix) (archive_name name)) (archive_name name) (ends_so name)
    ∙ ap (λ n. take n (archive_name name)) short ∙ take-append_seam name archive_suffix

-- the name of an Org file's archive file
pub archive_accepted : (name : List ℕ) → IsDiskName name → IsFalse (is_archive_name name) → name ≢ journal_name → IsTrue (is_file_name (archive_name name))
archive_accepted name disk plain apart =
    let accepted : IsTrue (is_file_name name) = ⊎_elim (λ file. file) (λ journal. absurd (apart journal)) disk in
    let base : base_name name ≡ name = cond-false (is_archive_name name) (take (length name - length archive_suffix) name) name plain in
    subst (λ n. IsTrue (is_org_name n)) (base ∙ sym (base_of_archive name)) accepted
