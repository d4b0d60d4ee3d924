-- An image of a disk in memory that is made file by file.
use Rattle.std.proofs.Common.{◌≡◌, ◌≢◌, ⊎_elim, ℕ, ◌+◌, ◌≤◌, ◌++◌, List, [], ◌∷◌, length, take, Bool, true, false, cond, Vec, Option, Some, None, IsSome, IsNone, is_some, refl, sym, ◌∙◌, ap, subst, arith}
use Rattle.std.proofs.lemmas.Bool.{cases_Bool, cond-false, false≢true, true≢false}
use Rattle.std.proofs.lemmas.List.{take_all}
use Rattle.std.proofs.lemmas.Slice.Eq.{bytes_eq-Decides}
use Rattle.std.specs.declared.alloc.Global.{Global}
use Rattle.std.specs.Map.{lookup}
use Rattle.std.specs.Str.{bytes_eq}
use Rattle.indexmap.specs.IndexMap.{get}
use Rattle.org_disk.specs.Disk.{FileState, stable}
use Rattle.org_test_disks.specs.Record.{Contents}
use Rattle.org_test_disks.specs.Memory.{IsLeft, memory_files}
use Rattle.org_test_disks.specs.declared.memory.MemoryDisk.{MemoryDisk}
use Rattle.org_test_disks.proofs.Calls.{nothing_kept}

-- the image holds the first files of these contents, of each what has P
pub record IsImageSoFar (contents : Contents) (P : List ℕ → List ℕ → Type 0) (i : ℕ) (files : List ℕ → FileState) : Type 0 where
  pub stable : (name : List ℕ) → files name ≡ stable (files name).content
  pub held : (name : List ℕ) → IsSome (lookup (bytes_eq name) (take i contents.entries)) → P name (files name).content
  pub absent : (name : List ℕ) → IsNone (get bytes_eq contents name) → (files name).content ≡ []

same_name : (a b : List ℕ) → bytes_eq a b ≡ true → a ≡ b
same_name a b t = (bytes_eq-Decides a b).0 t

apart : (a b : List ℕ) → bytes_eq a b ≡ false → a ≢ b
apart a b f e = false≢true (sym f ∙ (bytes_eq-Decides a b).1 e)

-- a key of a list, one entry longer
lookup_push : (test : List ℕ → Bool) (entries : List (List ℕ × Vec ℕ Global)) (entry : List ℕ × Vec ℕ Global) → test entry.0 ≡ false → lookup test (entries ++ entry ∷ []) ≡ lookup test entries
lookup_push test [] entry f = cond-false (test entry.0) (Some entry.1) None f
lookup_push test (e ∷ entries) entry f = ap (λ (o : Option (Vec ℕ Global)). cond (test e.0) (Some e.1) o) (lookup_push test entries entry f)

module _ (contents : Contents) (P : List ℕ → List ℕ → Type 0) (i : ℕ) (old new : List ℕ → FileState) (so_far : IsImageSoFar contents P i old)
    (name : List ℕ) (content : Vec ℕ Global) (left : List ℕ)
    (more : take (i + 1) contents.entries ≡ take i contents.entries ++ (name, content) ∷ []) (has : get bytes_eq contents name ≡ Some content)
    (here : new name ≡ stable left) (others : (other : List ℕ) → other ≢ name → new other ≡ old other) (is_left : P name left) where
  content_here : (new name).content ≡ left
  content_here = ap (λ (f : FileState). f.content) here

  stays_stable : (q : List ℕ) → new q ≡ stable (new q).content
  stays_stable q = ⊎_elim
      (λ t. subst (λ (n : List ℕ). new n ≡ stable (new n).content) (sym (same_name q name t)) (here ∙ ap stable (sym content_here)))
      (λ f. subst (λ (s : FileState). s ≡ stable s.content) (sym (others q (apart q name f))) (so_far.stable q))
      (cases_Bool (bytes_eq q name))

  holds : (q : List ℕ) → IsSome (lookup (bytes_eq q) (take (i + 1) contents.entries)) → P q (new q).content
  holds q some = ⊎_elim
      (λ t. subst (λ (n : List ℕ). P n (new n).content) (sym (same_name q name t)) (subst (λ (b : List ℕ). P name b) (sym content_here) is_left))
      (λ f. subst (λ (s : FileState). P q s.content) (sym (others q (apart q name f)))
      (so_far.held q (subst (λ (o : Option (Vec ℕ Global)). IsSome o) (ap (λ (es : List (List ℕ × Vec ℕ Global)). lookup (bytes_eq q) es) more ∙ lookup_push (bytes_eq q) (take i contents.entries) (name, content) f) some)))
      (cases_Bool (bytes_eq q name))

  stays_absent : (q : List ℕ) → IsNone (get bytes_eq contents q) → (new q).content ≡ []
  stays_absent q none = ⊎_elim
      (λ t. absurd (true≢false (sym (ap is_some has) ∙ subst (λ (n : List ℕ). IsNone (get bytes_eq contents n)) (same_name q name t) none)))
      (λ f. ap (λ (s : FileState). s.content) (others q (apart q name f)) ∙ so_far.absent q none)
      (cases_Bool (bytes_eq q name))

  pub one_more : IsImageSoFar contents P (i + 1) new
  one_more = record { stable = stays_stable; held = holds; absent = stays_absent }

-- the whole image
module _ (disk : MemoryDisk) (i : ℕ) (files : List ℕ → FileState) (so_far : IsImageSoFar disk.contents (IsLeft disk) i files) (all : length disk.contents.entries ≤ i) (name : List ℕ) where
  is_kept : (o : Option (Vec ℕ Global)) → get bytes_eq disk.contents name ≡ o → IsLeft disk name (files name).content
  is_kept (Some content) is = so_far.held name
      (subst (λ (es : List (List ℕ × Vec ℕ Global)). IsSome (lookup (bytes_eq name) es)) (sym (take_all i disk.contents.entries all)) (ap is_some is))
  is_kept None is =
      let none : IsNone (get bytes_eq disk.contents name) = ap is_some is in
      let empty : (files name).content ≡ [] = so_far.absent name none in
      let content : (memory_files disk name).content ≡ [] = sym (disk.tied name) ∙ nothing_kept (get bytes_eq disk.contents name) none in
      let short : length (files name).content ≡ 0 = ap length empty in
      record {
        image = record {
          no_shorter = omega (arith, disk.absent name none);
          no_longer = omega (arith, short);
          fixed = λ i fixed. absurd (omega (arith, fixed.0, disk.absent name none));
        };
        whole = λ whole. empty ∙ sym content;
      }

  pub all_left : IsLeft disk name (files name).content
  all_left = is_kept (get bytes_eq disk.contents name) refl
