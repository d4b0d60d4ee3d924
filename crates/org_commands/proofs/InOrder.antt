-- Texts of files in the order of their names.
use Rattle.std.proofs.Common.{◌≡◌, ◌≢◌, inl, inr, ℕ, suc, Bool, true, false, List, [], ◌∷◌, Option, Some, None, is_some, refl, sym, ◌∙◌, ap, subst, if◌then◌else◌, arith}
use Rattle.std.specs.List.{AllByRecursion, Contains}
use Rattle.std.proofs.lemmas.Bool.{false≢true}
use Rattle.std.proofs.lemmas.Slice.Eq.{bytes_eq-Decides}
use Rattle.org_disk.specs.Names.{journal_name}
use Rattle.org_disk.proofs.Names.{name_cases}
use Rattle.org_journal.specs.Recovered.{Image, RecoversTo}
use Rattle.org_fileset.proofs.Recovers.{recovers_as}
use Rattle.org_commands.specs.InOrder.{HoldsTexts, texts_of, is_name, text_at, with_text, with_texts}

-- the text of a file, and for which names there is one
pub some_at : (files : Image) (names : List (List ℕ)) (name : List ℕ) → is_name names name ≡ true → text_at names (texts_of files names) name ≡ Some (files name)
some_at files [] name h = absurd (false≢true h)
some_at files (one ∷ names) name h = elim (name_cases one name) [
  | inl is ↦ let t = is.1 in rw t (ap (λ n. Some (files n)) is.0)
  | inr apart ↦ let f = apart.1 in let later : is_name names name ≡ true = sym (rw f refl) ∙ h in rw f (some_at files names name later)
]

pub text_there : (files : Image) (names : List (List ℕ)) (name : List ℕ) → is_name names name ≡ is_some (text_at names (texts_of files names) name)
text_there files [] name = refl
text_there files (one ∷ names) name = elim (name_cases one name) [
  | inl is ↦ let t = is.1 in rw t refl
  | inr apart ↦ let f = apart.1 in rw f (text_there files names name)
]

pub none_at : (files : Image) (names : List (List ℕ)) (name : List ℕ) → is_name names name ≡ false → text_at names (texts_of files names) name ≡ None
none_at files names name out = go (text_at names (texts_of files names) name) (sym (text_there files names name) ∙ out)
  where
    go : (o : Option (List ℕ)) → is_some o ≡ false → o ≡ None
    go None none = refl
    go (Some text) none = absurd (false≢true (sym none))

-- a name among others
pub named : (names : List (List ℕ)) (name : List ℕ) → is_name names name ≡ true → Contains names name
named [] name h = absurd (false≢true h)
named (one ∷ names) name h = elim (name_cases one name) [
  | inl is ↦ (0, omega arith, is.0)
  | inr apart ↦
      let f = apart.1 in
      let later : is_name names name ≡ true = sym (rw f refl) ∙ h in
      let at = named names name later in
      (suc at.0, omega (arith, at.1), at.2)
]

pub apart_from : (names : List (List ℕ)) → AllByRecursion (λ name. name ≢ journal_name) names → (name : List ℕ) → is_name names name ≡ true → name ≢ journal_name
apart_from [] each name there = absurd (false≢true there)
apart_from (one ∷ names) each name there = elim (name_cases one name) [
  | inl is ↦ subst (λ n. n ≢ journal_name) is.0 each.0
  | inr apart ↦ let f = apart.1 in let later : is_name names name ≡ true = sym (rw f refl) ∙ there in apart_from names each.1 name later
]

-- texts are the same where the files are
pub texts_same : (first second : Image) (names : List (List ℕ)) → ((name : List ℕ) → is_name names name ≡ true → first name ≡ second name) → texts_of first names ≡ texts_of second names
texts_same first second [] same = refl
texts_same first second (one ∷ names) same =
    let here : is_name (one ∷ names) one ≡ true = let t = (bytes_eq-Decides one one).1 refl in rw t refl in
    let later : (name : List ℕ) → is_name names name ≡ true → first name ≡ second name = λ name h. same name (one_more one names name h) in
    rw (same one here, texts_same first second names later) refl
  where
    one_more : (one : List ℕ) (names : List (List ℕ)) (name : List ℕ) → is_name names name ≡ true → is_name (one ∷ names) name ≡ true
    one_more one names name h = elim (name_cases one name) [
      | inl is ↦ let t = is.1 in rw t refl
      | inr apart ↦ let f = apart.1 in rw f h
    ]

-- the texts after one file was given a text
pub texts_with : (old new : Image) (names : List (List ℕ)) (name text : List ℕ) → new name ≡ text → ((other : List ℕ) → other ≢ name → new other ≡ old other)
    → texts_of new names ≡ with_text names (texts_of old names) name text
texts_with old new [] name text here others = refl
texts_with old new (one ∷ names) name text here others =
    let later = texts_with old new names name text here others in
    elim (name_cases one name) [
      | inl is ↦ let t = is.1 in rw (t, later) (ap (λ x. x ∷ with_text names (texts_of old names) name text) (ap new is.0 ∙ here))
      | inr apart ↦ let f = apart.1 in rw (f, later) (ap (λ x. x ∷ with_text names (texts_of old names) name text) (others one apart.0))
    ]

-- files with the texts that they have
pub own_texts : (files others : Image) (names : List (List ℕ)) (name : List ℕ) → with_texts names (texts_of files names) others name ≡ (if is_name names name then files name else others name)
own_texts files others [] name = refl
own_texts files others (one ∷ names) name = elim (name_cases one name) [
  | inl is ↦ let t = is.1 in rw t (ap files is.0)
  | inr apart ↦ let f = apart.1 in rw f (own_texts files others names name)
]

-- files that are as they were but for these names, by the texts of these
pub reported_by_texts : (names : List (List ℕ)) (new old : Image) (name : List ℕ) → (is_name names name ≡ false → new name ≡ old name) → new name ≡ with_texts names (texts_of new names) old name
reported_by_texts names new old name outside = go (is_name names name) refl ∙ sym (own_texts new old names name)
  where
    go : (b : Bool) → is_name names name ≡ b → new name ≡ (if b then new name else old name)
    go true is = refl
    go false is = outside is

pub holds_reported : (names : List (List ℕ)) (new old image : Image) → ((name : List ℕ) → is_name names name ≡ false → new name ≡ old name) → RecoversTo new image → HoldsTexts names old (texts_of new names) image
holds_reported names new old image outside = recovers_as new (with_texts names (texts_of new names) old) image (λ name not. reported_by_texts names new old name (outside name))
