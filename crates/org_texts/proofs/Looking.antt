-- Look-ups among held texts, of which one is changed, or one more is held.
use Rattle.std.proofs.Common.{◌≡◌, inl, inr, ℕ, zero, suc, ◌<◌, true, false, nat_lt, List, [], ◌∷◌, ◌++◌, length, get_or, Option, Some, None, refl, sym, ◌∙◌, ap, subst, arith}
use Rattle.std.proofs.lemmas.Grind.{common_steps}
use Rattle.std.specs.Prelude.{IsSomeAnd, slice_get}
use Rattle.std.specs.List.{IsDistinct, list_any, position, position_or_len}
use Rattle.std.specs.Map.{keys_of, lookup, values_of}
use Rattle.std.specs.Option.{is_some, option_map, IsSome}
use Rattle.std.specs.Str.{bytes_eq}
use Rattle.std.proofs.lemmas.Bool.{cases_Bool, cond-true, lt-ltb}
use Rattle.std.proofs.lemmas.List.Sums.{position_or_len_is}
use Rattle.std.proofs.lemmas.Map.Keys.{apart_from_distinct}
use Rattle.std.proofs.lemmas.Option.{get_or_from_slice_get, slice_get_within}
use Rattle.std.proofs.lemmas.Map.Made.{lookup-map_values}
use Rattle.std.proofs.lemmas.Slice.Eq.{bytes_eq-Decides}
use Rattle.org_splice.specs.Edits.{applied_each}
use Rattle.org_splice.specs.Lines.{terminated}
use Rattle.org_splice.specs.Texts.{EditedText, terminated_text, settled, spliced_each}
use Rattle.org_splice.proofs.Applying.{spliced_each-bytes}
use Rattle.org_texts.specs.declared.plan.FileEdits.{FileEdits}
use Rattle.org_texts.specs.Files.{files_terminated, files_with}
use Rattle.org_texts.specs.Plan.{CanEdit, LieIn, with_edits}
use Rattle.org_texts.specs.Texts.{TextSet, bytes_or, terminated_in, held_over, settled_set, text_of, with_change, with_text}
use Rattle.org_texts.proofs.Heads.{terminated_text-bytes}

pub not_equal : (a b : List ℕ) → (a ≡ b → ⊥) → bytes_eq a b ≡ false
not_equal a b apart = grind (arith, common_steps, cases_Bool, bytes_eq-Decides)

-- a name that stands at a place of distinct ones stands nowhere before
pub first_place : (names : List (List ℕ)) (i : ℕ) (name : List ℕ) → IsDistinct bytes_eq names → slice_get names i ≡ Some name → position (bytes_eq name) names ≡ Some i
first_place names i name distinct at =
    let within : i < length names = slice_get_within names i name at in
    let here : get_or names i [] ≡ name = get_or_from_slice_get names i name [] at in
    let before : (k : ℕ) → k < i → bytes_eq name (get_or names k []) ≡ false =
    λ k lt. not_equal name (get_or names k [])
    (λ same.
    let apart : bytes_eq (get_or names k []) (get_or names i []) ≡ false = apart_from_distinct bytes_eq names k i [] distinct lt within in
    let equal : bytes_eq (get_or names k []) (get_or names i []) ≡ true = (bytes_eq-Decides (get_or names k []) (get_or names i [])).1 (sym same ∙ sym here) in
    absurd (cc))
    in
    let first : position_or_len (bytes_eq name) names ≡ i =
    position_or_len_is (bytes_eq name) names i [] (omega (arith, within)) before (λ _. (bytes_eq-Decides name (get_or names i [])).1 (sym here)) in
    rw first (cond-true (nat_lt i (length names)) (Some i) None (lt-ltb i (length names) within))

-- the name and the value at a place
pub at_place : {X : Type 0} (es : List (List ℕ × X)) (i : ℕ) (name : List ℕ) (x : X) → slice_get es i ≡ Some (name, x) → (slice_get (keys_of es) i ≡ Some name) × (slice_get (values_of es) i ≡ Some x)
at_place [] i name x at = absurd (cc)
at_place {X = X} (e ∷ es) zero name x at = let same : e ≡ (name, x) = cc in (ap (λ (p : List ℕ × X). Some p.0) same, ap (λ (p : List ℕ × X). Some p.1) same)
at_place (e ∷ es) (suc i) name x at = at_place es i name x at

pub is_there : (names : List (List ℕ)) (i : ℕ) (name : List ℕ) → slice_get names i ≡ Some name → list_any (bytes_eq name) names ≡ true
is_there [] i name at = absurd (cc)
is_there (one ∷ names) zero name at =
    let same : name ≡ one = cc in
    rw ((bytes_eq-Decides name one).1 same) refl
is_there (one ∷ names) (suc i) name at = grind (arith, common_steps, is_there names i name at)

pub not_there : {X : Type 0} (o : Option X) → is_some o ≡ false → o ≡ None
not_there None is = refl
not_there (Some x) is = absurd (cc)

-- the value of the changed name, and that of another
pub change_this : {X : Type 0} (name : List ℕ) (f : X → X) (es : List (List ℕ × X)) → lookup (bytes_eq name) (with_change name f es) ≡ option_map f (lookup (bytes_eq name) es)
change_this name f [] = refl
change_this name f (e ∷ es) = grind (arith, common_steps, change_this name f es)

pub change_other : {X : Type 0} (name other : List ℕ) (f : X → X) (es : List (List ℕ × X)) → (name ≡ other → ⊥) → lookup (bytes_eq other) (with_change name f es) ≡ lookup (bytes_eq other) es
change_other name other f [] apart = refl
change_other name other f (e ∷ es) apart = elim (cases_Bool (bytes_eq name e.0)) [
  | inl t ↦
      let here : bytes_eq other e.0 ≡ false = not_equal other e.0 (λ same. apart ((bytes_eq-Decides name e.0).0 t ∙ sym same)) in
      rw t (rw here refl)
  | inr n ↦
      let rest = change_other name other f es apart in
      elim (cases_Bool (bytes_eq other e.0)) [
        | inl o ↦ rw n (rw o refl)
        | inr o ↦ rw n (rw o rest)
      ]
]

pub change_names : {X : Type 0} (name : List ℕ) (f : X → X) (es : List (List ℕ × X)) → keys_of (with_change name f es) ≡ keys_of es
change_names name f [] = refl
change_names name f (e ∷ es) = grind (arith, common_steps, change_names name f es)

-- a value of which something holds
pub the_value : {X : Type 0} (P : X → Type 0) (o : Option X) → IsSomeAnd o P → (x : X) × (o ≡ Some x) × P x
the_value P None is = absurd is
the_value P (Some x) is = (x, refl, is)

pub held_over-edits : (change : FileEdits) (set : TextSet) → CanEdit change set → (files : List ℕ → List ℕ) (name : List ℕ)
    → held_over (with_edits change set) files name ≡ files_with change (held_over set files) name
held_over-edits change set can files name = elim (cases_Bool (bytes_eq change.file name)) [
  | inl t ↦
      let own = change.file in
      let es = change.edits.items in
      let same : own ≡ name = (bytes_eq-Decides own name).0 t in
      let old = the_value (λ (x : EditedText). LieIn es x.bytes) (text_of set own) can in
      let new : text_of (with_edits change set) own ≡ Some (spliced_each es old.0) = change_this own (spliced_each es) set.texts ∙ ap (option_map (spliced_each es)) old.1 in
      let made : bytes_or (files own) (text_of (with_edits change set) own) ≡ applied_each es (bytes_or (files own) (text_of set own)) =
      ap (bytes_or (files own)) new ∙ spliced_each-bytes es old.0 ∙ ap (λ o. applied_each es (bytes_or (files own) o)) (sym old.1) in
      rw t (subst (λ (n : List ℕ). bytes_or (files n) (text_of (with_edits change set) n) ≡ applied_each es (bytes_or (files n) (text_of set n))) same made)
  | inr f ↦
      let apart : change.file ≡ name → ⊥ = λ same. let yes : true ≡ false = sym ((bytes_eq-Decides change.file name).1 same) ∙ f in absurd (cc) in
      rw f (ap (bytes_or (files name)) (change_other change.file name (spliced_each change.edits.items) set.texts apart))
]

pub held_over-terminated : (own : List ℕ) (set : TextSet) → IsSome (text_of set own) → (files : List ℕ → List ℕ) (name : List ℕ)
    → held_over (terminated_in own set) files name ≡ files_terminated own (held_over set files) name
held_over-terminated own set some files name = elim (cases_Bool (bytes_eq own name)) [
  | inl t ↦
      let same : own ≡ name = (bytes_eq-Decides own name).0 t in
      let new : text_of (terminated_in own set) own ≡ option_map terminated_text (text_of set own) = change_this own terminated_text set.texts in
      let made : bytes_or (files own) (text_of (terminated_in own set) own) ≡ terminated (bytes_or (files own) (text_of set own)) =
      ap (bytes_or (files own)) new ∙ of_some (text_of set own) some in
      rw t (subst (λ (n : List ℕ). bytes_or (files n) (text_of (terminated_in own set) n) ≡ terminated (bytes_or (files n) (text_of set n))) same made)
  | inr f ↦
      let apart : own ≡ name → ⊥ = λ same. let yes : true ≡ false = sym ((bytes_eq-Decides own name).1 same) ∙ f in absurd (cc) in
      rw f (ap (bytes_or (files name)) (change_other own name terminated_text set.texts apart))
]
  where
    of_some : (o : Option EditedText) → IsSome o → bytes_or (files own) (option_map terminated_text o) ≡ terminated (bytes_or (files own) o)
    of_some None is = absurd (let no : false ≡ true = is in cc)
    of_some (Some x) is = terminated_text-bytes x

-- a file that is held as it is
pub held_over-held : (own : List ℕ) (files : List ℕ → List ℕ) (set : TextSet) (name : List ℕ) → held_over (with_text own (files own) set) files name ≡ held_over set files name
held_over-held own files set name = go set.texts
  where
    go : (es : List (List ℕ × EditedText)) → bytes_or (files name) (lookup (bytes_eq name) (es ++ (own, settled (files own)) ∷ [])) ≡ bytes_or (files name) (lookup (bytes_eq name) es)
    go [] = elim (cases_Bool (bytes_eq name own)) [
      | inl t ↦ rw t (ap files (sym ((bytes_eq-Decides name own).0 t)))
      | inr f ↦ rw f refl
    ]
    go (e ∷ es) = elim (cases_Bool (bytes_eq name e.0)) [
      | inl t ↦ rw t refl
      | inr f ↦ let rest = go es in rw f rest
    ]

pub text_of-settled : (set : TextSet) (name : List ℕ) → text_of (settled_set set) name ≡ option_map (λ (t : EditedText). settled t.bytes) (text_of set name)
text_of-settled set name = lookup-map_values (λ (t : EditedText). settled t.bytes) (bytes_eq name) set.texts

pub held_over-settled : (set : TextSet) (files : List ℕ → List ℕ) (name : List ℕ) → held_over (settled_set set) files name ≡ held_over set files name
held_over-settled set files name = ap (bytes_or (files name)) (text_of-settled set name) ∙ same (text_of set name)
  where
    same : (o : Option EditedText) → bytes_or (files name) (option_map (λ (t : EditedText). settled t.bytes) o) ≡ bytes_or (files name) o
    same None = refl
    same (Some t) = refl
