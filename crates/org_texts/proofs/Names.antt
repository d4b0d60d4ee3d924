-- The texts of names, and names that are held.
use Rattle.std.proofs.Common.{◌≡◌, inl, inr, ℕ, zero, suc, ◌≤◌, Bool, true, false, List, [], ◌∷◌, ◌++◌, length, Option, Some, None, refl, sym, ◌∙◌, ap, subst, arith, map}
use Rattle.std.proofs.lemmas.Grind.{common_steps}
use Rattle.std.specs.Prelude.{slice_get, IsSomeAnd}
use Rattle.std.specs.List.{list_any}
use Rattle.std.specs.Map.{keys_of, lookup, values_of}
use Rattle.std.specs.Option.{is_some, option_map, IsSome}
use Rattle.std.specs.Str.{bytes_eq}
use Rattle.std.proofs.lemmas.Bool.{cases_Bool}
use Rattle.std.proofs.lemmas.List.Quantifiers.{position-Some}
use Rattle.std.proofs.lemmas.Map.Made.{is_some-lookup, lookup-map_values}
use Rattle.indexmap.specs.IndexMap.{set_value_at}
use Rattle.org_splice.specs.Texts.{EditedText, settled}
use Rattle.org_texts.specs.Held.{HeldText}
use Rattle.org_texts.specs.Inside.{AreAmong}
use Rattle.org_texts.specs.Texts.{TextSet, IsPlace, before_of, now_of, on_disk, ready_of, with_change, with_name}
use Rattle.org_texts.proofs.Values.{map_changed, valued}

pub found : (name : List ℕ) (es : List (List ℕ × HeldText)) (i : ℕ) (held : HeldText) → slice_get (values_of es) i ≡ lookup (bytes_eq name) es → slice_get (values_of es) i ≡ Some held
    → lookup (bytes_eq name) (map now_of es) ≡ Some held.text
found name es i held value at = lookup-map_values (λ (h : HeldText). h.text) (bytes_eq name) es ∙ ap (option_map (λ (h : HeldText). h.text)) (sym value ∙ at)

-- a name that is not found is not held
pub missing : (name : List ℕ) (es : List (List ℕ × HeldText)) → is_some (lookup (bytes_eq name) es) ≡ false → IsSome (lookup (bytes_eq name) (map now_of es)) → ⊥
missing name es none some =
    let same = lookup-map_values (λ (h : HeldText). h.text) (bytes_eq name) es in
    none_left (lookup (bytes_eq name) es) none (sym (ap is_some same) ∙ some)
  where
    none_left : (o : Option HeldText) → is_some o ≡ false → is_some (option_map (λ (h : HeldText). h.text) o) ≡ true → ⊥
    none_left None none some = absurd (cc)
    none_left (Some h) none some = absurd (cc)

-- a held name has a place
pub no_place : (name : List ℕ) (es : List (List ℕ × HeldText)) (place : Option ℕ) → IsPlace name es place → place ≡ None → IsSome (lookup (bytes_eq name) (map now_of es)) → ⊥
no_place name es place is none some = missing name es (sym is.found ∙ ap is_some none) some

-- what is held of a name shows in each of its parts
pub parts_of : (name : List ℕ) (es : List (List ℕ × HeldText)) (held : Option HeldText) → held ≡ lookup (bytes_eq name) es
    → (option_map (λ (h : HeldText). h.text) held ≡ lookup (bytes_eq name) (map now_of es))
    × (option_map (λ (h : HeldText). h.before) held ≡ lookup (bytes_eq name) (map before_of es))
    × (option_map (λ (h : HeldText). h.ready) held ≡ lookup (bytes_eq name) (map ready_of es))
parts_of name es held is = (part (λ (h : HeldText). h.text), part (λ (h : HeldText). h.before), part (λ (h : HeldText). h.ready))
  where
    part : {Y : Type 0} (p : HeldText → Y) → option_map p held ≡ lookup (bytes_eq name) (map (valued p) es)
    part p = ap (option_map p) is ∙ sym (lookup-map_values p (bytes_eq name) es)

-- a part of the text of a name is changed, at the name's place
pub changed_at : {Y : Type 0} (p : HeldText → Y) (change : Y → Y) (name : List ℕ) (es : List (List ℕ × HeldText)) (place : ℕ) (old new : HeldText) → IsPlace name es (Some place)
    → slice_get (values_of es) place ≡ Some old → p new ≡ change (p old) → map (valued p) (set_value_at es place new) ≡ with_change name change (map (valued p) es)
changed_at p change name es place old new is at made =
    let first = position-Some (bytes_eq name) (keys_of es) place [] (sym is.named) in
    map_changed p change name [] es place old new first.0 first.1 first.2 at made

-- the same texts, and the same names of dirty ones
pub same_set : {texts other : List (List ℕ × EditedText)} {dirty names : List (List ℕ)} → texts ≡ other → dirty ≡ names
    → ◌≡◌ {A = TextSet} (record { texts = texts; dirty = dirty }) (record { texts = other; dirty = names })
same_set {texts} {other} {dirty} {names} same kept = grind (arith, common_steps)

pub some_of : {X : Type 0} (P : X → Type 0) (o : Option X) → IsSomeAnd o P → IsSome o
some_of P None is = absurd is
some_of P (Some x) is = refl

pub none_of : (name : List ℕ) (es : List (List ℕ × HeldText)) → lookup (bytes_eq name) (map now_of es) ≡ None → lookup (bytes_eq name) es ≡ None
none_of name es none = left (lookup (bytes_eq name) es) (sym (lookup-map_values (λ (h : HeldText). h.text) (bytes_eq name) es) ∙ none)
  where
    left : (o : Option HeldText) → option_map (λ (h : HeldText). h.text) o ≡ None → o ≡ None
    left None none = refl
    left (Some h) none = absurd (cc)

-- a held name is one of the names
pub is_among : (name : List ℕ) (es : List (List ℕ × HeldText)) → IsSome (lookup (bytes_eq name) (map now_of es)) → list_any (bytes_eq name) (keys_of es) ≡ true
is_among name es some = elim (cases_Bool (is_some (lookup (bytes_eq name) es))) [
  | inl t ↦ sym (is_some-lookup (bytes_eq name) es) ∙ t
  | inr f ↦ absurd (missing name es f some)
]

pub any_more : (test : List ℕ → Bool) (all more : List (List ℕ)) → list_any test all ≡ true → list_any test (all ++ more) ≡ true
any_more test [] more any = absurd (cc)
any_more test (x ∷ all) more any = elim (cases_Bool (test x)) [
  | inl t ↦ rw t refl
  | inr f ↦
      let later : list_any test all ≡ true = rw f at any in
      let rest : list_any test (all ++ more) ≡ true = any_more test all more later in
      rw f rest
]

pub among_more : (all more names : List (List ℕ)) → AreAmong all names → AreAmong (all ++ more) names
among_more all more [] among = tt
among_more all more (name ∷ names) among = (any_more (bytes_eq name) all more among.0, among_more all more names among.1)

pub among_name : (all names : List (List ℕ)) (name : List ℕ) → AreAmong all names → list_any (bytes_eq name) all ≡ true → AreAmong all (with_name name names)
among_name all names name among is = grind (arith, common_steps)

pub among_at : (all names : List (List ℕ)) (i : ℕ) (name : List ℕ) → AreAmong all names → slice_get names i ≡ Some name → list_any (bytes_eq name) all ≡ true
among_at all [] i name among at = absurd (cc)
among_at all (one ∷ names) zero name among at = let same : one ≡ name = cc in subst (λ (n : List ℕ). list_any (bytes_eq n) all ≡ true) same among.0
among_at all (one ∷ names) (suc i) name among at = among_at all names i name among.1 at

pub longer : (name : List ℕ) (names : List (List ℕ)) → length names ≤ length (with_name name names)
longer name names = grind (arith, common_steps)

pub on_disk_again : (es : List (List ℕ × HeldText)) → map (λ (e : List ℕ × EditedText). (e.0, settled e.1.bytes)) (map now_of es) ≡ map on_disk es
on_disk_again [] = refl
on_disk_again (e ∷ es) = ap (λ l. on_disk e ∷ l) (on_disk_again es)
