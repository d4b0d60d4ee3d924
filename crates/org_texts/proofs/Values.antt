-- Values by name, of which one is changed.
use Rattle.std.proofs.Common.{◌≡◌, ◌≢◌, ℕ, zero, suc, ◌+◌, ◌<◌, ◌≤◌, true, false, List, [], ◌∷◌, ◌++◌, length, get_or, Some, refl, sym, ◌∙◌, ap, arith, map, eq-eqb}
use Rattle.std.proofs.lemmas.Grind.{common_steps}
use Rattle.std.specs.Prelude.{slice_get}
use Rattle.std.specs.Map.{keys_of, values_of}
use Rattle.std.specs.Str.{bytes_eq}
use Rattle.indexmap.specs.IndexMap.{set_value_at}
use Rattle.std.proofs.lemmas.Bool.{cases_Bool, eqb-true}
use Rattle.std.proofs.lemmas.List.{map-append}
use Rattle.std.proofs.lemmas.Map.Entries.{length-keys_of}
use Rattle.org_texts.specs.Texts.{with_change}

-- a value, changed
abbrev pub valued : {X Y : Type 0} → (X → Y) → List ℕ × X → List ℕ × Y
valued p e = (e.0, p e.1)

module _ {X : Type 0} where
  pub other_value : (es : List (List ℕ × X)) (i k : ℕ) (w : X) → k ≢ i → slice_get (set_value_at es i w) k ≡ slice_get es k
  other_value [] i k w apart = refl
  other_value (e ∷ es) zero zero w apart = absurd (apart refl)
  other_value (e ∷ es) zero (suc k) w apart = refl
  other_value (e ∷ es) (suc i) zero w apart = refl
  other_value (e ∷ es) (suc i) (suc k) w apart = other_value es i k w (λ same. apart (ap suc same))

  pub this_value : (es : List (List ℕ × X)) (i : ℕ) (w : X) (e : List ℕ × X) → slice_get (set_value_at es i w) i ≡ Some e → e.1 ≡ w
  this_value [] i w e is = absurd (cc)
  this_value (x ∷ es) zero w e is = let same : (x.0, w) ≡ e = cc in ap (λ (p : List ℕ × X). p.1) (sym same)
  this_value (x ∷ es) (suc i) w e is = this_value es i w e is

  pub names_kept : (es : List (List ℕ × X)) (i : ℕ) (w : X) → keys_of (set_value_at es i w) ≡ keys_of es
  names_kept [] i w = refl
  names_kept (e ∷ es) zero w = refl
  names_kept (e ∷ es) (suc i) w = ap (λ (l : List (List ℕ)). e.0 ∷ l) (names_kept es i w)

  -- a part of each value that the change leaves as it is
  pub map_kept : {Y : Type 0} (p : X → Y) (es : List (List ℕ × X)) (i : ℕ) (old w : X) → slice_get (values_of es) i ≡ Some old → p w ≡ p old
      → map (valued p) (set_value_at es i w) ≡ map (valued p) es
  map_kept p [] i old w at is = refl
  map_kept {Y = Y} p (e ∷ es) zero old w at is = grind (arith, common_steps)
  map_kept {Y = Y} p (e ∷ es) (suc i) old w at is = ap (λ (l : List (List ℕ × Y)). valued p e ∷ l) (map_kept p es i old w at is)

  -- the value of a name, at the name's place
  pub map_changed : {Y : Type 0} (p : X → Y) (f : Y → Y) (name d : List ℕ) (es : List (List ℕ × X)) (i : ℕ) (old w : X) → i < length (keys_of es) → bytes_eq name (get_or (keys_of es) i d) ≡ true
      → ((j : ℕ) → j < i → bytes_eq name (get_or (keys_of es) j d) ≡ false) → slice_get (values_of es) i ≡ Some old → p w ≡ f (p old)
      → map (valued p) (set_value_at es i w) ≡ with_change name f (map (valued p) es)
  map_changed p f name d [] i old w within here before at is = absurd (omega (arith, within))
  map_changed {Y = Y} p f name d (e ∷ es) zero old w within here before at is = grind (arith, common_steps)
  map_changed {Y = Y} p f name d (e ∷ es) (suc i) old w within here before at is =
      let first : bytes_eq name e.0 ≡ false = before 0 (omega arith) in
      let rest = map_changed p f name d es i old w (omega (arith, within)) here (λ j less. before (suc j) (omega (arith, less))) at is in
      rw first (ap (λ (l : List (List ℕ × Y)). valued p e ∷ l) rest)

  -- a part of each value, with one more value after the others
  pub map_more : {Y : Type 0} (p : X → Y) (es new : List (List ℕ × X)) (name : List ℕ) (x : X) (y : Y) → new ≡ es ++ (name, x) ∷ [] → p x ≡ y
      → map (valued p) new ≡ map (valued p) es ++ (name, y) ∷ []
  map_more {Y = Y} p es new name x y made is =
      ap (map (valued p)) made ∙ map-append (valued p) es ((name, x) ∷ []) ∙ ap (λ (z : Y). map (valued p) es ++ (name, z) ∷ []) is

-- Of the first values, this many, one part is the other. Of all values the other is as it was, and
-- so are the names.
pub record Copied {X Y : Type 0} (to from : X → Y) (es old : List (List ℕ × X)) (n : ℕ) : Type 0 where
  pub so_far : (k : ℕ) (e : List ℕ × X) → k < n → slice_get es k ≡ Some e → to e.1 ≡ from e.1
  pub from_same : map (valued from) es ≡ map (valued from) old
  pub names : keys_of es ≡ keys_of old

module _ {X Y : Type 0} {to from : X → Y} where
  -- .. the next one is copied
  pub copied_more : {es old : List (List ℕ × X)} {n : ℕ} {was now : X} → Copied to from es old n → slice_get (values_of es) n ≡ Some was → from now ≡ from was → to now ≡ from was
      → Copied to from (set_value_at es n now) old (n + 1)
  copied_more {es} {old} {n} {was} {now} so_far at same copy = grind (arith, common_steps, cases_Bool, eqb-true, this_value, eq-eqb, other_value, map_kept, names_kept)

  -- .. all are copied
  pub copied_all : {es old : List (List ℕ × X)} {n : ℕ} → Copied to from es old n → length old ≤ n → map (valued to) es ≡ map (valued from) old
  copied_all {es} {old} so_far within =
      let long : length es ≡ length old = sym (length-keys_of es) ∙ ap length so_far.names ∙ length-keys_of old in
      map_same es (λ k e below at. so_far.so_far k e (omega (arith, below, long, within)) at) ∙ so_far.from_same
    where
      map_same : (es : List (List ℕ × X)) → ((k : ℕ) (e : List ℕ × X) → k < length es → slice_get es k ≡ Some e → to e.1 ≡ from e.1) → map (valued to) es ≡ map (valued from) es
      map_same [] all = refl
      map_same (e ∷ es) all =
          let first : to e.1 ≡ from e.1 = all 0 e (omega arith) refl in
          let rest = map_same es (λ k f below at. all (suc k) f (omega (arith, below)) at) in
          ap (λ (y : Y). let pair : List ℕ × Y = (e.0, y) in pair ∷ map (valued to) es) first ∙ ap (λ (l : List (List ℕ × Y)). valued from e ∷ l) rest
