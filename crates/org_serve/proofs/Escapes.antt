-- How a field is read byte by byte.
use Rattle.std.proofs.Common.{arith, ◌≡◌, ℕ, List, [], ◌∷◌, ◌++◌, Option, None, Some, refl, append_assoc, ◌≤◌, ◌==◌, ◌∙◌, true, sym, ap, length, drop, append-nil, false}
use Rattle.std.proofs.lemmas.Grind.{common_steps}
use Rattle.std.specs.List.{All, list_any}
use Rattle.std.specs.Option.{option_map}
use Rattle.std.proofs.lemmas.List.Elements.{All-nil, All-cons}
use Rattle.std.proofs.Common.{◌==◌, true, false}
use Rattle.std.proofs.lemmas.Bool.{ne_eqb}
use Rattle.std.proofs.lemmas.Bool.Decides.{eqb_tells}
use Rattle.std.proofs.Common.{inl, inr}
use Rattle.org_serve.specs.Grammar.{escape, unescaped_from, unescaped, escaped}
use Rattle.std.proofs.lemmas.List.{drop_all}

-- what was read in front of what is still read, where it is read
abbrev pub in_front : {X : Type 0} → List X → Option (List X) → Option (List X)
in_front text read = option_map (λ more. text ++ more) read

pub in_front-nothing : {X : Type 0} (text : List X) (read : Option (List X)) → text ≡ [] → in_front text read ≡ read
in_front-nothing text None none = refl
in_front-nothing text (Some more) none = rw none refl

pub in_front-one : {X : Type 0} (text : List X) (b : X) (read : Option (List X)) → in_front (text ++ b ∷ []) read ≡ in_front text (option_map (λ more. b ∷ more) read)
in_front-one text b None = refl
in_front-one text b (Some more) = rw append_assoc refl

pub step-escaped : (text : List ℕ) (x b : ℕ) (more : List ℕ) → Some b ≡ escape x → in_front (text ++ b ∷ []) (unescaped_from false more) ≡ in_front text (unescaped_from true (x ∷ more))
step-escaped text x b more e = rw (← e) (in_front-one text b (unescaped_from false more))

pub step-backslash : (text : List ℕ) (x : ℕ) (more : List ℕ) → x ≡ 92 → in_front text (unescaped_from true more) ≡ in_front text (unescaped_from false (x ∷ more))
step-backslash text x more e = rw e refl

pub step-plain : (text : List ℕ) (x : ℕ) (more : List ℕ) → (x ≡ 92 → ⊥) → in_front (text ++ x ∷ []) (unescaped_from false more) ≡ in_front text (unescaped_from false (x ∷ more))
step-plain text x more ne = let no : (x == 92) ≡ false = ne_eqb x 92 ne in rw no (in_front-one text x (unescaped_from false more))

pub escape-none : (text : List ℕ) (x : ℕ) (more : List ℕ) (all : Option (List ℕ)) → escape x ≡ None → in_front text (unescaped_from true (x ∷ more)) ≡ all → all ≡ None
escape-none text x more all none before =
    let stopped : in_front text (unescaped_from true (x ∷ more)) ≡ None = rw none refl in
    sym before ∙ stopped

-- after the last byte
pub ended-plain : (text field : List ℕ) (i : ℕ) → length field ≤ i → in_front text (unescaped_from false (drop i field)) ≡ unescaped field → unescaped field ≡ Some text
ended-plain text field i le before =
    let none : drop i field ≡ [] = drop_all i field le in
    let all : in_front text (unescaped_from false (drop i field)) ≡ Some text = rw none (ap Some (append-nil text)) in
    sym before ∙ all

pub ended-escaped : (text field : List ℕ) (i : ℕ) → length field ≤ i → in_front text (unescaped_from true (drop i field)) ≡ unescaped field → unescaped field ≡ None
ended-escaped text field i le before =
    let none : drop i field ≡ [] = drop_all i field le in
    let stopped : in_front text (unescaped_from true (drop i field)) ≡ None = rw none refl in
    sym before ∙ stopped

-- a field without a backslash stands for itself
pub unescaped-plain : (field : List ℕ) → list_any (λ b. b == 92) field ≡ false → unescaped field ≡ Some field
unescaped-plain [] none = refl
unescaped-plain (b ∷ field) none =
    elim (eqb_tells b 92) [
      | inl backslash ↦ absurd (let found = rw backslash.0 at none in cc)
      | inr e ↦ rw (e.0, unescaped-plain field (rw e.0 at none)) refl
    ]

-- an escaped text is read back
pub unescaped-escaped : (text : List ℕ) → unescaped (escaped text) ≡ Some text
unescaped-escaped [] = refl
unescaped-escaped (b ∷ bytes) = grind (arith, common_steps, unescaped-escaped bytes)

abbrev pub HasNoSlash : List ℕ → Type 0
HasNoSlash text = All (λ b. (b == 47) ≡ false) text

pub no_slash-cons : (b : ℕ) (bytes : List ℕ) → (b == 47) ≡ false → HasNoSlash bytes → HasNoSlash (b ∷ bytes)
no_slash-cons = All-cons (λ b. (b == 47) ≡ false)

-- an escaped text has no slash
pub no_slash-escaped : (text : List ℕ) → HasNoSlash (escaped text)
no_slash-escaped [] = All-nil (λ b. (b == 47) ≡ false)
no_slash-escaped (b ∷ bytes) = grind (arith, common_steps, no_slash-escaped bytes)
