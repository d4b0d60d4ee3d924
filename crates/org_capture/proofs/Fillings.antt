-- What is filled in stays.
use Rattle.std.proofs.Common.{◌≡◌, arith, length, take, drop, ℕ, Bool, true, false, not, eqb, List, [], ◌∷◌, ◌++◌, Option, Some, None, Ok, refl, sym, ◌∙◌, ap, append_assoc, inl, inr}
use Rattle.std.proofs.lemmas.Grind.{common_steps}
use Rattle.std.specs.Prelude.{◌≢◌, unwrap_or}
use Rattle.std.specs.List.{list_all, list_any, AllByRecursion}
use Rattle.memchr.specs.Find.{IsFirstByte, is_byte}
use Rattle.org_headings.proofs.HeadsFrom.{first_found, none_found}
use Rattle.std.proofs.lemmas.Bool.{cases_Bool}
use Rattle.std.proofs.lemmas.List.{append-nil, take-append-drop, take_all}
use Rattle.org_splice.proofs.Ends.{both}
use Rattle.org_stamp.specs.Calendar.{Moment}
use Rattle.org_capture.specs.declared.piece.Piece.{Piece}
use Rattle.org_capture.specs.declared.piece.Piece.TheVariants.{Byte}
use Rattle.org_capture.specs.Template.{pieces_of, last_line, with_prefix, text_of, with_text, filled, expanded}

with_prefix-empty : (bytes : List ℕ) → with_prefix [] bytes ≡ bytes
with_prefix-empty [] = refl
with_prefix-empty (b ∷ bytes) = grind (arith, common_steps, with_prefix-empty bytes)

pub alone : (moment : Moment) (initial : List ℕ) → expanded (37 ∷ 105 ∷ []) moment initial ≡ Ok initial
alone moment initial = ap Ok (with_prefix-empty initial)

-- a byte that is no percent sign is a piece
plain_first : (x : ℕ) (rest : List ℕ) → eqb x 37 ≡ false → pieces_of (x ∷ rest) ≡ Byte x ∷ pieces_of rest
plain_first x [] e = refl
plain_first x (c ∷ more) e = grind (arith, common_steps)

is_other : (b : Bool) → not b ≡ true → b ≡ false
is_other true e = absurd cc
is_other false e = refl

filled_plain : (moment : Moment) (initial text plain template : List ℕ) → list_all (λ b. not (eqb b 37)) plain ≡ true
    → filled moment initial text (pieces_of (plain ++ template)) ≡ filled moment initial (text ++ plain) (pieces_of template)
filled_plain moment initial text [] template all = ap (λ t. filled moment initial t (pieces_of template)) (sym (append-nil text))
filled_plain moment initial text (x ∷ plain) template all =
    let tests = both (not (eqb x 37)) (list_all (λ b. not (eqb b 37)) plain) all in
    ap (filled moment initial text) (plain_first x (plain ++ template) (is_other (eqb x 37) tests.0))
    ∙ filled_plain moment initial (text ++ x ∷ []) plain template tests.1
    ∙ ap (λ t. filled moment initial t (pieces_of template)) (append_assoc text (x ∷ []) plain)

no_sign : (plain : List ℕ) → AllByRecursion (λ x. x ≢ 37) plain → list_all (λ b. not (eqb b 37)) plain ≡ true
no_sign [] none = refl
no_sign (x ∷ plain) none = grind (arith, common_steps, no_sign plain none.1)

-- what stands before the first percent sign, or all where there is none
up_to_sign : (template : List ℕ) (found : Option ℕ) → IsFirstByte (is_byte 37) template found
    → list_all (λ b. not (eqb b 37)) (take (unwrap_or found (length template)) template) ≡ true
up_to_sign template None first = rw (take_all (length template) template (omega arith)) (no_sign template (none_found 37 template first))
up_to_sign template (Some end) first = no_sign (take end template) (first_found 37 template end first)

pub split_there : (template front back : List ℕ) (found : Option ℕ) (end : ℕ) → IsFirstByte (is_byte 37) template found → end ≡ unwrap_or found (length template)
    → front ≡ take end template → back ≡ drop end template → (moment : Moment) (initial text : List ℕ)
    → filled moment initial text (pieces_of template) ≡ filled moment initial (text ++ front) (pieces_of back)
split_there template front back found end first ends is_front is_back moment initial text =
    let none : list_all (λ b. not (eqb b 37)) front ≡ true = ap (list_all (λ b. not (eqb b 37))) (is_front ∙ ap (λ n. take n template) ends) ∙ up_to_sign template found first in
    let whole : template ≡ front ++ back = sym (take-append-drop end template) ∙ ap (λ l. l ++ drop end template) (sym is_front) ∙ ap (λ l. front ++ l) (sym is_back) in
    ap (λ l. filled moment initial text (pieces_of l)) whole ∙ filled_plain moment initial text front back none

pub behind : (plain template : List ℕ) (moment : Moment) (initial : List ℕ) → list_all (λ b. not (eqb b 37)) plain ≡ true
    → expanded (plain ++ template) moment initial ≡ filled moment initial plain (pieces_of template)
behind plain template moment initial all = filled_plain moment initial [] plain template all

pub plain_stays : (template : List ℕ) (moment : Moment) (initial : List ℕ) → list_all (λ b. not (eqb b 37)) template ≡ true → expanded template moment initial ≡ Ok template
plain_stays template moment initial all = ap (λ t. expanded t moment initial) (sym (append-nil template)) ∙ behind template [] moment initial all

-- a template without a percent sign stands for itself
no_sign_all : (template : List ℕ) → list_any (λ b. eqb b 37) template ≡ false → list_all (λ b. not (eqb b 37)) template ≡ true
no_sign_all [] none = refl
no_sign_all (b ∷ template) none =
    elim (cases_Bool (eqb b 37)) [
      | inl e ↦ absurd (let found = rw e at none in cc)
      | inr e ↦ rw e (no_sign_all template (rw e at none))
    ]

pub no_sign_stays : (template : List ℕ) (moment : Moment) (initial : List ℕ) → list_any (λ b. eqb b 37) template ≡ false → expanded template moment initial ≡ Ok template
no_sign_stays template moment initial none = plain_stays template moment initial (no_sign_all template none)

pub kept : (moment : Moment) (initial text whole : List ℕ) (pieces : List Piece) → filled moment initial text pieces ≡ Ok whole → (more : List ℕ) × (whole ≡ text ++ more)
kept moment initial text whole [] is = grind (arith, common_steps)
kept moment initial text whole (piece ∷ pieces) is =
    (elim (text_of moment initial (last_line text) piece) as (λ o. with_text o (λ more. filled moment initial (text ++ more) pieces) ≡ Ok whole → (more : List ℕ) × (whole ≡ text ++ more)) [
      | None ↦ λ h. absurd cc
      | Some put ↦ λ h.
          let later = kept moment initial (text ++ put) whole pieces h in
          (put ++ later.0, later.1 ∙ append_assoc text put later.0)
    ]) is
