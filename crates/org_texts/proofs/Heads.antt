-- Terminated texts, and the headings that are held with a text.
use Rattle.std.proofs.Common.{arith, ◌≡◌, ℕ, ◌<◌, ◌^◌, length, true, false, List, [], ◌∷◌, ◌++◌, eqb, Bool, ◌&&◌, Option, Some, None, inl, inr, refl, sym, ap, ◌∙◌}
use Rattle.std.proofs.lemmas.Grind.{common_steps}
use Rattle.std.proofs.lemmas.Bool.{cases_Bool}
use Rattle.org_splice.specs.Lines.{terminated, is_terminated, lines_of}
use Rattle.org_splice.proofs.Lines.{lines_of-terminated}
use Rattle.std.specs.Prelude.{IfSome}
use Rattle.org_splice.specs.Edits.{IsReplaced}
use Rattle.org_splice.specs.Texts.{EditedText, terminated_text}
use Rattle.org_splice.proofs.Terminated.{spliced-end}
use Rattle.org_headings.specs.declared.heads.Heading.{Heading}
use Rattle.org_headings.specs.Headings.{IsEdit, headings_from}
use Rattle.org_texts.specs.Held.{AreHeadsOf}

pub is_terminated-terminated : (t : List ℕ) → terminated t ≡ t → is_terminated t ≡ true
is_terminated-terminated [] stays_terminated = refl
is_terminated-terminated (b ∷ []) stays_terminated = grind (arith, common_steps)
is_terminated-terminated (b ∷ c ∷ bs) stays_terminated =
    let rest : terminated (c ∷ bs) ≡ c ∷ bs = cc in
    is_terminated-terminated (c ∷ bs) rest

pub terminated-is_terminated : (t : List ℕ) → is_terminated t ≡ true → terminated t ≡ t
terminated-is_terminated [] ends = refl
terminated-is_terminated (b ∷ []) ends = let newline : eqb b 10 ≡ true = ends in rw newline refl
terminated-is_terminated (b ∷ c ∷ bs) ends = ap (λ (l : List ℕ). b ∷ l) (terminated-is_terminated (c ∷ bs) ends)

terminated-open : (t : List ℕ) → is_terminated t ≡ false → terminated t ≡ t ++ 10 ∷ []
terminated-open [] f = absurd (cc)
terminated-open (b ∷ []) f = let other : eqb b 10 ≡ false = f in rw other refl
terminated-open (b ∷ c ∷ bs) f = ap (λ (l : List ℕ). b ∷ l) (terminated-open (c ∷ bs) f)

pub terminated_text-bytes : (text : EditedText) → (terminated_text text).bytes ≡ terminated text.bytes
terminated_text-bytes text = grind (arith, common_steps, cases_Bool, terminated-is_terminated, spliced-end, terminated-open)

-- a text that ends in a newline, or is empty, is as closing it makes it
pub terminated_text-same : (text : EditedText) → is_terminated text.bytes ≡ true → terminated_text text ≡ text
terminated_text-same text ends = rw ends refl

-- closing a text leaves its lines ..
pub lines_of-terminated_text : (text : EditedText) → lines_of (terminated_text text).bytes ≡ lines_of text.bytes
lines_of-terminated_text text = ap lines_of (terminated_text-bytes text) ∙ lines_of-terminated text.bytes

-- .. and headings that are held with it
pub heads-of_lines : (heads : Option (List Heading)) (old new : List ℕ) → lines_of new ≡ lines_of old → AreHeadsOf old heads → AreHeadsOf new heads
heads-of_lines None old new same are = tt
heads-of_lines (Some hs) old new same are = are ∙ ap (headings_from 0) (sym same)

-- headings that are held can follow where a part of their text was replaced
pub follows : (heads : Option (List Heading)) (before after : List ℕ) (at removed added : ℕ) → AreHeadsOf before heads → terminated before ≡ before → length before < 2 ^ 64
    → IsReplaced at removed added before after → terminated after ≡ after → IfSome heads (λ hs. IsEdit hs after at removed added)
follows None before after at removed added are was small is stays = tt
follows (Some hs) before after at removed added are was small is stays = grind (arith, common_steps)

-- the headings of a text are held ready where it ends in a newline, or is empty
pub ready-ends : (some : Bool) (t : List ℕ) → terminated t ≡ t → (some && is_terminated t) ≡ some
ready-ends true t stays = is_terminated-terminated t stays
ready-ends false t stays = refl

pub ready-open : (some : Bool) (t : List ℕ) → (terminated t ≡ t → ⊥) → (some && is_terminated t) ≡ false
ready-open true t open_end = elim (cases_Bool (is_terminated t)) [
  | inl ends ↦ absurd (open_end (terminated-is_terminated t ends))
  | inr lacks ↦ lacks
]
ready-open false t open_end = refl
