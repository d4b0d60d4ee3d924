-- The edit of a keyword.
use Rattle.std.proofs.Common.{◌≡◌, ℕ, ◌+◌, ◌≤◌, true, false, List, [], ◌∷◌, ◌++◌, length, drop, refl, sym, ap, ◌∙◌, arith}
use Rattle.std.proofs.lemmas.Grind.{common_steps}
use Rattle.std.specs.Prelude.{◌≢◌, ◌==◌}
use Rattle.std.specs.List.{prefix_len}
use Rattle.std.proofs.lemmas.Bool.{eqb-true, false≢true}
use Rattle.org_splice.specs.Blanks.{is_blank, front, behind}
use Rattle.org_splice.specs.declared.edit.Edit.{Edit}
use Rattle.org_outline.specs.States.{Keywords}
use Rattle.org_state.specs.Edits.{RewritesRest}
use Rattle.org_state.specs.Keyword.{keyword_in, with_word, with_keyword}

-- a keyword stands in what follows the gap
pub keyword_within : (states : Keywords) (rest : List ℕ) → length (keyword_in states rest) ≤ length (behind is_blank rest)
keyword_within states rest = grind (arith, common_steps)

-- these bytes in the place of n bytes of the text put one word in the place of the other
pub record Exchanges (old text word bytes : List ℕ) (n : ℕ) : Type 0 where
  pub within : n ≤ length text
  pub gives : bytes ++ drop n text ≡ with_word old word text

-- the edit of a rest, where it stands after the gap
pub keyword_gives : (e : Edit) (states : Keywords) (rest word old text : List ℕ) → old ≡ keyword_in states rest → text ≡ behind is_blank rest → e.at ≡ length (front is_blank rest)
    → Exchanges old text word e.bytes e.removed → RewritesRest e rest (with_keyword states word rest)
keyword_gives e states rest word old text old_is text_is at ex = grind (arith, common_steps)

-- the keyword is no longer than what follows the gap
pub keyword_room : (states : Keywords) (rest old text : List ℕ) → old ≡ keyword_in states rest → text ≡ behind is_blank rest → length old ≤ length text
keyword_room states rest old text old_is text_is = omega (arith, keyword_within states rest, ap length old_is, ap length text_is)

-- ---- what the edit says in each case

-- what a test for no bytes says
pub none_is : (l : List ℕ) → true ≡ (length l == 0) → l ≡ []
none_is [] e = refl
none_is (x ∷ l) e = absurd (let long : length (x ∷ l) ≡ 0 = eqb-true (length (x ∷ l)) 0 (sym e) in omega arith)

pub some_is : (l : List ℕ) → false ≡ (length l == 0) → l ≢ []
some_is l e = λ none. false≢true (e ∙ ap (λ (l : List ℕ). length l == 0) none)

pub word_goes : (old text : List ℕ) (n k : ℕ) (bytes word left : List ℕ) → length old ≤ length text → word ≡ [] → bytes ≡ word → n ≡ length old + k → left ≡ drop (length old) text → k ≡ prefix_len is_blank left → k ≤ length left
    → Exchanges old text word bytes n
word_goes old text n k bytes word left room none same is behind_old count short = grind (arith, common_steps)

pub word_comes : (old text : List ℕ) (n : ℕ) (bytes more word : List ℕ) → length old ≤ length text → old ≡ [] → word ≢ [] → more ≡ word → bytes ≡ more ++ 32 ∷ [] → n ≡ length old → Exchanges old text word bytes n
word_comes old text n bytes more [] room none some same is size = absurd (some refl)
word_comes old text n bytes more (b ∷ word) room none some same is size = grind (arith, common_steps)

pub word_changes : (old text : List ℕ) (n : ℕ) (bytes word : List ℕ) → length old ≤ length text → old ≢ [] → word ≢ [] → bytes ≡ word → n ≡ length old → Exchanges old text word bytes n
word_changes old text n bytes [] room other some same size = absurd (some refl)
word_changes [] text n bytes (b ∷ word) room other some same size = absurd (other refl)
word_changes (a ∷ old) text n bytes (b ∷ word) room other some same size = grind (arith, common_steps)
