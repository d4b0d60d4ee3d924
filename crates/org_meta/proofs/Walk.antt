-- A walk over the lines of a text.
use Rattle.std.proofs.Common.{◌≡◌, ℕ, ◌-◌, ◌<◌, ◌≤◌, List, [], ◌∷◌, ◌++◌, length, take, drop, refl, sym, ap, ◌∙◌, arith, append_assoc, length-append, take-append-drop}
use Rattle.std.proofs.lemmas.Grind.{common_steps}
use Rattle.std.proofs.lemmas.List.{drop_at, take_at}
use Rattle.org_splice.specs.Lines.{terminated, print_lines, lines_of}
use Rattle.org_meta.specs.Lines.{BeginsWith, behind_lines}
use Rattle.org_splice.proofs.Lines.{print_lines-lines_of, print_lines-append, terminated-print_lines}

pub print_lines-terminated : (t : List ℕ) → terminated t ≡ t → print_lines (lines_of t) ≡ t
print_lines-terminated t is = print_lines-lines_of t ∙ is

-- The text is what is left of a whole one after some lines.
pub record Passed (whole text : List ℕ) : Type 0 where
  pub before : List (List ℕ)
  pub bytes : whole ≡ print_lines before ++ text
  pub lines : lines_of whole ≡ before ++ lines_of text

unfoldable pub passed_none : (whole : List ℕ) → Passed whole whole
passed_none whole = record { before = []; bytes = refl; lines = refl }

unfoldable pub passed_line : (whole text line rest : List ℕ) → Passed whole text → BeginsWith text line rest → Passed whole rest
passed_line whole text line rest p b = record {
  before = p.before ++ line ∷ [];
  bytes =
      p.bytes ∙ ap (λ (t : List ℕ). print_lines p.before ++ t) (b.bytes ∙ sym (append_assoc line (10 ∷ []) rest))
      ∙ sym (append_assoc (print_lines p.before) (line ++ 10 ∷ []) rest)
      ∙ ap (λ (t : List ℕ). t ++ rest) (sym (print_lines-append p.before (line ∷ [])));
  lines = p.lines ∙ ap (λ (ls : List (List ℕ)). p.before ++ ls) b.lines ∙ sym (append_assoc p.before (line ∷ []) (lines_of rest));
}

-- what is left is what follows the lines before it
pub passed_rest : (whole text : List ℕ) (p : Passed whole text) (n : ℕ) → terminated text ≡ text → length p.before ≡ n → behind_lines whole n ≡ text
passed_rest whole text p n is long = grind (arith, common_steps, drop_at, print_lines-terminated)

pub rest_shorter : (text line rest : List ℕ) → BeginsWith text line rest → length rest < length text
rest_shorter text line rest b = omega (arith, ap length b.bytes, length-append line (10 ∷ rest))

-- the lines of a text in two
pub front_behind : (text : List ℕ) (n : ℕ) → terminated text ≡ text → text ≡ print_lines (take n (lines_of text)) ++ behind_lines text n
front_behind text n whole =
    sym (print_lines-terminated text whole) ∙ ap print_lines (sym (take-append-drop n (lines_of text)))
    ∙ print_lines-append (take n (lines_of text)) (drop n (lines_of text))

-- what comes before the text after n lines
pub front_lines : (text rest : List ℕ) (n : ℕ) → terminated text ≡ text → rest ≡ behind_lines text n → take (length text - length rest) text ≡ print_lines (take n (lines_of text))
front_lines text rest n whole is =
    let a = print_lines (take n (lines_of text)) in
    let b = behind_lines text n in
    let parts : text ≡ a ++ b = front_behind text n whole in
    let long : length text - length rest ≡ length a = omega (arith, ap length parts, ap length is, length-append a b) in
    ap (λ k. take k text) long ∙ ap (λ (t : List ℕ). take (length a) t) parts ∙ take_at a b (length a) refl

pub behind_shorter : (text rest : List ℕ) (n : ℕ) → terminated text ≡ text → rest ≡ behind_lines text n → length rest ≤ length text
behind_shorter text rest n whole is =
    let a = print_lines (take n (lines_of text)) in
    let b = behind_lines text n in
    omega (arith, ap length (front_behind text n whole), ap length is, length-append a b)

pub behind_none : (text : List ℕ) → terminated text ≡ text → text ≡ behind_lines text 0
behind_none text whole = sym (print_lines-terminated text whole)

pub front_terminated : (text rest front : List ℕ) (n : ℕ) → terminated text ≡ text → rest ≡ behind_lines text n → front ≡ take (length text - length rest) text → terminated front ≡ front
front_terminated text rest front n whole is cut =
    let bytes : front ≡ print_lines (take n (lines_of text)) = cut ∙ front_lines text rest n whole is in
    ap terminated bytes ∙ terminated-print_lines (take n (lines_of text)) ∙ sym bytes
