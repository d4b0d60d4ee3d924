-- Bytes are runs with blanks before each, exactly where cutting them at their blanks gives those
-- runs.
use Rattle.std.proofs.Common.{◌≡◌, ◌≢◌, ℕ, suc, ◌-◌, Bool, true, false, ◌&&◌, IsTrue, append-nil, List, [], ◌∷◌, ◌++◌, length, get_or, filter, refl, sym, ap, ◌∙◌, subst, arith}
use Rattle.std.proofs.lemmas.Grind.{common_steps}
use Rattle.std.specs.Bool.{⊤}
use Rattle.std.specs.List.{slice_split, onto_first, list_all}
use Rattle.std.proofs.lemmas.List.Splits.{slice_split-cons_yes, slice_split-cons_no}
use Rattle.org_stamp.specs.Parts.{is_blank}
use Rattle.org_stamp.specs.Stamp.{IsBlanks}
use Rattle.org_stamp.specs.Front.{has_bytes}
use Rattle.org_stamp.proofs.Runs.{is_plain, split_here, split_none}

-- the last byte, if there is one, is no blank
abbrev pub EndsPlain : List ℕ → Type 0
EndsPlain [] = ⊤
EndsPlain (x ∷ []) = is_blank x ≡ false
EndsPlain (x ∷ y ∷ xs) = EndsPlain (y ∷ xs)

pub ends_plain : (xs : List ℕ) → is_blank (get_or xs (length xs - 1) 0) ≡ false → EndsPlain xs
ends_plain [] h = tt
ends_plain (x ∷ []) h = h
ends_plain (x ∷ y ∷ xs) h =
    let k : length (x ∷ y ∷ xs) - 1 ≡ suc (length (y ∷ xs) - 1) = omega arith in
    ends_plain (y ∷ xs) (rw k at h)

pub both : (a b : Bool) → IsTrue (a && b) → (a ≡ true) × IsTrue b
both a b h = grind arith

-- a run that is there and has no blank
pub record IsWord (run : List ℕ) : Type 0 where
  pub some : run ≢ []
  pub plain : IsTrue (list_all is_plain run)

-- the bytes are these runs, with blanks before each
abbrev pub HasRuns : List ℕ → List (List ℕ) → Type 0
HasRuns bytes [] = bytes ≡ []
HasRuns bytes (run ∷ runs) =
    (blanks : List ℕ) × (rest : List ℕ) × (bytes ≡ blanks ++ (run ++ rest)) × IsBlanks blanks × IsWord run × HasRuns rest runs

pub record Cut (bytes : List ℕ) : Type 0 where
  pub run : List ℕ
  pub others : List (List ℕ)
  pub tail : List ℕ
  pub pieces : slice_split is_blank bytes ≡ run ∷ others
  pub split : bytes ≡ run ++ tail
  pub plain : IsTrue (list_all is_plain run)
  pub has_runs : HasRuns tail (filter has_bytes others)

ends_rest : (x : ℕ) (xs : List ℕ) → EndsPlain (x ∷ xs) → EndsPlain xs
ends_rest x [] h = tt
ends_rest x (y ∷ ys) h = h

-- one blank more before the first run
longer : (x : ℕ) (xs : List ℕ) (tail : List ℕ) → is_blank x ≡ true → EndsPlain (x ∷ xs) → xs ≡ tail → (runs : List (List ℕ)) → HasRuns tail runs → HasRuns (x ∷ xs) runs
longer x xs tail e ends same [] h = grind (arith, common_steps)
longer x xs tail e ends same (w ∷ ws) h =
    (x ∷ h.0, h.1, ap (λ l. x ∷ l) (same ∙ h.2), record { some = λ is. absurd (cc); blank = rw e h.3.blank }, h.4, h.5)

-- a blank before the first run
blank_before : (x : ℕ) (xs : List ℕ) → is_blank x ≡ true → EndsPlain (x ∷ xs) → (c : Cut xs) → (run : List ℕ) → c.run ≡ run → HasRuns (x ∷ xs) (filter has_bytes (run ∷ c.others))
blank_before x xs e ends c [] r = longer x xs c.tail e ends (c.split ∙ ap (λ l. l ++ c.tail) r) (filter has_bytes c.others) c.has_runs
blank_before x xs e ends c (y ∷ ys) r =
    let all : IsTrue (list_all is_plain (y ∷ ys)) = subst (λ (l : List ℕ). IsTrue (list_all is_plain l)) r c.plain in (
      x ∷ [],
      c.tail,
      ap (λ l. x ∷ l) (c.split ∙ ap (λ l. l ++ c.tail) r),
      record { some = λ is. absurd (cc); blank = rw e refl },
      record { some = λ is. absurd (cc); plain = all },
      c.has_runs,
    )

cut_more : (x : ℕ) (xs : List ℕ) → EndsPlain (x ∷ xs) → Cut xs → (b : Bool) → is_blank x ≡ b → Cut (x ∷ xs)
cut_more x xs ends c true e = record {
  run = [];
  others = c.run ∷ c.others;
  tail = x ∷ xs;
  pieces = slice_split-cons_yes is_blank x xs e ∙ ap (λ l. [] ∷ l) c.pieces;
  split = refl;
  plain = refl;
  has_runs = blank_before x xs e ends c c.run refl;
}
cut_more x xs ends c false e = record {
  run = x ∷ c.run;
  others = c.others;
  tail = c.tail;
  pieces = slice_split-cons_no is_blank x xs e ∙ ap (onto_first x) c.pieces;
  split = ap (λ l. x ∷ l) c.split;
  plain = rw e c.plain;
  has_runs = c.has_runs;
}

-- bytes whose last is no blank are a run, perhaps an empty one, and then runs with blanks before
-- each
pub cut_of : (bytes : List ℕ) → EndsPlain bytes → Cut bytes
cut_of [] ends = record { run = []; others = []; tail = []; pieces = refl; split = refl; plain = refl; has_runs = refl }
cut_of (x ∷ xs) ends = cut_more x xs ends (cut_of xs (ends_rest x xs ends)) (is_blank x) refl

-- bytes that begin with a blank and end with none are runs with blanks before each
pub runs_of : (x : ℕ) (xs : List ℕ) → is_blank x ≡ true → EndsPlain (x ∷ xs) → HasRuns (x ∷ xs) (filter has_bytes (slice_split is_blank (x ∷ xs)))
runs_of x xs e ends =
    let c = cut_of xs (ends_rest x xs ends) in
    let pieces : filter has_bytes (slice_split is_blank (x ∷ xs)) ≡ filter has_bytes (c.run ∷ c.others) = ap (filter has_bytes) (slice_split-cons_yes is_blank x xs e ∙ ap (λ l. [] ∷ l) c.pieces) in
    subst (λ (runs : List (List ℕ)). HasRuns (x ∷ xs) runs) (sym pieces) (blank_before x xs e ends c c.run refl)

-- and the other way: the pieces that are there are the runs
pub pieces_of_runs : (blanks : List ℕ) (run rest : List ℕ) (pieces : List (List ℕ)) → IsTrue (list_all is_blank blanks) → IsWord run → filter has_bytes (slice_split is_blank (run ++ rest)) ≡ pieces → filter has_bytes (slice_split is_blank (blanks ++ (run ++ rest))) ≡ pieces
pieces_of_runs [] run rest pieces h word e = e
pieces_of_runs (b ∷ bs) run rest pieces h word e =
    let parts : (is_blank b ≡ true) × IsTrue (list_all is_blank bs) = both (is_blank b) (list_all is_blank bs) h in
    ap (filter has_bytes) (slice_split-cons_yes is_blank b (bs ++ (run ++ rest)) parts.0) ∙ pieces_of_runs bs run rest pieces parts.1 word e

kept_word : (run : List ℕ) (pieces : List (List ℕ)) → IsWord run → filter has_bytes (run ∷ pieces) ≡ run ∷ filter has_bytes pieces
kept_word [] pieces w = absurd (w.some refl)
kept_word (x ∷ xs) pieces w = refl

pub first_blank : (blanks more : List ℕ) → IsBlanks blanks → (b : ℕ) × (after : List ℕ) × (blanks ++ more ≡ b ∷ after) × (is_blank b ≡ true)
first_blank [] more h = absurd (h.some refl)
first_blank (b ∷ bs) more h = (b, bs ++ more, refl, (both (is_blank b) (list_all is_blank bs) h.blank).0)

run_then_blank : (run : List ℕ) (b : ℕ) (after : List ℕ) (runs : List (List ℕ)) → IsWord run → is_blank b ≡ true → filter has_bytes (slice_split is_blank (b ∷ after)) ≡ runs → filter has_bytes (slice_split is_blank (run ++ (b ∷ after))) ≡ run ∷ runs
run_then_blank run b after runs w e h = grind (arith, common_steps, slice_split-cons_yes, split_here, kept_word)

run_then : (run rest : List ℕ) (runs : List (List ℕ)) → IsWord run → HasRuns rest runs → filter has_bytes (slice_split is_blank rest) ≡ runs → filter has_bytes (slice_split is_blank (run ++ rest)) ≡ run ∷ runs
run_then run rest [] w h e = grind (arith, common_steps, append-nil, split_none, kept_word)
run_then run rest (next ∷ runs) w h e =
    let first = first_blank h.0 (next ++ h.1) h.3 in
    let is : rest ≡ first.0 ∷ first.1 = h.2 ∙ first.2 in
    let left : filter has_bytes (slice_split is_blank (first.0 ∷ first.1)) ≡ next ∷ runs = subst (λ (l : List ℕ). filter has_bytes (slice_split is_blank l) ≡ next ∷ runs) is e in
    ap (λ l. filter has_bytes (slice_split is_blank (run ++ l))) is ∙ run_then_blank run first.0 first.1 (next ∷ runs) w first.3 left

pub pieces_are : (bytes : List ℕ) (runs : List (List ℕ)) → HasRuns bytes runs → filter has_bytes (slice_split is_blank bytes) ≡ runs
pieces_are bytes [] h = ap (λ l. filter has_bytes (slice_split is_blank l)) h
pieces_are bytes (run ∷ runs) h = grind (arith, common_steps, run_then, pieces_of_runs, pieces_are h.1 runs h.5)
