-- The running clock, and the time clocked, found heading by heading.
use Rattle.std.proofs.Common.{◌≡◌, ℕ, zero, suc, ◌+◌, ◌-◌, ◌<◌, ◌≤◌, true, false, Bool, Option, Some, None, List, [], ◌∷◌, length, take, drop, get_or, rules, sym, ap, ◌∙◌, arith, min, length-drop}
use Rattle.std.proofs.lemmas.Grind.{common_steps}
use Rattle.std.specs.Prelude.{slice_range}
use Rattle.std.specs.List.{sum_by, position}
use Rattle.std.specs.Option.{option_map}
use Rattle.std.proofs.lemmas.Grind.{take_at_read}
use Rattle.std.proofs.lemmas.List.{get_or-drop}
use Rattle.std.proofs.lemmas.List.Sums.{sum_by_push}
use Rattle.org_splice.specs.declared.Span.{Span}
use Rattle.org_splice.specs.Lines.{lines_of}
use Rattle.org_outline.specs.Tree.{Document, nodes, node_at, node_count}
use Rattle.org_outline.specs.Numbers.{size_of}
use Rattle.org_outline.proofs.Weights.{listed-weight}
use Rattle.org_meta.specs.Clocks.{open_line, minutes_in}
use Rattle.org_meta.specs.Clocks.{total as section_total}
use Rattle.org_state.specs.Edits.{section_start}
use Rattle.org_state.specs.Clock.{runs_at, span_from, running_in, clocked_minutes}

-- ---- the first that passes

pub position_here : {X : Type 0} (test : X → Bool) (x : X) (xs : List X) → test x ≡ true → position test (x ∷ xs) ≡ Some 0
position_here test x xs found = search rules

pub position_later : {X : Type 0} (test : X → Bool) (x : X) (xs : List X) → test x ≡ false → position test (x ∷ xs) ≡ option_map suc (position test xs)
position_later test x xs other = search rules

pub position_is : {X : Type 0} (test : X → Bool) (xs : List X) (i : ℕ) (d : X) → i < length xs → test (get_or xs i d) ≡ true
    → ((k : ℕ) → k < i → test (get_or xs k d) ≡ false) → position test xs ≡ Some i
position_is test [] i d lt here before = absurd (omega arith)
position_is test (x ∷ xs) zero d lt here before = position_here test x xs here
position_is test (x ∷ xs) (suc i) d lt here before =
    position_later test x xs (before 0 (omega arith))
    ∙ ap (option_map suc) (position_is test xs i d (omega (arith, lt)) here (λ k less. before (suc k) (omega (arith, less))))

-- ---- the running clock

pub running_found : (d : Document) (i : ℕ) (section : List ℕ) (r : Option Span) (span : Span) → i < node_count d → ((k : ℕ) → k < i → runs_at (node_at d k) ≡ false)
    → lines_of section ≡ (node_at d i).node.section → r ≡ open_line (lines_of section) → r ≡ Some span
    → Some (record { heading = i; line = span_from (section_start d i) span }) ≡ running_in d
running_found d i section r span lt before lines is some = grind (arith, common_steps, position_is)

pub running_none : (d : Document) (n : ℕ) → n ≡ node_count d → ((k : ℕ) → k < n → runs_at (node_at d k) ≡ false) → None ≡ running_in d
running_none d n all none = grind (arith, common_steps)

-- ---- the time clocked

-- the minutes of headings up to one, and of this one
sum_one : {X : Type 0} (f : X → ℕ) (xs : List X) (a b : ℕ) (d : X) → a ≤ b → b < length xs
    → sum_by f (slice_range xs a (b + 1)) ≡ sum_by f (slice_range xs a b) + f (get_or xs b d)
sum_one f xs a b d low high =
    let ys = drop a xs in
    let long : b - a < length ys = omega (arith, low, high, length-drop a xs) in
    let count : b + 1 - a ≡ (b - a) + 1 = omega (arith, low) in
    let there : get_or ys (b - a) d ≡ get_or xs b d = get_or-drop a xs (b - a) d ∙ (let same : a + (b - a) ≡ b = omega (arith, low) in ap (λ n. get_or xs n d) same) in
    ap (λ n. sum_by f (take n ys)) count ∙ ap (sum_by f) (take_at_read ys (b - a) d long).1
    ∙ sum_by_push f (take (b - a) ys) (get_or ys (b - a) d) ∙ ap (λ x. sum_by f (take (b - a) ys) + f x) there

-- the minutes of the headings from one up to another
abbrev pub minutes_up_to : Document → ℕ → ℕ → ℕ
minutes_up_to d first i = min (sum_by (λ p. sum_by minutes_in p.node.section) (slice_range (nodes d) first i)) 18_446_744_073_709_551_615

pub minutes_none : (d : Document) (first : ℕ) → 0 ≡ minutes_up_to d first first
minutes_none d first = grind (arith, common_steps)

two_sums : (a b cap : ℕ) → min (min a cap + min b cap) cap ≡ min (a + b) cap
two_sums a b cap = omega arith

pub minutes_more : (d : Document) (first i m more : ℕ) (section : List ℕ) → first ≤ i → i < node_count d → m ≡ minutes_up_to d first i
    → lines_of section ≡ (node_at d i).node.section → more ≡ section_total (lines_of section)
    → min (m + more) 18_446_744_073_709_551_615 ≡ minutes_up_to d first (i + 1)
minutes_more d first i m more section low lt is lines here = grind (arith, common_steps, two_sums, sum_one)

pub minutes_all : (d : Document) (i m : ℕ) → i < node_count d → m ≡ minutes_up_to d i (i + size_of d i) → m ≡ clocked_minutes d i
minutes_all d i m lt is =
    is ∙ ap (λ n. min n 18_446_744_073_709_551_615) (sym (listed-weight (λ rest section. sum_by minutes_in section) i d lt))
