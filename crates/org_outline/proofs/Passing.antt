-- Walks that pass the headings which can't have a title.
use Rattle.std.proofs.Common.{◌≡◌, ℕ, zero, suc, ◌+◌, ◌-◌, ◌<◌, ◌≤◌, Bool, true, false, not, ltb, List, [], ◌∷◌, ◌++◌, length, drop, take, get_or, Option, None, Result, refl, sym, ap, subst, ◌∙◌, arith, inl, inr}
use Rattle.std.proofs.lemmas.Grind.{common_steps}
use Rattle.std.specs.Prelude.{min, nat_lt}
use Rattle.std.specs.List.{prefix_len, AllByRecursion}
use Rattle.std.specs.Str.{bytes_eq}
use Rattle.std.proofs.lemmas.Bool.{cases_lt}
use Rattle.std.proofs.lemmas.Bool.Decides.{nat_tests}
use Rattle.std.proofs.lemmas.List.{take_more, drop_more, length-drop, length-take, length-map, get_or-drop, get_or-take, get_or-map}
use Rattle.std.proofs.lemmas.List.Sums.{prefix_len_passes, prefix_len_stops, prefix_len-le-length}
use Rattle.org_headings.specs.declared.heads.Heading.{Heading}
use Rattle.org_headings.specs.declared.beginnings.Beginnings.{Beginnings}
use Rattle.org_headings.specs.declared.beginnings.Sought.{Sought}
use Rattle.org_outline.specs.States.{Keywords}
use Rattle.org_outline.specs.Tree.{no_node, nodes_of, node_at, node_count, tree}
use Rattle.org_headings.specs.Beginnings.{may_have, sought_of, beginnings_of}
use Rattle.org_outline.specs.Outline.{heading_of, node_headings}
use Rattle.org_headings.specs.Headings.{AreBeginnings, last_above, lowest_level}
use Rattle.org_outline.specs.declared.paths.PathFault.{PathFault}
use Rattle.org_outline.specs.declared.paths.Choice.{Choice}
use Rattle.org_outline.specs.Paths.{title_of, still_to_come}
use Rattle.org_splice.proofs.AllLines.{AllByRecursion-drop, AllByRecursion-take}
use Rattle.org_headings.proofs.KeptLines.{begin_of}
use Rattle.org_splice.specs.Lines.{lines_of}
use Rattle.org_splice.proofs.Lines.{lines_of-lines, size}
use Rattle.org_outline.proofs.TitlePlaces.{cannot_have}
use Rattle.org_outline.proofs.Trees.{valid-tree_of_lines}
use Rattle.org_outline.proofs.Nodes.{headings_many}
use Rattle.org_outline.proofs.Placing.{roots-positive}
use Rattle.org_outline.proofs.PathWalk.{deep_headings, level_at, Child_pass, Tests, pass_on, pass_stop, pass_end, Heading_walk, headed_other}

-- ---- no title is passed

-- the headings from `first` on, and before `next`, don't have the title
abbrev pub NoneHas : Keywords → List ℕ → List ℕ → ℕ → ℕ → Type 0
NoneHas states t title first next = (i : ℕ) → first ≤ i → i < next → bytes_eq (title_of states (node_at (tree t) i).node.rest) title ≡ false

not_so : (b : Bool) → not b ≡ true → b ≡ false
not_so b is = grind (arith, common_steps)

-- `few` are the kept beginnings from `first` on and before `end`, and `count` of them are passed
pub none_passed : (states : Keywords) (t title : List ℕ) (lines few : List Beginnings) (first end count : ℕ) (sought : Sought) → AreBeginnings lines (node_headings t) → end ≤ length lines
    → end ≤ node_count (tree t) → few ≡ take (end - first) (drop first lines) → sought ≡ sought_of title → count ≡ prefix_len (λ (line : Beginnings). not (may_have sought line)) few
    → NoneHas states t title first (first + count)
none_passed states t title lines few first end count sought (inr none) all within fe se ce i low high = grind (arith, common_steps)
none_passed states t title lines few first end count sought (inl kept) all within fe se ce i low high =
    let P : Beginnings → Bool = λ line. not (may_have sought line) in
    let d : Beginnings = beginnings_of [] in
    let j : ℕ = i - first in
    let p = node_at (tree t) i in
    let before : j < prefix_len P few = omega (arith, ce, low, high) in
    let short : length few ≤ end - first = omega (arith, ap (λ (l : List Beginnings). length l) fe, length-take (end - first) (drop first lines)) in
    let less : j < end - first = omega (arith, before, prefix_len-le-length P few, short) in
    let place : first + j ≡ i = omega (arith, low) in
    let inside : i < node_count (tree t) = omega (arith, place, less, within) in
    let many : i < length (node_headings t) = omega (arith, inside, length-map (nodes_of t) heading_of) in
    let here : get_or few j d ≡ beginnings_of p.node.rest =
    ap (λ (ls : List Beginnings). get_or ls j d) fe ∙ get_or-take (end - first) (drop first lines) j d less ∙ get_or-drop first lines j d ∙ ap (λ (n : ℕ). get_or lines n d) place
    ∙ ap (λ (ls : List Beginnings). get_or ls i d) kept ∙ get_or-map begin_of (node_headings t) i (heading_of no_node) d many
    ∙ ap begin_of (get_or-map heading_of (nodes_of t) i no_node (heading_of no_node) inside) in
    let passes : P (beginnings_of p.node.rest) ≡ true = ap P (sym here) ∙ prefix_len_passes P few j d before in
    cannot_have states p.node.rest title (ap (λ (s : Sought). may_have s (beginnings_of p.node.rest)) (sym se) ∙ not_so (may_have sought (beginnings_of p.node.rest)) passes)

-- ---- the headings below a parent

all_pass : (p : Heading → Bool) (xs : List Heading) → AllByRecursion (λ x. p x ≡ true) xs → prefix_len p xs ≡ length xs
all_pass p [] all = refl
all_pass p (x ∷ xs) all = grind (arith, common_steps, all_pass p xs all.1)

below_top : (t : List ℕ) → AllByRecursion (λ (h : Heading). ltb 0 h.level ≡ true) (node_headings t)
below_top t =
    let d = tree t in
    let v = (valid-tree_of_lines (lines_of t) (lines_of-lines t)).forest in
    deep_headings 0 (size d.preamble) d.forest (roots-positive d.forest v) v

pub end_at_top : (t : List ℕ) (first level count : ℕ) → first ≤ node_count (tree t) → level ≡ 0 → count ≡ node_count (tree t)
    → count ≡ first + prefix_len (λ (h : Heading). nat_lt level h.level) (drop first (node_headings t))
end_at_top t first level count le top ce =
    let all : prefix_len (λ (h : Heading). nat_lt 0 h.level) (drop first (node_headings t)) ≡ length (drop first (node_headings t)) =
    all_pass (λ (h : Heading). nat_lt 0 h.level) (drop first (node_headings t)) (AllByRecursion-drop (λ (h : Heading). ltb 0 h.level ≡ true) first (node_headings t) (below_top t)) in
    let same : prefix_len (λ (h : Heading). nat_lt level h.level) (drop first (node_headings t)) ≡ prefix_len (λ (h : Heading). nat_lt 0 h.level) (drop first (node_headings t)) =
    ap (λ (n : ℕ). prefix_len (λ (h : Heading). nat_lt n h.level) (drop first (node_headings t))) top in
    omega (arith, all, same, le, ce, length-drop first (node_headings t), headings_many t)

-- the headings from `first` on, and before `end`, lie deeper than the level; the next one doesn't
abbrev pub EndsDeeper : List Heading → ℕ → ℕ → ℕ → Type 0
EndsDeeper hs level first end = end ≡ first + prefix_len (λ (h : Heading). nat_lt level h.level) (drop first hs)

pub ends_deeper : (t : List ℕ) (hs : List Heading) (level first end : ℕ) → hs ≡ node_headings t → end ≡ first + prefix_len (λ (h : Heading). nat_lt level h.level) (drop first (node_headings t)) → EndsDeeper hs level first end
ends_deeper t hs level first end he e = e ∙ ap (λ (hs : List Heading). first + prefix_len (λ (h : Heading). nat_lt level h.level) (drop first hs)) (sym he)

-- a number before the end is that of a heading
pub in_range : (t : List ℕ) (hs : List Heading) (index end : ℕ) → hs ≡ node_headings t → index < end → end ≤ node_count (tree t) → index < length hs
in_range t hs index end he lt fits = omega (arith, lt, fits, ap (λ (l : List Heading). length l) he, headings_many t)

deep_at : (hs : List Heading) (level first end i : ℕ) (d : Heading) → EndsDeeper hs level first end → first ≤ i → i < end → level < level_at hs i d
deep_at hs level first end i d e low high =
    let p : Heading → Bool = λ h. nat_lt level h.level in
    let j : ℕ = i - first in
    let before : j < prefix_len p (drop first hs) = omega (arith, e, low, high) in
    let place : first + j ≡ i = omega (arith, low) in
    let here : get_or (drop first hs) j d ≡ get_or hs i d = get_or-drop first hs j d ∙ ap (λ (n : ℕ). get_or hs n d) place in
    let deeper : nat_lt level (level_at hs i d) ≡ true = ap p (sym here) ∙ prefix_len_passes p (drop first hs) j d before in
    grind (arith, nat_tests)

stops_at : (hs : List Heading) (level first end : ℕ) (d : Heading) → EndsDeeper hs level first end → first ≤ length hs → end < length hs → level_at hs end d ≤ level
stops_at hs level first end d e low some = grind (arith, common_steps, length-drop, get_or-drop, prefix_len_stops, nat_tests)

all_of : (P : Heading → Type 0) (xs : List Heading) (d : Heading) → ((i : ℕ) → i < length xs → P (get_or xs i d)) → AllByRecursion P xs
all_of P [] d each = tt
all_of P (x ∷ xs) d each = (each 0 (omega arith), all_of P xs d (λ i lt. each (suc i) (omega (arith, lt))))

pub deep_slice : (hs : List Heading) (level first end index next : ℕ) → EndsDeeper hs level first end → first ≤ index → next ≤ end → AllByRecursion (λ (h : Heading). level < h.level) (take (next - index) (drop index hs))
deep_slice hs level first end index next e low high =
    let d : Heading = heading_of no_node in
    all_of (λ (h : Heading). level < h.level) (take (next - index) (drop index hs)) d (λ i lt.
    let less : i < next - index = omega (arith, lt, length-take (next - index) (drop index hs)) in
    let here : get_or (take (next - index) (drop index hs)) i d ≡ get_or hs (index + i) d = get_or-take (next - index) (drop index hs) i d less ∙ get_or-drop index hs i d in
    let deep : level < level_at hs (index + i) d = deep_at hs level first end (index + i) d e (omega (arith, low)) (omega (arith, less, high)) in
    omega (arith, deep, ap (λ (h : Heading). h.level) here))

-- ---- the walk over children

-- what the code reads past the last heading
abbrev pub no_heading : Heading
no_heading = record { start = 0; level = 0; beginnings = record { first = record { fingerprint = 0 }; second = record { fingerprint = 0 } } }

lowest_and : (n : ℕ) (hs : List Heading) (h : Heading) → lowest_level n (hs ++ h ∷ []) ≡ min (lowest_level n hs) h.level
lowest_and n [] h = refl
lowest_and n (g ∷ hs) h = lowest_and (min n g.level) hs h

few_passed : (states : Keywords) (t title : List ℕ) (all : Result (Option ℕ) PathFault) (level deepest index : ℕ) (choice : Choice) (hs : List Heading) (d : Heading) (k : ℕ) → Child_pass states t title all level deepest index choice
    → hs ≡ node_headings t → ((i : ℕ) → index ≤ i → i < index + k → level < level_at hs i d) → NoneHas states t title index (index + k) → index + k ≤ length hs
    → Child_pass states t title all level (lowest_level deepest (take k (drop index hs))) (index + k) choice
few_passed states t title all level deepest index choice hs d zero p he deep none within = grind (arith, common_steps)
few_passed states t title all level deepest index choice hs d (suc k) p he deep none within =
    let later : List Heading = drop index hs in
    let here : ℕ = index + k in
    let lt : here < length hs = omega (arith, within) in
    let less : k < length later = omega (arith, within, length-drop index hs) in
    let inside : here < node_count (tree t) = omega (arith, lt, ap (λ (l : List Heading). length l) he, headings_many t) in
    let low : index ≤ here = omega arith in
    let high : here < index + suc k = omega arith in
    let next : k + 1 ≡ suc k = omega arith in
    let least : lowest_level deepest (take (suc k) later) ≡ min (lowest_level deepest (take k later)) (level_at hs here d) =
    ap (λ n. lowest_level deepest (take n later)) (sym next) ∙ ap (lowest_level deepest) (take_more later k d less) ∙ lowest_and deepest (take k later) (get_or later k d)
    ∙ ap (λ (h : Heading). min (lowest_level deepest (take k later)) h.level) (get_or-drop index hs k d) in
    let on : here + 1 ≡ index + suc k = omega arith in
    let before : Child_pass states t title all level (lowest_level deepest (take k later)) here choice =
    few_passed states t title all level deepest index choice hs d k p he (λ i l h. deep i l (omega (arith, h))) (λ i l h. none i l (omega (arith, h))) (omega (arith, within)) in
    let test : Tests states t title here false = record { within = inside; is = none here low high } in
    subst (λ (i : ℕ). Child_pass states t title all level (lowest_level deepest (take (suc k) later)) i choice) on
    (pass_on states t title all level (lowest_level deepest (take k later)) here choice hs d (lowest_level deepest (take (suc k) later)) before (λ le. test) he lt (deep here low high) least)

-- a search among the children that has come to `index`
pub record Child_search (states : Keywords) (t title : List ℕ) (all : Result (Option ℕ) PathFault) (level first end deepest index : ℕ) (choice : Choice) : Type 0 where
  pub pass : Child_pass states t title all level deepest index choice
  pub from : first ≤ index
  pub within : index ≤ end

pub search_start : (states : Keywords) (t title : List ℕ) (all : Result (Option ℕ) PathFault) (level first end deepest : ℕ) (choice : Choice) (hs : List Heading) → Child_pass states t title all level deepest first choice → EndsDeeper hs level first end
    → Child_search states t title all level first end deepest first choice
search_start states t title all level first end deepest choice hs p e = record { pass = p; from = omega arith; within = omega (arith, e) }

-- on to the next candidate, from the one at `index`
pub search_on : (states : Keywords) (t title : List ℕ) (all : Result (Option ℕ) PathFault) (level first end deepest index next : ℕ) (before choice : Choice) (hs : List Heading) (d : Heading) (lowest : ℕ)
    → Child_search states t title all level first end deepest index before → hs ≡ node_headings t → EndsDeeper hs level first end → end ≤ node_count (tree t)
    → Child_pass states t title all level (min deepest (level_at hs index d)) (index + 1) choice → index + 1 ≤ next → next ≤ end → NoneHas states t title (index + 1) next
    → lowest ≡ lowest_level deepest (take (next - index) (drop index hs)) → Child_search states t title all level first end lowest next choice
search_on states t title all level first end deepest index next before choice hs d lowest s he e fits p low high none me =
    let k : ℕ = next - (index + 1) in
    let start = s.from in
    let there : index + 1 + k ≡ next = omega (arith, low) in
    let fewer : next - index ≡ suc k = omega (arith, low) in
    let size : length hs ≡ node_count (tree t) = ap (λ (l : List Heading). length l) he ∙ headings_many t in
    let lt : index < length hs = omega (arith, low, high, fits, size) in
    let lower : lowest ≡ lowest_level (min deepest (level_at hs index d)) (take k (drop (index + 1) hs)) =
    me ∙ ap (λ (n : ℕ). lowest_level deepest (take n (drop index hs))) fewer ∙ ap (λ (l : List Heading). lowest_level deepest (take (suc k) l)) (drop_more hs index d lt) in
    let passed = few_passed states t title all level (min deepest (level_at hs index d)) (index + 1) choice hs d k p he
    (λ i l h. deep_at hs level first end i d e (omega (arith, start, l)) (omega (arith, h, there, high))) (λ i l h. none i l (omega (arith, h, there))) (omega (arith, there, high, fits, size)) in
    record {
      pass = rw lower (subst (λ (i : ℕ). Child_pass states t title all level (lowest_level (min deepest (level_at hs index d)) (take k (drop (index + 1) hs))) i choice) there passed);
      from = omega (arith, start, low);
      within = high;
    }

pub search_deep : (states : Keywords) (t title : List ℕ) (all : Result (Option ℕ) PathFault) (level first end deepest index : ℕ) (choice : Choice) (hs : List Heading) (d : Heading)
    → Child_search states t title all level first end deepest index choice → EndsDeeper hs level first end → index < end → level < level_at hs index d
search_deep states t title all level first end deepest index choice hs d s e lt = deep_at hs level first end index d e s.from lt

pub search_end : (states : Keywords) (t title : List ℕ) (all : Result (Option ℕ) PathFault) (level first end deepest index : ℕ) (choice : Choice) (hs : List Heading)
    → Child_search states t title all level first end deepest index choice → hs ≡ node_headings t → EndsDeeper hs level first end → first ≤ node_count (tree t) → end ≤ index → still_to_come choice [] ≡ all
search_end states t title all level first end deepest index choice hs s he e low past =
    let d : Heading = heading_of no_node in
    let within = s.within in
    let same : end ≡ index = omega (arith, past, within) in
    let size : length hs ≡ node_count (tree t) = ap (λ (l : List Heading). length l) he ∙ headings_many t in
    elim (cases_lt index (length hs)) [
      | inl lt ↦
          let stop : level_at hs end d ≤ level = stops_at hs level first end d e (omega (arith, low, size)) (omega (arith, lt, same)) in
          pass_stop states t title all level deepest index choice hs d s.pass he lt (subst (λ (i : ℕ). level_at hs i d ≤ level) same stop)
      | inr none ↦ pass_end states t title all level deepest index choice hs s.pass he (omega (arith, none))
    ]

-- ---- the walk over all headings

heads_passed : (states : Keywords) (t title : List ℕ) (all : Result (Option ℕ) PathFault) (index k : ℕ) (choice : Choice) → Heading_walk states t title all index choice → NoneHas states t title index (index + k) → index + k ≤ node_count (tree t)
    → Heading_walk states t title all (index + k) choice
heads_passed states t title all index zero choice w none within = grind (arith, common_steps)
heads_passed states t title all index (suc k) choice w none within =
    let on : index + k + 1 ≡ index + suc k = omega arith in
    let inside : index + k < node_count (tree t) = omega (arith, within) in
    let low : index ≤ index + k = omega arith in
    let high : index + k < index + suc k = omega arith in
    subst (λ (i : ℕ). Heading_walk states t title all i choice) on
    (headed_other states t title all (index + k) choice (record { within = inside; is = none (index + k) low high }) (heads_passed states t title all index k choice w (λ i l h. none i l (omega (arith, h))) (omega (arith, within))))

pub head_next : (states : Keywords) (t title : List ℕ) (all : Result (Option ℕ) PathFault) (index next : ℕ) (choice : Choice) → Heading_walk states t title all index choice → index ≤ next → next ≤ node_count (tree t) → NoneHas states t title index next
    → Heading_walk states t title all next choice
head_next states t title all index next choice w low high none =
    let there : index + (next - index) ≡ next = omega (arith, low) in
    subst (λ (i : ℕ). Heading_walk states t title all i choice) there (heads_passed states t title all index (next - index) choice w (λ i l h. none i l (omega (arith, h, there))) (omega (arith, there, high)))

-- ---- nothing lies above the top level

none_above : (n i : ℕ) (best : Option ℕ) (hs : List Heading) → n ≤ 1 → AllByRecursion (λ (h : Heading). ltb 0 h.level ≡ true) hs → last_above n i best hs ≡ best
none_above n i best [] le all = refl
none_above n i best (h ∷ hs) le all = grind (arith, common_steps, none_above n (suc i) best hs le all.1)

pub top_has_none : (t : List ℕ) (hs : List Heading) (n j : ℕ) → hs ≡ node_headings t → n ≡ 1 → None ≡ last_above n 0 None (take j hs)
top_has_none t hs n j he top = grind (arith, common_steps, below_top, none_above, AllByRecursion-take)
