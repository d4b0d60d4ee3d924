-- What a capture keeps: documents stay valid, and what is added up over the nodes gains what is put
-- in.
use Rattle.std.proofs.Common.{rules, ◌≡◌, ℕ, zero, suc, ◌+◌, ◌<◌, Bool, true, false, cond, eqb, List, [], ◌∷◌, ◌++◌, length, take, get_or, Option, Some, None, Ok, Err, refl, ap, ◌∙◌, subst, arith, inl, inr}
use Rattle.std.proofs.lemmas.Grind.{common_steps}
use Rattle.std.specs.Prelude.{Result, map, slice_get, slice_set}
use Rattle.std.specs.List.{list_any, sum_by}
use Rattle.std.specs.Option.{ForSome, option_map_or}
use Rattle.std.specs.declared.cmp.Ordering.TheVariants.{Equal, Greater}
use Rattle.std.proofs.lemmas.Bool.{cases_Bool}
use Rattle.std.proofs.lemmas.Bool.Decides.{nat_tests}
use Rattle.std.proofs.lemmas.List.Sums.{sum_by-cons, sum_by-set}
use Rattle.org_splice.specs.Lines.{IsLine}
use Rattle.org_splice.proofs.Ends.{both}
use Rattle.org_outline.specs.States.{Keywords}
use Rattle.org_outline.specs.declared.moves.Place.{Place}
use Rattle.org_outline.specs.declared.moves.Place.TheVariants.{Last}
use Rattle.org_outline.specs.declared.paths.PathFault.{PathFault}
use Rattle.org_outline.specs.Parts.{parts_of}
use Rattle.org_outline.specs.Tree.{Forest, Empty, Tree, Node, Document, IsForest, IsValid, node_count, print, tree}
use Rattle.org_outline.specs.Moves.{IsNode, insert, append_heading, level_below}
use Rattle.org_outline.specs.Numbers.{weigh, weigh_node}
use Rattle.org_outline.specs.Paths.{find_headed, find_path}
use Rattle.org_outline.proofs.Changes.{append_heading_valid, insert_before_valid}
use Rattle.org_outline.proofs.ByNumber.{count-is}
use Rattle.org_outline.proofs.Found.{found_in, headed_in, some_holds}
use Rattle.org_outline.proofs.Trees.{tree-is}
use Rattle.org_outline.proofs.Valid.{IsNode-shift_node, IsValid-insert, tree-print}
use Rattle.org_outline.proofs.Weights.{Weight, weigh-shift, insert-weight, beside-weight, made-weight, one_each}
use Rattle.org_stamp.specs.Calendar.{CivilDay, Moment, weekday_of}
use Rattle.org_stamp.specs.Stamp.{date_text}
use Rattle.org_capture.specs.declared.dates.DateKind.{DateKind}
use Rattle.org_capture.specs.declared.dates.DateKind.TheVariants.{Year, Month, Day}
use Rattle.org_fault.specs.declared.refusal.Refusal.{Refusal}
use Rattle.org_capture.specs.declared.target.Target.{Target}
use Rattle.org_capture.specs.declared.target.Target.TheVariants.{Top, Head, Path, Date}
use Rattle.org_capture.specs.Entry.{entry_in, only_root}
use Rattle.org_capture.specs.Capture.{rest_of, can_be_title, below_found, below_made, below_head, below_day, captured, date_base}
use Rattle.org_capture.specs.Dates.{key_len, key_on, behind_key, month_name, weekday_name, first_dated, put_dated, found_or_made, made_over, dated}
use Rattle.org_capture.specs.Made.{added, date_rest, missing, missing_below, missing_dates, missing_title}
use Rattle.org_capture.proofs.Numbers.{dated_in, base_in}

-- ---- the three ways in which a capture makes a document

-- P holds of the rests that were missing and of the document, whichever way it was made
record Ways (states : Keywords) (place : Place) (day : CivilDay) (entry : Node) (d : Document) (P : List (List ℕ) → Document → Type 0) : Type 0 where
  put_in : (up : Option ℕ) → ForSome up (λ i. i < node_count d) → P [] (insert up place entry d)
  title : (title : List ℕ) → can_be_title states title ≡ true → P (rest_of title ∷ []) (below_made place entry title d)
  dates : (kind : DateKind) (kinds : List DateKind) (up : Option ℕ) → ForSome up (λ i. i < node_count d)
      → P (map (date_rest day) (kind ∷ kinds)) (put_dated (first_dated states d up kind (key_on kind day) Greater) up (made_over (level_below up d) (kind ∷ kinds) day entry) d)

dated_step : (P : List (List ℕ) → Document → Type 0) (found : Option ℕ) (rests : ℕ → List (List ℕ)) (all : List (List ℕ)) (below : ℕ → Document) (made : Document)
    → ((i : ℕ) → found ≡ Some i → P (rests i) (below i)) → P all made → P (option_map_or rests found all) (found_or_made found below made)
dated_step P (Some i) rests all below made each holds = each i refl
dated_step P None rests all below made each holds = holds

dated_way : (states : Keywords) (place : Place) (day : CivilDay) (entry : Node) (d : Document) (P : List (List ℕ) → Document → Type 0) → Ways states place day entry d P
    → (kinds : List DateKind) (up : Option ℕ) → ForSome up (λ i. i < node_count d) → P (missing_dates states day d kinds up) (dated states place day entry d kinds up)
dated_way states place day entry d P ways [] up within = ways.put_in up within
dated_way states place day entry d P ways (kind ∷ kinds) up within =
    dated_step P (first_dated states d up kind (key_on kind day) Equal) _ _ _ _
    (λ i is. dated_way states place day entry d P ways kinds (Some i) (some_holds (λ i. i < node_count d) i (dated_in states d up kind (key_on kind day) Equal i within is)))
    (ways.dates kind kinds up within)

-- what an answer holds
ok_holds : (P : Document → Type 0) (d new : Document) → ◌≡◌ {A = Result Document Refusal} (Ok d) (Ok new) → P d → P new
ok_holds P d new is holds = let same : d ≡ new = cc in subst P same holds

head_way : (states : Keywords) (place : Place) (day : CivilDay) (entry : Node) (d new : Document) (P : List (List ℕ) → Document → Type 0) → Ways states place day entry d P
    → (title : List ℕ) (r : Result (Option ℕ) PathFault) → ((i : ℕ) → r ≡ Ok (Some i) → i < node_count d) → below_head states title place entry d r ≡ Ok new → P (missing_title title r) new
head_way states place day entry d new P ways title (Ok (Some i)) in_d is =
    ok_holds (P []) (insert (Some i) place entry d) new is (ways.put_in (Some i) (some_holds (λ i. i < node_count d) i (in_d i refl)))
head_way states place day entry d new P ways title (Ok None) in_d is =
    elim (cases_Bool (can_be_title states title)) [
      | inl e ↦ ok_holds (P (rest_of title ∷ [])) (below_made place entry title d) new (rw e at is) (ways.title title e)
      | inr e ↦ absurd (let f = rw e at is in cc)
    ]
head_way states place day entry d new P ways title (Err fault) in_d is = absurd cc

path_way : (states : Keywords) (place : Place) (day : CivilDay) (entry : Node) (d new : Document) (P : List (List ℕ) → Document → Type 0) → Ways states place day entry d P
    → (r : Result ℕ PathFault) → ((i : ℕ) → r ≡ Ok i → i < node_count d) → below_found place entry d r ≡ Ok new → P [] new
path_way states place day entry d new P ways (Ok i) in_d is =
    ok_holds (P []) (insert (Some i) place entry d) new is (ways.put_in (Some i) (some_holds (λ i. i < node_count d) i (in_d i refl)))
path_way states place day entry d new P ways (Err fault) in_d is = absurd cc

day_way : (states : Keywords) (place : Place) (moment : Moment) (entry : Node) (d new : Document) (P : List (List ℕ) → Document → Type 0) → Ways states place moment.day entry d P
    → (r : Result (Option ℕ) PathFault) → ((base : Option ℕ) → r ≡ Ok base → ForSome base (λ i. i < node_count d)) → below_day states place moment entry d r ≡ Ok new → P (missing_below states moment.day d r) new
day_way states place moment entry d new P ways (Ok base) in_d is =
    ok_holds (P (missing_dates states moment.day d (Year ∷ Month ∷ Day ∷ []) base)) (dated states place moment.day entry d (Year ∷ Month ∷ Day ∷ []) base) new is
    (dated_way states place moment.day entry d P ways (Year ∷ Month ∷ Day ∷ []) base (in_d base refl))
day_way states place moment entry d new P ways (Err fault) in_d is = absurd cc

way : (states : Keywords) (target : Target) (place : Place) (moment : Moment) (entry : Node) (d new : Document) (P : List (List ℕ) → Document → Type 0)
    → Ways states place moment.day entry d P → captured states target place moment entry d ≡ Ok new → P (missing states target moment d) new
way states Top place moment entry d new P ways is = ok_holds (P []) (insert None place entry d) new is (ways.put_in None (λ i none. absurd cc))
way states (Head step) place moment entry d new P ways is =
    head_way states place moment.day entry d new P ways step.title (find_headed states d step) (headed_in states d step) is
way states (Path path) place moment entry d new P ways is =
    path_way states place moment.day entry d new P ways (find_path states d path) (found_in states d path) is
way states (Date path) place moment entry d new P ways is =
    day_way states place moment entry d new P ways (date_base states d path) (base_in states d path) is

-- ---- titles are lines

no_newline : (l : List ℕ) → list_any (λ b. eqb b 10) l ≡ false → IsLine l
no_newline [] e = tt
no_newline (b ∷ l) e =
    elim (cases_Bool (eqb b 10)) [
      | inl x ↦ absurd (let f = rw x at e in cc)
      | inr x ↦ (grind (arith, nat_tests), no_newline l (rw x at e))
    ]

title_line : (states : Keywords) (title : List ℕ) → can_be_title states title ≡ true → IsLine (rest_of title)
title_line states title can = search (rules, arith, both, parts_of, cases_Bool, no_newline)

either : (b : Bool) (x y : List ℕ) → IsLine x → IsLine y → IsLine (cond b x y)
either true x y this that = this
either false x y this that = that

line_append : (x y : List ℕ) → IsLine x → IsLine y → IsLine (x ++ y)
line_append [] y this that = that
line_append (b ∷ x) y this that = (this.0, line_append x y this.1 that)

line_take : (n : ℕ) (x : List ℕ) → IsLine x → IsLine (take n x)
line_take zero x this = tt
line_take (suc n) [] this = tt
line_take (suc n) (b ∷ x) this = (this.0, line_take n x this.1)

month_line : (m : ℕ) → IsLine (month_name m)
month_line m = grind (arith, common_steps)

weekday_line : (n : ℕ) → IsLine (weekday_name n)
weekday_line n = grind (arith, common_steps)

-- a digit's byte is none
digit : (n : ℕ) → 48 + n ≡ 10 → ⊥
digit n is = omega (arith, is)

date_line : (day : CivilDay) → IsLine (date_text day)
date_line day = (digit _, (digit _, (digit _, (digit _, (omega arith, (digit _, (digit _, (omega arith, (digit _, (digit _, tt))))))))))

behind_line : (kind : DateKind) (day : CivilDay) → IsLine (behind_key kind day)
behind_line Year day = tt
behind_line Month day = (omega arith, month_line day.month)
behind_line Day day = (omega arith, weekday_line (weekday_of day))

date_rest_line : (kind : DateKind) (day : CivilDay) → IsLine (date_rest day kind)
date_rest_line kind day = (omega arith, line_append (key_on kind day) (behind_key kind day) (line_take (key_len kind) (date_text day) (date_line day)) (behind_line kind day))

-- ---- documents stay valid

made_level : (l : ℕ) (kinds : List DateKind) (day : CivilDay) (entry : Node) → (made_over l kinds day entry).level ≡ l
made_level l [] day entry = refl
made_level l (kind ∷ kinds) day entry = refl

made_node : (l : ℕ) (kinds : List DateKind) (day : CivilDay) (entry : Node) → 0 < l → IsNode entry → IsNode (made_over l kinds day entry)
made_node l [] day entry pos valid = IsNode-shift_node l entry pos valid
made_node l (kind ∷ kinds) day entry pos valid = grind (arith, common_steps, date_rest_line, made_level, made_node (l + 1) kinds day entry (omega (arith, pos)) valid)

level_positive : (up : Option ℕ) (d : Document) → 0 < level_below up d
level_positive None d = omega arith
level_positive (Some i) d = omega arith

put_valid : (later up : Option ℕ) (node : Node) (d : Document) → IsNode node → IsValid d → IsValid (put_dated later up node d)
put_valid (Some i) up node d good valid = insert_before_valid i node d good valid
put_valid None up node d good valid = IsValid-insert up Last node d good valid

pub captured_valid : (states : Keywords) (target : Target) (place : Place) (moment : Moment) (entry : Node) (d new : Document)
    → captured states target place moment entry d ≡ Ok new → IsNode entry → IsValid d → IsValid new
captured_valid states target place moment entry d new is good valid =
    way states target place moment entry d new (λ rests new. IsValid new)
    (record {
      put_in = λ up within. IsValid-insert up place entry d good valid;
      title = λ title can. IsValid-insert (Some (node_count d)) place entry (append_heading 1 (rest_of title) d) good
          (append_heading_valid 1 (rest_of title) d (omega arith) refl (title_line states title can) valid);
      dates = λ kind kinds up within. put_valid _ up _ d (made_node (level_below up d) (kind ∷ kinds) moment.day entry (level_positive up d) good) valid;
    }) is

root_node : (pre : List (List ℕ)) (f : Forest) (node : Node) → only_root pre f ≡ Some node → IsForest f → IsNode node
root_node [] Empty node is valid = absurd cc
root_node [] (Tree n r s kids Empty) node is valid =
    let root : Node = record { level = n; rest = r; section = s; children = kids } in
    let same : root ≡ node = cc in
    subst IsNode same (record { heading = valid.0; deep = valid.1; children = valid.2 })
root_node [] (Tree n r s kids (Tree m q u more later)) node is valid = absurd cc
root_node (l ∷ ls) f node is valid = absurd cc

pub entry_node : (text : List ℕ) (node : Node) → entry_in text ≡ Some node → IsNode node
entry_node text node is = root_node (tree text).preamble (tree text).forest node is (tree-is text).valid.forest

pub captured_text : (states : Keywords) (target : Target) (place : Place) (moment : Moment) (entry : Node) (text bytes : List ℕ) (new : Document)
    → entry_in bytes ≡ Some entry → captured states target place moment entry (tree text) ≡ Ok new → tree (print new) ≡ new
captured_text states target place moment entry text bytes new one is =
    tree-print new (captured_valid states target place moment entry (tree text) new is (entry_node bytes entry one) (tree-is text).valid)

-- ---- sums

made_weight : (w : Weight) (l : ℕ) (kinds : List DateKind) (day : CivilDay) (entry : Node) → weigh_node w (made_over l kinds day entry) ≡ added w entry (map (date_rest day) kinds)
made_weight w l [] day entry = omega (arith, weigh-shift w l entry)
made_weight w l (kind ∷ kinds) day entry =
    omega (arith, made_weight w (l + 1) kinds day entry, sum_by-cons (λ rest. w rest []) (date_rest day kind) (map (date_rest day) kinds))

put_weight : (w : Weight) (later up : Option ℕ) (node : Node) (d : Document) → ForSome up (λ i. i < node_count d) → ((i : ℕ) → later ≡ Some i → i < node_count d)
    → weigh w (put_dated later up node d).forest ≡ weigh w d.forest + weigh_node w node
put_weight w (Some i) up node d within later = beside-weight w i node d (later i refl)
put_weight w None up node d within later = insert-weight w up Last node d within

title_weight : (w : Weight) (place : Place) (entry : Node) (title : List ℕ) (d : Document) → weigh w (below_made place entry title d).forest ≡ weigh w d.forest + added w entry (rest_of title ∷ [])
title_weight w place entry title d =
    let with_head = append_heading 1 (rest_of title) d in
    let lt : node_count d < node_count with_head =
    omega (arith, count-is d, count-is with_head, one_each d.forest, one_each with_head.forest, made-weight (λ r s. 1) 1 (rest_of title) d) in
    omega (
      arith,
      insert-weight w (Some (node_count d)) place entry with_head (some_holds (λ i. i < node_count with_head) (node_count d) lt),
      made-weight w 1 (rest_of title) d,
      sum_by-cons (λ rest. w rest []) (rest_of title) [],
    )

pub captured_weight : (states : Keywords) (target : Target) (place : Place) (moment : Moment) (entry : Node) (d new : Document)
    → captured states target place moment entry d ≡ Ok new → (w : Weight) → weigh w new.forest ≡ weigh w d.forest + added w entry (missing states target moment d)
captured_weight states target place moment entry d new is w =
    way states target place moment entry d new (λ rests new. weigh w new.forest ≡ weigh w d.forest + added w entry rests)
    (record {
      put_in = λ up within. omega (arith, insert-weight w up place entry d within);
      title = λ title can. title_weight w place entry title d;
      dates = λ kind kinds up within.
          put_weight w _ up _ d within (λ i is. dated_in states d up kind (key_on kind moment.day) Greater i within is)
          ∙ ap (λ n. weigh w d.forest + n) (made_weight w (level_below up d) (kind ∷ kinds) moment.day entry);
    }) is

index_of : {X : Type 0} (xs : List X) (i : ℕ) (x : X) → slice_get xs i ≡ Some x → (i < length xs) × (get_or xs i x ≡ x)
index_of [] i x is = absurd cc
index_of (y ∷ ys) zero x is = (omega arith, cc)
index_of (y ∷ ys) (suc i) x is = let more = index_of ys i x is in (omega (arith, more.0), more.1)

pub captured_files : (states : Keywords) (target : Target) (place : Place) (moment : Moment) (entry : Node) (texts : List (List ℕ)) (i : ℕ) (text bytes : List ℕ) (new : Document)
    → slice_get texts i ≡ Some text → entry_in bytes ≡ Some entry → captured states target place moment entry (tree text) ≡ Ok new → (w : Weight)
    → sum_by (λ t. weigh w (tree t).forest) (slice_set texts i (print new)) ≡ sum_by (λ t. weigh w (tree t).forest) texts + added w entry (missing states target moment (tree text))
captured_files states target place moment entry texts i text bytes new here one is w =
    let of_text : List ℕ → ℕ = λ t. weigh w (tree t).forest in
    let index = index_of texts i text here in
    omega (
      arith,
      sum_by-set of_text texts i (print new) text index.0,
      ap of_text index.1,
      ap (λ (d : Document). weigh w d.forest) (captured_text states target place moment entry text bytes new one is),
      captured_weight states target place moment entry (tree text) new is w,
    )
