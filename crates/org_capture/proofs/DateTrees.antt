-- Date headings that are made, with an entry below the last, as bytes put in.
use Rattle.std.proofs.Common.{rules, ◌≡◌, ℕ, ◌+◌, ◌<◌, ◌≤◌, List, Bool, find, true, inl, inr, [], ◌∷◌, ◌++◌, length, Option, Some, None, refl, sym, ap, ◌∙◌, arith}
use Rattle.std.proofs.lemmas.Grind.{common_steps}
use Rattle.std.specs.declared.cmp.Ordering.{Ordering}
use Rattle.std.specs.declared.cmp.Ordering.TheVariants.{Equal, Greater}
use Rattle.std.proofs.lemmas.Bool.{cases_Bool}
use Rattle.org_splice.specs.Lines.{terminated}
use Rattle.org_outline.specs.States.{Keywords}
use Rattle.org_outline.specs.declared.moves.Place.{Place}
use Rattle.org_outline.specs.Tree.{Forest, Empty, Tree, Node, Document, tree, print, print_node, node_at, node_count}
use Rattle.org_outline.specs.Moves.{Inserts, shifted, shift_node, then_trees, level_below}
use Rattle.org_outline.proofs.Trees.{tree-is}
use Rattle.org_outline.proofs.Changes.{insert_before_local}
use Rattle.org_stamp.specs.Calendar.{CivilDay}
use Rattle.org_capture.specs.declared.dates.DateKind.{DateKind}
use Rattle.org_capture.specs.Dates.{key_on, made_over, made_lines, first_dated, is_dated, put_dated, dated}

-- ---- made at their level, they keep it

shifted_deep : (n b l : ℕ) (f : Forest) → l ≤ b → shifted l l (shifted n b f) ≡ shifted n b f
shifted_deep n b l Empty le = refl
shifted_deep n b l (Tree m r s kids later) le = grind (arith, common_steps, shifted_deep n b l kids le, shifted_deep n b l later le)

made_deep : (n l : ℕ) (kinds : List DateKind) (day : CivilDay) (entry : Node) → n ≤ l → shifted n n (then_trees (made_over l kinds day entry) Empty) ≡ then_trees (made_over l kinds day entry) Empty
made_deep n l [] day entry le = grind (arith, common_steps, shifted_deep)
made_deep n l (kind ∷ kinds) day entry le = grind (arith, common_steps, made_deep n (l + 1) kinds day entry (omega (arith, le)))

pub made_shift : (l : ℕ) (kind : DateKind) (kinds : List DateKind) (day : CivilDay) (entry : Node) → shift_node l (made_over l (kind ∷ kinds) day entry) ≡ made_over l (kind ∷ kinds) day entry
made_shift l kind kinds day entry = grind (arith, common_steps, made_deep)

-- ---- their lines

pub made_prints : (l : ℕ) (kinds : List DateKind) (day : CivilDay) (entry : Node) → print_node (made_over l kinds day entry) ≡ made_lines l kinds day ++ print_node (shift_node (l + length kinds) entry)
made_prints l [] day entry = grind (arith, common_steps)
made_prints l (kind ∷ kinds) day entry = grind (arith, common_steps, made_prints (l + 1) kinds day entry)

-- ---- where they go

found_passes : (p : ℕ → Bool) (xs : List ℕ) (x : ℕ) → find p xs ≡ Some x → p x ≡ true
found_passes p [] x is = absurd cc
found_passes p (y ∷ ys) x is =
    elim (cases_Bool (p y)) [
      | inl e ↦
          let here : Some y ≡ Some x = rw e at is in
          let same : y ≡ x = cc in
          ap p (sym same) ∙ e
      | inr e ↦ found_passes p ys x (rw e at is)
    ]

pub dated_level : (states : Keywords) (d : Document) (level : ℕ) (kind : DateKind) (key : List ℕ) (wanted : Ordering) (i : ℕ) → is_dated states level kind key wanted (node_at d i).node ≡ true
    → (node_at d i).node.level ≡ level
dated_level states d level kind key wanted i passes = grind (arith, common_steps)

-- a heading that was found has the level of what goes below the parent
pub found_level : (states : Keywords) (d : Document) (up : Option ℕ) (kind : DateKind) (key : List ℕ) (wanted : Ordering) (i : ℕ) → first_dated states d up kind key wanted ≡ Some i
    → (node_at d i).node.level ≡ level_below up d
found_level states d up kind key wanted i is = search (rules, arith, found_passes, dated_level)

pub dated_before : (states : Keywords) (text : List ℕ) (up : Option ℕ) (kind : DateKind) (key : List ℕ) (i k : ℕ) (node : Node) → terminated text ≡ text → i < node_count (tree text)
    → first_dated states (tree text) up kind key Greater ≡ Some i → k ≡ (node_at (tree text) i).at
    → Inserts text (print (put_dated (first_dated states (tree text) up kind key Greater) up node (tree text))) k (print_node (shift_node (level_below up (tree text)) node))
dated_before states text up kind key i k node stays_terminated lt found at = grind (arith, common_steps, tree-is, found_level, insert_before_local)

-- ---- what is found, and what is made

pub dated_found : (states : Keywords) (place : Place) (day : CivilDay) (entry : Node) (d : Document) (kinds rest : List DateKind) (kind : DateKind) (up : Option ℕ) (i : ℕ) → kinds ≡ kind ∷ rest
    → first_dated states d up kind (key_on kind day) Equal ≡ Some i → dated states place day entry d kinds up ≡ dated states place day entry d rest (Some i)
dated_found states place day entry d kinds rest kind up i cut found = grind (arith, common_steps)

pub dated_made : (states : Keywords) (place : Place) (day : CivilDay) (entry : Node) (d : Document) (kinds rest : List DateKind) (kind : DateKind) (up : Option ℕ) → kinds ≡ kind ∷ rest
    → first_dated states d up kind (key_on kind day) Equal ≡ None
    → dated states place day entry d kinds up ≡ put_dated (first_dated states d up kind (key_on kind day) Greater) up (made_over (level_below up d) (kind ∷ rest) day entry) d
dated_made states place day entry d kinds rest kind up cut found = grind (arith, common_steps)
