-- Each list of lines has exactly one valid document.
use Rattle.std.proofs.Common.{rules, ◌≡◌, ℕ, ◌<◌, ◌≤◌, true, false, ltb, List, [], ◌∷◌, ◌++◌, Option, Some, None, refl, sym, ap, ◌∙◌, append_assoc, arith}
use Rattle.std.proofs.lemmas.Grind.{common_steps}
use Rattle.std.specs.Prelude.{◌≢◌, replicate}
use Rattle.std.specs.List.{AllByRecursion}
use Rattle.std.proofs.lemmas.Bool.{cases_Bool}
use Rattle.std.proofs.lemmas.Bool.Decides.{nat_tests}
use Rattle.std.proofs.lemmas.List.{append-nil}
use Rattle.org_splice.specs.Lines.{IsLine, terminated}
use Rattle.org_splice.proofs.Lines.{lines_of-lines, lines_of-print_lines, lines_of-terminated, print_lines-lines_of}
use Rattle.org_headings.specs.Text.{level_of, heading_line}
use Rattle.org_outline.specs.Tree.{Forest, Empty, Tree, Document, lines, AllRoots, IsPlain, IsForest, IsValid, IsTreeOf, deeper, others, with_line, tree_of_lines, tree}
use Rattle.org_outline.specs.Moves.{joined}
use Rattle.org_headings.proofs.Lines.{level_of-some, level_of-heading, drop-heading}
use Rattle.org_splice.proofs.AllLines.{AllByRecursion-append, AllByRecursion-drop, AllByRecursion-replicate}

-- ---- the first deeper trees, and the others

pub lines-deeper : (n : ℕ) (f : Forest) → lines (deeper n f) ++ lines (others n f) ≡ lines f
lines-deeper n Empty = refl
lines-deeper n (Tree m r s kids later) = grind (arith, common_steps, lines-deeper n later)

pub AllRoots-mono : (P Q : ℕ → Type 0) (f : Forest) → ((m : ℕ) → P m → Q m) → AllRoots P f → AllRoots Q f
AllRoots-mono P Q Empty h p = tt
AllRoots-mono P Q (Tree n r s kids later) h p = (h n p.0, AllRoots-mono P Q later h p.1)

AllRoots-deeper : (P : ℕ → Type 0) (n : ℕ) (f : Forest) → AllRoots P f → AllRoots P (deeper n f)
AllRoots-deeper P n Empty p = tt
AllRoots-deeper P n (Tree m r s kids later) p = grind (arith, common_steps, AllRoots-deeper P n later p.1)

pub deeper-roots : (n : ℕ) (f : Forest) → AllRoots (λ m. n < m) (deeper n f)
deeper-roots n Empty = tt
deeper-roots n (Tree m r s kids later) = grind (arith, common_steps, deeper-roots n later)

pub IsForest-deeper : (n : ℕ) (f : Forest) → IsForest f → IsForest (deeper n f)
IsForest-deeper n Empty p = tt
IsForest-deeper n (Tree m r s kids later) p = grind (arith, common_steps, cases_Bool, AllRoots-deeper, IsForest-deeper n later p.4)

pub others-roots : (n : ℕ) (f : Forest) → IsForest f → AllRoots (λ m. m ≤ n) (others n f)
others-roots n Empty p = tt
others-roots n (Tree m r s kids later) p = grind (arith, common_steps, cases_Bool, nat_tests, AllRoots-mono, others-roots n later p.4)

pub IsForest-others : (n : ℕ) (f : Forest) → IsForest f → IsForest (others n f)
IsForest-others n Empty p = tt
IsForest-others n (Tree m r s kids later) p = grind (arith, common_steps, IsForest-others n later p.4)

-- ---- there is one

lines-with_line : (o : Option ℕ) (l : List ℕ) (d : Document) → level_of l ≡ o
    → (with_line o l d).preamble ++ lines (with_line o l d).forest ≡ l ∷ (d.preamble ++ lines d.forest)
lines-with_line None l d e = refl
lines-with_line (Some n) l d e =
    let parts = (level_of-some l n e).parts in
    rw (parts, lines-deeper n d.forest) refl

pub lines-tree_of_lines : (ls : List (List ℕ)) → (tree_of_lines ls).preamble ++ lines (tree_of_lines ls).forest ≡ ls
lines-tree_of_lines [] = refl
lines-tree_of_lines (l ∷ ls) = lines-with_line (level_of l) l (tree_of_lines ls) refl ∙ ap (λ ls. l ∷ ls) (lines-tree_of_lines ls)

valid-with_line : (o : Option ℕ) (l : List ℕ) (d : Document) → level_of l ≡ o → IsLine l → IsValid d → IsValid (with_line o l d)
valid-with_line None l d e p v = record { preamble = ((p, e), v.preamble); forest = v.forest }
valid-with_line (Some n) l d e p v = grind (arith, common_steps, level_of-some, AllByRecursion-drop, deeper-roots, IsForest-deeper, others-roots, IsForest-others)

pub valid-tree_of_lines : (ls : List (List ℕ)) → AllByRecursion IsLine ls → IsValid (tree_of_lines ls)
valid-tree_of_lines [] p = record { preamble = tt; forest = tt }
valid-tree_of_lines (l ∷ ls) p = valid-with_line (level_of l) l (tree_of_lines ls) refl p.0 (valid-tree_of_lines ls p.1)

pub tree-is : (t : List ℕ) → IsTreeOf t (tree t)
tree-is t = grind (arith, common_steps, valid-tree_of_lines, lines_of-lines, lines-tree_of_lines, print_lines-lines_of)

-- a text and the terminated text have one tree
pub tree-terminated : (t : List ℕ) → tree (terminated t) ≡ tree t
tree-terminated t = ap tree_of_lines (lines_of-terminated t)

-- ---- there is no other

pub joined-empty : (f : Forest) → joined f Empty ≡ f
joined-empty Empty = refl
joined-empty (Tree n r s kids later) = ap (Tree n r s kids) (joined-empty later)

pub AllRoots-joined : (P : ℕ → Type 0) (f g : Forest) → AllRoots P f → AllRoots P g → AllRoots P (joined f g)
AllRoots-joined P Empty g p q = q
AllRoots-joined P (Tree n r s kids later) g p q = (p.0, AllRoots-joined P later g p.1 q)

pub deeper-none : (n : ℕ) (g : Forest) → AllRoots (λ m. m ≤ n) g → deeper n g ≡ Empty
deeper-none n Empty p = refl
deeper-none n (Tree m r s kids later) p = let le : m ≤ n = p.0 in let e : ltb n m ≡ false = grind (arith, nat_tests) in rw e refl

pub others-all : (n : ℕ) (g : Forest) → AllRoots (λ m. m ≤ n) g → others n g ≡ g
others-all n Empty p = refl
others-all n (Tree m r s kids later) p = let le : m ≤ n = p.0 in let e : ltb n m ≡ false = grind (arith, nat_tests) in rw e refl

pub deeper-joined : (n : ℕ) (f g : Forest) → AllRoots (λ m. n < m) f → AllRoots (λ m. m ≤ n) g → deeper n (joined f g) ≡ f
deeper-joined n Empty g p q = deeper-none n g q
deeper-joined n (Tree m r s kids later) g p q =
    let lt : n < m = p.0 in let e : ltb n m ≡ true = grind (arith, nat_tests) in rw e (ap (Tree m r s kids) (deeper-joined n later g p.1 q))

pub others-joined : (n : ℕ) (f g : Forest) → AllRoots (λ m. n < m) f → AllRoots (λ m. m ≤ n) g → others n (joined f g) ≡ g
others-joined n Empty g p q = others-all n g q
others-joined n (Tree m r s kids later) g p q =
    let lt : n < m = p.0 in let e : ltb n m ≡ true = grind (arith, nat_tests) in rw e (others-joined n later g p.1 q)

-- no root of g lies deeper than a root of f
abbrev pub NotBelow : Forest → Forest → Type 0
NotBelow f g = AllRoots (λ m. AllRoots (λ k. k ≤ m) g) f

NotBelow-deep : (n : ℕ) (f g : Forest) → AllRoots (λ m. n < m) f → AllRoots (λ m. m ≤ n) g → NotBelow f g
NotBelow-deep n f g p q = AllRoots-mono (λ m. n < m) (λ m. AllRoots (λ k. k ≤ m) g) f (λ m lt. AllRoots-mono (λ k. k ≤ n) (λ k. k ≤ m) g (λ k le. omega arith) q) p

abbrev pub document : List (List ℕ) → Forest → Document
document p f = record { preamble = p; forest = f }

tree_of_plain : (s ls : List (List ℕ)) → AllByRecursion IsPlain s → tree_of_lines (s ++ ls) ≡ document (s ++ (tree_of_lines ls).preamble) (tree_of_lines ls).forest
tree_of_plain [] ls p = refl
tree_of_plain (l ∷ s) ls p = grind (arith, common_steps, tree_of_plain s ls p.1)

tree_of_forest : (f g : Forest) (ls : List (List ℕ)) → IsForest f → tree_of_lines ls ≡ document [] g → NotBelow f g
    → tree_of_lines (lines f ++ ls) ≡ document [] (joined f g)
tree_of_forest Empty g ls v e b = e
tree_of_forest (Tree n r s kids later) g ls v e b =
    let h = v.0 in
    let after = tree_of_forest later g ls v.4 e b.1 in
    let low : AllRoots (λ m. m ≤ n) (joined later g) = AllRoots-joined (λ m. m ≤ n) later g v.3 b.0 in
    let below = tree_of_forest kids (joined later g) (lines later ++ ls) v.2 after (NotBelow-deep n kids (joined later g) v.1 low) in
    let section = tree_of_plain s (lines kids ++ (lines later ++ ls)) h.section in
    let regrouped : lines (Tree n r s kids later) ++ ls ≡ heading_line n r ∷ s ++ (lines kids ++ (lines later ++ ls)) = ap (λ ls. heading_line n r ∷ ls) (append_assoc s (lines kids ++ lines later) ls ∙ ap (λ x. s ++ x) (append_assoc (lines kids) (lines later) ls)) in
    let tail : tree_of_lines (s ++ (lines kids ++ (lines later ++ ls))) ≡ document s (joined kids (joined later g)) =
    section ∙ ap (λ (d : Document). document (s ++ d.preamble) d.forest) below ∙ ap (λ p. document p (joined kids (joined later g))) (append-nil s) in
    ap tree_of_lines regrouped
    ∙ ap (λ d. with_line (level_of (heading_line n r)) (heading_line n r) d) tail
    ∙ ap (λ o. with_line o (heading_line n r) (document s (joined kids (joined later g)))) (level_of-heading n r h.level h.space)
    ∙ rw (drop-heading n r, deeper-joined n kids (joined later g) v.1 low, others-joined n kids (joined later g) v.1 low) refl

NotBelow-empty : (f : Forest) → NotBelow f Empty
NotBelow-empty Empty = tt
NotBelow-empty (Tree n r s kids later) = (tt, NotBelow-empty later)

pub tree_of-lines : (d : Document) → IsValid d → tree_of_lines (d.preamble ++ lines d.forest) ≡ d
tree_of-lines d v =
    let trees = tree_of_forest d.forest Empty [] v.forest refl (NotBelow-empty d.forest) in
    let all : tree_of_lines (lines d.forest) ≡ document [] d.forest = ap tree_of_lines (sym (append-nil (lines d.forest))) ∙ trees ∙ ap (document []) (joined-empty d.forest) in
    tree_of_plain d.preamble (lines d.forest) v.preamble ∙ ap (λ (e : Document). document (d.preamble ++ e.preamble) e.forest) all ∙ ap (λ p. document p d.forest) (append-nil d.preamble)

pub IsPlain-lines : (ls : List (List ℕ)) → AllByRecursion IsPlain ls → AllByRecursion IsLine ls
IsPlain-lines [] p = tt
IsPlain-lines (l ∷ ls) p = (p.0.0, IsPlain-lines ls p.1)

pub IsLine-heading : (n : ℕ) (r : List ℕ) → IsLine r → IsLine (heading_line n r)
IsLine-heading n r p = AllByRecursion-append (λ b. b ≢ 10) (replicate n 42) r (AllByRecursion-replicate (λ b. b ≢ 10) n 42 (λ e. absurd (omega (arith, e)))) p

pub lines-are : (f : Forest) → IsForest f → AllByRecursion IsLine (lines f)
lines-are Empty v = tt
lines-are (Tree n r s kids later) v = search (rules, arith, IsLine-heading, AllByRecursion-append, lines, IsPlain-lines, lines-are kids v.2, lines-are later v.4)

pub document-lines : (d : Document) → IsValid d → AllByRecursion IsLine (d.preamble ++ lines d.forest)
document-lines d v = AllByRecursion-append IsLine d.preamble (lines d.forest) (IsPlain-lines d.preamble v.preamble) (lines-are d.forest v.forest)

pub one_tree : (t : List ℕ) (d : Document) → IsTreeOf t d → d ≡ tree t
one_tree t d h = grind (arith, common_steps, lines, lines_of-terminated, lines_of-print_lines, document-lines, tree_of-lines)
