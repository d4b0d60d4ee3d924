-- The section of a node of a text, and the properties in it.
use Rattle.std.proofs.Common.{◌≡◌, ℕ, ◌<◌, ◌≤◌, List, [], ◌∷◌, length, Some, None, sym, ap, ◌∙◌, arith, length-append}
use Rattle.std.proofs.lemmas.Grind.{common_steps}
use Rattle.std.specs.Prelude.{slice_range}
use Rattle.std.specs.List.{AllByRecursion}
use Rattle.std.specs.Option.{option_and_then}
use Rattle.org_splice.specs.Lines.{terminated, print_lines, IsLine}
use Rattle.org_splice.specs.declared.Span.{Span}
use Rattle.org_splice.proofs.Lines.{terminated-print_lines, lines_of-print_lines, size-append}
use Rattle.org_outline.specs.Outline.{IsSection}
use Rattle.org_outline.specs.Tree.{IsPlain, lines, own_lines, tree, node_at, node_count}
use Rattle.org_outline.proofs.Changes.{take_local}
use Rattle.org_outline.proofs.Sections.{node-valid}
use Rattle.org_meta.specs.Sections.{parts_of, property, split}
use Rattle.org_move.specs.Inherited.{nonempty, own_value}
use Rattle.org_move.proofs.Made.{prints}

pub plain_lines : (ls : List (List ℕ)) → AllByRecursion IsPlain ls → AllByRecursion IsLine ls
plain_lines [] p = tt
plain_lines (l ∷ ls) p = (p.0.0, plain_lines ls p.1)

pub section_lines : (t : List ℕ) (i : ℕ) → i < node_count (tree t) → AllByRecursion IsLine (node_at (tree t) i).node.section
section_lines t i lt = plain_lines _ (node-valid t i lt).heading.section

-- the section lies in the text
pub section_within : (t u : List ℕ) (i : ℕ) (s : Span) → u ≡ t → terminated t ≡ t → i < node_count (tree t) → IsSection t (node_at (tree t) i) s → s.end ≤ length u
section_within t u i s same stays_terminated lt is = grind (arith, common_steps, take_local, length-append, size-append, own_lines, lines, prints)

-- the bytes of a section, however the text is called
pub section_bytes : (t u : List ℕ) (i : ℕ) (s : Span) → u ≡ t → IsSection t (node_at (tree t) i) s → slice_range u s.start s.end ≡ print_lines (node_at (tree t) i).node.section
section_bytes t u i s same is = ap (λ u. slice_range u s.start s.end) same ∙ is.bytes

pub section_terminated : (t u : List ℕ) (i : ℕ) (s : Span) → u ≡ t → IsSection t (node_at (tree t) i) s → terminated (slice_range u s.start s.end) ≡ slice_range u s.start s.end
section_terminated t u i s same is = rw (section_bytes t u i s same is) (terminated-print_lines _)

-- and its parts are those of the node's section
pub section_parts : (t u : List ℕ) (i : ℕ) (s : Span) → u ≡ t → i < node_count (tree t) → IsSection t (node_at (tree t) i) s
    → parts_of (slice_range u s.start s.end) ≡ split (node_at (tree t) i).node.section
section_parts t u i s same lt is =
    ap parts_of (section_bytes t u i s same is) ∙ ap split (lines_of-print_lines _ (section_lines t i lt))

pub own_none : (t u name : List ℕ) (i : ℕ) (s : Span) → u ≡ t → i < node_count (tree t) → IsSection t (node_at (tree t) i) s
    → property name (parts_of (slice_range u s.start s.end)) ≡ None → own_value name (tree t) i ≡ None
own_none t u name i s same lt is none =
    let parts = section_parts t u i s same lt is in
    ap (λ parts. option_and_then nonempty (property name parts)) (sym parts) ∙ ap (option_and_then nonempty) none

pub own_some : (t u name value : List ℕ) (i : ℕ) (s : Span) → u ≡ t → i < node_count (tree t) → IsSection t (node_at (tree t) i) s
    → property name (parts_of (slice_range u s.start s.end)) ≡ Some value → own_value name (tree t) i ≡ nonempty value
own_some t u name value i s same lt is some =
    let parts = section_parts t u i s same lt is in
    ap (λ parts. option_and_then nonempty (property name parts)) (sym parts) ∙ ap (option_and_then nonempty) some
