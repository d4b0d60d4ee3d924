-- All clocks of a document that are open, for what clocking makes of them (Org Syntax, "Clocks").
use Rattle.std.specs.Prelude.{ℕ, suc, List, [], ◌∷◌, ◌++◌, map, filter}
use Rattle.org_outline.specs.Tree.{Document, Placed, nodes}
use Rattle.org_meta.specs.Clocks.{is_open}

-- the open clock lines of these headings, in order, each with its heading's number: i is that of
-- the first heading
abbrev pub clocks_from : ℕ → List Placed → List (ℕ × List ℕ)
clocks_from i [] = []
clocks_from i (p ∷ ps) =
    map (λ line. (i, line)) (filter is_open p.node.section) ++ clocks_from (suc i) ps

-- those of a document, in document order
abbrev pub open_clocks : Document → List (ℕ × List ℕ)
open_clocks d = clocks_from 0 (nodes d)
