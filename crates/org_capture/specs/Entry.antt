-- Entries: texts that are one heading with what lies below it (Org manual, "Template elements":
-- type `entry`).
use Rattle.std.specs.Prelude.{◌≡◌, ℕ, List, [], ◌∷◌, Option, Some, None, Result, Ok, Err}
use Rattle.org_fault.specs.declared.refusal.Refusal.{Refusal}
use Rattle.org_fault.specs.declared.refusal.Refusal.TheVariants.{BadEntry}
use Rattle.org_splice.specs.Lines.{terminated}
use Rattle.org_outline.specs.Tree.{Forest, Empty, Tree, Node, tree}

-- the one tree of a forest
abbrev pub one_root : Forest → Option Node
one_root Empty = None
one_root (Tree n r s kids Empty) =
    Some (record { level = n; rest = r; section = s; children = kids })
one_root (Tree n r s kids (Tree m q t more later)) = None

-- the one tree of a document that has no line before it
abbrev pub only_root : List (List ℕ) → Forest → Option Node
only_root [] forest = one_root forest
only_root (line ∷ lines) forest = None

-- the heading that a text is, with what lies below it
abbrev pub entry_in : List ℕ → Option Node
entry_in text = only_root (tree text).preamble (tree text).forest

-- the terminated text of an entry
abbrev pub terminated_if_one : Option Node → List ℕ → Result (List ℕ) Refusal
terminated_if_one None text = Err BadEntry
terminated_if_one (Some node) text = Ok (terminated text)

abbrev pub entry_text : List ℕ → Result (List ℕ) Refusal
entry_text text = terminated_if_one (entry_in text) text

-- a terminated text that is this entry
pub record IsEntry (text : List ℕ) (node : Node) : Type 0 where
  pub stays_terminated : terminated text ≡ text
  pub one : entry_in text ≡ Some node
