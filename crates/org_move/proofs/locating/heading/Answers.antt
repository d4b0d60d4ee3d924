use Rattle.std.proofs.Common.{◌≡◌, ℕ, true, false, Bool, eqb, List, [], ◌∷◌, length, drop, Option, Some, None, sym, ap, ◌∙◌}
use Rattle.std.specs.Prelude.{if◌then◌else◌}
use Rattle.std.specs.Option.{option_and_then}
use Rattle.org_outline.specs.declared.parts.HeadParts.{HeadParts}
use Rattle.org_outline.specs.States.{Keywords}
use Rattle.org_headings.specs.Text.{level_of}
use Rattle.org_outline.specs.Parts.{AreParts, Parts, parts_of}
use Rattle.org_move.specs.Location.{Heading, heading_made, heading_of, is_title_alone, titled_line}
use Rattle.org_move.proofs.locating.heading.Goals as goal

-- of a line with stars the rest decides
behind_stars : (states : Keywords) (line : List ℕ) (level : ℕ) → eqb (length line) 0 ≡ false → level_of line ≡ Some level → heading_of states line ≡ titled_line states line level
behind_stars states [] level full stars = absurd cc
behind_stars states (b ∷ bs) level full stars = ap (option_and_then (titled_line states (b ∷ bs))) stars

reported : (states : Keywords) (line rest : List ℕ) (level : ℕ) (parts : HeadParts) (alone : Bool) → rest ≡ drop level line → AreParts parts (parts_of states rest)
    → ((said : Parts) → AreParts parts said → alone ≡ is_title_alone said)
    → titled_line states line level ≡ (if alone then Some (heading_made (level, parts.title)) else None)
reported states line rest level parts alone rest_is read says =
    let make : Bool → List ℕ → Option Heading = λ b title. if b then Some (record { level = level; title = title }) else None in
    sym (ap (λ b. make b parts.title.now) (says (parts_of states rest) read) ∙ ap (make (is_title_alone (parts_of states rest))) read.title
    ∙ ap (λ l. let parts = parts_of states l in make (is_title_alone parts) parts.title) rest_is)

-- the heading of a line with stars
heading_is : (states : Keywords) (line rest : List ℕ) (level : ℕ) (parts : HeadParts) (alone made : Bool) → eqb (length line) 0 ≡ false → level_of line ≡ Some level → rest ≡ drop level line → AreParts parts (parts_of states rest)
    → ((said : Parts) → AreParts parts said → alone ≡ is_title_alone said) → alone ≡ made → (if made then Some (heading_made (level, parts.title)) else None) ≡ heading_of states line
heading_is states line rest level parts alone made full stars rest_is read says is =
    sym (behind_stars states line level full stars ∙ reported states line rest level parts alone rest_is read says ∙ ap (λ (b : Bool). if b then Some (heading_made (level, parts.title)) else None) is)

pub returns-then-is_title_alone-clause-value : goal.returns-then-is_title_alone-clause-value
returns-then-is_title_alone-clause-value c =
    heading_is c.args.states.now c.args.line.now _ c.in_ok-level.level c.of-parts.result _ true (sym c.is_empty.ensures ∙ c.if-is_empty.false) (sym c.heading_level.ensures ∙ c.in_ok-level.was) c.split_at.ensures.back c.of-parts.ensures c.is_title_alone.ensures
    c.if-is_title_alone.true

pub returns-else-is_title_alone-clause-value : goal.returns-else-is_title_alone-clause-value
returns-else-is_title_alone-clause-value c =
    heading_is c.args.states.now c.args.line.now _ c.in_ok-level.level c.of-parts.result _ false (sym c.is_empty.ensures ∙ c.if-is_empty.false) (sym c.heading_level.ensures ∙ c.in_ok-level.was) c.split_at.ensures.back c.of-parts.ensures c.is_title_alone.ensures
    c.if-is_title_alone.false
