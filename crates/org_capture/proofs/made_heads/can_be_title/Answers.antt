use Rattle.std.proofs.Common.{◌≡◌, ◌∙◌, ◌++◌, ◌∷◌, [], ℕ, Bool, List, ap}
use Rattle.std.specs.Prelude.{◌&&◌, ◌==◌, not}
use Rattle.std.specs.List.{list_any}
use Rattle.org_outline.specs.declared.parts.HeadParts.{HeadParts}
use Rattle.org_outline.specs.States.{Keywords}
use Rattle.org_outline.specs.Parts.{AreParts, Parts, parts_of}
use Rattle.org_capture.specs.Capture.{can_be_title, is_only_title, rest_of}
use Rattle.org_capture.proofs.made_heads.can_be_title.Goals as goal

reported : (states : Keywords) (title rest : List ℕ) (parts : HeadParts) (only : Bool) → rest ≡ rest_of title → AreParts parts (parts_of states rest)
    → ((said : Parts) → AreParts parts said → only ≡ (is_only_title title said && not (list_any (λ b. b == 10) title))) → only ≡ can_be_title states title
reported states title rest parts only is read says =
    says (parts_of states rest) read ∙ ap (λ (l : List ℕ). is_only_title title (parts_of states l) && not (list_any (λ b. b == 10) title)) is

pub returns : goal.returns
returns c =
    let rest : c.as_slice.result.now ≡ rest_of c.args.title.now = c.as_slice.ensures.value ∙ c.in_ok-extend_from_slice.ensures.items
    ∙ ap (λ (l : List ℕ). l ++ c.args.title.now) (c.in_ok-push.ensures.items ∙ ap (λ (l : List ℕ). l ++ 32 ∷ []) c.new-rest.ensures.items) in
    reported c.args.states.now c.args.title.now c.as_slice.result.now c.of-parts.result c.has_only_title.result rest c.of-parts.ensures c.has_only_title.ensures
