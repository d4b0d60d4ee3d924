use Rattle.std.proofs.Common.{◌≡◌, ◌==◌, ◌∙◌, ◌++◌, ℕ, List, Ok, ap, false, sym}
use Rattle.std.specs.List.{list_any}
use Rattle.org_capture.specs.Template.{filled, pieces_of}
use Rattle.org_capture.proofs.Fillings.{no_sign_stays}
use Rattle.org_capture.proofs.template.expand.Goals as goal

pub loop-text-init : goal.loop-text-init
loop-text-init c = ap (λ (text : List ℕ). filled c.args.moment c.args.initial_text.now text (pieces_of c.args.template.now)) c.in_ok-text.ensures.items

pub returns-then-not-contains : goal.returns-then-not-contains
returns-then-not-contains c =
    let none : list_any (λ b. b == 37) c.args.template.now ≡ false = sym c.contains.ensures.value ∙ c.if-not-contains.true in
    let bytes : c.extend_from_slice.new.self.items ≡ c.args.template.now =
    c.in_ok-extend_from_slice.ensures.items ∙ ap (λ (text : List ℕ). text ++ c.args.template.now) c.in_ok-text.ensures.items in
    no_sign_stays c.args.template.now c.args.moment c.args.initial_text.now none ∙ ap (λ (text : List ℕ). Ok text) (sym bytes)
