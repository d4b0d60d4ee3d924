use Rattle.std.proofs.Common.{◌≡◌, ◌∙◌, ◌++◌, [], ◌∷◌, List, ℕ, None, map, refl, sym, ap, subst}
use Rattle.std.specs.Map.{keys_of, lookup}
use Rattle.std.specs.Str.{bytes_eq}
use Rattle.std.proofs.lemmas.List.{map-append}
use Rattle.indexmap.proofs.CallerLemmas.{insert_entry-new}
use Rattle.org_texts.specs.Held.{HeldText}
use Rattle.org_texts.specs.Inside.{IsHolding}
use Rattle.org_texts.specs.Texts.{Holding, now_of, text_of}
use Rattle.org_texts.proofs.Names.{among_more, none_of, same_set}
use Rattle.org_texts.proofs.Values.{map_more}
use Rattle.org_texts.proofs.texts.Texts.hold.Goals as goal
use Rattle.org_texts.proofs.texts.Texts.hold.Goals.{In_ok-insert}

-- the text stands after the others
made : (c : In_ok-insert) → c.insert.new.self.entries ≡ c.self.inside.held.entries ++ (c.args.name, c.new.result) ∷ []
made c =
    let es = c.self.inside.held.entries in
    let none : lookup (bytes_eq c.args.name) (map now_of es) ≡ None = ap (λ (h : Holding). text_of h.now c.args.name) c.self.view_is ∙ c.requires in
    c.in_ok-insert.ensures.entries ∙ insert_entry-new bytes_eq c.self.inside.held c.args.name c.new.result (none_of c.args.name es none)

pub invariant_of-self-2 : goal.invariant_of-self-2
invariant_of-self-2 c =
    let es = c.self.inside.held.entries in
    let names : keys_of c.insert.new.self.entries ≡ keys_of es ++ c.args.name ∷ [] = ap keys_of (made (goal.at.invariant_of-self-2 c).In_ok-insert) ∙ map-append (λ (e : List ℕ × HeldText). e.0) es ((c.args.name, c.new.result) ∷ []) in
    subst (λ (l : List (List ℕ)). IsHolding l c.self.inside.dirty.keys c.self.inside.dirty_before) (sym names)
    (record { held = among_more (keys_of es) (c.args.name ∷ []) c.self.inside.dirty.keys c.self.invariant.held; first = c.self.invariant.first })

pub returns-clause-now : goal.returns-clause-now
returns-clause-now c =
    rw (← c.self.view_is) (same_set (map_more (λ (h : HeldText). h.text) c.self.inside.held.entries _ c.args.name c.new.result _ (made (goal.at.returns-clause-now c).In_ok-insert) (ap (λ (h : HeldText). h.text) c.new.ensures)) refl)

pub returns-clause-before : goal.returns-clause-before
returns-clause-before c =
    rw (← c.self.view_is) (same_set (map_more (λ (h : HeldText). h.before) c.self.inside.held.entries _ c.args.name c.new.result _ (made (goal.at.returns-clause-before c).In_ok-insert) (ap (λ (h : HeldText). h.before) c.new.ensures)) refl)

pub returns-clause-ready : goal.returns-clause-ready
returns-clause-ready c =
    rw (← c.self.view_is) (map_more (λ (h : HeldText). h.ready) c.self.inside.held.entries _ c.args.name c.new.result _ (made (goal.at.returns-clause-ready c).In_ok-insert) (ap (λ (h : HeldText). h.ready) c.new.ensures))
