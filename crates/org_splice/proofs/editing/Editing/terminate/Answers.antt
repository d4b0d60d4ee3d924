use Rattle.std.proofs.Common.{◌≡◌, ◌-◌, ◌++◌, List, ℕ, [], ◌∷◌, length, get_or, true, false, refl, sym, ◌∙◌, ap, subst, arith}
use Rattle.std.proofs.lemmas.Result.{on_ok_weaker}
use Rattle.org_splice.specs.Lines.{terminated, is_terminated}
use Rattle.org_splice.specs.Texts.{EditedText, terminated_text, spliced}
use Rattle.org_splice.specs.Versions.{Versions, revised}
use Rattle.org_splice.proofs.Terminated.{terminated-newline, terminated-open, is_terminated-newline, is_terminated-open, spliced-end}
use Rattle.org_splice.proofs.editing.Editing.terminate.Goals as goal

pub returns-then-last-eq10-clause-ok : goal.returns-then-last-eq10-clause-ok
returns-then-last-eq10-clause-ok c =
    let text : EditedText = c.args.self.now.text in
    let last : get_or c.bytes.result.now (length c.bytes.result.now - 1) 0 ≡ 10 = sym (c.in-Some.ensures.item.3.1 0) ∙ c.if-last-eq10.true in
    let stays_terminated : is_terminated text.bytes ≡ true = ap is_terminated (sym c.bytes.ensures.bytes) ∙ is_terminated-newline c.bytes.result.now (length c.bytes.result.now - 1) (omega (arith, c.in-Some.ensures.item.3.0)) last in
    let same : terminated_text text ≡ text = rw stays_terminated refl in
    sym (ap (revised c.args.self.now) same)

pub returns-then-last-eq10-clause-bytes : goal.returns-then-last-eq10-clause-bytes
returns-then-last-eq10-clause-bytes c =
    let last : get_or c.bytes.result.now (length c.bytes.result.now - 1) 0 ≡ 10 = sym (c.in-Some.ensures.item.3.1 0) ∙ c.if-last-eq10.true in
    sym (subst (λ (text : List ℕ). terminated text ≡ text) c.bytes.ensures.bytes (terminated-newline c.bytes.result.now (length c.bytes.result.now - 1) (omega (arith, c.in-Some.ensures.item.3.0)) last))

pub returns-clause-ok : goal.returns-clause-ok
returns-clause-ok c =
    let text : EditedText = c.args.self.now.text in
    let last : get_or c.bytes.result.now (length c.bytes.result.now - 1) 0 ≡ 10 → ⊥ = λ newline. c.if-last-eq10.false (c.in-Some.ensures.item.3.1 0 ∙ newline) in
    let open_end : is_terminated text.bytes ≡ false = ap is_terminated (sym c.bytes.ensures.bytes) ∙ is_terminated-open c.bytes.result.now (length c.bytes.result.now - 1) (omega (arith, c.in-Some.ensures.item.3.0)) last in
    let made : terminated_text text ≡ spliced (length text.bytes) 0 (10 ∷ []) text = rw open_end refl in
    on_ok_weaker c.splice.result
    (λ is. is ∙ ap (λ (t : List ℕ). revised c.args.self.now (spliced (length t) 0 (10 ∷ []) text)) c.bytes-2.ensures.bytes ∙ ap (revised c.args.self.now) (sym made))
    c.splice.ensures.ok

pub returns-clause-bytes : goal.returns-clause-bytes
returns-clause-bytes c =
    let last : get_or c.bytes.result.now (length c.bytes.result.now - 1) 0 ≡ 10 → ⊥ = λ newline. c.if-last-eq10.false (c.in-Some.ensures.item.3.1 0 ∙ newline) in
    let open_end : terminated c.args.self.now.text.bytes ≡ c.args.self.now.text.bytes ++ 10 ∷ [] =
    subst (λ (text : List ℕ). terminated text ≡ text ++ 10 ∷ []) c.bytes.ensures.bytes (terminated-open c.bytes.result.now (length c.bytes.result.now - 1) (omega (arith, c.in-Some.ensures.item.3.0)) last) in
    on_ok_weaker c.splice.result
    (λ is.
    ap (λ (e : Versions). e.text.bytes) is
    ∙ ap (λ (text : List ℕ). (spliced (length text) 0 (10 ∷ []) c.args.self.now.text).bytes) c.bytes-2.ensures.bytes
    ∙ spliced-end c.args.self.now.text.bytes (10 ∷ []) ∙ sym open_end)
    c.splice.ensures.ok
