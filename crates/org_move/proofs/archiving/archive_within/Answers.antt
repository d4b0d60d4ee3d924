use Rattle.std.proofs.Common.{ℕ, List, Option, Err, ap, ◌∙◌, subst, sym}
use Rattle.std.specs.Prelude.{IsErrAnd, Result}
use Rattle.std.proofs.lemmas.Result.{err_from_is_err_and}
use Rattle.org_fault.specs.declared.fault.Fault.{Fault}
use Rattle.org_fault.specs.declared.refusal.Refusal.{Refusal}
use Rattle.org_splice.specs.Edits.{AreEdits}
use Rattle.org_splice.specs.declared.edit.Edit.{Edit}
use Rattle.org_outline.specs.Tree.{Document, Node, print, print_node, tree}
use Rattle.org_move.specs.Answers.{IsMadeAs}
use Rattle.org_move.specs.Archive.{archive_within_at, archived, filled}
use Rattle.org_move.proofs.Within.{archived_within, not_apart, starved}
use Rattle.org_move.proofs.archiving.archive_within.Goals as goal

-- a fault that is handed on
handed : {A B : Type 0} (said : Result B Refusal) (Fits : B → A → Type 0) (P : Fault Refusal → Type 0) (r : Result A (Fault Refusal)) → IsErrAnd r P → ((fault : Fault Refusal) → P fault → IsMadeAs said Fits (Err fault)) → IsMadeAs said Fits r
handed said Fits P r is gives =
    let reported = err_from_is_err_and r is in
    subst (IsMadeAs said Fits) (sym reported.1) (gives reported.0 reported.2)

pub returns-in_err-up : goal.returns-in_err-up
returns-in_err-up c =
    let outline = c.args.outline.now in
    let Fits : Document → List Edit → Type 0 = λ new edits. AreEdits edits outline.text (print new) in
    let said = archive_within_at outline.states c.args.name.now c.args.now c.args.to.now (tree outline.text) c.args.node in
    handed said Fits _ c.from_residual-in_err-up.result c.from_residual-in_err-up.ensures.1 (λ fault is. subst (λ (f : Fault Refusal). IsMadeAs said Fits (Err f)) (sym is)
    (not_apart outline.states c.args.name.now c.args.now c.args.to.now (tree outline.text) Fits _ c.args.node c.in_ok-target_heading.field-0 c.in_err-up.field-0.0
    c.target_heading.ensures.value c.in_ok-target_heading.was c.in_err-up.ensures.value))

pub returns-in_err-lines : goal.returns-in_err-lines
returns-in_err-lines c =
    let outline = c.args.outline.now in
    let Fits : Document → List Edit → Type 0 = λ new edits. AreEdits edits outline.text (print new) in
    let said = archive_within_at outline.states c.args.name.now c.args.now c.args.to.now (tree outline.text) c.args.node in
    handed said Fits _ c.from_residual-in_err-lines.result c.from_residual-in_err-lines.ensures.1 (λ fault is. starved outline.states c.args.name.now c.args.now c.args.to.now (tree outline.text) Fits _ c.args.node
    c.in_ok-target_heading.field-0 c.in_ok-up.up fault c.target_heading.ensures.value c.in_ok-target_heading.was c.in_ok-up.ensures.value is)

pub returns : goal.returns
returns c =
    let outline = c.args.outline.now in
    let to = c.args.to.now in
    let up = c.in_ok-up.up in
    let root : Node = archived outline.states c.args.name.now c.args.now (tree outline.text) c.args.node in
    let lines = c.in_ok-lines.ensures.lines ∙ ap (λ (above : Option ℕ). print_node (filled to above root)) c.level_above-above.ensures.level in
    archived_within outline.states c.args.name.now c.args.now outline.text to _ c.args.node c.in_ok-target_heading.field-0 up _ _ _ _ c.in_ok-lines.ensures.terminated
    c.target_heading.ensures.value c.in_ok-target_heading.was c.in_ok-up.ensures.value c.requires
    (λ node. c.last_below_without-at.ensures to node) c.without.ensures c.insertion-goes_in.ensures lines
