use Rattle.std.proofs.Common.{rules, ◌≡◌, ◌∙◌, ◌∷◌, ℕ, List, Option, Some, None, Ok, length, refl, sym, ap, subst, arith}
use Rattle.std.specs.declared.cmp.Ordering.TheVariants.{Equal, Greater}
use Rattle.std.proofs.lemmas.List.{nil_from_length}
use Rattle.std.proofs.lemmas.Result.{err_from_is_err_and}
use Rattle.org_splice.specs.declared.edit.Edit.{Edit}
use Rattle.org_outline.specs.States.{Keywords}
use Rattle.org_outline.specs.Tree.{Node, Document, tree, print, print_node}
use Rattle.org_outline.specs.Moves.{Inserts, level_below, shift_node}
use Rattle.org_outline.proofs.AsEdits.{inserts_edit}
use Rattle.org_stamp.specs.Calendar.{CivilDay}
use Rattle.org_capture.specs.declared.dates.DateKind.{DateKind}
use Rattle.org_capture.specs.Dates.{key_on, first_dated, put_dated, made_over}
use Rattle.org_capture.specs.Answers.{AnswersEdit}
use Rattle.org_capture.specs.Entry.{IsEntry}
use Rattle.org_capture.proofs.Faults.{no_memory}
use Rattle.org_capture.proofs.Insertions.{makes}
use Rattle.org_capture.proofs.DateTrees.{dated_found, dated_made, made_shift}
use Rattle.org_capture.proofs.date_trees.+dated_insertion.Goals as goal

pub returns-in_default : goal.returns-in_default
returns-in_default t c = λ node entry. rw (nil_from_length c.args.kinds.now c.in_default.ensures.cases) (c.insertion.ensures node entry)

pub insertion-requires-clause-parent : goal.insertion-requires-clause-parent
insertion-requires-clause-parent t c = c.requires.parent

pub insertion-requires-clause-entry : goal.insertion-requires-clause-entry
insertion-requires-clause-entry t c = c.requires.entry

pub first_dated-requires : goal.first_dated-requires
first_dated-requires t c = c.requires.parent

pub level_below-level-requires : goal.level_below-level-requires
level_below-level-requires t c = c.requires.parent

pub dated_place-at-requires : goal.dated_place-at-requires
dated_place-at-requires t c = c.requires.parent

pub made_dates-requires-clause-low : goal.made_dates-requires-clause-low
made_dates-requires-clause-low t c = c.level_below-level.ensures.low

pub made_dates-requires-clause-high : goal.made_dates-requires-clause-high
made_dates-requires-clause-high t c = omega (arith, c.requires.few, c.if-level-gt-DEEPEST.false)

pub made_dates-requires-clause-entry : goal.made_dates-requires-clause-entry
made_dates-requires-clause-entry t c = (c.requires.entry.0, subst (λ (t : List ℕ). IsEntry t c.requires.entry.0) (sym c.deref.ensures.value) c.requires.entry.1)

pub returns-then-level-gt-DEEPEST : goal.returns-then-level-gt-DEEPEST
returns-then-level-gt-DEEPEST t c = λ node entry. tt

pub returns-in_err-key : goal.returns-in_err-key
returns-in_err-key t c = λ node entry.
    let p = err_from_is_err_and c.from_residual.result c.from_residual.ensures.1 in
    no_memory _ c.args.outline.now.text _ p.0 p.1 p.2

pub returns-in_err-made_dates : goal.returns-in_err-made_dates
returns-in_err-made_dates t c = λ node entry.
    let p = err_from_is_err_and c.from_residual-in_err-made_dates.result c.from_residual-in_err-made_dates.ensures.1 in
    no_memory _ c.args.outline.now.text _ p.0 p.1 p.2

pub returns-in-Some-first_dated : goal.returns-in-Some-first_dated
returns-in-Some-first_dated t c = λ node entry.
    let states : Keywords = c.args.outline.now.states in
    let text : List ℕ = c.args.outline.now.text in
    let d : Document = tree text in
    let up : Option ℕ = c.args.parent.now in
    let day : CivilDay = c.args.moment.day in
    let kind : DateKind = c.in-Some.kind.now in
    let rest : List DateKind = c.in-Some.rest.now in
    let cut : c.args.kinds.now ≡ kind ∷ rest = first_of (search rules, cc (c.in-Some.ensures.cases.0), grind (arith, c.in-Some.ensures.cases.0)) in
    let key : c.as_slice.result.now ≡ key_on kind day = c.as_slice.ensures.value ∙ c.in_ok-key.ensures in
    let found : first_dated states d up kind (key_on kind day) Equal ≡ Some c.in-Some-first_dated.node =
    ap (λ k. first_dated states d up kind k Equal) (sym key) ∙ sym c.first_dated.ensures.value ∙ c.in-Some-first_dated.is in
    let Said : Document → Type 0 = λ new. AnswersEdit (Ok new) text c.dated_insertion.result in
    subst Said (sym (dated_found states c.args.place day node d c.args.kinds.now rest kind up c.in-Some-first_dated.node cut found)) (c.dated_insertion.ensures node entry)

pub prove-unreachable-requires : goal.prove-unreachable-requires
prove-unreachable-requires t c =
    let text : List ℕ = c.args.outline.now.text in
    let d : Document = tree text in
    let up : Option ℕ = c.args.parent.now in
    let node : Node = c.requires.entry.0 in
    let new : Document = put_dated (first_dated c.args.outline.now.states d up c.in-Some.kind.now c.as_slice-2.result.now Greater) up node d in
    let within = (inserts_edit text (print new) c.dated_place-at.result (print_node (shift_node (level_below up d) node)) (c.dated_place-at.ensures node)).0 in
    omega (arith, within, ap length c.text.ensures.value)

pub returns : goal.returns
returns t c = λ node entry.
    let states : Keywords = c.args.outline.now.states in
    let text : List ℕ = c.args.outline.now.text in
    let d : Document = tree text in
    let up : Option ℕ = c.args.parent.now in
    let day : CivilDay = c.args.moment.day in
    let kind : DateKind = c.in-Some.kind.now in
    let rest : List DateKind = c.in-Some.rest.now in
    let level : ℕ = level_below up d in
    let made : Node = made_over level (kind ∷ rest) day node in
    let cut : c.args.kinds.now ≡ kind ∷ rest = first_of (search rules, cc (c.in-Some.ensures.cases.0), grind (arith, c.in-Some.ensures.cases.0)) in
    let key : c.as_slice.result.now ≡ key_on kind day = c.as_slice.ensures.value ∙ c.in_ok-key.ensures in
    let key2 : c.as_slice-2.result.now ≡ key_on kind day = c.as_slice-2.ensures.value ∙ c.in_ok-key.ensures in
    let none : first_dated states d up kind (key_on kind day) Equal ≡ None =
    ap (λ k. first_dated states d up kind k Equal) (sym key) ∙ sym c.first_dated.ensures.value ∙ c.in_default-first_dated.is in
    let bytes : c.new-bytes.result ≡ print_node (shift_node level made) = c.new-bytes.ensures ∙ c.in_ok-made_dates.ensures node (subst (λ (t : List ℕ). IsEntry t node) (sym c.deref.ensures.value) entry)
    ∙ ap (λ l. print_node (made_over l c.args.kinds.now day node)) c.level_below-level.ensures.value
    ∙ ap (λ ks. print_node (made_over level ks day node)) cut ∙ ap print_node (sym (made_shift level kind rest day node)) in
    let new : Document = put_dated (first_dated states d up kind (key_on kind day) Greater) up made d in
    let edit : Edit = record { at = c.dated_place-at.result; removed = 0; bytes = c.new-bytes.result } in
    let Put : List ℕ → Type 0 = λ k. Inserts text (print (put_dated (first_dated states d up kind k Greater) up made d)) c.dated_place-at.result (print_node (shift_node level made)) in
    let put : Put (key_on kind day) = subst Put key2 (c.dated_place-at.ensures made) in
    (new, ap Ok (dated_made states c.args.place day node d c.args.kinds.now rest kind up cut none), makes text new edit (print_node (shift_node level made)) c.text.ensures.terminated refl bytes put)
