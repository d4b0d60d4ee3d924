use Rattle.std.proofs.Common.{ℕ, List, [], ◌++◌, ◌∙◌, Option, Ok, inl, inr, refl}
use Rattle.org_commands.specs.declared.tally.Group.{Group}
use Rattle.org_commands.specs.declared.tally.Group.TheVariants.{Of, Whole}
use Rattle.org_store.specs.Calls.{Machine}
use Rattle.org_serve.specs.Pipes.{AppendsSome}
use Rattle.org_serve.specs.Replies.{settled_text}
use Rattle.org_serve.specs.Serving.{AnswersRest, EndsText, MayHaveSettled}
use Rattle.org_serve.proofs.Joins.{Appends-append, Appends-none, some_first, some_then}
use Rattle.org_serve.proofs.serving.finish.Goals as goal

-- nothing was settled
unsettled : {S : Type 0} (group : Group) (m : Machine S) (old : S) → MayHaveSettled group m old old
unsettled (Of size) m old = inl refl
unsettled Whole m old = refl

-- some was written of what stands after the last newline
some_rest : (group : Group) (part last : List ℕ) (acknowledged : ℕ) (old new : Option (List ℕ)) → AnswersRest part last → AppendsSome old new last
    → (text : List ℕ) × EndsText group part acknowledged text × AppendsSome old new text
some_rest (Of size) part last acknowledged old new rest some =
    let tail = settled_text (Ok tt) acknowledged in
    (last ++ tail, (last, Ok tt, rest, refl), some_first old new last tail some)
some_rest Whole part last acknowledged old new rest some = (last, rest, some)

pub returns-in-Err-clause-write : goal.returns-in-Err-clause-write
returns-in-Err-clause-write g c = λ is. (
  unsettled c.args.group _ _,
  c.in-Err.ensures.counts.counted,
  λ part stands.
      let rest = c.in-Err.ensures.rest part stands in
      some_rest c.args.group part rest.0 _ _ _ rest.1 rest.2.part,
)

pub returns-in-Err-clause-reported : goal.returns-in-Err-clause-reported
returns-in-Err-clause-reported g c not = absurd (not refl)

pub returns-in-Of-clause-reported : goal.returns-in-Of-clause-reported
returns-in-Of-clause-reported g c = λ not.
    let reported = c.settle.ensures.reported not in (
      reported.0 ∙ c.in_default.ensures.counts.same,
      λ part stands. let rest = c.in_default.ensures.rest part stands in rw c.in-Of.is (rest.0, reported.1, rest.1, reported.2, Appends-append _ _ _ rest.0 reported.1 rest.2.ok reported.3),
    )

pub returns-in-Of-clause-write : goal.returns-in-Of-clause-write
returns-in-Of-clause-write g c = λ is.
    let some = c.settle.ensures.write is in
    let tail = settled_text some.2 c.settle.new.store.session.acknowledged in
    rw c.in-Of.is (
      inr some.0,
      rw c.in_default.ensures.counts.same at some.1,
      λ part stands.
          let rest = c.in_default.ensures.rest part stands in
          (rest.0 ++ tail, (rest.0, some.2, rest.1, refl), some_then _ _ _ rest.0 tail rest.2.ok some.3),
    )

pub returns-in-Whole-clause-reported : goal.returns-in-Whole-clause-reported
returns-in-Whole-clause-reported g c = λ not. (
  c.in_default.ensures.counts.same,
  λ part stands.
      let rest = c.in_default.ensures.rest part stands in
      rw c.in-Whole.is (rest.0, [], rest.1, (c.whole_end.ensures.value part stands, refl, refl), Appends-append _ _ _ rest.0 [] rest.2.ok (Appends-none (g.W.Sink.written c.answer_rest.new.writer))),
)

pub returns-in-Whole-clause-write : goal.returns-in-Whole-clause-write
returns-in-Whole-clause-write g c is = absurd (c.whole_end.ensures.never.1 is)
