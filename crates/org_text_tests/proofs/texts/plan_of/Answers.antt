use Rattle.std.proofs.Common.{◌≡◌, ◌∙◌, subst}
use Rattle.std.proofs.lemmas.Bool.{false≢true}
use Rattle.std.proofs.lemmas.Slice.Eq.{bytes_eq-Decides}
use Rattle.org_texts.specs.declared.plan.FileEdits.{FileEdits}
use Rattle.org_texts.specs.Plan.{CanEdit, with_edits}
use Rattle.org_texts.proofs.Standing.{CanEdit-second}
use Rattle.org_text_tests.proofs.texts.plan_of.Goals as goal

pub returns : goal.returns
returns g c =
    let first = c.args.first in
    let second = c.args.second in
    let set = c.args.texts.now.now in
    let able : CanEdit second (with_edits first set) =
    CanEdit-second first second set c.requires.first c.requires.second (λ same. false≢true ((rw (c.name.ensures, c.name-2.ensures) at c.if-eq.ensures) ∙ (bytes_eq-Decides first.file second.file).1 same)) in
    record {
      first = c.requires.first;
      second = λ x is. let same : second ≡ x = cc in subst (λ (f : FileEdits). CanEdit f (with_edits first set)) same able;
    }
