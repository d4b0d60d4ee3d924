use Rattle.std.proofs.Common.{◌≡◌, ◌<◌, length, ap, arith, take, eq-eqb, ◌∙◌, sym}
use Rattle.std.proofs.lemmas.List.{get_or-take}
use Rattle.org_serve.specs.Lines.{Cut}
use Rattle.org_serve.proofs.Cuts.{cut-free}
use Rattle.org_serve.proofs.lines.first_line.Goals as goal

pub returns-in-None-clause-free : goal.returns-in-None-clause-free
returns-in-None-clause-free c = ap (λ (x : Cut). x.lines) (cut-free c.args.bytes.now (λ k lt e. c.in-None.ensures k (omega arith) lt (eq-eqb _ 10 e)))

pub returns-in-None-clause-whole : goal.returns-in-None-clause-whole
returns-in-None-clause-whole c = ap (λ (x : Cut). x.rest) (cut-free c.args.bytes.now (λ k lt e. c.in-None.ensures k (omega arith) lt (eq-eqb _ 10 e)))

pub returns-in-Some-clause-free : goal.returns-in-Some-clause-free
returns-in-Some-clause-free c =
    let found = c.in-Some.ensures in
    let front = c.split_at.ensures.front in
    let size : length (take c.in-Some.at c.args.bytes.now) ≡ c.in-Some.at = ap length (sym front) ∙ c.split_at.ensures.front_len in
    rw front (ap (λ (x : Cut). x.lines) (cut-free (take c.in-Some.at c.args.bytes.now) (λ k lt e.
    let below : k < c.in-Some.at = omega arith in
    found.0.before k (omega arith) below (eq-eqb _ 10 (sym (get_or-take c.in-Some.at c.args.bytes.now k 0 below) ∙ e)))))
