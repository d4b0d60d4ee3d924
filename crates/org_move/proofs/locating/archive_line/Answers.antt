use Rattle.std.proofs.Common.{sym, subst, arith}
use Rattle.org_splice.specs.declared.searched.Searched.{Searched}
use Rattle.org_splice.specs.Searched.{IsSearched}
use Rattle.org_move.specs.Location.{has_archive_line}
use Rattle.org_move.proofs.Lines.{first_known, found_known, no_line, none_known}
use Rattle.org_move.proofs.locating.archive_line.Goals as goal

pub returns-in-Nowhere-clause-line : goal.returns-in-Nowhere-clause-line
returns-in-Nowhere-clause-line c =
    let known = subst (λ (s : Searched). IsSearched has_archive_line s c.args.text.bytes.now) c.in-Nowhere.is c.requires in
    sym (no_line c.args.text.bytes.now known)

pub returns-in-Nowhere-clause-searched : goal.returns-in-Nowhere-clause-searched
returns-in-Nowhere-clause-searched c = subst (λ (s : Searched). IsSearched has_archive_line s c.args.text.bytes.now) c.in-Nowhere.is c.requires

pub invariant_of-first_archive_line : goal.invariant_of-first_archive_line
invariant_of-first_archive_line c = record { whole = c.unknown_lines.ensures.terminated_lines }

pub returns-in-None-clause-line : goal.returns-in-None-clause-line
returns-in-None-clause-line c =
    let known = subst (λ (s : Searched). IsSearched has_archive_line s c.args.text.bytes.now) c.in-Ends.is c.requires in
    sym (no_line c.args.text.bytes.now (none_known _ _ _ _ _ c.unknown_lines.ensures known c.in-None.ensures.none))

pub returns-in-None-clause-searched : goal.returns-in-None-clause-searched
returns-in-None-clause-searched c =
    let known = subst (λ (s : Searched). IsSearched has_archive_line s c.args.text.bytes.now) c.in-Ends.is c.requires in
    none_known _ _ _ _ _ c.unknown_lines.ensures known c.in-None.ensures.none

pub returns-in-Some-clause-line : goal.returns-in-Some-clause-line
returns-in-Some-clause-line c =
    let known = subst (λ (s : Searched). IsSearched has_archive_line s c.args.text.bytes.now) c.in-Ends.is c.requires in
    let found = c.in-Some.ensures.some in
    sym (first_known _ _ _ _ _ c.unknown_lines.ensures known _ _ found.0 found.1)

pub returns-in-Some-clause-searched : goal.returns-in-Some-clause-searched
returns-in-Some-clause-searched c =
    let known = subst (λ (s : Searched). IsSearched has_archive_line s c.args.text.bytes.now) c.in-Ends.is c.requires in
    let found = c.in-Some.ensures.some in
    found_known _ _ _ _ _ c.unknown_lines.ensures known _ _ found.0 _ (search arith)
