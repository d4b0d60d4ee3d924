use Rattle.std.proofs.Common.{ℕ, List, length, refl, sym, subst}
use Rattle.std.specs.Prelude.{IsTrue}
use Rattle.std.proofs.lemmas.Option.{slice_get_read}
use Rattle.org_journal.proofs.Journal.{item_of}
use Rattle.org_journal.specs.Record.{IsEntry, is_named}
use Rattle.org_fileset.specs.Opening.{IsStrange}
use Rattle.org_fileset.proofs.Strange.{entry_named, fault_passed, strange_as}
use Rattle.org_fileset.proofs.recover.check_standing.Goals as goal

pub returns-in_err-check_file-clause-strange : goal.returns-in_err-check_file-clause-strange
returns-in_err-check_file-clause-strange g c =
    let entries = c.args.entries.now in
    let entry = c.entry-item.result in
    let Named : List ℕ → Type 0 = λ name. IsTrue (is_named name entries) in
    let is = slice_get_read entries (length entries) c.loop-entry.entry-index entry refl c.loop-entry-test.true c.entry-item.is in
    fault_passed (IsStrange Named ⊥) c.from_residual.result _ c.from_residual.ensures.1
    (strange_as {Named = Named} (λ name same. subst Named (sym same) (entry_named entries c.loop-entry.entry-index entry is)) (λ unfit. unfit) c.in_err-check_file.field-0.0 c.in_err-check_file.ensures.strange)

pub check_file-requires : goal.check_file-requires
check_file-requires g c =
    (c.requires.0, item_of (IsEntry c.requires.0) c.args.entries.now c.loop-entry.entry-index c.entry-item.result c.requires.1.each c.loop-entry-test.true c.entry-item.is)
