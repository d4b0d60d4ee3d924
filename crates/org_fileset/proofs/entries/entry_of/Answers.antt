use Rattle.std.proofs.Common.{◌∙◌, List, Some, length, ap}
use Rattle.org_journal.specs.declared.record.Entry.{Entry}
use Rattle.org_splice.specs.Texts.{pairs_of}
use Rattle.org_splice.specs.declared.patch.Patch.{Patch}
use Rattle.org_fileset.specs.Entries.{before_of}
use Rattle.org_fileset.proofs.Changes.{entry_is}
use Rattle.org_fileset.proofs.entries.entry_of.Goals as goal

pub returns-clause-entry : goal.returns-clause-entry
returns-clause-entry c =
    let entry : Entry = record { name = c.in_ok-name.name; length = length c.bytes-bytes.result.now; before = Some c.in_ok-before.before; patches = c.new-patches.result } in
    entry_is (c.args.name.now, c.args.text.now.text) entry c.in_ok-patches.patches.items
    c.in_ok-name.ensures.cases c.in_ok-name.ensures.utf8 c.in_ok-name.ensures.valid (ap length c.bytes-bytes.ensures.bytes) c.new-patches.ensures c.in_ok-patches.ensures.well_formed c.in_ok-patches.ensures.makes
    c.args.size c.ranges.size.fits
    (ap Some (c.in_ok-before.ensures ∙ ap (λ (p : List Patch). before_of c.args.size (pairs_of p) c.bytes-bytes.result.now) c.deref.ensures.value ∙ ap (before_of c.args.size (pairs_of c.in_ok-patches.patches.items)) c.bytes-bytes.ensures.bytes))
