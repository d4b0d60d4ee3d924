use Rattle.std.proofs.Common.{◌≡◌, ◌≢◌, ◌≤◌, ◌+◌, ℕ, List, length, take, refl, sym, ◌∙◌, ap, subst, arith, true}
use Rattle.std.proofs.lemmas.List.{take_all}
use Rattle.org_splice.proofs.Failing.{not_ok}
use Rattle.org_disk.specs.Disk.{FileState, write}
use Rattle.org_splice.specs.Texts.{pairs_of}
use Rattle.org_splice.specs.Patches.{last_end, patched}
use Rattle.org_journal.specs.Recovered.{kept_by, made_by, may_cut}
use Rattle.org_fileset.specs.Replay.{AppliesOver}
use Rattle.org_fileset.specs.Writes.{LeavesAlone}
use Rattle.org_fileset.proofs.Patching.{applies_none, applies_read, applies_write, applies_cut}
use Rattle.org_fileset.proofs.Made.{kept_cut, kept_long, longer_cut, shorter_kept}
use Rattle.org_fileset.proofs.Steps.{pair_at, patched_each-more, next_within, next_small, all_applied, length_applied}
use Rattle.org_disk.proofs.Accounting.{accounts_none, accounts_then, accounts_ok, accounts_call, accounts_call_ok}
use Rattle.org_journal.proofs.Accounted.{accounts_failed, accounts_fine_test}
use Rattle.org_fileset.proofs.Writes.{alone_none, alone_looked, alone_more}
use Rattle.org_fileset.proofs.apply.apply_patches.Given.{Over}
use Rattle.org_fileset.proofs.apply.apply_patches.Goals as goal
use Rattle.org_fileset.proofs.apply.apply_patches.Goals.{After-cut, After-loop-patch, else-is_shortened-2-via-then-is_shortened-2+else-length-entry, else-is_shortened-2-via-else-is_shortened-2}

pub loop-patch-init : goal.loop-patch-init
loop-patch-init g c = record {
  accounts = accounts_none g.D.Disk c.args.disk.now;
  content = λ honest. refl;
  alone = λ honest. alone_none g.D.Disk (λ other. other ≢ c.args.entry.now.name) c.args.disk.now;
  applies = λ honest keep to takes. applies_none (g.D.Disk.instant c.args.disk.now) (g.D.Disk.left_since c.args.disk.now) (g.D.Disk.files c.args.disk.now) takes;
}

pub write_patch-requires : goal.write_patch-requires
write_patch-requires g c =
    let sofar = c.loop-patch.invariant in
    let entry = c.args.entry.now in
    let text = (g.D.Disk.files c.args.disk.now entry.name).content in
    let patch = c.patch-item.result in
    let is = pair_at c.as_slice-patch-items.result.now entry.patches c.loop-patch.patch-index patch c.as_slice-patch-items.ensures c.loop-patch-test.true c.patch-item.is in
    record {
      within = λ h.
          let can = c.requires.can (sofar.accounts.was_honest h) in
          next_within (pairs_of entry.patches) entry.length c.loop-patch.patch-index patch.from patch.bytes text (g.D.Disk.files c.loop-patch.disk entry.name).content can.formed can.fits is (sofar.content h);
      fits = λ h.
          let can = c.requires.can (sofar.accounts.was_honest h) in
          let small : patch.from + length patch.bytes ≤ entry.length = next_small (pairs_of entry.patches) entry.length c.loop-patch.patch-index patch.from patch.bytes text can.formed can.fits is in
          omega (arith, small, can.small);
    }

pub returns-in_err-write_patch-clause-applies : goal.returns-in_err-write_patch-clause-applies
returns-in_err-write_patch-clause-applies g c ended keep to takes =
    let h = c.write_patch.ensures.accounts.was_honest ended in
    let can = c.requires.can (c.loop-patch.invariant.accounts.was_honest h) in
    let entry = c.args.entry.now in
    let patch = c.patch-item.result in
    let is = pair_at c.as_slice-patch-items.result.now entry.patches c.loop-patch.patch-index patch c.as_slice-patch-items.ensures c.loop-patch-test.true c.patch-item.is in
    let le = next_within (pairs_of entry.patches) entry.length c.loop-patch.patch-index patch.from patch.bytes (g.D.Disk.files c.args.disk.now entry.name).content
    (g.D.Disk.files c.loop-patch.disk entry.name).content can.formed can.fits is (c.loop-patch.invariant.content h) in
    applies_write c.loop-patch.patch-index c.write_patch.result can.formed is le (g.met.D.Disk.content_is_image c.loop-patch.disk entry.name h) (c.loop-patch.invariant.applies h keep to takes)
    (c.write_patch.ensures.effect ended) (c.write_patch.ensures.time ended)

pub loop-patch-preserved : goal.loop-patch-preserved
loop-patch-preserved g c =
    let sofar = c.loop-patch.invariant in
    let patches = pairs_of c.args.entry.now.patches in
    let name = c.args.entry.now.name in
    let mid = g.D.Disk.files c.loop-patch.disk in
    let from = c.patch-item.result.from in
    let bytes = c.patch-item.result.bytes in
    let is = pair_at c.as_slice-patch-items.result.now c.args.entry.now.patches c.loop-patch.patch-index c.patch-item.result
    c.as_slice-patch-items.ensures c.loop-patch-test.true c.patch-item.is in
    let back = c.write_patch.ensures.accounts.was_honest in
    record {
      accounts = accounts_then sofar.accounts (accounts_ok c.in_ok-write_patch.ensures.accounts);
      content = λ ended.
          let done = (c.in_ok-write_patch.ensures.effect ended).ok in
          ap (λ (f : FileState). f.content) done
          ∙ ap (λ (t : List ℕ). (write from bytes (record (mid name) { content = t })).content) (sofar.content (back ended))
          ∙ sym (patched_each-more patches c.loop-patch.patch-index from bytes (g.D.Disk.files c.args.disk.now name).content is);
      alone = λ ended. alone_more (sofar.alone (back ended)) (c.write_patch.ensures.effect ended) (c.write_patch.ensures.time ended);
      applies = λ ended keep to takes.
          let can = c.requires.can (sofar.accounts.was_honest (back ended)) in
          let le = next_within patches c.args.entry.now.length c.loop-patch.patch-index from bytes (g.D.Disk.files c.args.disk.now name).content
          (mid name).content can.formed can.fits is (sofar.content (back ended)) in
          applies_write c.loop-patch.patch-index c.write_patch.result can.formed is le (g.met.D.Disk.content_is_image c.loop-patch.disk name (back ended)) (sofar.applies (back ended) keep to takes)
          (c.write_patch.ensures.effect ended) (c.write_patch.ensures.time ended);
    }

pub returns-in_err-length-clause-applies : goal.returns-in_err-length-clause-applies
returns-in_err-length-clause-applies g c ended keep to takes =
    let looks = c.length.ensures.looks ended in
    applies_read (c.loop-patch.invariant.applies (c.length.ensures.accounts.was_honest ended) keep to takes) looks.same looks.time

pub cut-requires : goal.cut-requires
cut-requires g c honest =
    let h = c.length.ensures.accounts.was_honest honest in
    let name = c.args.entry.now.name in
    let within : c.args.entry.now.length ≤ length (g.D.Disk.files c.loop-patch.disk name).content = omega (arith, c.in_ok-length.ensures.value honest) in
    subst (λ (f : List ℕ → FileState). c.args.entry.now.length ≤ length (f name).content) (sym (c.length.ensures.looks honest).same) within

-- the file was longer before
cuts : (g : Over) (c : After-cut g) → g.D.Disk.honest c.loop-patch.disk → may_cut c.args.entry.now.before c.args.entry.now.length ≡ true
cuts g c h =
    longer_cut c.args.entry.now.before c.args.entry.now.length c.args.before (length (g.D.Disk.files c.args.disk.now c.args.entry.now.name).content)
    (c.requires.before (c.loop-patch.invariant.accounts.was_honest h)) (omega (arith, c.if-is_shortened-2.true))

-- .. and is cut
cut_applies : (g : Over) (c : After-cut g) → g.D.Disk.honest c.cut.new.self → AppliesOver g.D.Disk c.args.entry.now c.args.disk.now c.cut.new.self
cut_applies g c ended keep to takes =
    let back = c.cut.ensures.accounts.was_honest ended in
    let h = c.length.ensures.accounts.was_honest back in
    let within : c.args.entry.now.length ≤ length (g.D.Disk.files c.loop-patch.disk c.args.entry.now.name).content = omega (arith, c.in_ok-length.ensures.value back) in
    applies_cut c.cut.result (c.requires.can (c.loop-patch.invariant.accounts.was_honest h)).formed (cuts g c h) within (g.met.D.Disk.content_is_image c.length.new.self c.args.entry.now.name back) (c.loop-patch.invariant.applies h keep to takes)
    (c.length.ensures.looks back).same (c.length.ensures.looks back).time (c.cut.ensures.effect ended) (c.cut.ensures.time ended)

cut_alone : (g : Over) (c : After-cut g) → g.D.Disk.honest c.cut.new.self → LeavesAlone g.D.Disk (λ other. other ≢ c.args.entry.now.name) c.args.disk.now c.cut.new.self
cut_alone g c ended =
    let back = c.cut.ensures.accounts.was_honest ended in
    alone_more (alone_looked (c.loop-patch.invariant.alone (c.length.ensures.accounts.was_honest back)) (c.length.ensures.looks back)) (c.cut.ensures.effect ended) (c.cut.ensures.time ended)

pub returns-in_err-cut-clause-applies : goal.returns-in_err-cut-clause-applies
returns-in_err-cut-clause-applies g c = cut_applies g (goal.at.returns-in_err-cut-clause-applies g c).After-cut

pub returns-in_ok-cut-clause-applies : goal.returns-in_ok-cut-clause-applies
returns-in_ok-cut-clause-applies g c = cut_applies g (goal.at.returns-in_ok-cut-clause-applies g c).After-cut

pub returns-else-is_shortened-2-clause-applies : goal.returns-else-is_shortened-2-clause-applies
returns-else-is_shortened-2-clause-applies g c ended keep to takes =
    let looks = c.length.ensures.looks ended in
    applies_read (c.loop-patch.invariant.applies (c.length.ensures.accounts.was_honest ended) keep to takes) looks.same looks.time

pub returns-in_err-write_patch-clause-alone : goal.returns-in_err-write_patch-clause-alone
returns-in_err-write_patch-clause-alone g c ended =
    alone_more (c.loop-patch.invariant.alone (c.write_patch.ensures.accounts.was_honest ended)) (c.write_patch.ensures.effect ended) (c.write_patch.ensures.time ended)

pub returns-in_err-length-clause-alone : goal.returns-in_err-length-clause-alone
returns-in_err-length-clause-alone g c ended = alone_looked (c.loop-patch.invariant.alone (c.length.ensures.accounts.was_honest ended)) (c.length.ensures.looks ended)

pub returns-in_err-cut-clause-alone : goal.returns-in_err-cut-clause-alone
returns-in_err-cut-clause-alone g c = cut_alone g (goal.at.returns-in_err-cut-clause-alone g c).After-cut

pub returns-in_ok-cut-clause-alone : goal.returns-in_ok-cut-clause-alone
returns-in_ok-cut-clause-alone g c = cut_alone g (goal.at.returns-in_ok-cut-clause-alone g c).After-cut

pub returns-else-is_shortened-2-clause-alone : goal.returns-else-is_shortened-2-clause-alone
returns-else-is_shortened-2-clause-alone g c ended = alone_looked (c.loop-patch.invariant.alone (c.length.ensures.accounts.was_honest ended)) (c.length.ensures.looks ended)

pub returns-in_err-write_patch-clause-accounts : goal.returns-in_err-write_patch-clause-accounts
returns-in_err-write_patch-clause-accounts g c =
    accounts_then c.loop-patch.invariant.accounts (accounts_failed c.from_residual.ensures.0 c.in_err-write_patch.ensures.accounts)

pub returns-in_err-length-clause-accounts : goal.returns-in_err-length-clause-accounts
returns-in_err-length-clause-accounts g c =
    accounts_then c.loop-patch.invariant.accounts (accounts_failed c.from_residual-in_err-length.ensures.0 (accounts_call _ c.in_err-length.ensures.accounts))

pub returns-in_err-cut-clause-accounts : goal.returns-in_err-cut-clause-accounts
returns-in_err-cut-clause-accounts g c =
    accounts_then c.loop-patch.invariant.accounts (accounts_then (accounts_call_ok c.in_ok-length.ensures.accounts) (accounts_failed c.from_residual-in_err-cut.ensures.0 (accounts_call _ c.in_err-cut.ensures.accounts)))

pub returns-in_ok-cut-clause-accounts : goal.returns-in_ok-cut-clause-accounts
returns-in_ok-cut-clause-accounts g c =
    accounts_fine_test (accounts_then c.loop-patch.invariant.accounts (accounts_then (accounts_call_ok c.in_ok-length.ensures.accounts) (accounts_call_ok c.in_ok-cut.ensures.accounts)))

pub returns-else-is_shortened-2-clause-accounts : goal.returns-else-is_shortened-2-clause-accounts
returns-else-is_shortened-2-clause-accounts g c =
    accounts_fine_test (accounts_then c.loop-patch.invariant.accounts (accounts_call_ok c.in_ok-length.ensures.accounts))

pub returns-in_err-write_patch-clause-content : goal.returns-in_err-write_patch-clause-content
returns-in_err-write_patch-clause-content g c = not_ok _ _ c.from_residual.ensures.0

pub returns-in_err-length-clause-content : goal.returns-in_err-length-clause-content
returns-in_err-length-clause-content g c = not_ok _ _ c.from_residual-in_err-length.ensures.0

pub returns-in_err-cut-clause-content : goal.returns-in_err-cut-clause-content
returns-in_err-cut-clause-content g c = not_ok _ _ c.from_residual-in_err-cut.ensures.0

pub returns-in_ok-cut-clause-content : goal.returns-in_ok-cut-clause-content
returns-in_ok-cut-clause-content g c ended =
    let sofar = c.loop-patch.invariant in
    let h1 = c.cut.ensures.accounts.was_honest ended in
    let h = c.length.ensures.accounts.was_honest h1 in
    let entry = c.args.entry.now in
    let old = (g.D.Disk.files c.args.disk.now entry.name).content in
    ap (λ (f : FileState). f.content) (c.in_ok-cut.ensures.effect ended).ok
    ∙ ap (λ (f : List ℕ → FileState). take entry.length (f entry.name).content) (c.length.ensures.looks h1).same
    ∙ all_applied c.as_slice-patch-items.result.now entry.patches c.loop-patch.patch-index entry.length old
    (g.D.Disk.files c.loop-patch.disk entry.name).content c.as_slice-patch-items.ensures c.loop-patch-test.false (sofar.content h)
    ∙ ap (λ (n : ℕ). patched (pairs_of entry.patches) n old) (sym (kept_cut entry.before entry.length (length old) (cuts g (goal.at.returns-in_ok-cut-clause-content g c).After-cut h)))

-- nothing is to be cut off
kept_whole : (g : Over) (c : After-loop-patch g) → g.D.Disk.honest c.loop-patch.disk → c.args.before ≤ c.args.entry.now.length
    → length (g.D.Disk.files c.loop-patch.disk c.args.entry.now.name).content ≤ kept_by c.args.entry.now.before c.args.entry.now.length (length (g.D.Disk.files c.args.disk.now c.args.entry.now.name).content)
kept_whole g c h shorter =
    let sofar = c.loop-patch.invariant in
    let first = sofar.accounts.was_honest h in
    let can = c.requires.can first in
    let entry = c.args.entry.now in
    let old = (g.D.Disk.files c.args.disk.now entry.name).content in
    let long = length_applied c.as_slice-patch-items.result.now entry.patches c.loop-patch.patch-index entry.length old
    (g.D.Disk.files c.loop-patch.disk entry.name).content can.formed can.fits c.as_slice-patch-items.ensures c.loop-patch-test.false (sofar.content h) in
    omega (arith, long, shorter_kept entry.before entry.length c.args.before (length old) (last_end 0 (pairs_of entry.patches)) (c.requires.before first) shorter can.formed.within)

-- .. so the patches made the text
all_made : (g : Over) (c : After-loop-patch g) → g.D.Disk.honest c.loop-patch.disk
    → length (g.D.Disk.files c.loop-patch.disk c.args.entry.now.name).content ≤ kept_by c.args.entry.now.before c.args.entry.now.length (length (g.D.Disk.files c.args.disk.now c.args.entry.now.name).content)
    → (g.D.Disk.files c.loop-patch.disk c.args.entry.now.name).content ≡ made_by c.args.entry.now (g.D.Disk.files c.args.disk.now c.args.entry.now.name).content
all_made g c h short =
    let entry = c.args.entry.now in
    let old = (g.D.Disk.files c.args.disk.now entry.name).content in
    let now = (g.D.Disk.files c.loop-patch.disk entry.name).content in
    let keeps = kept_by entry.before entry.length (length old) in
    sym (take_all keeps now short)
    ∙ all_applied c.as_slice-patch-items.result.now entry.patches c.loop-patch.patch-index keeps old now c.as_slice-patch-items.ensures c.loop-patch-test.false (c.loop-patch.invariant.content h)

pub returns-else-is_shortened-2-clause-content : goal.returns-else-is_shortened-2-clause-content
returns-else-is_shortened-2-clause-content g c ended =
    let written = (goal.at.returns-else-is_shortened-2-clause-content g c).After-loop-patch in
    let h = c.length.ensures.accounts.was_honest ended in
    let entry = c.args.entry.now in
    let old = (g.D.Disk.files c.args.disk.now entry.name).content in
    let short : length (g.D.Disk.files c.loop-patch.disk entry.name).content ≤ kept_by entry.before entry.length (length old) = elim c.else-is_shortened-2.branch [
      | else-is_shortened-2-via-then-is_shortened-2+else-length-entry w ↦
          omega (arith, w.if-length-entry.false, c.in_ok-length.ensures.value ended, kept_long entry (c.requires.can (c.loop-patch.invariant.accounts.was_honest h)).formed old)
      | else-is_shortened-2-via-else-is_shortened-2 w ↦ kept_whole g written h (omega (arith, w.if-is_shortened-2.false))
    ] in
    ap (λ (f : List ℕ → FileState). (f entry.name).content) (c.length.ensures.looks ended).same ∙ all_made g written h short

pub returns-else-is_look_due-clause-content : goal.returns-else-is_look_due-clause-content
returns-else-is_look_due-clause-content g c ended =
    let written = (goal.at.returns-else-is_look_due-clause-content g c).After-loop-patch in
    all_made g written ended (kept_whole g written ended (omega (arith, c.if-is_shortened.false)))
