use Rattle.std.proofs.Common.{◌≢◌, ◌∙◌, ap, sym, subst, ℕ, List, length}
use Rattle.org_disk.specs.Disk.{FileState}
use Rattle.org_splice.proofs.Failing.{not_ok}
use Rattle.org_disk.proofs.Accounting.{accounts_then, accounts_ok}
use Rattle.org_journal.proofs.Accounted.{accounts_failed}
use Rattle.org_fileset.specs.Replay.{CanPatch, length_before}
use Rattle.org_fileset.proofs.Patching.{applies_none, applies_read, applies_behind}
use Rattle.org_fileset.proofs.Writes.{alone_looks, alone_then}
use Rattle.org_fileset.proofs.apply.apply_entry.Goals as goal

pub apply_patches-requires : goal.apply_patches-requires
apply_patches-requires g c =
    let back = c.length_before.ensures.accounts.was_honest in
    let name = c.args.entry.now.name in
    record {
      can = λ h. subst (λ (f : List ℕ → FileState). CanPatch c.args.entry.now (f name).content) (sym (c.length_before.ensures.looks h).same) (c.requires (back h));
      before = λ h. c.in_ok-before.ensures.length h
          ∙ sym (ap (λ (f : List ℕ → FileState). length_before c.args.entry.now.before (length (f name).content)) (c.length_before.ensures.looks h).same);
    }

pub returns-in_err-before-clause-applies : goal.returns-in_err-before-clause-applies
returns-in_err-before-clause-applies g c ended keep to takes =
    let looks = c.length_before.ensures.looks ended in
    applies_read (applies_none (g.D.Disk.instant c.args.disk.now) (g.D.Disk.left_since c.args.disk.now) (g.D.Disk.files c.args.disk.now) takes) looks.same looks.time

pub returns-in_err-before-clause-alone : goal.returns-in_err-before-clause-alone
returns-in_err-before-clause-alone g c ended = alone_looks g.D.Disk (λ other. other ≢ c.args.entry.now.name) c.args.disk.now c.length_before.new.disk (c.length_before.ensures.looks ended)

pub returns-in_err-before-clause-content : goal.returns-in_err-before-clause-content
returns-in_err-before-clause-content g c = not_ok _ _ c.from_residual.ensures.0

pub returns-in_err-before-clause-accounts : goal.returns-in_err-before-clause-accounts
returns-in_err-before-clause-accounts g c = accounts_failed c.from_residual.ensures.0 c.in_err-before.ensures.accounts

pub returns-clause-applies : goal.returns-clause-applies
returns-clause-applies g c ended keep to takes =
    let looks = c.length_before.ensures.looks (c.apply_patches.ensures.accounts.was_honest ended) in
    applies_behind takes looks.same looks.time (λ still. c.apply_patches.ensures.applies ended keep to still)

pub returns-clause-alone : goal.returns-clause-alone
returns-clause-alone g c ended =
    let These : List ℕ → Type 0 = λ other. other ≢ c.args.entry.now.name in
    alone_then g.D.Disk These c.args.disk.now c.length_before.new.disk c.apply_patches.new.disk
    (alone_looks g.D.Disk These c.args.disk.now c.length_before.new.disk (c.length_before.ensures.looks (c.apply_patches.ensures.accounts.was_honest ended))) (c.apply_patches.ensures.alone ended)

pub returns-clause-accounts : goal.returns-clause-accounts
returns-clause-accounts g c = accounts_then (accounts_ok c.in_ok-before.ensures.accounts) c.apply_patches.ensures.accounts
