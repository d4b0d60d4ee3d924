use Rattle.std.proofs.Common.{◌≡◌, ap, ◌∙◌, ◌++◌, List, ℕ, length, Option}
use Rattle.std.specs.List.{flat_map}
use Rattle.std.proofs.lemmas.Result.{on_ok_weaker}
use Rattle.byteorder.specs.Endian.{big_bytes}
use Rattle.org_splice.specs.declared.patch.Patch.{Patch}
use Rattle.org_journal.specs.declared.record.Before.{Before}
use Rattle.org_journal.specs.Record.{before_bytes, patch_bytes}
use Rattle.org_journal.proofs.Journal.{appended6}
use Rattle.org_journal.proofs.Numbers.{patches_fit}
use Rattle.org_journal.proofs.Spelled.{name_fits}
use Rattle.org_splice.proofs.Failing.{not_ok}
use Rattle.org_journal.proofs.encoding.put_entry.Goals as goal

pub returns : goal.returns
returns c =
    let name = c.args.entry.now.name in
    let patches = c.args.entry.now.patches in
    let before = c.put_u32.new.out.items in
    let after = c.put_patches.new.out.items in
    on_ok_weaker c.put_patches.result (λ (written : after ≡ before ++ flat_map patch_bytes c.as_slice-patches.result.now).
    appended6 c.args.out.now.items c.put_u16.new.out.items c.extend_from_slice.new.self.items c.put_u64.new.out.items c.put_before.new.out.items before after
    (big_bytes 2 (length name)) name (big_bytes 8 c.args.entry.now.length) (before_bytes c.args.entry.now.before) (big_bytes 4 (length patches)) (flat_map patch_bytes patches)
    (c.in_ok-put_u16.ensures ∙ ap (λ (x : List ℕ). c.args.out.now.items ++ big_bytes 2 (length x)) c.as_str-name.ensures.value)
    (c.in_ok-extend_from_slice.ensures.items ∙ ap (λ (x : List ℕ). c.put_u16.new.out.items ++ x) (c.as_bytes.ensures.value ∙ c.as_str-name.ensures.value))
    c.in_ok-put_u64.ensures
    (c.in_ok-put_before.ensures ∙ ap (λ (x : Option Before). c.put_u64.new.out.items ++ before_bytes x) c.as_ref.ensures.value)
    (c.in_ok-put_u32.ensures ∙ ap (λ (x : List Patch). c.put_before.new.out.items ++ big_bytes 4 (length x)) c.as_slice-patches.ensures)
    (written ∙ ap (λ (x : List Patch). before ++ flat_map patch_bytes x) c.as_slice-patches.ensures))
    c.put_patches.ensures

pub returns-in_err-put_u16 : goal.returns-in_err-put_u16
returns-in_err-put_u16 c = not_ok _ _ c.from_residual.ensures.0

pub returns-in_err-extend_from_slice : goal.returns-in_err-extend_from_slice
returns-in_err-extend_from_slice c = not_ok _ _ c.from_residual-in_err-extend_from_slice.ensures.0

pub returns-in_err-put_u64 : goal.returns-in_err-put_u64
returns-in_err-put_u64 c = not_ok _ _ c.from_residual-in_err-put_u64.ensures.0

pub returns-in_err-put_before : goal.returns-in_err-put_before
returns-in_err-put_before c = not_ok _ _ c.from_residual-in_err-put_before.ensures.0

pub returns-in_err-put_u32 : goal.returns-in_err-put_u32
returns-in_err-put_u32 c = not_ok _ _ c.from_residual-in_err-put_u32.ensures.0

pub overflow_cast-name : goal.overflow_cast-name
overflow_cast-name c =
    let name = c.args.entry.now.name in
    rw c.as_str-name.ensures.value (record { fits = name_fits name c.requires.name })

pub overflow_cast-patches : goal.overflow_cast-patches
overflow_cast-patches c = rw c.as_slice-patches.ensures (record { fits = patches_fit (length c.args.entry.now.patches) c.requires.few })
