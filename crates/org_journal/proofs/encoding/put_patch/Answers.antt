use Rattle.std.proofs.Common.{◌≡◌, ap, ◌∙◌, ◌++◌, List, ℕ, length, Result, Ok, Err, OnOk, is_ok, cond}
use Rattle.byteorder.specs.Endian.{big_bytes}
use Rattle.org_journal.proofs.Journal.{appended3}
use Rattle.org_journal.proofs.encoding.put_patch.Goals as goal

written : {E : Type 0} (r : Result (Unit {0}) E) (old new bytes all : List ℕ) → (new ≡ old ++ bytes → new ≡ all) → new ≡ cond (is_ok r) (old ++ bytes) old → OnOk r (new ≡ all)
written (Ok done) old new bytes all whole is = whole is
written (Err e) old new bytes all whole is = tt

pub returns : goal.returns
returns c =
    let bytes = c.args.patch.now.bytes in
    let before = c.put_u64-2.new.out.items in
    let after = c.extend_from_slice.new.self.items in
    written c.extend_from_slice.result before after c.as_slice.result.now _ (λ (is : after ≡ before ++ c.as_slice.result.now).
    appended3 c.args.out.now.items c.put_u64.new.out.items before after (big_bytes 8 c.args.patch.now.from) (big_bytes 8 (length bytes)) bytes
    c.in_ok-put_u64.ensures (c.in_ok-put_u64-2.ensures ∙ ap (λ (n : ℕ). c.put_u64.new.out.items ++ big_bytes 8 n) c.len.ensures) (is ∙ ap (λ (x : List ℕ). before ++ x) c.as_slice.ensures))
    c.extend_from_slice.ensures.items
