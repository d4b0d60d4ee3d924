use Rattle.std.proofs.Common.{ap, sym, ◌∙◌, ◌++◌, ◌-◌, List, ℕ, length, take, drop, [], ◌∷◌}
use Rattle.std.specs.List.{flat_map}
use Rattle.byteorder.specs.Endian.{big_bytes}
use Rattle.org_journal.specs.declared.record.Entry.{Entry}
use Rattle.org_journal.specs.declared.record.Version.TheVariants.{Three}
use Rattle.org_journal.specs.Record.{entry_bytes}
use Rattle.org_journal.proofs.Journal.{begins_again, sized, written_begins}
use Rattle.org_journal.proofs.encoding.Record.encode.Goals as goal

pub returns-clause-bytes : goal.returns-clause-bytes
returns-clause-bytes c =
    let out = c.put_entries.new.out in
    let entries = c.args.self.now in
    sized c.extend_from_slice.new.self.items c.put_u64.new.out.items c.put_u32.new.out.items out.items c.set_size.new.bytes (big_bytes 4 (length entries)) (flat_map (entry_bytes Three) entries) out.len (c.len.result - 15)
    (c.in_ok-extend_from_slice.ensures.items ∙ ap (λ (x : List ℕ). x ++ 79 ∷ 82 ∷ 71 ∷ 74 ∷ 3 ∷ 0 ∷ 0 ∷ []) (c.reserve.ensures.items ∙ c.new-out.ensures.items))
    c.in_ok-put_u64.ensures
    (c.in_ok-put_u32.ensures ∙ ap (λ (x : List Entry). c.put_u64.new.out.items ++ big_bytes 4 (length x)) c.as_slice-entries.ensures)
    (c.in_ok-put_entries.ensures ∙ ap (λ (x : List Entry). c.put_u32.new.out.items ++ flat_map (entry_bytes Three) x) c.as_slice-entries.ensures)
    (sym c.deref_mut.ensures.len ∙ ap length c.deref_mut.ensures.value)
    (ap (λ (n : ℕ). n - 15) (c.len.ensures ∙ sym c.deref_mut.ensures.len ∙ ap length c.deref_mut.ensures.value))
    (c.set_size.ensures ∙ ap (λ (x : List ℕ). take 7 x ++ (big_bytes 8 (c.len.result - 15) ++ drop 15 x)) c.deref_mut.ensures.value)

pub returns-clause-read : goal.returns-clause-read
returns-clause-read c = begins_again _ c.args.self.now (written_begins _ c.args.self.now c.requires (returns-clause-bytes c))
