use Rattle.std.proofs.Common.{◌≡◌, ◌≤◌, ◌+◌, ◌++◌, ◌∷◌, [], ℕ, List, length, take, refl, sym, ◌∙◌, ap, subst, arith}
use Rattle.std.proofs.lemmas.List.{take_more}
use Rattle.org_disk.specs.Disk.{FileState}
use Rattle.org_disk.proofs.Accounting.{accounts_call_ok, accounts_then, looks_behind, looks_then}
use Rattle.org_journal.specs.Recovered.{contents}
use Rattle.org_fileset.specs.Names.{limit}
use Rattle.org_fileset.specs.Lengths.{AreLengths}
use Rattle.org_fileset.proofs.Noted.{lengths_more}
use Rattle.org_fileset.proofs.Sorted.{first_large-next}
use Rattle.org_fileset.proofs.open.check_sizes.Goals as goal

pub loop-name-preserved : goal.loop-name-preserved
loop-name-preserved g c =
    let sofar = c.loop-name.invariant in
    let back = c.length.ensures.accounts.was_honest in
    record {
      sizes = λ ended.
          let files = contents (g.D.Disk.files c.args.disk.now) in
          let name = c.name-item.result in
          let same = ap (λ (f : List ℕ → FileState). length (f name).content) (sofar.looks (back ended)).same in
          let small : length (files name) ≤ limit = omega (arith, c.if-length.false, c.in_ok-length.ensures.value ended, same) in
          first_large-next files c.args.names.now c.loop-name.name-index name c.loop-name-test.true c.name-item.is small ∙ sofar.sizes (back ended);
      lengths = λ ended.
          let files = contents (g.D.Disk.files c.args.disk.now) in
          let name = c.name-item.result in
          let i = c.loop-name.name-index in
          let same = ap (λ (f : List ℕ → FileState). length (f name).content) (sofar.looks (back ended)).same in
          let more : take (i + 1) c.args.names.now ≡ take i c.args.names.now ++ name ∷ [] = rw (take_more c.args.names.now i name c.loop-name-test.true, ← c.name-item.is) refl in
          subst (λ (n : List (List ℕ)). AreLengths n c.push_length.new.lengths.items files) (sym more)
          (lengths_more (take i c.args.names.now) c.loop-name.lengths.items c.push_length.new.lengths.items files name c.in_ok-length.length (sofar.lengths (back ended))
          (c.in_ok-length.ensures.value ended ∙ same) c.in_ok-push_length.ensures);
      looks = λ ended. looks_then (sofar.looks (back ended)) (c.length.ensures.looks ended);
      accounts = accounts_then sofar.accounts (accounts_call_ok c.in_ok-length.ensures.accounts);
    }

pub returns-then-length-clause-looks : goal.returns-then-length-clause-looks
returns-then-length-clause-looks g c = looks_behind c.loop-name.invariant.looks c.length.ensures.accounts.was_honest c.length.ensures.looks
