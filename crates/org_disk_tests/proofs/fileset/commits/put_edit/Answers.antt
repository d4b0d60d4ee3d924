use Rattle.std.proofs.Common.{◌≡◌, inl, inr, ◌≤◌, ℕ, List, [], ◌∷◌, length, true, false, sym, subst}
use Rattle.std.specs.Prelude.{Result, Ok, OnOk}
use Rattle.std.specs.List.{All, AllByRecursion, Contains}
use Rattle.std.specs.Str.{bytes_eq}
use Rattle.std.proofs.lemmas.List.Elements.{All-from_recursion, recursion_from_All}
use Rattle.org_disk.specs.Disk.{FileState}
use Rattle.org_test_disks.specs.Memory.{memory_files}
use Rattle.org_disk.proofs.Names.{name_cases}
use Rattle.org_disk_tests.specs.Edited.{with_text}
use Rattle.org_splice.specs.Texts.{EditedText, IsEditOf}
use Rattle.org_journal.specs.Recovered.{contents}
use Rattle.org_fileset.specs.Names.{limit}
use Rattle.org_fileset.specs.Set.{AreCommittable}
use Rattle.org_disk_tests.proofs.fileset.commits.put_edit.Goals as goal

abbrev Change : Type 0
Change = List ℕ × EditedText

module _ (P : Change → Type 0) (name : List ℕ) (text : EditedText) (this : P (name, text)) where
  each_with : (changes : List Change) → AllByRecursion P changes → AllByRecursion P (with_text changes name text)
  each_with [] each = (this, tt)
  each_with (change ∷ changes) each = elim (name_cases name change.0) [
    | inl same ↦ let e : bytes_eq name change.0 ≡ true = same.1 in rw e (subst (λ (n : List ℕ). P (n, text)) same.0 this, each.1)
    | inr other ↦ let e : bytes_eq name change.0 ≡ false = other.1 in rw e (each.0, each_with changes each.1)
  ]

  all_with : (changes : List Change) → All P changes → All P (with_text changes name text)
  all_with changes all = All-from_recursion P (with_text changes name text) (each_with changes (recursion_from_All P changes all))

-- one change more, after a read
one_more : (names after : List (List ℕ)) (files now : List ℕ → FileState) (changes new : List Change) (name : List ℕ) (text : EditedText) → AreCommittable names (contents files) changes
    → after ≡ names → now ≡ files → new ≡ with_text changes name text → Contains names name → length text.bytes ≤ limit → IsEditOf (contents files name) text → AreCommittable after (contents now) new
one_more names after files now changes new name text can same_names same_files put named small edit =
    subst (λ (n : List (List ℕ)). AreCommittable n (contents now) new) (sym same_names)
    (subst (λ (f : List ℕ → FileState). AreCommittable names (contents f) new) (sym same_files)
    (subst (λ (l : List Change). AreCommittable names (contents files) l) (sym put) (record {
      named = all_with (λ (change : Change). Contains names change.0) name text named changes can.named;
      small = all_with (λ (change : Change). length change.1.bytes ≤ limit) name text small changes can.small;
      edits = all_with (λ (change : Change). IsEditOf (contents files change.0) change.1) name text edit changes can.edits;
    })))

-- what is said of a result that is Ok
of_ok : {A E P : Type 0} (result : Result A E) (value : A) → result ≡ Ok value → OnOk result P → P
of_ok {A} {E} {P} result value is held = subst (λ (r : Result A E). OnOk r P) is held

pub returns : goal.returns
returns g c =
    let files = memory_files c.args.set.now.disk in
    let name = c.name_at-name.result in
    let text = c.edited-text.result.text in
    let edit : IsEditOf (contents files name) text = subst (λ (bytes : List ℕ). IsEditOf bytes text) (c.in_ok-read.ensures.text tt) c.edited-text.ensures.edit in
    one_more c.args.set.now.names c.read.new.self.names files (memory_files c.read.new.self.disk) c.args.changes.now c.put.new.self name text
    c.requires c.read.ensures.set.same_names (c.read.ensures.looks tt).same (of_ok c.put.result c.expect.result c.expect.ensures c.put.ensures) c.name_at-name.ensures c.edited-text.ensures.small edit
