-- After a commit each changed file holds its text.
use Rattle.std.proofs.Common.{◌≡◌, ◌≢◌, ◌∙◌, ℕ, List, [], ◌∷◌, length, Option, Some, true, false, sym, refl, subst}
use Rattle.std.specs.Prelude.{slice_get}
use Rattle.std.specs.List.{AllByRecursion, IsDistinct}
use Rattle.std.specs.Map.{keys_of}
use Rattle.std.specs.Str.{bytes_eq}
use Rattle.std.proofs.lemmas.List.Elements.{All-from_recursion}
use Rattle.std.proofs.lemmas.Map.Keys.{IsDistinct-tail, IsDistinct-head}
use Rattle.std.proofs.lemmas.Option.{get_or_from_slice_get, slice_get_within}
use Rattle.org_disk.specs.Names.{journal_name}
use Rattle.org_disk.proofs.Names.{same_name}
use Rattle.org_splice.specs.Texts.{EditedText, IsEditOf}
use Rattle.org_journal.specs.declared.record.Entry.{Entry}
use Rattle.org_journal.specs.Recovered.{Image, SameFiles, replayed}
use Rattle.org_fileset.specs.Entries.{AreEntriesOf, HoldTexts, SaySizes, changed}
use Rattle.org_fileset.proofs.Recorded.{changes_made}

abbrev Change : Type 0
Change = List ℕ × EditedText

-- so does the file at this place
pub text_held : (changes : List Change) (files : Image) (i : ℕ) (change : Change) → HoldTexts changes files → slice_get changes i ≡ Some change → files change.0 ≡ change.1.bytes
text_held changes files i change hold at =
    subst (λ (c : Change). files c.0 ≡ c.1.bytes) (get_or_from_slice_get changes i change change at)
    (All-from_recursion (λ (c : Change). files c.0 ≡ c.1.bytes) changes hold i change (slice_get_within changes i change at))

-- files that are these hold the same texts
pub texts_made : (changes : List Change) (files to : Image) → SameFiles files to → HoldTexts changes to → AllByRecursion (λ (change : Change). change.0 ≢ journal_name) changes → HoldTexts changes files
texts_made [] files to same hold named = tt
texts_made (change ∷ changes) files to same hold named = (same change.0 named.0 ∙ hold.0, texts_made changes files to same hold.1 named.1)

-- a change of another file leaves them
others_hold : (change : Change) (changes rest : List Change) (files : Image) → AllByRecursion (λ key. bytes_eq change.0 key ≡ false) (keys_of rest) → HoldTexts rest (changed changes files)
    → HoldTexts rest (changed (change ∷ changes) files)
others_hold change changes [] files apart hold = tt
others_hold change changes (first ∷ rest) files apart hold =
    let e : bytes_eq change.0 first.0 ≡ false = apart.0 in
    (rw e hold.0, others_hold change changes rest files apart.1 hold.1)

texts_changed : (changes : List Change) (files : Image) → IsDistinct bytes_eq (keys_of changes) → HoldTexts changes (changed changes files)
texts_changed [] files distinct = tt
texts_changed (change ∷ changes) files distinct =
    let e : bytes_eq change.0 change.0 ≡ true = same_name change.0 in (
      rw e refl,
      others_hold change changes changes files (IsDistinct-head bytes_eq change.0 (keys_of changes) distinct) (texts_changed changes files (IsDistinct-tail bytes_eq change.0 (keys_of changes) distinct)),
    )

pub hold_as : (changes : List Change) (files to : Image) → ((name : List ℕ) → to name ≡ files name) → HoldTexts changes files → HoldTexts changes to
hold_as [] files to same hold = tt
hold_as (change ∷ changes) files to same hold = (same change.0 ∙ hold.0, hold_as changes files to same hold.1)

-- the record makes them
pub texts_replayed : (changes : List Change) (entries : List Entry) (files : Image) → AreEntriesOf changes entries → SaySizes (λ n. length (files n)) entries
    → AllByRecursion (λ (change : Change). IsEditOf (files change.0) change.1) changes → IsDistinct bytes_eq (keys_of changes) → HoldTexts changes (replayed entries files)
texts_replayed changes entries files are says edits distinct =
    hold_as changes (changed changes files) (replayed entries files) (λ name. changes_made changes entries files name are says edits) (texts_changed changes files distinct)
