-- Calls that leave files alone, one after another.
use Rattle.std.proofs.Common.{◌≡◌, ◌≢◌, inl, inr, ℕ, List, [], ◌∷◌, true, false, Result, refl, sym, ◌∙◌, ap, subst}
use Rattle.org_disk.specs.declared.disk.Disk.{Ghosts}
use Rattle.std.specs.Prelude.{Bool, IsFalse, ◌||◌, slice_get, Some}
use Rattle.std.specs.List.{list_any}
use Rattle.std.specs.Map.{keys_of}
use Rattle.std.specs.Str.{bytes_eq}
use Rattle.org_disk.specs.Disk.{FileState, IsImage, AreLeftBy, Changes}
use Rattle.org_disk.specs.CountsFailures.{LooksOver, PassesOver}
use Rattle.org_disk.specs.Names.{journal_name}
use Rattle.org_disk.specs.declared.disk.DiskFault.{DiskFault}
use Rattle.org_disk.proofs.Moments.{Image, passes_none, passes_as, passes_then}
use Rattle.org_disk.proofs.Names.{name_cases}
use Rattle.org_splice.specs.Texts.{EditedText}
use Rattle.org_journal.specs.declared.record.Entry.{Entry}
use Rattle.org_journal.specs.Record.{is_named}
use Rattle.org_fileset.specs.Entries.{AreEntriesOf}
use Rattle.org_fileset.proofs.Takes.{named_apart}
use Rattle.org_fileset.specs.Writes.{HasImagesOf, LeavesAlone, IsOther, IsUnwritten}

module _ {D : Type 0} (g : Ghosts D) where
  -- no call
  pub alone_none : (These : List ℕ → Type 0) (disk : D) → LeavesAlone g These disk disk
  alone_none These disk = record { same = λ name this. refl; time = passes_none (g.instant disk) (g.left_since disk) (HasImagesOf These (g.files disk)) }

  -- one run of calls after another
  pub alone_then : (These : List ℕ → Type 0) (old mid new : D) → LeavesAlone g These old mid → LeavesAlone g These mid new
      → LeavesAlone g These old new
  alone_then These old mid new first second = record {
    same = λ name this. second.same name this ∙ first.same name this;
    time = passes_then first.time second.time (λ image has name this. subst (λ f. IsImage f (image name)) (first.same name this) (has name this));
  }

  -- fewer files
  pub alone_fewer : (These Those : List ℕ → Type 0) (old new : D) → LeavesAlone g Those old new → ((name : List ℕ) → These name → Those name)
      → LeavesAlone g These old new
  alone_fewer These Those old new alone fewer = record {
    same = λ name this. alone.same name (fewer name this);
    time = passes_as alone.time (λ image has name this. has name (fewer name this));
  }

  -- a call that looks
  pub alone_looks : (These : List ℕ → Type 0) (old new : D) → LooksOver g old new → LeavesAlone g These old new
  alone_looks These old new looks = record {
    same = λ name this. ap (λ (f : List ℕ → FileState). f name) looks.same;
    time = passes_as looks.time (λ image left name this. left name);
  }

  -- calls on the file of one name, of which these words are said
  pub alone_but : (name : List ℕ) (P : Image → Type 0) (old new : D) → ((other : List ℕ) → other ≢ name → g.files new other ≡ g.files old other) → PassesOver g old new P
      → ((image : Image) → P image → HasImagesOf (λ other. other ≢ name) (g.files old) image) → LeavesAlone g (λ other. other ≢ name) old new
  alone_but name P old new others time has = record { same = others; time = passes_as time has }

  -- one such call
  pub alone_call : (effect : FileState → FileState) (name : List ℕ) (old new : D) (result : Result (Unit {0}) DiskFault) → Changes effect name (g.files old) (g.files new) result
      → PassesOver g old new (AreLeftBy effect name (g.files old)) → LeavesAlone g (λ other. other ≢ name) old new
  alone_call effect name old new result changes time = alone_but name (AreLeftBy effect name (g.files old)) old new changes.others time (λ image left. left.others)

-- .. of this disk
pub alone_called : {D : Type 0} {g : Ghosts D} {effect : FileState → FileState} {name : List ℕ} {old new : D} {result : Result (Unit {0}) DiskFault} → Changes effect name (g.files old) (g.files new) result
    → PassesOver g old new (AreLeftBy effect name (g.files old)) → LeavesAlone g (λ other. other ≢ name) old new
alone_called {g = g} {effect} {name} {old} {new} {result} changes time = alone_call g effect name old new result changes time

-- calls on the file of one name, another that looks, and one more on the file
pub alone_looked : {D : Type 0} {g : Ghosts D} {These : List ℕ → Type 0} {old mid new : D} → LeavesAlone g These old mid → LooksOver g mid new → LeavesAlone g These old new
alone_looked {g = g} {These} {old} {mid} {new} sofar looks = alone_then g These old mid new sofar (alone_looks g These mid new looks)

pub alone_more : {D : Type 0} {g : Ghosts D} {effect : FileState → FileState} {name : List ℕ} {old mid new : D} {result : Result (Unit {0}) DiskFault} → LeavesAlone g (λ other. other ≢ name) old mid
    → Changes effect name (g.files mid) (g.files new) result → PassesOver g mid new (AreLeftBy effect name (g.files mid)) → LeavesAlone g (λ other. other ≢ name) old new
alone_more {g = g} {effect} {name} {old} {mid} {new} {result} sofar changes time = alone_then g (λ other. other ≢ name) old mid new sofar (alone_call g effect name mid new result changes time)

-- calls on the file of one entry of a record
pub alone_entry : {D : Type 0} (g : Ghosts D) (entries : List Entry) (i : ℕ) (entry : Entry) (old mid new : D) → slice_get entries i ≡ Some entry
    → LeavesAlone g (λ name. IsFalse (is_named name entries)) old mid → LeavesAlone g (λ other. other ≢ entry.name) mid new
    → LeavesAlone g (λ name. IsFalse (is_named name entries)) old new
alone_entry g entries i entry old mid new is sofar here =
    alone_then g (λ name. IsFalse (is_named name entries)) old mid new sofar
    (alone_fewer g (λ name. IsFalse (is_named name entries)) (λ other. other ≢ entry.name) mid new here (λ name none. named_apart entries i entry name none is))

-- What no record names, and isn't the journal, is left alone by calls on its files ..
pub alone_applied : {D : Type 0} (g : Ghosts D) (entries : List Entry) (old new : D)
    → LeavesAlone g (λ name. IsFalse (is_named name entries)) old new → LeavesAlone g (IsUnwritten entries) old new
alone_applied g entries old new alone = alone_fewer g (IsUnwritten entries) (λ name. IsFalse (is_named name entries)) old new alone (λ name is. is.unnamed)

-- .. and on the journal
pub alone_journal : {D : Type 0} (g : Ghosts D) (journal : List ℕ) (These : List ℕ → Type 0) (P : Image → Type 0) (old new : D) → journal ≡ journal_name
    → ((name : List ℕ) → These name → name ≢ journal_name) → ((other : List ℕ) → other ≢ journal → g.files new other ≡ g.files old other) → PassesOver g old new P
    → ((image : Image) → P image → HasImagesOf (λ other. other ≢ journal) (g.files old) image) → LeavesAlone g These old new
alone_journal g journal These P old new is apart others time has =
    alone_fewer g These (λ other. other ≢ journal) old new (alone_but g journal P old new others time has) (λ name this same. apart name this (same ∙ is))

-- The files that a record of changes doesn't name are those that aren't changed.

either_false : (a b : Bool) → a || b ≡ false → (a ≡ false) × (b ≡ false)
either_false true b none = absurd (cc)
either_false false b none = (refl, none)

key_unnamed : (changes : List (List ℕ × EditedText)) (entries : List Entry) (name : List ℕ) → AreEntriesOf changes entries → list_any (bytes_eq name) (keys_of changes) ≡ false → is_named name entries ≡ false
key_unnamed [] [] name are none = refl
key_unnamed (change ∷ changes) (entry ∷ entries) name are none =
    let parts = either_false (bytes_eq name change.0) (list_any (bytes_eq name) (keys_of changes)) none in
    elim (name_cases entry.name name) [
      | inl same ↦ elim (name_cases name change.0) [
        | inl here ↦ absurd (cc)
        | inr apart ↦ absurd (apart.0 (sym same.0 ∙ are.0.name))
      ]
      | inr other ↦ ap (λ (b : Bool). b || is_named name entries) other.1 ∙ key_unnamed changes entries name are.1 parts.1
    ]
key_unnamed [] (entry ∷ entries) name are none = absurd are
key_unnamed (change ∷ changes) [] name are none = absurd are

pub others_unwritten : (changes : List (List ℕ × EditedText)) (entries : List Entry) (name : List ℕ) → AreEntriesOf changes entries → (changes ≡ [] → ⊥) → IsOther (keys_of changes) name → IsUnwritten entries name
others_unwritten [] entries name are some other = absurd (some refl)
others_unwritten (change ∷ changes) entries name are some other = record { apart = other.0; unnamed = key_unnamed (change ∷ changes) entries name are other.1 }
