-- One call on a file of a record, while the journal stands open with it.
use Rattle.std.proofs.Common.{◌≡◌, ◌≢◌, inl, inr, ℕ, ◌≤◌, List, length, drop, true, false, Option, Some, Result, refl, sym, ◌∙◌, ap, subst}
use Rattle.std.specs.Prelude.{slice_get}
use Rattle.std.specs.List.{Contains}
use Rattle.std.specs.Option.{option_map}
use Rattle.std.proofs.lemmas.Option.{slice_get_read, slice_get-map}
use Rattle.org_disk.specs.Disk.{FileState, IsImage, IsStable, AreImages, AreLeftBy, Changes, write, cut, sync}
use Rattle.org_disk.specs.Names.{journal_name}
use Rattle.org_disk.specs.declared.disk.DiskFault.{DiskFault}
use Rattle.org_disk.proofs.Images.{only_image, stable_is, left_after}
use Rattle.org_disk.proofs.Names.{name_cases}
use Rattle.org_splice.specs.Patches.{AreWellFormed, Fit, PatchedTo, IsPartlyPatched, patched}
use Rattle.org_splice.specs.Texts.{pairs_of}
use Rattle.org_splice.proofs.Again.{PatchedTo-twice, PatchedTo-partly}
use Rattle.org_journal.specs.declared.record.Entry.{Entry}
use Rattle.org_splice.specs.declared.patch.Patch.{Patch}
use Rattle.org_journal.specs.Gate.{is_open}
use Rattle.org_journal.specs.Reading.{journal_at}
use Rattle.org_journal.specs.Record.{is_named}
use Rattle.org_journal.specs.Recovered.{Image, RecoversTo, all_fit, contents, may_cut}
use Rattle.org_fileset.specs.Replay.{EachMadeBy, IsMadeBy, TakesTo, AreApplicable, EachTakes, IsOpenOver}
use Rattle.org_fileset.specs.Laws.{IsOpenFor, KeepsTexts}
use Rattle.org_fileset.proofs.Patching.{may_leave, takes_write, takes_cut}
use Rattle.org_fileset.proofs.Takes.{entry-TakesTo, named_apart, applicable_at}
use Rattle.org_fileset.proofs.Replaying.{not_journal, entry_takes}
use Rattle.org_fileset.proofs.Recovers.{recovers_open, open_recovers, all_fit-takes}
use Rattle.org_fileset.proofs.Recovering.{open_takes, formed_applicable}

-- Applying again

pub patched_twice : (patches : List (ℕ × List ℕ)) (final : ℕ) (text : List ℕ) → AreWellFormed patches final → Fit patches final (length text)
    → PatchedTo patches final (patched patches final text) (patched patches final text)
patched_twice patches final text formed fit = PatchedTo-twice patches final text (patched patches final text) formed (record { fit = fit; makes = refl })

pub patched_partly : (patches : List (ℕ × List ℕ)) (final : ℕ) (text part : List ℕ) → AreWellFormed patches final → Fit patches final (length text)
    → IsPartlyPatched patches final text part → PatchedTo patches final part (patched patches final text)
patched_partly patches final text part formed fit partly = PatchedTo-partly patches final text part (patched patches final text) formed partly (record { fit = fit; makes = refl })

-- One call

module _ (entries : List Entry) (texts : Image) (files : List ℕ → FileState) (is : IsOpenFor entries texts files) (own : AreImages files (contents files))
    (entry : Entry) (member : Contains entries entry) where
  at : slice_get entries member.0 ≡ Some entry
  at = slice_get_read entries (length entries) member.0 entry refl member.1 (sym member.2)

  applicable : AreApplicable entries
  applicable = formed_applicable entries is.formed

  over : IsOpenOver entries files
  over = record {
    stable = is.stable;
    opened = is.over_record.opened (contents files journal_name) (own journal_name);
    found = is.over_record.found (contents files journal_name) (own journal_name) ∙ ap (λ (l : List Entry). let o : Option (List Entry) = Some l in o) is.same_entries;
  }

  stand : (image : Image) → AreImages files image → RecoversTo texts image
  stand image left = subst (λ (t : Image). RecoversTo t image) is.same_texts (is.over_record.same image left)

  fit : all_fit entries (contents files) ≡ true
  fit = all_fit-takes entries (contents files) texts applicable (open_recovers entries texts (contents files) over.opened over.found (stand (contents files) own))

  takes : EachTakes false entries texts files
  takes = subst (λ (t : Image). EachTakes false entries t files) is.same_texts (open_takes files own entries applicable over fit is.over_record)

  -- of its file the entry makes one text, whatever a crash leaves of it
  pub here : EachMadeBy false entry (texts entry.name) (files entry.name)
  here = entry_takes entries texts files member.0 entry applicable at takes

  pub formed_here : AreWellFormed (pairs_of entry.patches) entry.length
  formed_here = (applicable_at entries member.0 entry applicable.each at).patches

  -- a call that keeps it so
  module _ (effect : FileState → FileState) (after : EachMadeBy false entry (texts entry.name) (effect (files entry.name))) where
    apart : entry.name ≢ journal_name
    apart = not_journal entries member.0 entry applicable at

    left_recovers : (image : Image) → AreLeftBy effect entry.name files image → RecoversTo texts image
    left_recovers image left =
        let journal : image journal_name ≡ (files journal_name).content = only_image over.stable (image journal_name) (left.others journal_name (λ same. apart (sym same))) in
        recovers_open entries texts image applicable (ap is_open journal ∙ over.opened) (ap (λ (l : List ℕ). journal_at (drop 1 l)) journal ∙ over.found)
        (λ name not. elim (name_cases name entry.name) [
          | inl same ↦ subst (λ (n : List ℕ). TakesTo false entries n (image n) (texts n)) (sym same.0)
              (entry-TakesTo entries member.0 entry (image entry.name) (texts entry.name) applicable.apart at (may_leave effect (files entry.name) here after (image entry.name) left.here))
          | inr other ↦ takes.each name not (image name) (left.others name other.0)
        ])

    open_after : (new : List ℕ → FileState) (result : Result (Unit {0}) DiskFault) → Changes effect entry.name files new result → IsOpenFor entries texts new
    open_after new result changes =
        let same : new journal_name ≡ files journal_name = changes.others journal_name (λ name. apart (sym name)) in
        let journal_is : (bytes : List ℕ) → IsImage (new journal_name) bytes → bytes ≡ (files journal_name).content =
        λ bytes image. only_image over.stable bytes (subst (λ (f : FileState). IsImage f bytes) same image) in
        record {
          stable = subst IsStable (sym same) over.stable;
          over_record = record {
            entries = entries;
            opened = λ bytes image. ap is_open (journal_is bytes image) ∙ over.opened;
            found = λ bytes image. ap (λ (l : List ℕ). journal_at (drop 1 l)) (journal_is bytes image) ∙ over.found;
            others = λ name not none. subst IsStable (sym (changes.others name (named_apart entries member.0 entry name none at)))
                (is.over_record.others name not (ap (λ (l : List Entry). is_named name l) is.same_entries ∙ none));
            texts = texts;
            same = λ image left. left_recovers image (left_after changes image left);
          };
          same_entries = refl;
          same_texts = refl;
          formed = is.formed;
        }

    pub keeps : KeepsTexts effect entry.name entries texts files
    keeps = record { any_moment = left_recovers; after = open_after }

pub keeps_write : (entries : List Entry) (texts : Image) (files : List ℕ → FileState) (entry : Entry) (patch : Patch) → IsOpenFor entries texts files → AreImages files (contents files)
    → Contains entries entry → Contains entry.patches patch → patch.from ≤ length (contents files entry.name) → KeepsTexts (write patch.from patch.bytes) entry.name entries texts files
keeps_write entries texts files entry patch is own member among within =
    let pair : Patch → ℕ × List ℕ = λ p. (p.from, p.bytes) in
    let found : slice_get (pairs_of entry.patches) among.0 ≡ Some (patch.from, patch.bytes) =
    slice_get-map pair entry.patches among.0 ∙ ap (λ (o : Option Patch). option_map pair o) (slice_get_read entry.patches (length entry.patches) among.0 patch refl among.1 (sym among.2)) in
    keeps entries texts files is own entry member (write patch.from patch.bytes)
    (takes_write (files entry.name) among.0 patch.from patch.bytes (formed_here entries texts files is own entry member) found within (own entry.name) (here entries texts files is own entry member))

pub keeps_cut : (entries : List Entry) (texts : Image) (files : List ℕ → FileState) (entry : Entry) → IsOpenFor entries texts files → AreImages files (contents files)
    → Contains entries entry → may_cut entry.before entry.length ≡ true → entry.length ≤ length (contents files entry.name) → KeepsTexts (cut entry.length) entry.name entries texts files
keeps_cut entries texts files entry is own member cuts within =
    keeps entries texts files is own entry member (cut entry.length)
    (takes_cut (files entry.name) (formed_here entries texts files is own entry member) cuts within (own entry.name) (here entries texts files is own entry member))

pub keeps_sync : (entries : List Entry) (texts : Image) (files : List ℕ → FileState) (entry : Entry) → IsOpenFor entries texts files → AreImages files (contents files)
    → Contains entries entry → KeepsTexts sync entry.name entries texts files
keeps_sync entries texts files entry is own member =
    let now = here entries texts files is own entry member in
    keeps entries texts files is own entry member sync
    (λ text image. subst (λ (t : List ℕ). IsMadeBy false entry t (texts entry.name)) (sym (only_image (stable_is (files entry.name).content) text image))
    (now (files entry.name).content (own entry.name)))

-- Each file by itself
