-- What the laws of the journal's bytes say.
use Rattle.std.proofs.Common.{◌≡◌, ℕ, true, false, List, ◌∷◌, ◌++◌, drop, Some, refl, sym, ap, ◌∙◌}
use Rattle.std.specs.Prelude.{is_some}
use Rattle.org_disk.specs.Names.{journal_name}
use Rattle.org_journal.proofs.Fitting.{opens}
use Rattle.org_journal.proofs.Journal.{journal_again}
use Rattle.org_journal.specs.Gate.{is_open}
use Rattle.org_journal.specs.Reading.{journal_at}
use Rattle.org_journal.specs.Record.{BeginsWith, IsWellFormed, journal_bytes}
use Rattle.org_journal.specs.Recovered.{Image, all_fit, recovered, replayed}
use Rattle.org_journal.specs.declared.record.Entry.{Entry}
use Rattle.org_journal.specs.declared.record.Version.{Version}

pub record_read : (version : Version) (entries : List Entry) (rest : List ℕ) → IsWellFormed version entries → journal_at (journal_bytes version entries ++ rest) ≡ Some entries
record_read version entries rest is =
    journal_again (journal_bytes version entries ++ rest) entries (record { version = version; rest = rest; whole = refl; well_formed = is })

pub one_record : (bytes : List ℕ) (a b : List Entry) → BeginsWith bytes a → BeginsWith bytes b → a ≡ b
one_record bytes a b first second =
    let one : Some a ≡ Some b = sym (journal_again bytes a first) ∙ journal_again bytes b second in
    let same : a ≡ b = cc in
    same

pub open_recovered : (version : Version) (entries : List Entry) (rest : List ℕ) (image : Image) → IsWellFormed version entries → all_fit entries image ≡ true
    → image journal_name ≡ 1 ∷ (journal_bytes version entries ++ rest) → recovered image ≡ Some (replayed entries image)
open_recovered version entries rest image is fit written =
    let read : journal_at (drop 1 (image journal_name)) ≡ Some entries = ap (λ (l : List ℕ). journal_at (drop 1 l)) written ∙ record_read version entries rest is in
    let opened : is_open (image journal_name) ≡ true =
    opens (image journal_name) (image journal_name) (ap is_some read) (written ∙ ap (λ (l : List ℕ). 1 ∷ drop 1 l) (sym written))
    in
    rw (opened, read, fit) refl

pub closed_recovers : (image : Image) → is_open (image journal_name) ≡ false → recovered image ≡ Some image
closed_recovers image closed = rw closed refl
