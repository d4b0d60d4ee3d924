-- An archiving keeps how often each node is there over all files of a store, but for the entry's
-- section and for the heading that is made.
use Rattle.std.proofs.Common.{◌≡◌, ◌≢◌, inl, inr, ℕ, List, length, Option, Some, None, Result, Ok, Err, refl, ◌∙◌, ap, subst, arith}
use Rattle.std.specs.List.{IsDistinct, sum_by}
use Rattle.std.specs.Str.{bytes_eq}
use Rattle.org_disk.specs.Names.{IsDiskName}
use Rattle.org_disk.proofs.Names.{name_cases}
use Rattle.org_outline.specs.declared.steps.Step.{Step}
use Rattle.org_splice.specs.Lines.{IsLine}
use Rattle.org_stamp.specs.Calendar.{Moment}
use Rattle.org_outline.specs.declared.paths.PathFault.{PathFault}
use Rattle.org_outline.specs.Paths.{find_path}
use Rattle.org_outline.specs.Tree.{Document, print, tree}
use Rattle.org_outline.proofs.Trees.{tree-is}
use Rattle.org_fault.specs.declared.refusal.Refusal.{Refusal}
use Rattle.org_move.specs.Archive.{archive_across, archive_within, target_heading, with_heading}
use Rattle.org_move.specs.Location.{Destination, location}
use Rattle.org_move.specs.Refile.{Moved}
use Rattle.org_move.proofs.Archives.{across_keeps, across_stays_valid, within_keeps, within_stays_valid}
use Rattle.org_move.proofs.Moving.{found_of}
use Rattle.org_move.proofs.Values.{name_line, place_line}
use Rattle.org_commands.specs.declared.command.Archive.{Archive as Archiving}
use Rattle.org_commands.specs.declared.command.Command.TheVariants.{Change}
use Rattle.org_commands.specs.declared.command.Change.TheVariants.{Archive}
use Rattle.org_commands.specs.InOrder.{text_at, with_text}
use Rattle.org_store.specs.OnePlace.{ArchivesOne}
use Rattle.org_commands.specs.Outcome.{Accepts, archive, archive_at, archive_to, outcome, with_moved}
use Rattle.org_commands.specs.Refile.{text_within, texts_across}
use Rattle.org_commands.specs.Session.{Session}
use Rattle.org_store.proofs.NodeCounts.{accepted_are, again, still_at, still_long, sum_put, weight}

-- the heading of a place where something was made
heading_at : {A : Type 0} (said : Result (Option ℕ) PathFault) (make : Option ℕ → Result A Refusal) (x : A) → with_heading said make ≡ Ok x → (up : Option ℕ) × (said ≡ Ok up)
heading_at (Ok up) make x is = (up, refl)
heading_at (Err fault) make x is = absurd cc

module _ (s : Session) (apart : IsDistinct bytes_eq s.names) (each : length s.files ≡ length s.names) (file : List ℕ) (named : IsDiskName file) (path : List Step) (now : Moment) where
  line : IsLine file
  line = name_line file named

  within_archives : (text : List ℕ) (to : Destination) {touched : List (List ℕ)} (files : List (List ℕ)) (said : Result Document Refusal) → file ≡ to.file → text_at s.names s.files file ≡ Some text → location s.states file path text ≡ Ok to
      → archive_within s.states file path now to (tree text) ≡ said → with_moved s (text_within file) said ≡ Accepts touched files → ArchivesOne s file path now files
  within_archives text to files (Err why) own at place is accepts = absurd (cc)
  within_archives text to files (Ok new) own at place is accepts =
      let first = found_of (find_path s.states (tree text) path) _ new is in
      let second = heading_at (target_heading s.states to (tree text)) _ new first.2 in
      let made : with_text s.names s.files file (print new) ≡ files = accepted_are s (text_within file new) files accepts in
      let valid = within_stays_valid s.states file path now to (tree text) new line (place_line s.states file path text to place) is (tree-is text).valid in
      record {
        text = text;
        in_file = at;
        entry = first.0;
        found = first.1;
        to = to;
        place = place;
        target = text;
        in_target = subst (λ (n : List ℕ). text_at s.names s.files n ≡ Some text) own at;
        up = second.0;
        heading = second.1;
        counts = λ rest section. omega (
          arith,
          ap (sum_by (weight s apart each rest section)) made,
          sum_put (weight s apart each rest section) s.names s.files file text (print new) apart each at,
          again s apart each rest section new valid,
          within_keeps s.states file path now to (tree text) new first.0 second.0 first.1 second.1 is rest section,
        );
      }

  across_archives : (text target : List ℕ) (to : Destination) {touched : List (List ℕ)} (files : List (List ℕ)) (said : Result Moved Refusal) → file ≢ to.file → text_at s.names s.files file ≡ Some text
      → text_at s.names s.files to.file ≡ Some target → location s.states file path text ≡ Ok to → archive_across s.states file path now (tree text) s.states to (tree target) ≡ said
      → with_moved s (texts_across file to.file) said ≡ Accepts touched files → ArchivesOne s file path now files
  across_archives text target to files (Err why) different at there place is accepts = absurd (cc)
  across_archives text target to files (Ok new) different at there place is accepts =
      let first = found_of (find_path s.states (tree text) path) _ new is in
      let second = heading_at (target_heading s.states to (tree target)) _ new first.2 in
      let left = with_text s.names s.files file (print new.source) in
      let made : with_text s.names left to.file (print new.target) ≡ files = accepted_are s (texts_across file to.file new) files accepts in
      let valid = across_stays_valid s.states s.states file path now to (tree text) (tree target) new line (place_line s.states file path text to place) is (tree-is text).valid (tree-is target).valid in
      record {
        text = text;
        in_file = at;
        entry = first.0;
        found = first.1;
        to = to;
        place = place;
        target = target;
        in_target = there;
        up = second.0;
        heading = second.1;
        counts = λ rest section. omega (
          arith,
          ap (sum_by (weight s apart each rest section)) made,
          sum_put (weight s apart each rest section) s.names s.files file text (print new.source) apart each at,
          sum_put (weight s apart each rest section) s.names left to.file target (print new.target) apart (still_long s.names s.files file (print new.source) each)
              (still_at s.names s.files file to.file (print new.source) different ∙ there),
          again s apart each rest section new.source valid.0,
          again s apart each rest section new.target valid.1,
          across_keeps s.states s.states file path now to (tree text) (tree target) new first.0 second.0 first.1 second.1 is rest section,
        );
      }

  to_archives : (text : List ℕ) (to : Destination) (into : Option (List ℕ)) {touched : List (List ℕ)} (files : List (List ℕ)) → text_at s.names s.files file ≡ Some text → location s.states file path text ≡ Ok to
      → text_at s.names s.files to.file ≡ into → archive_to s file path now text to into ≡ Accepts touched files → ArchivesOne s file path now files
  to_archives text to None files at place there accepts = absurd (cc)
  to_archives text to (Some target) files at place there accepts = elim (name_cases file to.file) [
    | inl is ↦ let t = is.1 in within_archives text to files (archive_within s.states file path now to (tree text)) is.0 at place refl (rw t at accepts)
    | inr not ↦ let f = not.1 in across_archives text target to files (archive_across s.states file path now (tree text) s.states to (tree target)) not.0 at there place refl (rw f at accepts)
  ]

  at_archives : (text : List ℕ) (said : Result Destination Refusal) {touched : List (List ℕ)} (files : List (List ℕ)) → text_at s.names s.files file ≡ Some text → location s.states file path text ≡ said
      → archive_at s file path now text said ≡ Accepts touched files → ArchivesOne s file path now files
  at_archives text (Err why) files at place accepts = absurd (cc)
  at_archives text (Ok to) files at place accepts = to_archives text to (text_at s.names s.files to.file) files at place refl accepts

  in_archives : (old : Option (List ℕ)) {touched : List (List ℕ)} (files : List (List ℕ)) → text_at s.names s.files file ≡ old → archive s file path now old ≡ Accepts touched files → ArchivesOne s file path now files
  in_archives None files at accepts = absurd (cc)
  in_archives (Some text) files at accepts = at_archives text (location s.states file path text) files at refl accepts

pub archive_keeps : (s : Session) → IsDistinct bytes_eq s.names → length s.files ≡ length s.names → (it : Archiving) → IsDiskName it.file → {touched : List (List ℕ)} (files : List (List ℕ)) → outcome s (Change (Archive it)) ≡ Accepts touched files
    → ArchivesOne s it.file it.path it.moment files
archive_keeps s apart each it named files accepts = in_archives s apart each it.file named it.path it.moment (text_at s.names s.files it.file) files refl accepts
