-- Archivings: what their planner finds is what the outcome says.
use Rattle.std.proofs.Common.{arith, ◌≡◌, ◌≢◌, ℕ, true, false, List, [], ◌∷◌, Option, Some, None, Result, Ok, Err, refl, sym, ◌∙◌, ap, subst, rules, ◌<◌}
use Rattle.std.proofs.lemmas.Grind.{common_steps}
use Rattle.std.specs.Option.{IsSome}
use Rattle.std.specs.Result.{IsErrAnd}
use Rattle.std.specs.Str.{bytes_eq}
use Rattle.std.proofs.lemmas.Bool.{false≢true}
use Rattle.std.proofs.lemmas.Slice.Eq.{bytes_eq-Decides}
use Rattle.org_fault.specs.declared.fault.Fault.{Fault}
use Rattle.org_fault.specs.declared.fault.Fault.TheVariants as fault
use Rattle.org_fault.specs.declared.refusal.Refusal.{Refusal}
use Rattle.org_fault.specs.declared.refusal.Refusal.TheVariants.{NoSuchFile}
use Rattle.org_disk.specs.declared.disk.Disk.{Ghosts}
use Rattle.org_outline.specs.declared.steps.Step.{Step}
use Rattle.org_splice.specs.Lines.{terminated}
use Rattle.org_splice.specs.Edits.{AreEdits}
use Rattle.org_splice.specs.Texts.{EditedText}
use Rattle.org_splice.proofs.Lines.{lines_of-terminated}
use Rattle.org_journal.specs.Recovered.{contents}
use Rattle.org_outline.specs.declared.paths.PathFault.{PathFault}
use Rattle.org_outline.specs.Paths.{find_path, refusal_of}
use Rattle.org_outline.specs.States.{Keywords}
use Rattle.org_outline.specs.Tree.{Document, print, tree, node_count}
use Rattle.org_outline.proofs.Trees.{tree-terminated}
use Rattle.org_stamp.specs.Calendar.{Moment}
use Rattle.org_texts.specs.declared.plan.FileEdits.{FileEdits}
use Rattle.org_texts.specs.declared.plan.Plan.{Plan}
use Rattle.org_texts.specs.Texts.{Holding, bytes_or, text_of, TextSet}
use Rattle.org_texts.proofs.Looking.{not_equal, the_value}
use Rattle.org_move.specs.Answers.{IsMadeAs, IsPlaceAs}
use Rattle.org_move.specs.Archive.{archive_across_at, archive_within_at}
use Rattle.org_move.specs.Location.{Destination, location, location_at}
use Rattle.org_move.specs.Refile.{Moved, with_found}
use Rattle.org_commands.specs.declared.command.RunFault.{RunFault}
use Rattle.org_commands.specs.declared.command.RunFault.TheVariants.{Refused}
use Rattle.org_commands.specs.declared.tally.Tally.{Tally}
use Rattle.org_commands.specs.Files.{AreReady, IsPlanFor, OpenFiles, new_texts, KeepsHeld}
use Rattle.org_commands.specs.InOrder.{is_name, text_at}
use Rattle.org_commands.specs.Keeping.{Plans, fault_of}
use Rattle.org_commands.specs.Outcome.{Outcome, Refuses, archive, archive_at, archive_to, with_moved}
use Rattle.org_commands.specs.Refile.{MakesDocument, MakesDocuments, text_within, texts_across}
use Rattle.org_commands.specs.Session.{BetweenSessions, Session}
use Rattle.org_commands.specs.Step.{Steps}
use Rattle.org_commands.proofs.MadeReady.{session_in, still_named}
use Rattle.org_commands.proofs.Plans.{first_name, now_held, one_name, one_text, plan_of_one, plan_of_two, ready_text, second_name, text_held, two_texts}
use Rattle.org_commands.proofs.Refiles.{move_fails, move_planned}
use Rattle.org_commands.specs.Headings.{HasHeading}
use Rattle.org_commands.proofs.Clocks.{heading_before, still_there}

-- ---- texts that are ready

-- the bytes that are held of a file now
abbrev pub held_bytes : Holding → List ℕ → List ℕ
held_bytes held file = bytes_or [] (text_of held.now file)

the_text : (o : Option EditedText) → IsSome o → (text : EditedText) × (o ≡ Some text) × (bytes_or [] o ≡ text.bytes)
the_text None some = absurd (false≢true some)
the_text (Some text) some = (text, refl, refl)

-- what is held is the store's text of the file, terminated
pub store_text : {D : Type 0} (g : Ghosts D) (states : Keywords) (files : OpenFiles D) (tally : Tally) (s : Session) (names : List (List ℕ)) (file : List ℕ) → session_in g states files tally ≡ s → AreReady names files.held → is_name names file ≡ true
    → is_name files.names file ≡ true → (text : List ℕ) × (text_at s.names s.files file ≡ Some text) × (held_bytes files.held file ≡ terminated text)
store_text g states files tally s names file is are there named = grind (arith, common_steps, the_text, now_held, ready_text, text_held, contents)

-- a heading that it has, in these bytes
pub heading_in : (set : TextSet) (file : List ℕ) (i : ℕ) (bytes : List ℕ) → bytes ≡ bytes_or [] (text_of set file) → HasHeading set file i → i < node_count (tree bytes)
heading_in set file i bytes is (text, held, within) = subst (λ (b : List ℕ). i < node_count (tree b)) (sym (is ∙ ap (bytes_or []) held)) within

-- .. is there where another file was made ready
pub heading_stays : (old new : Holding) (names more : List (List ℕ)) (file : List ℕ) (i : ℕ) → AreReady names old → is_name names file ≡ true → AreReady more new → is_name more file ≡ true → KeepsHeld old new → HasHeading old.now file i
    → HasHeading new.now file i
heading_stays old new names more file i was among are there keeps (text, held, within) =
    let seen = the_text (text_of new.now file) (now_held more new file are there) in
    (seen.0, seen.1, still_there old new more file i seen.0 (heading_before old names file i text was among held within) keeps are there seen.1)

-- a text that is found twice is one
same_terminated : (text other seen : List ℕ) → Some text ≡ Some other → seen ≡ terminated other → seen ≡ terminated text
same_terminated text other seen is stays_terminated = let same : text ≡ other = cc in stays_terminated ∙ ap terminated (sym same)

-- ---- the plans

module _ (plan : Plan) (held : Holding) (file : List ℕ) (new : Document) (makes : MakesDocument file (held_bytes held file) new plan) (are : AreReady (file ∷ []) held) where
  own_text : (text : EditedText) × (text_of held.now file ≡ Some text) × AreEdits plan.first.edits.items text.bytes (print new)
  own_text = grind (arith, common_steps, the_text, now_held, one_name)

  pub within_fits : (names : List (List ℕ)) → is_name names file ≡ true → IsPlanFor names held plan
  within_fits names named = plan_of_one plan names held file own_text.0 (print new) makes.0 makes.1 own_text.1 own_text.2 named are

  within_texts : new_texts plan held.now ≡ text_within file new
  within_texts = one_text plan held file own_text.0 (print new) makes.0 makes.1 own_text.1 own_text.2

module _ (plan : Plan) (held : Holding) (file to_file : List ℕ) (new : Moved) (apart : file ≢ to_file) (makes : MakesDocuments file to_file (held_bytes held file) (held_bytes held to_file) new plan)
    (are : AreReady (to_file ∷ file ∷ []) held) where
  second : (change : FileEdits) × (plan.second ≡ Some change) × ((change.file ≡ to_file) × AreEdits change.edits.items (held_bytes held to_file) (print new.target))
  second = the_value (λ (change : FileEdits). (change.file ≡ to_file) × AreEdits change.edits.items (held_bytes held to_file) (print new.target)) plan.second makes.2

  left_text : (text : EditedText) × (text_of held.now file ≡ Some text) × AreEdits plan.first.edits.items text.bytes (print new.source)
  left_text = grind (arith, common_steps, the_text, now_held, second_name)

  into_text : (text : EditedText) × (text_of held.now to_file ≡ Some text) × AreEdits second.0.edits.items text.bytes (print new.target)
  into_text = search (rules, arith, the_text, now_held, first_name, second)

  documents_planned : (names : List (List ℕ)) → is_name names file ≡ true → is_name names to_file ≡ true → IsPlanFor names held plan
  documents_planned names named also =
      plan_of_two plan second.0 names held file to_file left_text.0 into_text.0 (print new.source) (print new.target) apart makes.0 second.1 second.2.0 left_text.1 into_text.1 left_text.2 into_text.2 named also are

  across_texts : new_texts plan held.now ≡ texts_across file to_file new
  across_texts = two_texts plan second.0 held file to_file left_text.0 into_text.0 (print new.source) (print new.target) apart makes.0 second.1 second.2.0 left_text.1 into_text.1 left_text.2 into_text.2

-- ---- the outcome

location_terminated : (states : Keywords) (name : List ℕ) (path : List Step) (text : List ℕ) → location states name path (terminated text) ≡ location states name path text
location_terminated states name path text = rw (lines_of-terminated text) refl

-- where a heading goes that is found
pub place_is : (states : Keywords) (name : List ℕ) (path : List Step) (text : List ℕ) (i : ℕ) → find_path states (tree text) path ≡ Ok i → location states name path text ≡ location_at states name text i
place_is states name path text i found = ap (λ (f : Result ℕ PathFault). with_found f (λ i. location_at states name text i)) found

module _ (s : Session) (file : List ℕ) (path : List Step) (moment : Moment) where
  -- what an archiving is to do with the store's text of the file
  abbrev pub reported : Outcome
  reported = archive s file path moment (text_at s.names s.files file)

  abbrev pub reported_to : List ℕ → Destination → Outcome
  reported_to text to = archive_to s file path moment text to (text_at s.names s.files to.file)

  -- the planner sees the text terminated
  reported_at : (text seen : List ℕ) → text_at s.names s.files file ≡ Some text → seen ≡ terminated text → reported ≡ archive_at s file path moment text (location s.states file path seen)
  reported_at text seen at stays_terminated = grind (arith, common_steps, archive, location_terminated)

  -- there is no heading at the path
  pub path_refused : (text seen : List ℕ) (why : PathFault) → s.broken ≡ false → text_at s.names s.files file ≡ Some text → seen ≡ terminated text → find_path s.states (tree seen) path ≡ Err why → Steps s reported (Err (Refused (refusal_of why))) s
  path_refused text seen why unbroken at stays_terminated none =
      (unbroken, reported_at text seen at stays_terminated ∙ ap (λ (f : Result ℕ PathFault). archive_at s file path moment text (with_found f (λ i. location_at s.states file seen i))) none, refl)

  -- an archiving without a location
  pub place_refused : (text seen : List ℕ) (result : Result Destination (Fault Refusal)) (why : Fault Refusal) → s.broken ≡ false → text_at s.names s.files file ≡ Some text → seen ≡ terminated text → result ≡ Err why
      → IsPlaceAs (location s.states file path seen) result → Steps s reported (Err (fault_of why)) s
  place_refused text seen result why unbroken at stays_terminated was gives = go why (subst (IsPlaceAs said) was gives)
    where
      said : Result Destination Refusal
      said = location s.states file path seen

      refuses : (w : Refusal) → said ≡ Err w → reported ≡ Refuses w
      refuses w none = reported_at text seen at stays_terminated ∙ ap (archive_at s file path moment text) none

      go : (w : Fault Refusal) → IsPlaceAs said (Err w) → Steps s reported (Err (fault_of w)) s
      go fault.OutOfMemory gives = (unbroken, refl)
      go (fault.Refused w) gives = (unbroken, refuses w gives, refl)

  -- .. and one with a location
  pub place_found : (text seen : List ℕ) (to : Destination) → text_at s.names s.files file ≡ Some text → seen ≡ terminated text → IsPlaceAs (location s.states file path seen) (Ok to) → reported ≡ reported_to text to
  place_found text seen to at stays_terminated found = reported_at text seen at stays_terminated ∙ ap (archive_at s file path moment text) found

  -- its file is none of the store's
  pub no_place : (text : List ℕ) (to : Destination) → text_at s.names s.files to.file ≡ None → reported_to text to ≡ Refuses NoSuchFile
  no_place text to none = ap (archive_to s file path moment text to) none

  -- it is the file itself
  within_is : (text seen : List ℕ) (to : Destination) (i : ℕ) → text_at s.names s.files file ≡ Some text → seen ≡ terminated text → file ≡ to.file → find_path s.states (tree text) path ≡ Ok i
      → reported_to text to ≡ with_moved s (text_within file) (archive_within_at s.states file moment to (tree seen) i)
  within_is text seen to i at stays_terminated own found = grind (arith, common_steps, bytes_eq-Decides, with_moved, text_within, tree-terminated)

  -- it is another one
  across_is : (text seen target into : List ℕ) (to : Destination) (i : ℕ) → text_at s.names s.files to.file ≡ Some target → seen ≡ terminated text → into ≡ terminated target → file ≢ to.file → find_path s.states (tree text) path ≡ Ok i
      → reported_to text to ≡ with_moved s (texts_across file to.file) (archive_across_at s.states file moment (tree seen) s.states to (tree into) i)
  across_is text seen target into to i there stays_terminated closes apart found = grind (arith, common_steps, not_equal, with_moved, tree-terminated)

-- ---- what is planned

-- within a file that is ready
module _ {D : Type 0} (g : Ghosts D) (states : Keywords) (files : OpenFiles D) (file : List ℕ) (path : List Step) (moment : Moment) (to : Destination) (own : file ≡ to.file) (unbroken : files.broken ≡ false)
    (ready : AreReady (file ∷ []) files.held) (there : is_name files.names file ≡ true) (tally : Tally) (text : List ℕ) (i : ℕ) where
  abbrev s : Session
  s = session_in g states files tally

  abbrev seen : List ℕ
  seen = held_bytes files.held file

  abbrev said : Result Document Refusal
  said = archive_within_at states file moment to (tree seen) i

  abbrev reported_within : Outcome
  reported_within = reported_to s file path moment text to

  reported_within_is : text_at s.names s.files file ≡ Some text → find_path states (tree text) path ≡ Ok i → reported_within ≡ with_moved s (text_within file) said
  reported_within_is at found =
      let store = store_text g states files tally s (file ∷ []) file refl ready (one_name file) there in
      within_is s file path moment text seen to i at (same_terminated text store.0 seen (sym at ∙ store.1) store.2) own found

  pub within_fails : text_at s.names s.files file ≡ Some text → find_path states (tree text) path ≡ Ok i → (result : Result Plan (Fault Refusal)) {why : Fault Refusal} (answer : Result Plan RunFault) → result ≡ Err why → IsMadeAs said (MakesDocument file seen) result → IsErrAnd answer (λ y. y ≡ fault_of why)
      → Plans s reported_within answer files.held s
  within_fails at found result answer was gives handed = move_fails files.held (text_within file) said (MakesDocument file seen) result answer unbroken refl (reported_within_is at found) was gives handed

  pub within_planned : text_at s.names s.files file ≡ Some text → find_path states (tree text) path ≡ Ok i → (plan : Plan) → IsMadeAs said (MakesDocument file seen) (Ok plan) → Plans s reported_within (Ok plan) files.held s
  within_planned at found plan (new, is, makes) = move_planned files.held (text_within file) said new plan refl (reported_within_is at found) is (within_texts plan files.held file new makes ready)

-- ---- planned over outlines of the texts that are held

pub seen_within : (file : List ℕ) (moment : Moment) (to : Destination) (i : ℕ) (result : Result Plan (Fault Refusal)) (there states : Keywords) (bytes seen : List ℕ) → bytes ≡ seen → there ≡ states
    → IsMadeAs (archive_within_at there file moment to (tree bytes) i) (MakesDocument file bytes) result → IsMadeAs (archive_within_at states file moment to (tree seen) i) (MakesDocument file seen) result
seen_within file moment to i result there states bytes seen text same made = grind (arith, common_steps)

pub seen_across : (file : List ℕ) (moment : Moment) (to : Destination) (i : ℕ) (result : Result Plan (Fault Refusal)) (own there states : Keywords) (bytes into seen found : List ℕ) → bytes ≡ seen → own ≡ states → into ≡ found → there ≡ states
    → IsMadeAs (archive_across_at own file moment (tree bytes) there to (tree into) i) (MakesDocuments file to.file bytes into) result
    → IsMadeAs (archive_across_at states file moment (tree seen) states to (tree found) i) (MakesDocuments file to.file seen found) result
seen_across file moment to i result own there states bytes into seen found text same texts also made = grind (arith, common_steps)

-- Two files are ready, of which the second one is the location's: they were `old` before that one
-- was made ready, and are `new`.
pub record AreBothReady {D : Type 0} (g : Ghosts D) (states : Keywords) (old new : OpenFiles D) (file to_file : List ℕ) : Type 0 where
  pub apart : file ≢ to_file
  pub ready : AreReady (to_file ∷ file ∷ []) new.held
  pub named : is_name new.names file ≡ true
  pub also : is_name new.names to_file ≡ true
  pub reads : BetweenSessions g states old new (λ s t. t ≡ s)

other_name : (file other : List ℕ) → false ≡ bytes_eq file other → file ≢ other
other_name file other test = search rules

-- the planner has a copy of the location's name
pub both_ready : {D : Type 0} (g : Ghosts D) (states : Keywords) (old new : OpenFiles D) (file to_file copy : List ℕ) → copy ≡ to_file → false ≡ bytes_eq file copy → true ≡ is_name old.names copy → is_name old.names file ≡ true
    → AreReady (file ∷ []) old.held → ((names : List (List ℕ)) → AreReady names old.held → AreReady (copy ∷ names) new.held) → new.names ≡ old.names → ((k : Keywords) → BetweenSessions g k old new (λ s t. t ≡ s))
    → AreBothReady g states old new file to_file
both_ready g states old new file to_file copy is differ has there was ready names reads = record {
  apart = λ same. other_name file copy differ (same ∙ sym is);
  ready = subst (λ (n : List ℕ). AreReady (n ∷ file ∷ []) new.held) is (ready (file ∷ []) was);
  named = still_named file names there;
  also = still_named to_file names (ap (is_name old.names) (sym is) ∙ sym has);
  reads = reads states;
}

module _ {D : Type 0} {g : Ghosts D} {states : Keywords} {old new : OpenFiles D} (file : List ℕ) (path : List Step) (moment : Moment) (to : Destination) (i : ℕ) (both : AreBothReady g states old new file to.file) where
  abbrev made : Result Moved Refusal
  made = archive_across_at states file moment (tree (held_bytes new.held file)) states to (tree (held_bytes new.held to.file)) i

  abbrev Makes : Moved → Plan → Type 0
  Makes = MakesDocuments file to.file (held_bytes new.held file) (held_bytes new.held to.file)

  pub across_fits : (plan : Plan) → IsMadeAs made Makes (Ok plan) → IsPlanFor new.names new.held plan
  across_fits plan (d, is, makes) = documents_planned plan new.held file to.file d both.apart makes both.ready new.names both.named both.also

  module _ (tally : Tally) (honest : g.honest new.disk) (text : List ℕ) (at : text_at (session_in g states old tally).names (session_in g states old tally).files file ≡ Some text) (found : find_path states (tree text) path ≡ Ok i) where
    abbrev before : Session
    before = session_in g states old tally

    reported_across : reported_to before file path moment text to ≡ with_moved before (texts_across file to.file) made
    reported_across =
        let read = both.reads tally honest in
        let own = store_text g states new tally before (to.file ∷ file ∷ []) file read both.ready (second_name to.file file) both.named in
        let other = store_text g states new tally before (to.file ∷ file ∷ []) to.file read both.ready (first_name to.file (file ∷ [])) both.also in
        across_is before file path moment text (held_bytes new.held file) other.0 (held_bytes new.held to.file) to i other.1 (same_terminated text own.0 (held_bytes new.held file) (sym at ∙ own.1) own.2) other.2 both.apart found

    pub across_fails : (result : Result Plan (Fault Refusal)) {why : Fault Refusal} (answer : Result Plan RunFault) → old.broken ≡ false → result ≡ Err why → IsMadeAs made Makes result → IsErrAnd answer (λ y. y ≡ fault_of why)
        → Plans before (reported_to before file path moment text to) answer new.held (session_in g states new tally)
    across_fails result answer unbroken was gives handed = move_fails new.held (texts_across file to.file) made Makes result answer unbroken (both.reads tally honest) reported_across was gives handed

    pub across_planned : (plan : Plan) → IsMadeAs made Makes (Ok plan) → Plans before (reported_to before file path moment text to) (Ok plan) new.held (session_in g states new tally)
    across_planned plan (d, is, makes) = move_planned new.held (texts_across file to.file) made d plan (both.reads tally honest) reported_across is (across_texts plan new.held file to.file d both.apart makes both.ready)
