-- The list of texts that describes a run: what a command adds to it, and what of a session stands
-- in it.
use Rattle.std.proofs.Common.{◌≡◌, ◌⊎◌, inl, inr, ⊎_elim, ℕ, zero, suc, ◌+◌, ◌<◌, false, List, [], ◌∷◌, ◌++◌, length, Option, Some, None, Result, Ok, Err, refl, sym, ap, ◌∙◌, subst, arith}
use Rattle.std.proofs.lemmas.Grind.{common_steps}
use Rattle.std.specs.Prelude.{slice_get, IsErrOf, if◌then◌else◌, nat_eq}
use Rattle.std.proofs.lemmas.Bool.{cases_Bool, false≢true}
use Rattle.std.proofs.lemmas.List.{length-append}
use Rattle.org_commands.specs.declared.command.Command.{Command}
use Rattle.org_commands.specs.declared.command.Reply.{Reply}
use Rattle.org_commands.specs.declared.command.Reply.TheVariants.{Done, Safe, Text, Time}
use Rattle.org_commands.specs.declared.command.RunFault.{RunFault}
use Rattle.org_commands.specs.declared.command.RunFault.TheVariants.{Refused, OutOfMemory, Device, Broken}
use Rattle.org_store.specs.History.{Trace, Adds, Lists}
use Rattle.org_commands.specs.Outcome.{IsAccepted, Outcome, Accepts, Shows, Reports, AsksToSettle, Refuses, outcome}
use Rattle.org_commands.specs.Session.{Session}
use Rattle.org_commands.specs.Step.{Step, Settles, fills, done, settled}
use Rattle.org_store.proofs.Runs.{done_accepted, done_files}

abbrev pub Texts : Type 0
Texts = List (List (List ℕ))

-- A list and one that it begins.

abbrev pub Begin : Texts → Texts → Type 0
Begin some all = (k : ℕ) (files : List (List ℕ)) → slice_get some k ≡ Some files → slice_get all k ≡ Some files

pub begin_append : (some more : Texts) → Begin some (some ++ more)
begin_append [] more k files is = let none : ◌≡◌ {A = Option (List (List ℕ))} None (Some files) = is in absurd (cc)
begin_append (one ∷ some) more zero files is = is
begin_append (one ∷ some) more (suc k) files is = begin_append some more k files is

pub at_end : (some : Texts) (files : List (List ℕ)) → slice_get (some ++ files ∷ []) (length some) ≡ Some files
at_end [] files = refl
at_end (one ∷ some) files = at_end some files

pub same_accepted : {reported : Outcome} (files more : List (List ℕ)) → IsAccepted reported files → IsAccepted reported more → files ≡ more
same_accepted files more one other = let same : Accepts one.0 files ≡ Accepts other.0 more = sym one.1 ∙ other.1 in cc

pub done_broken : (s : Session) (files : List (List ℕ)) → (done s files).broken ≡ s.broken
done_broken s files = elim (cases_Bool (fills s)) [ inl t ↦ rw t refl | inr f ↦ rw f refl ]

-- What a command adds to the list.

abbrev pub texts_after : Outcome → ℕ → ℕ → Texts → Texts
texts_after (Accepts names files) before now texts = if nat_eq now before then texts else texts ++ files ∷ []
texts_after (Shows text) before now texts = texts
texts_after (Reports minutes) before now texts = texts
texts_after AsksToSettle before now texts = texts
texts_after (Refuses why) before now texts = texts

adds_one : (reported : Outcome) (files : List (List ℕ)) (before now : ℕ) (texts : Texts) → IsAccepted reported files → now ≡ before + 1 → Adds reported before now texts (texts_after reported before now texts)
adds_one reported files before now texts accepts risen = grind (arith, common_steps)

adds_none : (reported : Outcome) (before now : ℕ) (texts : Texts) → now ≡ before → Adds reported before now texts (texts_after reported before now texts)
adds_none (Accepts names files) before now texts same = grind (arith, common_steps)
adds_none (Shows text) before now texts same = inl (same, refl)
adds_none (Reports minutes) before now texts same = inl (same, refl)
adds_none AsksToSettle before now texts same = inl (same, refl)
adds_none (Refuses why) before now texts same = inl (same, refl)

pub adds : (old new : Session) (command : Command) (answer : Result Reply RunFault) (texts : Texts) → Step old command answer new
    → Adds (outcome old command) old.accepted new.accepted texts (texts_after (outcome old command) old.accepted new.accepted texts)
adds old new command (Ok (Done n)) texts step =
    adds_one (outcome old command) step.1.0 old.accepted new.accepted texts step.1.1 (ap (λ (s : Session). s.accepted) step.1.3 ∙ done_accepted old step.1.0)
adds old new command (Ok (Text bytes)) texts step = adds_none (outcome old command) old.accepted new.accepted texts (ap (λ (s : Session). s.accepted) step.2)
adds old new command (Ok (Time minutes)) texts step = adds_none (outcome old command) old.accepted new.accepted texts (ap (λ (s : Session). s.accepted) step.2)
adds old new command (Ok (Safe n)) texts step = adds_none (outcome old command) old.accepted new.accepted texts (ap (λ (s : Session). s.accepted) step.3)
adds old new command (Err (Refused why)) texts step = adds_none (outcome old command) old.accepted new.accepted texts (ap (λ (s : Session). s.accepted) step.2)
adds old new command (Err OutOfMemory) texts step = adds_none (outcome old command) old.accepted new.accepted texts (ap (λ (s : Session). s.accepted) step.1)
adds old new command (Err Broken) texts step = adds_none (outcome old command) old.accepted new.accepted texts (ap (λ (s : Session). s.accepted) step.1)
adds old new command (Err Device) texts step = grind (arith, common_steps)

lists_same : (old new : Session) (texts more : Texts) → new ≡ old → more ≡ texts → Lists old texts → Lists new more
lists_same old new texts more same is lists = subst (λ s. Lists s more) (sym same) (subst (Lists old) (sym is) lists)

-- nothing is added where nothing is counted
pub none_added : (outcome : Outcome) (before now : ℕ) (old new : Texts) → Adds outcome before now old new → now ≡ before → new ≡ old
none_added outcome before now old new added same = elim added [ inl none ↦ none.1 | inr one ↦ absurd (omega (arith, one.0, same)) ]

lists_done : (old : Session) (reported : Outcome) (files : List (List ℕ)) (texts more : Texts) → IsAccepted reported files → Adds reported old.accepted (done old files).accepted texts more → Lists old texts → Lists (done old files) more
lists_done old reported files texts more accepted added lists = grind (arith, common_steps, done_accepted, same_accepted, at_end, done, cases_Bool, fills, length-append, settled, begin_append)

lists_settled : (old new : Session) (texts : Texts) → old.broken ≡ false → new ≡ settled old → Lists old texts → Lists new texts
lists_settled old new texts sound is lists =
    subst (λ s. Lists s texts) (sym is) (record { size = lists.size; order = omega arith; files = lists.files; settled = λ still. lists.files sound })

pub lists_step : (old new : Session) (command : Command) (answer : Result Reply RunFault) (texts more : Texts) → Step old command answer new → Adds (outcome old command) old.accepted new.accepted texts more
    → Lists old texts → Lists new more
lists_step old new command (Ok (Done n)) texts more step added lists =
    let is : new ≡ done old step.1.0 = step.1.3 in
    subst (λ s. Lists s more) (sym is)
    (lists_done old (outcome old command) step.1.0 texts more step.1.1 (subst (λ (s : Session). Adds (outcome old command) old.accepted s.accepted texts more) is added) lists)
lists_step old new command (Ok (Text bytes)) texts more step added lists =
    lists_same old new texts more step.2 (none_added (outcome old command) old.accepted new.accepted texts more added (ap (λ (s : Session). s.accepted) step.2)) lists
lists_step old new command (Ok (Time minutes)) texts more step added lists =
    lists_same old new texts more step.2 (none_added (outcome old command) old.accepted new.accepted texts more added (ap (λ (s : Session). s.accepted) step.2)) lists
lists_step old new command (Ok (Safe n)) texts more step added lists = grind (arith, common_steps)
lists_step old new command (Err (Refused why)) texts more step added lists =
    lists_same old new texts more step.2 (none_added (outcome old command) old.accepted new.accepted texts more added (ap (λ (s : Session). s.accepted) step.2)) lists
lists_step old new command (Err OutOfMemory) texts more step added lists =
    lists_same old new texts more step.1 (none_added (outcome old command) old.accepted new.accepted texts more added (ap (λ (s : Session). s.accepted) step.1)) lists
lists_step old new command (Err Broken) texts more step added lists =
    lists_same old new texts more step.1 (none_added (outcome old command) old.accepted new.accepted texts more added (ap (λ (s : Session). s.accepted) step.1)) lists
lists_step old new command (Err Device) texts more step added lists = grind (arith, common_steps)

pub lists_settling : (old new : Session) (answer : Result (Unit {0}) RunFault) (texts : Texts) → Settles old answer new → Lists old texts → Lists new texts
lists_settling old new (Ok _) texts settles lists = lists_settled old new texts settles.0 settles.1 lists
lists_settling old new (Err (Refused why)) texts settles lists = absurd settles
lists_settling old new (Err OutOfMemory) texts settles lists = lists_same old new texts texts settles.1 refl lists
lists_settling old new (Err Broken) texts settles lists = lists_same old new texts texts settles.1 refl lists
lists_settling old new (Err Device) texts settles lists =
    subst (λ s. Lists s texts) (sym settles.1.2) (record { size = lists.size; order = lists.order; files = λ sound. absurd (false≢true (sym sound)); settled = λ sound. absurd (false≢true (sym sound)) })

-- where no call of the disk failed, the session is as it was, or it isn't broken
pub same_or_sound : (old new : Session) (command : Command) (answer : Result Reply RunFault) → (IsErrOf answer Device → ⊥) → Step old command answer new → (new ≡ old) ⊎ (new.broken ≡ false)
same_or_sound old new command (Ok (Done n)) fine step = inr (ap (λ (s : Session). s.broken) step.1.3 ∙ done_broken old step.1.0 ∙ step.0)
same_or_sound old new command (Ok (Text bytes)) fine step = inl step.2
same_or_sound old new command (Ok (Time minutes)) fine step = inl step.2
same_or_sound old new command (Ok (Safe n)) fine step = inr (ap (λ (s : Session). s.broken) step.3 ∙ step.0)
same_or_sound old new command (Err (Refused why)) fine step = inl step.2
same_or_sound old new command (Err OutOfMemory) fine step = inl step.1
same_or_sound old new command (Err Broken) fine step = inl step.1
same_or_sound old new command (Err Device) fine step = absurd (fine refl)

pub begin_adds : (outcome : Outcome) (before now : ℕ) (old new : Texts) → Adds outcome before now old new → Begin old new
begin_adds outcome before now old new added = grind (arith, common_steps, begin_append)

-- What a place of a longer list has.
pub before_end : (texts : Texts) (files : List (List ℕ)) (k : ℕ) (at : List (List ℕ)) → slice_get (texts ++ files ∷ []) k ≡ Some at → (slice_get texts k ≡ Some at) ⊎ ((k ≡ length texts) × (at ≡ files))
before_end [] files zero at is = let same : files ≡ at = cc in inr (refl, sym same)
before_end [] files (suc k) at is = absurd (cc)
before_end (one ∷ texts) files zero at is = inl is
before_end (one ∷ texts) files (suc k) at is = ⊎_elim (λ old. inl old) (λ end. inr (omega (arith, end.0), end.1)) (before_end texts files k at is)

-- What is reached by calls.

-- the session's texts stand in the list
abbrev pub Stands : {D : Type 0} → Trace D → Session → Type 0
Stands last s = slice_get last.texts s.accepted ≡ Some s.files

-- a session that is reached from here: it is the one here, or its texts stand in the list, or it
-- isn't counted at the end
abbrev pub Counts : {D : Type 0} → Trace D → Trace D → Session → Type 0
Counts last here s = (s ≡ here.store.session) ⊎ (Stands last s ⊎ (last.store.session.accepted < s.accepted))

-- .. so it is reached from one call earlier
pub further : {D : Type 0} (old mid last : Trace D) → Lists mid.store.session mid.texts → Begin mid.texts last.texts → (mid.store.session ≡ old.store.session) ⊎ (mid.store.session.broken ≡ false)
    → (s : Session) → Counts last mid s → Counts last old s
further old mid last lists ends whole s (inr counts) = inr counts
further old mid last lists ends whole s (inl same) = grind (arith, common_steps)

-- a command that was to be accepted, and in which the disk failed
pub torn : {D : Type 0} (old mid last : Trace D) (command : Command) (texts : List (List ℕ)) → Lists old.store.session old.texts → Begin mid.texts last.texts
    → last.store.session.accepted ≡ mid.store.session.accepted → Adds (outcome old.store.session command) old.store.session.accepted mid.store.session.accepted old.texts mid.texts
    → IsAccepted (outcome old.store.session command) texts → Counts last old (done old.store.session texts)
torn old mid last command texts lists ends same added accepted =
    let counted : (done old.store.session texts).accepted ≡ old.store.session.accepted + 1 = done_accepted old.store.session texts in
    ⊎_elim
    (λ none. inr (inr (omega (arith, same, counted, none.0))))
    (λ one.
    let is : texts ≡ one.1.0 = same_accepted texts one.1.0 accepted one.1.1 in
    let list : mid.texts ≡ old.texts ++ texts ∷ [] = one.1.2 ∙ ap (λ t. old.texts ++ t ∷ []) (sym is) in
    let here : slice_get mid.texts (old.store.session.accepted + 1) ≡ Some texts =
    subst (λ l. slice_get l (old.store.session.accepted + 1) ≡ Some texts) (sym list) (subst (λ n. slice_get (old.texts ++ texts ∷ []) n ≡ Some texts) lists.size (at_end old.texts texts)) in
    inr (inl (rw (counted, done_files old.store.session texts) (ends (old.store.session.accepted + 1) texts here))))
    added
