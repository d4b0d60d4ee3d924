-- Clocking in and out: what the planners find is what the outcomes say.
use Rattle.std.proofs.Common.{arith, ◌≡◌, ◌≢◌, ◌<◌, inl, ℕ, true, false, List, [], ◌∷◌, Option, Some, None, Result, Ok, Err, Vec, refl, sym, ◌∙◌, ap, subst}
use Rattle.std.proofs.lemmas.Grind.{common_steps}
use Rattle.std.specs.Global.{Global}
use Rattle.std.specs.Option.{is_some, unwrap_or}
use Rattle.std.specs.Result.{result_map_both}
use Rattle.std.proofs.lemmas.Bool.{false≢true}
use Rattle.org_fault.specs.declared.fault.Fault.{Fault}
use Rattle.org_fault.specs.declared.fault.Fault.TheVariants as fault
use Rattle.org_fault.specs.declared.refusal.Refusal.{Refusal}
use Rattle.org_disk.proofs.Names.{name_cases}
use Rattle.org_outline.specs.declared.steps.Step.{Step}
use Rattle.org_splice.specs.declared.edit.Edit.{Edit}
use Rattle.org_splice.specs.Edits.{AreEdits}
use Rattle.org_splice.specs.Texts.{EditedText}
use Rattle.org_journal.specs.Recovered.{Image}
use Rattle.org_outline.specs.declared.paths.PathFault.{PathFault}
use Rattle.org_outline.specs.States.{Keywords}
use Rattle.org_outline.specs.Paths.{find_path, refusal_of}
use Rattle.org_outline.specs.Tree.{Document, node_count, print, tree}
use Rattle.org_outline.proofs.Trees.{tree-terminated}
use Rattle.org_stamp.specs.Calendar.{Moment}
use Rattle.org_texts.specs.declared.plan.Plan.{Plan}
use Rattle.org_texts.specs.Texts.{Holding, text_of}
use Rattle.org_move.specs.Refile.{Moved}
use Rattle.org_state.specs.declared.run.Running.{Running}
use Rattle.org_state.specs.Answers.{Makes}
use Rattle.org_state.specs.Clock.{AnswersClosing, AnswersSwitch, running_in, switched, with_opened}
use Rattle.org_commands.specs.declared.command.RunFault.{RunFault}
use Rattle.org_commands.specs.declared.command.RunFault.TheVariants.{Refused, OutOfMemory, Device, Broken}
use Rattle.org_commands.specs.declared.tally.Tally.{Tally}
use Rattle.org_commands.specs.Clocking.{PlansClocks, clock_moved, clocked_in}
use Rattle.org_commands.specs.Clocks.{RunsHeld, running_over}
use Rattle.org_commands.specs.Files.{AreReady, KeepsHeld, OpenFiles}
use Rattle.org_commands.specs.Headings.{HasHeading}
use Rattle.org_commands.specs.InOrder.{is_name, text_at}
use Rattle.org_commands.specs.Keeping.{LooksUp, fault_of}
use Rattle.org_commands.specs.Outcome.{Outcome, Refuses, clock_in, clock_in_beside, with_clock_moved, with_state}
use Rattle.org_commands.specs.Refile.{MakesDocuments}
use Rattle.org_commands.specs.Session.{Session, session_over}
use Rattle.org_commands.specs.Step.{Steps}
use Rattle.org_commands.proofs.Plans.{ready_text, text_held}

-- ---- the edits of one text

-- the plan of the edit that opens it, by what the outline is
pub start_made : (now : Moment) (text seen : List ℕ) (i : ℕ) (edit : Edit) (edits : List Edit) → seen ≡ text → edits ≡ edit ∷ [] → AreEdits (edit ∷ []) seen (print (with_opened now i (tree seen)))
    → (new : Document) × (clocked_in now None (tree text) (Ok i) ≡ Ok (Some new)) × AreEdits edits text (print new)
start_made now text seen i edit edits same are makes =
    let opens = subst (λ (b : List ℕ). AreEdits (edit ∷ []) b (print (with_opened now i (tree b)))) same makes in
    (with_opened now i (tree text), refl, subst (λ (es : List Edit). AreEdits es text (print (with_opened now i (tree text)))) (sym are) opens)

-- ---- a clock moved within a text

pub switch_refused : (now : Moment) (text : List ℕ) (from i : ℕ) (why : Fault Refusal) → AnswersSwitch now text from i (Err why) → (w : Refusal) → why ≡ fault.Refused w → switched now from (tree text) i ≡ Err w
switch_refused now text from i why answers w is = subst (λ (f : Fault Refusal). AnswersSwitch now text from i (Err f)) is answers

pub switch_made : (now : Moment) (text : List ℕ) (from i : ℕ) (edits : Vec Edit Global) → edits.items ≢ [] → AnswersSwitch now text from i (Ok edits)
    → (new : Document) × (switched now from (tree text) i ≡ Ok (Some new)) × AreEdits edits.items text (print new)
switch_made now text from i edits some (new, is, makes) = go new is makes
  where
    go : (o : Option Document) → switched now from (tree text) i ≡ Ok o → Makes o text edits.items → (d : Document) × (switched now from (tree text) i ≡ Ok (Some d)) × AreEdits edits.items text (print d)
    go None is makes = absurd (some makes)
    go (Some d) is makes = (d, is, makes.1)

-- ---- a clock moved to another text

module _ (now : Moment) (other text : List ℕ) (running : Running) (i : ℕ) where
  abbrev pub said : Result Moved Refusal
  said = clock_moved now running (tree other) (tree text) (Ok i)

  abbrev moved : Document → Moved
  moved new = record { source = new; target = with_opened now i (tree text) }

  pub move_made : (file to_file : List ℕ) (start stop : Edit) (plan : Plan) (seen found : List ℕ) → seen ≡ other → found ≡ text → AreEdits (start ∷ []) found (print (with_opened now i (tree found))) → AnswersClosing now seen running.heading (Ok stop)
      → ((new : Moved) → AreEdits (stop ∷ []) other (print new.source) → AreEdits (start ∷ []) text (print new.target) → MakesDocuments file to_file other text new plan)
      → (new : Moved) × (said ≡ Ok new) × MakesDocuments file to_file other text new plan
  move_made file to_file start stop plan seen found same is starts closing makes =
      let closes = subst (λ (b : List ℕ). AnswersClosing now b running.heading (Ok stop)) same closing in
      let opens = subst (λ (b : List ℕ). AreEdits (start ∷ []) b (print (with_opened now i (tree b)))) is starts in
      (moved closes.0, ap (result_map_both moved (λ (f : Refusal). f)) closes.1, makes (moved closes.0) closes.2 opens)

-- ---- what the planners see of the files

-- the document of a file that is ready, as the session has it
pub ready_document : {D : Type 0} (texts : D → Image) (states : Keywords) (opened : OpenFiles D) (tally : Tally) (s : Session) (names : List (List ℕ)) (file : List ℕ) (seen : EditedText) → session_over texts states opened tally ≡ s
    → AreReady names opened.held → is_name names file ≡ true → is_name opened.names file ≡ true → text_of opened.held.now file ≡ Some seen → tree (unwrap_or (text_at s.names s.files file) []) ≡ tree seen.bytes
ready_document texts states opened tally s names file seen same ready there named at = grind (arith, common_steps, ready_text, text_held, tree-terminated)

-- .. and as it was held
pub same_document : (old new : Holding) (names : List (List ℕ)) (file : List ℕ) (text seen : EditedText) → text_of old.before file ≡ Some text → KeepsHeld old new → AreReady names new → is_name names file ≡ true → text_of new.now file ≡ Some seen
    → tree seen.bytes ≡ tree text.bytes
same_document old new names file text seen held keeps ready there at = grind (arith, common_steps, ready_text, tree-terminated)

-- a clock that runs in a text that is held runs where the text is ready
pub still_runs : (old new : Holding) (names : List (List ℕ)) (file : List ℕ) (running : Running) (seen : EditedText) → RunsHeld old file running → KeepsHeld old new → AreReady names new → is_name names file ≡ true
    → text_of new.now file ≡ Some seen → running_in (tree seen.bytes) ≡ Some running
still_runs old new names file running seen (text, held, runs) keeps ready there at = ap running_in (same_document old new names file text seen held keeps ready there at) ∙ runs

-- .. and a heading that it has is there
pub still_there : (old new : Holding) (names : List (List ℕ)) (file : List ℕ) (i : ℕ) (seen : EditedText) → HasHeading old.before file i → KeepsHeld old new → AreReady names new → is_name names file ≡ true
    → text_of new.now file ≡ Some seen → i < node_count (tree seen.bytes)
still_there old new names file i seen (text, held, within) keeps ready there at = subst (λ (d : Document). i < node_count d) (sym (same_document old new names file text seen held keeps ready there at)) within

pub still_held : (old new : Holding) (file : List ℕ) (i : ℕ) → HasHeading old.before file i → KeepsHeld old new → HasHeading new.before file i
still_held old new file i (text, held, within) keeps = (text, keeps file (ap is_some held) ∙ held, within)

-- a heading of a text that is ready was there before the command
pub heading_before : (held : Holding) (names : List (List ℕ)) (file : List ℕ) (i : ℕ) (seen : EditedText) → AreReady names held → is_name names file ≡ true → text_of held.now file ≡ Some seen → i < node_count (tree seen.bytes)
    → HasHeading held.before file i
heading_before held names file i seen ready there at within = grind (arith, common_steps, ready_text, tree-terminated)

-- ---- a heading looked up

-- one that isn't there
pub path_fails : (s : Session) (file : List ℕ) (moment : Moment) (d : Document) (found : Result ℕ PathFault) (clock : Option (List ℕ × Running)) (why : PathFault) → found ≡ Err why
    → clock_in_beside s file moment d found clock ≡ Refuses (refusal_of why)
path_fails s file moment d found None why is = ap (λ (f : Result ℕ PathFault). with_state s file (clocked_in moment None d f)) is
path_fails s file moment d found (Some clock) why is = grind (arith, common_steps)

pub look_up_fails : (s new : Session) (found : Result ℕ PathFault) (reported : Outcome) (why : RunFault) → s.broken ≡ false → ((none : PathFault) → found ≡ Err none → reported ≡ Refuses (refusal_of none))
    → LooksUp s found (Err why) new → Steps s reported (Err why) new
look_up_fails s new found reported (Refused why) unbroken is ((none, failed, named), same) = (unbroken, is none failed ∙ ap (λ r. Refuses r) (sym named), same)
look_up_fails s new found reported OutOfMemory unbroken is same = (unbroken, same)
look_up_fails s new found reported Device unbroken is same = (unbroken, inl same)
look_up_fails s new found reported Broken unbroken is same = absurd same

-- ---- the outcome

pub none_left : {X : Type 0} (o : Option X) → ((x : X) → o ≡ Some x → ⊥) → o ≡ None
none_left None out = refl
none_left (Some x) out = absurd (out x refl)

-- what clocking in is to do, where this clock runs
pub clock_in_is : (s : Session) (file : List ℕ) (path : List Step) (moment : Moment) (text : Option (List ℕ)) (clock : Option (List ℕ × Running)) → is_some text ≡ true → running_over s.names s.files ≡ clock
    → clock_in s file path moment text ≡ clock_in_beside s file moment (tree (unwrap_or text [])) (find_path s.states (tree (unwrap_or text [])) path) clock
clock_in_is s file path moment None clock some is = absurd (false≢true some)
clock_in_is s file path moment (Some text) clock some is = ap (clock_in_beside s file moment (tree text) (find_path s.states (tree text) path)) is

-- .. in the same file, and in another one
pub beside_same : (s : Session) (file : List ℕ) (moment : Moment) (d : Document) (found : Result ℕ PathFault) (clock : List ℕ × Running) → clock.0 ≡ file
    → clock_in_beside s file moment d found (Some clock) ≡ with_state s file (clocked_in moment (Some clock.1) d found)
beside_same s file moment d found clock is = grind (arith, common_steps, name_cases)

pub beside_other : (s : Session) (file : List ℕ) (moment : Moment) (d : Document) (found : Result ℕ PathFault) (clock : List ℕ × Running) → clock.0 ≢ file
    → clock_in_beside s file moment d found (Some clock) ≡ with_clock_moved s clock.0 file (clock_moved moment clock.1 (tree (unwrap_or (text_at s.names s.files clock.0) [])) d found)
beside_other s file moment d found clock apart = grind (arith, common_steps, name_cases)

-- two files that aren't changed
pub move_not_made : (s : Session) (other file text target : List ℕ) (reported : Outcome) (said : Result Moved Refusal) (result : Result Plan (Fault Refusal)) (why : Fault Refusal) → s.broken ≡ false → reported ≡ with_clock_moved s other file said
    → result ≡ Err why → PlansClocks other file text target said result → Steps s reported (Err (fault_of why)) s
move_not_made s other file text target reported said result why unbroken is was plans = go why (subst (PlansClocks other file text target said) was plans)
  where
    refuses : (w : Refusal) → said ≡ Err w → reported ≡ Refuses w
    refuses w none = is ∙ ap (with_clock_moved s other file) none

    go : (f : Fault Refusal) → PlansClocks other file text target said (Err f) → Steps s reported (Err (fault_of f)) s
    go fault.OutOfMemory plans = (unbroken, refl)
    go (fault.Refused w) plans = (unbroken, refuses w plans, refl)
