-- What holds of the list of texts, where accepted commands keep it: its texts are within the limit,
-- and after refiles alone they have the same nodes.
use Rattle.std.proofs.Common.{◌≡◌, ⊎_elim, ℕ, ◌+◌, false, List, [], ◌∷◌, ◌++◌, Option, Some, None, Result, Ok, Err, refl, sym, ap, ◌∙◌, subst, arith}
use Rattle.org_disk.specs.declared.disk.Disk.{Ghosts}
use Rattle.std.specs.Prelude.{slice_get, IsSomeAnd}
use Rattle.std.specs.List.{All, AllByRecursion, IsDistinct}
use Rattle.std.specs.Str.{bytes_eq}
use Rattle.std.proofs.lemmas.Bool.{cases_Bool}
use Rattle.std.proofs.lemmas.List.Elements.{All-push}
use Rattle.std.proofs.lemmas.Option.{slice_get_within, get_or_from_slice_get}
use Rattle.org_journal.specs.Recovered.{Image}
use Rattle.org_fileset.specs.Names.{with_archives, AreSorted, AreFew}
use Rattle.org_commands.specs.declared.command.Command.{Command}
use Rattle.org_commands.specs.declared.command.Command.TheVariants.{Settle}
use Rattle.org_commands.specs.declared.command.Reply.{Reply}
use Rattle.org_commands.specs.declared.command.Reply.TheVariants.{Done, Safe, Text, Time}
use Rattle.org_commands.specs.declared.command.RunFault.{RunFault}
use Rattle.org_commands.specs.declared.command.RunFault.TheVariants.{Refused, OutOfMemory, Device, Broken}
use Rattle.org_store.specs.Calls.{Call, MakesAll, Traces, traces}
use Rattle.org_store.specs.Calls.Call.{Ran, Settled, Grouped}
use Rattle.org_store.specs.History.{Trace, Lists, HoldsPrefix}
use Rattle.org_store.specs.OnePlace.{HaveSameNodes, HasNodesOf, HasNodesOfPrefix, IsRefile, IsSessionOf, MayBeAccepted, MayRefile}
use Rattle.org_commands.specs.Outcome.{IsAccepted, outcome}
use Rattle.org_store.specs.Reopening.{IsOpenable, AreSmall}
use Rattle.org_commands.specs.Session.{Session, StoreView, Holds}
use Rattle.org_commands.specs.Step.{Step}
use Rattle.org_store.proofs.Calls.{call_lists, reply_of, settle_steps}
use Rattle.org_store.proofs.Follows.{step_setting}
use Rattle.org_store.proofs.History.{Texts}
use Rattle.org_store.proofs.OnePlace.{accepted_keeps, holds_nodes, nodes_as}
use Rattle.org_store.proofs.Reopening.{accepted_small, held_opens}
use Rattle.org_store.proofs.Runs.{answers_broken}

-- the texts at a place of the list
pub each_at : (Q : List (List ℕ) → Type 0) (texts : Texts) (k : ℕ) (files : List (List ℕ)) → All Q texts → slice_get texts k ≡ Some files → Q files
each_at Q texts k files all is = subst Q (get_or_from_slice_get texts k files files is) (all k files (slice_get_within texts k files is))

-- a command that is counted has an answer with which it may be accepted
may_be : (old new : Session) (command : Command) (answer : Result Reply RunFault) → Step old command answer new → new.accepted ≡ old.accepted + 1 → MayBeAccepted answer
may_be old new command (Ok (Done n)) step risen = tt
may_be old new command (Ok (Text bytes)) step risen = absurd (omega (arith, risen, ap (λ (s : Session). s.accepted) step.2))
may_be old new command (Ok (Time minutes)) step risen = absurd (omega (arith, risen, ap (λ (s : Session). s.accepted) step.2))
may_be old new command (Ok (Safe n)) step risen = absurd (omega (arith, risen, ap (λ (s : Session). s.accepted) step.3))
may_be old new command (Err (Refused why)) step risen = absurd (omega (arith, risen, ap (λ (s : Session). s.accepted) step.2))
may_be old new command (Err OutOfMemory) step risen = absurd (omega (arith, risen, ap (λ (s : Session). s.accepted) step.1))
may_be old new command (Err Device) step risen = tt
may_be old new command (Err Broken) step risen = absurd (omega (arith, risen, ap (λ (s : Session). s.accepted) step.1))

-- P holds of the list with the texts after a command that is allowed, where it held before it.
module _ (names : List (List ℕ)) (P : Texts → Type 0) (Allowed : Call → Type 0)
    (keeps : (s : Session) (command : Command) (answer : Result Reply RunFault) (texts : Texts) (files : List (List ℕ)) → s.names ≡ names → Lists s texts → s.broken ≡ false → Allowed (Ran command answer)
    → MayBeAccepted answer → IsAccepted (outcome s command) files → P texts → P (texts ++ files ∷ [])) where
  pub record Has (s : Session) (texts : Texts) : Type 0 where
    pub same_names : s.names ≡ names
    pub lists : Lists s texts
    pub has : P texts

  module _ {D : Type 0} (g : Ghosts D) where
    has_call : (old new : Trace D) (call : Call) → Allowed call → Traces g old call new → Has old.store.session old.texts → Has new.store.session new.texts
    has_call old new (Ran command answer) allowed made had = record {
      same_names = (step_setting old.store.session new.store.session command answer made.0.step).1 ∙ had.same_names;
      lists = call_lists g old new (Ran command answer) made had.lists;
      has = ⊎_elim
          (λ none. subst P (sym none.1) had.has)
          (λ one. subst P (sym one.1.2) (more one.1.0 one.1.1 one.0))
          made.1;
    }
      where
        more : (texts : List (List ℕ)) → IsAccepted (outcome old.store.session command) texts → new.store.session.accepted ≡ old.store.session.accepted + 1 → P (old.texts ++ texts ∷ [])
        more texts accepts risen = ⊎_elim
            (λ fell. absurd (omega (
              arith,
              risen,
              ap (λ (k : StoreView D). k.session.accepted) (made.0.idle.untouched (answers_broken old.store.session new.store.session command answer made.0.step fell)),
            )))
            (λ sound.
            keeps old.store.session command answer old.texts texts had.same_names had.lists sound allowed (may_be old.store.session new.store.session command answer made.0.step risen) accepts had.has)
            (cases_Bool old.store.session.broken)
    has_call old new (Settled answer) allowed made had = record {
      same_names = (step_setting old.store.session new.store.session Settle (reply_of old.store.session.accepted answer) (settle_steps old.store.session new.store.session answer made.0.step)).1
          ∙ had.same_names;
      lists = call_lists g old new (Settled answer) made had.lists;
      has = subst P (sym made.1) had.has;
    }
    has_call old new (Grouped group) allowed made had = record {
      same_names = ap (λ (k : StoreView D). k.session.names) made.0 ∙ had.same_names;
      lists = call_lists g old new (Grouped group) made had.lists;
      has = subst P (sym made.1) had.has;
    }

    pub has_calls : (old new : Trace D) (calls : List Call) → AllByRecursion Allowed calls → MakesAll (traces g) old calls new → Has old.store.session old.texts → P new.texts
    has_calls old new [] allowed run had = subst (λ (p : Trace D). P p.texts) (sym run) had.has
    has_calls old new (call ∷ calls) allowed run had = has_calls run.0 new calls allowed.1 run.2 (has_call old run.0 call allowed.0 run.1 had)

-- Texts that are within the limit.

abbrev Any : Call → Type 0
Any call = Unit {0}

any_call : (calls : List Call) → AllByRecursion Any calls
any_call [] = tt
any_call (call ∷ calls) = (tt, any_call calls)

pub keeps_small : (names : List (List ℕ)) (s : Session) (command : Command) (files : List (List ℕ)) → s.names ≡ names → AreSmall names s.files → IsAccepted (outcome s command) files → AreSmall names files
keeps_small names s command files same are accepts =
    subst (λ ns. AreSmall ns files) same (accepted_small s command files (subst (λ ns. AreSmall ns s.files) (sym same) are) accepts)

-- .. and nodes that stay
abbrev pub KeptNodes : List (List ℕ) → List (List ℕ) → List (List ℕ) → Type 0
KeptNodes names base files = AreSmall names files × HaveSameNodes files base

pub keeps_nodes : (names base : List (List ℕ)) → IsDistinct bytes_eq names → (s : Session) (command : Command) (files : List (List ℕ)) → s.names ≡ names → IsRefile command → KeptNodes names base s.files
    → IsAccepted (outcome s command) files → KeptNodes names base files
keeps_nodes names base apart s command files same refile kept accepts = (
  keeps_small names s command files same kept.0 accepts,
  λ rest section.
      accepted_keeps s command files (subst (IsDistinct bytes_eq) (sym same) apart) (subst (λ ns. AreSmall ns s.files) (sym same) kept.0) refile accepts rest section ∙ kept.1 rest section,
)

-- What an image that recovers to one of the texts is.

in_prefix : (P : Image → Type 0) (Q : List (List ℕ) → Type 0) (first : Session) (others : Image) (texts : Texts) (least : ℕ) (image : Image) → All Q texts
    → ((files : List (List ℕ)) → Q files → Holds first others files image → P image) → HoldsPrefix first others texts least image → P image
in_prefix P Q first others texts least image all each holds = some (slice_get texts holds.0) refl holds.2
  where
    some : (found : Option (List (List ℕ))) → slice_get texts holds.0 ≡ found → IsSomeAnd found (λ files. Holds first others files image) → P image
    some None is held = absurd held
    some (Some files) is held = each files (each_at Q texts holds.0 files all is) held

pub prefix_opens : (given : List (List ℕ)) (first : Session) (others : Image) (texts : Texts) (least : ℕ) (image : Image) → AreFew given → AreSorted (with_archives given) first.names
    → All (AreSmall first.names) texts → HoldsPrefix first others texts least image → IsOpenable given image
prefix_opens given first others texts least image few sorted all =
    in_prefix (IsOpenable given) (AreSmall first.names) first others texts least image all (λ files small held. held_opens given first others image files few sorted small held)

pub prefix_nodes : (given : List (List ℕ)) (first : Session) (others : Image) (texts : Texts) (least : ℕ) (image : Image) → IsSessionOf given first → All (AreSmall first.names) texts
    → HoldsPrefix first others texts least image → HasNodesOfPrefix first.names texts least image
prefix_nodes given first others texts least image of all holds = (holds.0, holds.1, some (slice_get texts holds.0) refl holds.2)
  where
    some : (found : Option (List (List ℕ))) → slice_get texts holds.0 ≡ found → IsSomeAnd found (λ files. Holds first others files image) → IsSomeAnd found (λ files. HasNodesOf first.names files image)
    some None is held = absurd held
    some (Some files) is held = holds_nodes given first of others files image (each_at (AreSmall first.names) texts holds.0 files all is) held

pub prefix_same : (given : List (List ℕ)) (first : Session) (others : Image) (texts : Texts) (least : ℕ) (image : Image) → IsSessionOf given first → All (KeptNodes first.names first.files) texts
    → HoldsPrefix first others texts least image → HasNodesOf first.names first.files image
prefix_same given first others texts least image of all =
    in_prefix (HasNodesOf first.names first.files) (KeptNodes first.names first.files) first others texts least image all
    (λ files kept held. nodes_as first.names files first.files image kept.1 (holds_nodes given first of others files image kept.0 held))

-- A run of a store that has such a list as it begins.
module _ {D : Type 0} (g : Ghosts D) (first last : Trace D) (calls : List Call)
    (run : MakesAll (traces g) first calls last) (lists : Lists first.store.session first.texts) (small : All (AreSmall first.store.session.names) first.texts) where
  abbrev names : List (List ℕ)
  names = first.store.session.names

  pub calls_small : All (AreSmall names) last.texts
  calls_small =
      has_calls names (All (AreSmall names)) Any
      (λ s command answer texts made same listed sound any may accepts all.
      All-push (AreSmall names) texts made all (keeps_small names s command made same (each_at (AreSmall names) texts s.accepted s.files all (listed.files sound)) accepts))
      g first last calls (any_call calls) run (record { same_names = refl; lists = lists; has = small })

  pub calls_same : (base : List (List ℕ)) → IsDistinct bytes_eq names → AllByRecursion MayRefile calls → All (λ texts. HaveSameNodes texts base) first.texts → All (KeptNodes names base) last.texts
  calls_same base apart only same =
      has_calls names (All (KeptNodes names base)) MayRefile
      (λ s command answer texts made is listed sound may accepted accepts all.
      All-push (KeptNodes names base) texts made all
      (keeps_nodes names base apart s command made is (may accepted) (each_at (KeptNodes names base) texts s.accepted s.files all (listed.files sound)) accepts))
      g first last calls only run (record { same_names = refl; lists = lists; has = λ k d within. (small k d within, same k d within) })
