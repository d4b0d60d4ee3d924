-- A heading that is looked up in a file.
use Rattle.std.proofs.Common.{arith, ◌≡◌, ◌∷◌, [], ℕ, List, Result, Ok, Err, refl, sym, ◌∙◌, ap, subst}
use Rattle.std.proofs.lemmas.Grind.{common_steps}
use Rattle.std.specs.Option.{unwrap_or}
use Rattle.std.specs.Result.{IsErrAnd}
use Rattle.org_disk.specs.declared.disk.Disk.{Ghosts}
use Rattle.org_outline.specs.declared.steps.Step.{Step}
use Rattle.org_splice.specs.Texts.{EditedText}
use Rattle.org_outline.specs.declared.paths.PathFault.{PathFault}
use Rattle.org_outline.specs.Paths.{find_path, refusal_of}
use Rattle.org_outline.specs.States.{Keywords}
use Rattle.org_outline.specs.Tree.{Document, tree}
use Rattle.org_commands.specs.declared.command.RunFault.{RunFault}
use Rattle.org_commands.specs.declared.command.RunFault.TheVariants.{Refused}
use Rattle.org_commands.specs.declared.tally.Tally.{Tally}
use Rattle.org_commands.specs.Files.{OpenFiles}
use Rattle.org_commands.specs.InOrder.{text_at}
use Rattle.org_commands.specs.Keeping.{LooksUp, Reads}
use Rattle.org_commands.specs.Session.{Session}
use Rattle.org_commands.proofs.Handing.{handed_on}
use Rattle.org_commands.proofs.MadeReady.{Sees, document_seen, session_in}

-- its file couldn't be read
pub look_up_unread : {D : Type 0} (g : Ghosts D) (states : Keywords) (old new : OpenFiles D) (tally : Tally) (found : Result ℕ PathFault) {read : Result (Unit {0}) RunFault} {fault : RunFault} (answer : Result ℕ RunFault) → IsErrAnd answer (λ y. y ≡ fault)
    → read ≡ Err fault → Reads (session_in g states old tally) read (session_in g states new tally) → LooksUp (session_in g states old tally) found answer (session_in g states new tally)
look_up_unread g states old new tally found {fault = fault} answer handed was reads = grind (arith, common_steps)

module _ {D : Type 0} {g : Ghosts D} {states : Keywords} {old new : OpenFiles D} {file : List ℕ} {seen : EditedText} (sees : Sees g states old new (file ∷ []) file seen) (path : List Step) (tally : Tally) (honest : g.honest new.disk) where
  abbrev s : Session
  s = session_in g states old tally

  abbrev found : Result ℕ PathFault
  found = find_path states (tree (unwrap_or (text_at s.names s.files file) [])) path

  found_is : found ≡ find_path states (tree seen.bytes) path
  found_is = ap (λ (d : Document). find_path states d path) (document_seen sees tally honest)

  -- it isn't there
  pub look_up_fails : {why : PathFault} (answer : Result ℕ RunFault) → IsErrAnd answer (λ y. y ≡ Refused (refusal_of why)) → find_path states (tree seen.bytes) path ≡ Err why → LooksUp s found answer (session_in g states new tally)
  look_up_fails {why} answer handed none =
      subst (λ (r : Result ℕ RunFault). LooksUp s found r (session_in g states new tally)) (sym (handed_on answer (Refused (refusal_of why)) handed)) ((why, found_is ∙ none, refl), sees.reads tally honest)

  -- .. or it is, and the command's edits were taken back
  pub look_up_finds : {undone : Session} (i : ℕ) → find_path states (tree seen.bytes) path ≡ Ok i → undone ≡ session_in g states new tally → LooksUp s found (Ok i) undone
  look_up_finds i there same = (found_is ∙ there, same ∙ sees.reads tally honest)
