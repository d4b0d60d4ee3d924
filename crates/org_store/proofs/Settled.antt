-- Where all commands are acknowledged, their texts are on the disk: what a command makes of that.
use Rattle.std.proofs.Common.{◌≡◌, ℕ, ◌≤◌, List, Result, refl, ap, arith}
use Rattle.std.proofs.lemmas.Grind.{common_steps}
use Rattle.org_disk.specs.declared.disk.Disk.{Ghosts}
use Rattle.org_disk.specs.Disk.{FileState}
use Rattle.org_outline.specs.States.{Keywords}
use Rattle.org_texts.specs.Texts.{TextSet, nothing_held}
use Rattle.org_commands.specs.declared.command.Reply.{Reply}
use Rattle.org_commands.specs.declared.command.RunFault.{RunFault}
use Rattle.org_commands.specs.declared.tally.Tally.{Tally}
use Rattle.org_commands.specs.Files.{OpenFiles}
use Rattle.org_commands.specs.Session.{StoreView, view_over}
use Rattle.org_commands.specs.Outcome.{Outcome}
use Rattle.org_commands.specs.Step.{IsSettled}
use Rattle.org_store.specs.Dirty.{NoneDirty}
use Rattle.org_store.specs.Executing.{Executes}

-- a store over files of which nothing is held
pub settled_new : {D : Type 0} (files : D → List ℕ → FileState) (states : Keywords) (opened : OpenFiles D) (tally : Tally) → opened.held.before ≡ nothing_held
    → IsSettled (view_over files states opened tally).session × NoneDirty (view_over files states opened tally)
settled_new files states opened tally none = (rw none (λ whole all. refl), λ all. ap (λ (s : TextSet). s.dirty) none)

pub none_counted : 0 ≤ 0
none_counted = omega arith

-- after a command that was executed
pub executes_sound : {D : Type 0} (g : Ghosts D) (old new : StoreView D) (outcome : Outcome) (answer : Result Reply RunFault) → old.session.acknowledged ≤ old.session.accepted → Executes g old outcome answer new
    → (g.honest old.disk → IsSettled old.session × NoneDirty old) → g.honest new.disk → IsSettled new.session × NoneDirty new
executes_sound g old new outcome answer ordered executes sound honest = grind (arith, common_steps)
