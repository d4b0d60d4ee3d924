use Rattle.std.proofs.Common.{◌∙◌, ap₂, ◌∷◌, List, ℕ, string_bytes}
use Rattle.org_folder.specs.Calls.{Event}
use Rattle.org_folder.specs.Calls.Event.{Entry}
use Rattle.org_folder.proofs.Entries.{entries_more}
use Rattle.org_folder.proofs.system.calls_system.note_entries.Goals as goal

pub loop-name-preserved : goal.loop-name-preserved
loop-name-preserved c =
    c.note.ensures ∙ ap₂ (λ (bytes : List ℕ) (events : List Event). Entry bytes ∷ events) c.as_bytes.ensures.value c.loop-name.invariant
    ∙ entries_more string_bytes c.loop-name.name-index c.args.names.now c.name-item.result c.args.log.now.events c.loop-name-test.true c.name-item.is
