-- Edits: bytes of a file put in the place of others.
use Rattle.std.specs.Prelude.{◌≡◌, ℕ, ◌+◌, ◌≤◌, List, length, Some, None, Result, Ok, Err}
use Rattle.org_splice.specs.declared.edit.Edit.{Edit}
use Rattle.org_splice.specs.Edits.{applied}
use Rattle.org_splice.specs.Replaced.{replaced}
use Rattle.org_commands.specs.declared.command.RunFault.{RunFault}
use Rattle.org_commands.specs.declared.command.RunFault.TheVariants.{OutOfMemory, Refused}
use Rattle.org_fault.specs.declared.refusal.Refusal.TheVariants.{NotThere}

-- The edit of a text puts bytes in the place of others; or these don't stand there, or there is no
-- memory for it.
abbrev pub Replaces : List ℕ → ℕ → List ℕ → List ℕ → Result Edit RunFault → Type 0
Replaces text at old new (Ok edit) = (edit.at + edit.removed ≤ length text)
    × (replaced text at old new ≡ Some (applied edit text))
Replaces text at old new (Err (Refused NotThere)) = replaced text at old new ≡ None
Replaces text at old new (Err OutOfMemory) = Unit {0}
Replaces text at old new (Err fault) = ⊥
