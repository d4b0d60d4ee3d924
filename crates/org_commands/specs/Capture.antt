-- Capture: a new entry in a file (Org manual, "Capture").
use Rattle.std.specs.Prelude.{◌≡◌, ℕ, List, Option, Some, None, Result, Ok, Err, Vec}
use Rattle.std.specs.Global.{Global}
use Rattle.org_fault.specs.declared.fault.Fault.{Fault}
use Rattle.org_fault.specs.declared.fault.Fault.TheVariants.{OutOfMemory, Refused}
use Rattle.org_fault.specs.declared.refusal.Refusal.{Refusal}
use Rattle.org_fault.specs.declared.refusal.Refusal.TheVariants.{BadEntry}
use Rattle.org_outline.specs.Tree.{Node}
use Rattle.org_stamp.specs.Calendar.{Moment}
use Rattle.org_capture.specs.Entry.{IsEntry, entry_in}
use Rattle.org_capture.specs.Template.{expanded}

abbrev pub one_entry : Option Node → Result Node Refusal
one_entry None = Err BadEntry
one_entry (Some entry) = Ok entry

abbrev pub entry_of_text : Result (List ℕ) Refusal → Result Node Refusal
entry_of_text (Ok text) = one_entry (entry_in text)
entry_of_text (Err why) = Err why

-- the heading that a template stands for at a moment, with what lies below it
abbrev pub new_entry : Moment → List ℕ → List ℕ → Result Node Refusal
new_entry moment template initial = entry_of_text (expanded template moment initial)

-- the bytes are this entry; or there is none, for this reason, or no memory for it
abbrev pub MakesEntry : Result Node Refusal → Result (Vec ℕ Global) (Fault Refusal) → Type 0
MakesEntry said (Ok text) = (node : Node) × (said ≡ Ok node) × IsEntry text.items node
MakesEntry said (Err OutOfMemory) = Unit {0}
MakesEntry said (Err (Refused why)) = said ≡ Err why
