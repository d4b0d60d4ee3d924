-- A command that is to settle what was accepted is `settle`; and where the group is all commands up
-- to the next settling, nothing else settles.
use Rattle.std.proofs.Common.{◌≡◌, ◌⊎◌, inl, inr, ⊎_elim, ℕ, ◌+◌, ◌-◌, ◌^◌, ◌==◌, Bool, true, false, if◌then◌else◌, List, map, Result, Ok, Err, refl, sym, ap, subst, ◌∙◌}
use Rattle.std.proofs.lemmas.Bool.{false≢true}
use Rattle.org_commands.specs.declared.command.Command.{Command}
use Rattle.org_commands.specs.declared.command.Command.TheVariants as command
use Rattle.org_commands.specs.declared.command.Command.TheVariants.{Settle}
use Rattle.org_commands.specs.declared.command.Change.{Change}
use Rattle.org_fault.specs.declared.refusal.Refusal.TheVariants.{TooLarge}
use Rattle.org_commands.specs.declared.command.Reply.{Reply}
use Rattle.org_commands.specs.declared.command.Reply.TheVariants as reply
use Rattle.org_commands.specs.declared.command.RunFault.{RunFault}
use Rattle.org_commands.specs.declared.command.RunFault.TheVariants.{Refused, OutOfMemory, Device, Broken}
use Rattle.org_commands.specs.declared.tally.Group.{Group}
use Rattle.org_commands.specs.declared.tally.Group.TheVariants.{Whole}
use Rattle.org_commands.specs.Groups.{are_group}
use Rattle.org_commands.specs.Files.{has_large}
use Rattle.org_commands.specs.InOrder.{with_all}
use Rattle.org_store.specs.Left.{PutsOnDisk}
use Rattle.org_commands.specs.Session.{Session}
use Rattle.org_commands.specs.Step.{Step, done, fills}
use Rattle.org_commands.specs.Outcome.{Accepts, AsksToSettle, Outcome, Refuses, Shows, Reports, changed, outcome, outcome_of_change}
use Rattle.org_store.proofs.Accepted.{IsAnswering, change_changes, question_answers}

-- a change is never to settle
changed_else : (s : Session) (changes : List (List ℕ × List ℕ)) → changed s changes ≡ AsksToSettle → ⊥
changed_else s changes = go (has_large changes) (s.accepted == 2 ^ 64 - 1)
  where
    go : (large full : Bool) → (if large then Refuses TooLarge else if full then Refuses TooLarge else Accepts (map (λ change. change.0) changes) (with_all s.names s.files changes)) ≡ AsksToSettle → ⊥
    go true full asks = absurd (cc)
    go false true asks = absurd (cc)
    go false false asks = absurd (cc)

change_else : (s : Session) (change : Change) → outcome_of_change s change ≡ AsksToSettle → ⊥
change_else s change asks = elim (change_changes s change) [
  | inl makes ↦ changed_else s makes.0 (sym makes.2 ∙ asks)
  | inr refused ↦ absurd (subst IsAnswering (sym refused.1 ∙ asks) tt)
]

pub asks_settle : (s : Session) (command : Command) → outcome s command ≡ AsksToSettle → command ≡ Settle
asks_settle s (command.Change change) asks = absurd (change_else s change asks)
asks_settle s (command.Ask question) asks = absurd (subst IsAnswering asks (question_answers s question))
asks_settle s Settle asks = refl

-- Nothing fills the group of all commands up to the next settling.
pub never_full : (s : Session) → s.group ≡ Whole → fills s ≡ false
never_full s whole = ap (λ (group : Group). are_group group (s.accepted + 1 - s.acknowledged)) whole

-- .. so a call puts nothing on the disk unless it is to settle
pub puts_settled : (s : Session) (does : Outcome) (accepted : ℕ) (texts : List (List ℕ)) → s.group ≡ Whole → PutsOnDisk s does accepted texts → (does ≡ AsksToSettle) × (texts ≡ s.files)
puts_settled s (Accepts names files) accepted texts whole puts = absurd (false≢true (sym (never_full s whole) ∙ puts.1))
puts_settled s AsksToSettle accepted texts whole puts = (refl, puts)
puts_settled s (Shows text) accepted texts whole puts = absurd puts
puts_settled s (Reports minutes) accepted texts whole puts = absurd puts
puts_settled s (Refuses why) accepted texts whole puts = absurd puts

-- What is acknowledged after a command: what was so before, or, where it is to settle, all that was
-- accepted.
abbrev pub Acknowledges : Session → Outcome → Session → Type 0
Acknowledges old does new = (new.acknowledged ≡ old.acknowledged) ⊎ ((does ≡ AsksToSettle) × (new.acknowledged ≡ old.accepted))

done_waits : (s : Session) (files : List (List ℕ)) → fills s ≡ false → (done s files).acknowledged ≡ s.acknowledged
done_waits s files none = rw none refl

pub acknowledges : (old new : Session) (command : Command) (answer : Result Reply RunFault) → old.group ≡ Whole → Step old command answer new → Acknowledges old (outcome old command) new
acknowledges old new command (Ok (reply.Done n)) whole step = inl (ap (λ (s : Session). s.acknowledged) step.1.3 ∙ done_waits old step.1.0 (never_full old whole))
acknowledges old new command (Ok (reply.Text bytes)) whole step = inl (ap (λ (s : Session). s.acknowledged) step.2)
acknowledges old new command (Ok (reply.Time minutes)) whole step = inl (ap (λ (s : Session). s.acknowledged) step.2)
acknowledges old new command (Ok (reply.Safe n)) whole step = inr (step.1, ap (λ (s : Session). s.acknowledged) step.3)
acknowledges old new command (Err (Refused why)) whole step = inl (ap (λ (s : Session). s.acknowledged) step.2)
acknowledges old new command (Err OutOfMemory) whole step = inl (ap (λ (s : Session). s.acknowledged) step.1)
acknowledges old new command (Err Broken) whole step = inl (ap (λ (s : Session). s.acknowledged) step.1)
acknowledges old new command (Err Device) whole step = elim step.1 [
  | inl in_read ↦ inl (ap (λ (s : Session). s.acknowledged) in_read)
  | inr torn ↦ elim torn [
    | inl fell ↦ inl (ap (λ (s : Session). s.acknowledged) fell.5)
    | inr between ↦ inl (ap (λ (s : Session). s.acknowledged) between.3)
  ]
]

-- .. so what is acknowledged rises by `settle` alone
pub settle_acknowledges : (old new : Session) (command : Command) (answer : Result Reply RunFault) → old.group ≡ Whole → Step old command answer new
    → (new.acknowledged ≡ old.acknowledged) ⊎ ((command ≡ Settle) × (new.acknowledged ≡ old.accepted))
settle_acknowledges old new command answer whole step =
    ⊎_elim (λ same. inl same) (λ settled. inr (asks_settle old command settled.0, settled.1)) (acknowledges old new command answer whole step)
