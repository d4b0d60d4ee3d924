-- What follows from the relation between a store before and after a call.
use Rattle.std.proofs.Common.{◌≡◌, ℕ, List, [], ◌∷◌, ◌++◌, Result, Ok, Err, refl, sym, subst, arith}
use Rattle.std.proofs.lemmas.Grind.{common_steps}
use Rattle.org_commands.specs.declared.command.Command.{Command}
use Rattle.org_commands.specs.declared.command.Reply.{Reply}
use Rattle.org_commands.specs.declared.command.Reply.TheVariants.{Done, Safe, Text, Time}
use Rattle.org_commands.specs.declared.command.RunFault.{RunFault}
use Rattle.org_commands.specs.declared.command.RunFault.TheVariants.{Refused, OutOfMemory, Device, Broken}
use Rattle.org_commands.specs.Session.{Session}
use Rattle.org_commands.specs.Step.{done, settled, Step, Run}

-- the parts that no command changes
abbrev SameSetting : Session → Session → Type 0
SameSetting old new = (new.states ≡ old.states) × (new.names ≡ old.names) × (new.group ≡ old.group)

same_setting : (old new like : Session) → new ≡ like → SameSetting old like → SameSetting old new
same_setting old new like is same = subst (λ s. SameSetting old s) (sym is) same

done_setting : (s : Session) (files : List (List ℕ)) → SameSetting s (done s files)
done_setting s files = grind (arith, common_steps)

pub step_setting : (old new : Session) (command : Command) (answer : Result Reply RunFault) → Step old command answer new → SameSetting old new
step_setting old new command (Ok (Done n)) step = same_setting old new (done old step.1.0) step.1.3 (done_setting old step.1.0)
step_setting old new command (Ok (Text bytes)) step = same_setting old new old step.2 (refl, refl, refl)
step_setting old new command (Ok (Time minutes)) step = same_setting old new old step.2 (refl, refl, refl)
step_setting old new command (Ok (Safe n)) step = same_setting old new (settled old) step.3 (refl, refl, refl)
step_setting old new command (Err (Refused why)) step = same_setting old new old step.2 (refl, refl, refl)
step_setting old new command (Err OutOfMemory) step = same_setting old new old step.1 (refl, refl, refl)
step_setting old new command (Err Broken) step = same_setting old new old step.1 (refl, refl, refl)
step_setting old new command (Err Device) step = grind (arith, common_steps)

pub run_join : (old mid new : Session) (commands later : List Command) (answers more : List (Result Reply RunFault)) → Run old commands answers mid → Run mid later more new
    → Run old (commands ++ later) (answers ++ more) new
run_join old mid new [] later [] more run rest = subst (λ s. Run s later more new) run rest
run_join old mid new [] later (a ∷ answers) more run rest = absurd run
run_join old mid new (c ∷ commands) later [] more run rest = absurd run
run_join old mid new (c ∷ commands) later (a ∷ answers) more run rest = (run.0, run.1, run_join run.0 mid new commands later answers more run.2 rest)
