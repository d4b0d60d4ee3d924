-- What a reply reports of the commands that are on the disk.
use Rattle.std.proofs.Common.{◌≡◌, ℕ, Bool, true, false, nat_lt, List, [], ◌++◌, Option, Some, None, Result, Ok, Err, ap, codes}
use Rattle.std.specs.Prelude.{decimal, if◌then◌else◌}
use Rattle.org_commands.specs.declared.command.Reply.{Reply}
use Rattle.org_commands.specs.declared.command.Reply.TheVariants.{Done, Safe, Text, Time}
use Rattle.org_commands.specs.declared.command.RunFault.{RunFault}
use Rattle.org_serve.specs.Replies.{answer_text, safe_line, reported_safe}

same_some : (one other : ℕ) → Some one ≡ Some other → one ≡ other
same_some one other same = cc

none_some : {A : Type 0} (a : ℕ) → ◌≡◌ {A = Option ℕ} None (Some a) → A
none_some a same = absurd (cc)

written_done : (n new a : ℕ) (risen : Bool) → (if risen then Some new else None) ≡ Some a → (front : List ℕ) × (codes "ok " ++ decimal n ++ codes "\n" ++ (if risen then safe_line new else []) ≡ front ++ safe_line a)
written_done n new a true reported = (codes "ok " ++ decimal n ++ codes "\n", ap (λ m. codes "ok " ++ decimal n ++ codes "\n" ++ safe_line m) (same_some new a reported))
written_done n new a false reported = none_some a reported

pub safe_written : (answer : Result Reply RunFault) (old new a : ℕ) → reported_safe answer old new ≡ Some a → (front : List ℕ) × (answer_text answer old new ≡ front ++ safe_line a)
safe_written (Ok (Done n)) old new a reported = written_done n new a (nat_lt old new) reported
safe_written (Ok (Safe n)) old new a reported = ([], ap safe_line (same_some n a reported))
safe_written (Ok (Text bytes)) old new a reported = none_some a reported
safe_written (Ok (Time minutes)) old new a reported = none_some a reported
safe_written (Err fault) old new a reported = none_some a reported
