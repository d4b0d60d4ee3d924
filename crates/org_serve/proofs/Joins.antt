-- Runs, reads and writes, one after another.
use Rattle.std.proofs.Common.{arith, ◌≡◌, ℕ, List, [], ◌∷◌, ◌++◌, Option, None, Some, Result, Ok, Err, refl, sym, ap, ◌∙◌, append_assoc, append-nil, subst, true≢false}
use Rattle.std.proofs.lemmas.Grind.{common_steps}
use Rattle.std.specs.Prelude.{OnOk, OnErr, IfErr, IsErrAnd, false, is_ok, IsErr}
use Rattle.std.specs.Io.KnownBytes.{Consumes, Appends, Keeps}
use Rattle.std.specs.Result.{result_and}
use Rattle.org_disk.specs.Disk.{IsCounted}
use Rattle.org_commands.specs.declared.command.Command.{Command}
use Rattle.org_commands.specs.declared.command.Reply.{Reply}
use Rattle.org_commands.specs.declared.command.RunFault.{RunFault}
use Rattle.org_commands.specs.declared.tally.Group.{Group}
use Rattle.org_commands.specs.declared.tally.Group.TheVariants.{Of, Whole}
use Rattle.org_fault.specs.declared.fault.Fault.{Fault}
use Rattle.org_serve.specs.declared.fault.BadLine.{BadLine}
use Rattle.org_serve.specs.declared.pipes.Sink as sinks
use Rattle.org_serve.specs.declared.serving.Next.{Next}
use Rattle.org_serve.specs.declared.serving.Next.TheVariants.{Line, Stop}
use Rattle.org_serve.specs.Pipes.{AppendsSome}
use Rattle.org_serve.specs.Writes.{Writes}
use Rattle.org_store.specs.Calls.{Machine}
use Rattle.org_store.specs.Calls.Call.{Ran}
use Rattle.org_serve.specs.Replies.{answer_text, fault_text}
use Rattle.org_serve.specs.Serving.{Answers, AnswersEach, AnswersLine, AnswersRead, EndsAt, LineLeadsTo, Passes, PassesAll, ReadLeadsTo, ReadOutcome, behind, IsReadAs, LineOutcome}

-- Lines answered one by one, and then more.
module _ {S : Type 0} (OneLine : S → List ℕ → List ℕ → S → Type 0) where
  pub Each-append : (old mid new : S) (ls ms : List (List ℕ)) (out more : List ℕ)
      → AnswersEach OneLine old ls out mid → AnswersEach OneLine mid ms more new → AnswersEach OneLine old (ls ++ ms) (out ++ more) new
  Each-append old mid new [] ms out more a b = grind (arith, common_steps)
  Each-append old mid new (line ∷ ls) ms out more a b =
      (a.0, a.1, a.2 ++ more, a.3, ap (λ o. o ++ more) a.4 ∙ append_assoc a.1 a.2 more, Each-append a.0 mid new ls ms a.2 more a.5 b)

  -- one line more
  pub Each-one : (old mid new : S) (ls : List (List ℕ)) (line out o : List ℕ) → AnswersEach OneLine old ls out mid → OneLine mid line o new
      → AnswersEach OneLine old (ls ++ line ∷ []) (out ++ o) new
  Each-one old mid new ls line out o a one = Each-append old mid new ls (line ∷ []) out o a (new, o, [], one, sym (append-nil o), (refl, refl))

-- What is answered in one way is answered in another one.
pub Each-weaker : {S : Type 0} (P Q : S → List ℕ → List ℕ → S → Type 0) → ((old : S) (line out : List ℕ) (new : S) → P old line out new → Q old line out new)
    → (old : S) (lines : List (List ℕ)) (out : List ℕ) (new : S) → AnswersEach P old lines out new → AnswersEach Q old lines out new
Each-weaker P Q weaker old [] out new a = a
Each-weaker P Q weaker old (line ∷ lines) out new a = (a.0, a.1, a.2, weaker old line a.1 a.0 a.3, a.4, Each-weaker P Q weaker a.0 lines a.2 new a.5)

-- a line that something comes after is answered
read_answers : {S : Type 0} (group : Group) (next : Next) (m : Machine S) (old : S) (read : Result Command (Fault BadLine)) (out : List ℕ) (new : S) → ReadLeadsTo group next m old read out new
    → AnswersRead m old read out new
read_answers (Of size) Line m old read out new ran = ran
read_answers (Of size) Stop m old read out new ran = absurd ran
read_answers Whole Line m old (Err fault) out new ran = absurd ran
read_answers Whole Line m old (Ok command) out new ran = (Ok ran.0, ran.1, ran.2)
read_answers Whole Stop m old (Err fault) out new ran = ran
read_answers Whole Stop m old (Ok command) out new ran = (Err ran.0, ran.1, ran.2)

pub line_answers : {S : Type 0} (group : Group) (next : Next) (m : Machine S) (old : S) (line out : List ℕ) (new : S) → LineLeadsTo group next m old line out new → AnswersLine m old line out new
line_answers group next m old line out new a = (a.0, a.1, read_answers group next m old a.0 out new a.2)

-- what comes after a command that was run
pub leads_run : {S : Type 0} (group : Group) (m : Machine S) (old : S) (command : Command) (answer : Result Reply RunFault) (new : S) → m.makes old (Ran command answer) new
    → ReadLeadsTo group (behind group (is_ok answer)) m old (Ok command) (answer_text answer (m.session old).acknowledged (m.session new).acknowledged) new
leads_run (Of size) m old command answer new made = (answer, made, refl)
leads_run Whole m old command (Ok reply) new made = (reply, made, refl)
leads_run Whole m old command (Err fault) new made = (fault, made, refl)

-- .. and after a line that isn't run
pub leads_unread : {S : Type 0} (group : Group) (m : Machine S) (old : S) (fault : Fault BadLine) → ReadLeadsTo group (behind group false) m old (Err fault) (fault_text fault) old
leads_unread (Of size) m old fault = (refl, refl)
leads_unread Whole m old fault = (refl, refl)

-- what a line comes to whose answer is written
pub then_leads : {S W E : Type 0} (w : sinks.Ghosts W) (group : Group) (next : Next) (m : Machine S) (old : S) (read : Result Command (Fault BadLine)) (out : List ℕ) (new : S) (first last : W)
    (written : Result (Unit {0}) E) (result : Result Next E) → result ≡ result_and written (Ok next) → ReadLeadsTo group next m old read out new → Writes w first last written out
    → ReadOutcome group result m old read out new × Writes w first last result out
then_leads w group next m old read out new first last (Ok done) result is leads wrote =
    subst (λ r. ReadOutcome group r m old read out new × Writes w first last r out) (sym is) (leads, record { ok = wrote.ok; part = tt; same = wrote.same; counted = tt })
then_leads w group next m old read out new first last (Err fault) result is leads wrote = grind (arith, common_steps)

-- what a line comes to, as what it was read as does
pub outcome_of : {S E : Type 0} (group : Group) (result : Result Next E) (m : Machine S) (old : S) (line : List ℕ) (read : Result Command (Fault BadLine)) (out : List ℕ) (new : S) → IsReadAs line read
    → ReadOutcome group result m old read out new → LineOutcome group result m old line out new
outcome_of group (Ok next) m old line read out new is ran = (read, is, ran)
outcome_of group (Err fault) m old line read out new is ran = (read, is, ran)

pub all_answer : {S : Type 0} (group : Group) (m : Machine S) (old : S) (lines : List (List ℕ)) (out : List ℕ) (new : S) → PassesAll group m old lines out new → Answers m old lines out new
all_answer group m old lines out new a = Each-weaker (Passes group m) (AnswersLine m) (line_answers group Line m) old lines out new a

-- lines up to one that is answered
pub end_answers : {S : Type 0} (group : Group) (m : Machine S) {old new : S} {lines : List (List ℕ)} {out : List ℕ} (ends : EndsAt group m (AnswersLine m) old lines out new)
    → Answers m old (ends.passed ++ ends.line ∷ []) out new
end_answers group m {old} {new} ends = grind (arith, common_steps, Each-one, all_answer)

-- .. passed and answered by other machines
abbrev pub end_as : {S : Type 0} (group : Group) (m n : Machine S) (P Q : S → List ℕ → List ℕ → S → Type 0) {old new : S} {lines : List (List ℕ)} {out : List ℕ} (ends : EndsAt group m P old lines out new)
    → PassesAll group n old ends.passed ends.before ends.mid → Q ends.mid ends.line ends.answer new → EndsAt group n Q old lines out new
end_as group m n P Q ends passes last = record {
  passed = ends.passed;
  line = ends.line;
  others = ends.others;
  before = ends.before;
  answer = ends.answer;
  mid = ends.mid;
  all_lines = ends.all_lines;
  all_out = ends.all_out;
  passes = passes;
  last = last;
}

-- .. and what that one comes to
pub end_weaker : {S : Type 0} (group : Group) (m : Machine S) (P Q : S → List ℕ → List ℕ → S → Type 0) → ((old : S) (line out : List ℕ) (new : S) → P old line out new → Q old line out new)
    → {old new : S} {lines : List (List ℕ)} {out : List ℕ} → EndsAt group m P old lines out new → EndsAt group m Q old lines out new
end_weaker group m P Q weaker {new = new} ends = end_as group m m P Q ends ends.passes (weaker ends.mid ends.line ends.answer new ends.last)

pub Consumes-append : (x y z : Option (List ℕ)) (a b : List ℕ) → Consumes x y a → Consumes y z b → Consumes x z (a ++ b)
Consumes-append None y z a b p q = tt
Consumes-append (Some xs) None z a b p q = absurd p
Consumes-append (Some xs) (Some ys) None a b p q = absurd q
Consumes-append (Some xs) (Some ys) (Some zs) a b p q = p ∙ ap (λ t. a ++ t) q ∙ sym (append_assoc a b zs)

pub Appends-append : (x y z : Option (List ℕ)) (a b : List ℕ) → Appends x y a → Appends y z b → Appends x z (a ++ b)
Appends-append None y z a b p q = tt
Appends-append (Some xs) None z a b p q = absurd p
Appends-append (Some xs) (Some ys) None a b p q = absurd q
Appends-append (Some xs) (Some ys) (Some zs) a b p q = q ∙ ap (λ t. t ++ b) p ∙ append_assoc xs a b

pub Appends-none : (x : Option (List ℕ)) → Appends x x []
Appends-none None = tt
Appends-none (Some xs) = sym (append-nil xs)

pub Consumes-none : (x : Option (List ℕ)) → Consumes x x []
Consumes-none None = tt
Consumes-none (Some xs) = refl

pub Consumes-kept : (x y : Option (List ℕ)) → Keeps x y → Consumes x y []
Consumes-kept None y kept = tt
Consumes-kept (Some xs) None kept = kept
Consumes-kept (Some xs) (Some ys) kept = sym kept

-- Writes that fail.

-- within the first of two texts
pub some_first : (x y : Option (List ℕ)) (a b : List ℕ) → AppendsSome x y a → AppendsSome x y (a ++ b)
some_first x y a b some = (some.0, some.1 ++ b, ap (λ t. t ++ b) some.2 ∙ append_assoc some.0 some.1 b, some.3)

-- within the second
pub some_then : (x y z : Option (List ℕ)) (a b : List ℕ) → Appends x y a → AppendsSome y z b → AppendsSome x z (a ++ b)
some_then x y z a b all some =
    (a ++ some.0, some.1, ap (λ t. a ++ t) some.2 ∙ sym (append_assoc a some.0 some.1), Appends-append x y z a some.0 all some.3)

pub on_err : {A E P : Type 0} (r : Result A E) → P → OnErr r P
on_err (Ok x) held = tt
on_err (Err e) held = held

-- a flush after a write
pub then_flushed : {W A B E F : Type 0} (w : sinks.Ghosts W) {first mid new : W} {result : Result A E} (last : Result B F) {text : List ℕ} {x : A} → result ≡ Ok x
    → Writes w first mid result text → Keeps (w.written mid) (w.written new)
    → OnOk last (w.failures new ≡ w.failures mid) → OnErr last (IsCounted (w.failures mid) (w.failures new)) → Writes w first new last text
then_flushed w {first} {mid} {new} (Ok y) {text} is wrote kept same counted = grind (arith, common_steps)
then_flushed w {first} {mid} {new} (Err e) {text} is wrote kept same counted = grind (arith, common_steps)

-- a write that failed, handed on
pub passed_on : {W A B E F : Type 0} (w : sinks.Ghosts W) {first new : W} {result : Result A E} (last : Result B F) {text : List ℕ} {e : E} → result ≡ Err e
    → IsErr last → Writes w first new result text → Writes w first new last text
passed_on w (Ok y) is failed wrote = absurd (true≢false (sym failed))
passed_on w (Err f) is failed wrote = record { ok = tt; part = rw is at wrote.part; same = tt; counted = rw is at wrote.counted }

-- what a `?` passed on
pub passed_never : {A E : Type 0} (P : E → Type 0) (Q : Type 0) (answer : Result A E) → IsErrAnd answer P → OnOk answer Q
passed_never P Q (Ok x) is = absurd is
passed_never P Q (Err e) is = tt

pub passed_reported : {A E : Type 0} (e : E) (P : E → Type 0) (answer : Result A E) → IsErrAnd answer (λ y. y ≡ e) → P e → IfErr answer P
passed_reported e P (Ok x) is held = absurd is
passed_reported e P (Err f) is held = subst P (sym is) held
