-- What serving an input does, for any machine `m` that runs the lines: the model's sessions, stores
-- over a disk, or these with their traces.
use Rattle.std.specs.Prelude.{◌≡◌, ◌≢◌, ◌⊎◌, ℕ, ◌<◌, ◌≤◌, Bool, true, false, ◌||◌, if◌then◌else◌, IsTrue, IsFalse, nat_lt, List, [], ◌∷◌, ◌++◌, length, None, Some, Result, Ok, Err}
use Rattle.std.specs.Io.KnownBytes.{Consumes, IsAtEnd}
use Rattle.org_disk.specs.declared.disk.Disk.{Ghosts}
use Rattle.org_disk.specs.CountsFailures.{CountsFailures}
use Rattle.org_disk.specs.Disk.{FileState}
use Rattle.org_journal.specs.Recovered.{SameFiles, IsRecoverable, contents}
use Rattle.org_fileset.specs.Replay.{IsAtRest}
use Rattle.org_commands.specs.declared.command.Command.{Command}
use Rattle.org_commands.specs.declared.command.Reply.{Reply}
use Rattle.org_commands.specs.declared.command.RunFault.{RunFault}
use Rattle.org_commands.specs.declared.command.RunFault.TheVariants as run
use Rattle.org_commands.specs.declared.tally.Group.{Group}
use Rattle.org_commands.specs.declared.tally.Group.TheVariants.{Of, Whole}
use Rattle.org_commands.specs.InOrder.{with_texts}
use Rattle.org_store.specs.Runs.{IsOnDisk}
use Rattle.org_commands.specs.Session.{Session, StoreView}
use Rattle.org_store.specs.Calls.{Machine, model, stores, traces}
use Rattle.org_store.specs.Calls.Call.{Ran, Settled}
use Rattle.org_store.specs.History.{Trace}
use Rattle.org_serve.specs.declared.end.ServeEnd.{ServeEnd}
use Rattle.org_serve.specs.declared.end.ServeEnd.TheVariants.{End, Unsettled, Device, Read, Write}
use Rattle.org_fault.specs.declared.fault.Fault.{Fault}
use Rattle.org_serve.specs.declared.fault.BadLine.{BadLine}
use Rattle.org_fault.specs.declared.fault.Fault.TheVariants.{Refused, OutOfMemory}
use Rattle.org_serve.specs.declared.pending.Pending.{Pending}
use Rattle.org_serve.specs.declared.pipes.Sink as sinks
use Rattle.org_serve.specs.declared.serving.Next.{Next}
use Rattle.org_serve.specs.declared.serving.Next.TheVariants.{Line, Stop}
use Rattle.org_serve.specs.Grammar.{command_of}
use Rattle.org_serve.specs.Lines.{Stands, cut, limit}
use Rattle.org_serve.specs.Pipes.{Adds, AddsSome, Exchange, Output, output_of}
use Rattle.org_serve.specs.Replies.{answer_text, bad_line, fault_line, fault_text, no_memory, settled_text}
use Rattle.org_serve.specs.Writes.{CountsFailure, Writes}

-- The machines.

-- What a call made, said only where the state after it is good; the state before it was good then.
pub record IfGood {S : Type 0} (good : S → Type 0) (old new : S) (Did : Type 0) : Type 0 where
  pub before : good new → good old
  pub did : good new → Did

abbrev pub if_good : {S : Type 0} → (S → Type 0) → Machine S → Machine S
if_good good m =
    record {
      session = m.session;
      makes = λ old call new. IfGood good old new (m.makes old call new);
    }

-- The machine of the stores over a disk, and of these with their traces: what a call did is said
-- where the disk is honest after it.
abbrev pub stores_while_honest : {D : Type 0} → Ghosts D → Machine (StoreView D)
stores_while_honest g = if_good (λ store. g.honest store.disk) (stores g)

abbrev pub traces_while_honest : {D : Type 0} → Ghosts D → Machine (Trace D)
traces_while_honest g = if_good (λ trace. g.honest trace.store.disk) (traces g)

-- One line.

-- Why a line isn't run: it is too long or no command; or memory for it was refused, which may
-- happen to any.
abbrev pub IsNotRun : Fault BadLine → List ℕ → Type 0
IsNotRun (Refused _) line = (limit < length line) ⊎ (command_of line ≡ None)
IsNotRun OutOfMemory line = Unit {0}

-- what a line was read as
abbrev pub IsReadAs : List ℕ → Result Command (Fault BadLine) → Type 0
IsReadAs line (Ok command) = (length line ≤ limit) × (command_of line ≡ Some command)
IsReadAs line (Err fault) = IsNotRun fault line

-- What a line was read as is answered by these bytes: as one that isn't run, or by one call for its
-- command.
abbrev pub AnswersRead : {S : Type 0} → Machine S → S → Result Command (Fault BadLine) → List ℕ → S
    → Type 0
AnswersRead m old (Err fault) out new = (out ≡ fault_text fault) × (new ≡ old)
AnswersRead m old (Ok command) out new =
    (answer : Result Reply RunFault)
    × m.makes old (Ran command answer) new
    × (out ≡ answer_text answer (m.session old).acknowledged (m.session new).acknowledged)

-- It is done: it is a command, and the answer is no refusal and no fault.
abbrev pub DoesRead : {S : Type 0} → Machine S → S → Result Command (Fault BadLine) → List ℕ → S
    → Type 0
DoesRead m old (Err fault) out new = ⊥
DoesRead m old (Ok command) out new =
    (reply : Reply)
    × m.makes old (Ran command (Ok reply)) new
    × (out ≡ answer_text (Ok reply) (m.session old).acknowledged (m.session new).acknowledged)

-- It isn't done: it isn't run, or is refused, or gets a fault.
abbrev pub RefusesRead : {S : Type 0} → Machine S → S → Result Command (Fault BadLine) → List ℕ → S
    → Type 0
RefusesRead m old (Err fault) out new = (out ≡ fault_text fault) × (new ≡ old)
RefusesRead m old (Ok command) out new =
    (fault : RunFault) × m.makes old (Ran command (Err fault)) new × (out ≡ fault_line fault)

-- what comes after a line in a store with this group: the next one; or the end, where commands are
-- to be done whole, and the line isn't done
abbrev pub behind : Group → Bool → Next
behind (Of size) is_done = Line
behind Whole true = Line
behind Whole false = Stop

-- what a line was read as is answered so, and this comes after it
abbrev pub ReadLeadsTo : {S : Type 0} → Group → Next → Machine S → S
    → Result Command (Fault BadLine)
    → List ℕ → S → Type 0
ReadLeadsTo (Of size) Line m old read out new = AnswersRead m old read out new
ReadLeadsTo (Of size) Stop m old read out new = ⊥
ReadLeadsTo Whole Line m old read out new = DoesRead m old read out new
ReadLeadsTo Whole Stop m old read out new = RefusesRead m old read out new

-- .. or it is answered, and a write fails
abbrev pub ReadOutcome : {S E : Type 0} → Group → Result Next E → Machine S → S
    → Result Command (Fault BadLine) → List ℕ → S → Type 0
ReadOutcome group (Ok next) = ReadLeadsTo group next
ReadOutcome group (Err fault) = AnswersRead

-- a line is answered so, as what it may be read as
abbrev pub AnswersLine : {S : Type 0} → Machine S → S → List ℕ → List ℕ → S → Type 0
AnswersLine m old line out new =
    (read : Result Command (Fault BadLine)) × IsReadAs line read × AnswersRead m old read out new

-- .. and this comes after it
abbrev pub LineLeadsTo : {S : Type 0} → Group → Next → Machine S → S → List ℕ → List ℕ → S → Type 0
LineLeadsTo group next m old line out new =
    (read : Result Command (Fault BadLine))
    × IsReadAs line read
    × ReadLeadsTo group next m old read out new

-- .. or a write fails
abbrev pub LineOutcome : {S E : Type 0} → Group → Result Next E → Machine S → S → List ℕ → List ℕ
    → S → Type 0
LineOutcome group (Ok next) = LineLeadsTo group next
LineOutcome group (Err fault) = AnswersLine

-- .. and it is followed by the next one
abbrev pub Passes : {S : Type 0} → Group → Machine S → S → List ℕ → List ℕ → S → Type 0
Passes group = LineLeadsTo group Line

-- .. and it is the last one
abbrev pub Stops : {S : Type 0} → Group → Machine S → S → List ℕ → List ℕ → S → Type 0
Stops group = LineLeadsTo group Stop

-- Lines are answered, one after another, each of them in this way.
abbrev pub AnswersEach : {S : Type 0} → (S → List ℕ → List ℕ → S → Type 0) → S → List (List ℕ)
    → List ℕ → S → Type 0
AnswersEach OneLine old [] out new = (out ≡ []) × (new ≡ old)
AnswersEach {S = S} OneLine old (line ∷ lines) out new =
    (mid : S) × (first : List ℕ) × (later : List ℕ)
    × OneLine old line first mid
    × (out ≡ first ++ later)
    × AnswersEach OneLine mid lines later new

abbrev pub Answers : {S : Type 0} → Machine S → S → List (List ℕ) → List ℕ → S → Type 0
Answers m = AnswersEach (AnswersLine m)

-- .. and after the last of them serving goes on
abbrev pub PassesAll : {S : Type 0} → Group → Machine S → S → List (List ℕ) → List ℕ → S → Type 0
PassesAll group m = AnswersEach (Passes group m)

-- Lines are answered up to one that is the last: `Last` says in which way.
pub record EndsAt {S : Type 0} (group : Group) (m : Machine S)
    (Last : S → List ℕ → List ℕ → S → Type 0) (old : S) (lines : List (List ℕ)) (out : List ℕ)
    (new : S) : Type 0 where
  pub passed : List (List ℕ)
  pub line : List ℕ
  pub others : List (List ℕ)
  pub before : List ℕ
  pub answer : List ℕ
  pub mid : S
  pub all_lines : lines ≡ passed ++ line ∷ others
  pub all_out : out ≡ before ++ answer
  pub passes : PassesAll group m old passed before mid
  pub last : Last mid line answer new

-- The whole lines of the input so far are answered, and the rest of it is kept.
abbrev pub FeedsAll : {S : Type 0} → Group → Machine S → S → List ℕ → S → Output → Pending → Type 0
FeedsAll group m old bytes new output pending =
    (out : List ℕ)
    × PassesAll group m old (cut bytes).lines out new
    × Adds output out
    × Stands pending (cut bytes).rest

-- Its lines are answered up to one at which serving ends: of the last piece, which has so many
-- bytes, fewer stand after that line.
abbrev pub FeedsToEnd : {S : Type 0} → Group → Machine S → S → List ℕ → ℕ → S → Output → Type 0
FeedsToEnd group m old bytes piece new output =
    (out : List ℕ) × (later : List ℕ)
    × (ends : EndsAt group m (Stops group m) old (cut bytes).lines out new)
    × ((cut later).lines ≡ ends.others)
    × ((cut later).rest ≡ (cut bytes).rest)
    × (length later < piece)
    × Adds output out

-- Its lines are run up to one, and some of their replies written.
abbrev pub FeedsSome : {S : Type 0} → Group → Machine S → S → List ℕ → S → Output → Type 0
FeedsSome group m old bytes new output =
    (out : List ℕ)
    × EndsAt group m (AnswersLine m) old (cut bytes).lines out new
    × AddsSome output out

-- A piece was served, before which this part of a line was read; or a write failed.
abbrev pub Feeds : {S E : Type 0} → Group → Machine S → S → (part piece : List ℕ) → S → Output
    → Pending → Result Next E → Type 0
Feeds group m old part piece new output pending (Ok Line) =
    FeedsAll group m old (part ++ piece) new output pending
Feeds group m old part piece new output pending (Ok Stop) =
    FeedsToEnd group m old (part ++ piece) (length piece) new output
Feeds group m old part piece new output pending (Err _) =
    FeedsSome group m old (part ++ piece) new output

-- the store was broken meanwhile
abbrev pub HasBroken : Session → Session → Type 0
HasBroken old new = IsFalse old.broken × IsTrue new.broken

-- What answering the line that ends with these bytes does to a store over a disk and to a writer;
-- `pending` is what was kept of it from the pieces before.
pub record EndsLine {D W E : Type 0} (g : Ghosts D) (w : sinks.Ghosts W) (group : Group)
    (pending : Pending) (last : List ℕ) (result : Result Next E) (old new : StoreView D)
    (writer writer' : W) : Type 0 where
  pub step : (part : List ℕ) → Stands pending part
      → (out : List ℕ)
      × LineOutcome group result (stores_while_honest g) old (part ++ last) out new
      × Writes w writer writer' result out
  pub counts : CountsFailure w writer writer' result
  -- a store that was broken is left
  pub untouched : IsTrue old.session.broken → new ≡ old
  pub accounts : CountsFailures g old.disk new.disk (HasBroken old.session new.session)

-- The end of the input.

-- What stands after the last newline is no line: it is answered so, and not run.
abbrev pub AnswersRest : List ℕ → List ℕ → Type 0
AnswersRest [] out = out ≡ []
AnswersRest (b ∷ bytes) out = (out ≡ bad_line) ⊎ (out ≡ no_memory)

-- how an input ends of which a line isn't done, in a store that is to do it whole
abbrev pub refused_end : Session → ServeEnd
refused_end s = if s.broken then Device else Unsettled

-- .. and one of which each line is done
abbrev pub unrefused_end : Session → ServeEnd
unrefused_end s =
    if nat_lt s.acknowledged s.accepted || s.broken then refused_end s else End

-- .. and one of which each line is done, and this stands after the last newline
abbrev pub whole_end : List ℕ → Session → ServeEnd
whole_end [] s = unrefused_end s
whole_end (b ∷ bytes) s = refused_end s

-- how serving ends after the settling, which never answers a refusal
abbrev pub end_of : Result (Unit {0}) RunFault → ServeEnd
end_of (Ok done) = End
end_of (Err run.Device) = Device
end_of (Err run.Broken) = Device
end_of (Err fault) = Unsettled

-- A store is broken where serving ends with Device, and isn't where the input was read to its end
-- and it ends otherwise.
abbrev pub EndSaysBroken : ServeEnd → Session → Type 0
EndSaysBroken End new = IsFalse new.broken
EndSaysBroken Unsettled new = IsFalse new.broken
EndSaysBroken Device new = IsTrue new.broken
EndSaysBroken end new = Unit {0}

-- the settling was made, with whatever answer
abbrev pub HasSettled : {S : Type 0} → Machine S → S → S → Type 0
HasSettled m old new = (answer : Result (Unit {0}) RunFault) × m.makes old (Settled answer) new

-- By whether the store is broken and whether it holds accepted commands that aren't on the disk: a
-- broken one is left; one that holds such commands settles; any other is done.
abbrev pub EndsBy : {S : Type 0} → Machine S → Bool → Bool → S → ServeEnd → List ℕ → S → Type 0
EndsBy m true unsettled old end out new = (end ≡ Device) × (out ≡ []) × (new ≡ old)
EndsBy m false true old end out new =
    (answer : Result (Unit {0}) RunFault)
    × m.makes old (Settled answer) new
    × (end ≡ end_of answer)
    × (out ≡ settled_text answer (m.session new).acknowledged)
EndsBy m false false old end out new = (end ≡ End) × (out ≡ []) × (new ≡ old)

abbrev pub FinishesGroups : {S : Type 0} → Machine S → S → ServeEnd → List ℕ → S → Type 0
FinishesGroups m old end out new =
    let s = m.session old in EndsBy m s.broken (nat_lt s.acknowledged s.accepted) old end out new

-- Serving ends at the end of an input after whose last newline this stands. Commands of a group
-- are settled then; where they are to be done whole, nothing is.
abbrev pub Finishes : {S : Type 0} → Group → Machine S → List ℕ → S → ServeEnd → List ℕ → S
    → Type 0
Finishes (Of size) m rest old end out new = FinishesGroups m old end out new
Finishes Whole m rest old end out new =
    (end ≡ whole_end rest (m.session old)) × (out ≡ []) × (new ≡ old)

-- What stands after the last newline is answered, and then the end is made.
abbrev pub EndsWith : {S : Type 0} → Group → Machine S → List ℕ → S → ServeEnd → S → Output → Type 0
EndsWith group m part old end new output =
    (last : List ℕ) × (tail : List ℕ)
    × AnswersRest part last
    × Finishes group m part old end tail new
    × Adds output (last ++ tail)

-- What is written at the end of the input, where so many commands are acknowledged then: for what
-- stands after the last newline, and for the settling.
abbrev pub EndsText : Group → List ℕ → ℕ → List ℕ → Type 0
EndsText (Of size) rest acknowledged text =
    (last : List ℕ) × (answer : Result (Unit {0}) RunFault)
    × AnswersRest rest last
    × (text ≡ last ++ settled_text answer acknowledged)
EndsText Whole rest acknowledged text = AnswersRest rest text

-- the settling at the end was made or wasn't; where commands are to be done whole, it wasn't
abbrev pub MayHaveSettled : {S : Type 0} → Group → Machine S → S → S → Type 0
MayHaveSettled (Of size) m old new = (new ≡ old) ⊎ HasSettled m old new
MayHaveSettled Whole m old new = new ≡ old

-- A whole input.

-- What is written for it, how serving ends, and the state after it.
abbrev pub Transcript : {S : Type 0} → Group → Machine S → S → List ℕ → ServeEnd → List ℕ → S
    → Type 0
Transcript {S = S} group m old input end out new =
    (mid : S) × (answers : List ℕ) × (last : List ℕ) × (tail : List ℕ)
    × PassesAll group m old (cut input).lines answers mid
    × AnswersRest (cut input).rest last
    × Finishes group m (cut input).rest mid end tail new
    × (out ≡ answers ++ (last ++ tail))

-- The input was read to its end, and its transcript is what was written.
abbrev pub ServesAll : {S : Type 0} → Group → Machine S → S → ServeEnd → S → Exchange → Type 0
ServesAll group m old end new io =
    (input : List ℕ) × (out : List ℕ)
    × Consumes io.before.left io.after.left input
    × IsAtEnd io.after.left
    × Transcript group m old input end out new
    × Adds (output_of io) out

-- the most bytes of one read
abbrev pub most_read : ℕ
most_read = 4096

-- The input was read up to a line that isn't done, which is the last: the replies to the lines up
-- to that one are what was written, and fewer bytes than one read gives were read after it.
abbrev pub ServesToEnd : {S : Type 0} → Group → Machine S → S → ServeEnd → S → Exchange → Type 0
ServesToEnd group m old end new io =
    (input : List ℕ) × (out : List ℕ) × (later : List ℕ)
    × Consumes io.before.left io.after.left input
    × (ends : EndsAt group m (Stops group m) old (cut input).lines out new)
    × ((cut later).lines ≡ ends.others)
    × ((cut later).rest ≡ (cut input).rest)
    × (length later < most_read)
    × Adds (output_of io) out
    × (end ≡ refused_end (m.session new))

-- The input was served to its end; or, where it is to be done whole, to a line that isn't done.
abbrev pub ServesInput : {S : Type 0} → Group → Machine S → S → ServeEnd → S → Exchange → Type 0
ServesInput (Of size) m old end new io = ServesAll (Of size) m old end new io
ServesInput Whole m old end new io =
    ServesAll Whole m old end new io ⊎ ServesToEnd Whole m old end new io

-- The whole lines of what was read were answered, and nothing else was written.
abbrev pub ServesLines : {S : Type 0} → Group → Machine S → S → S → Exchange → Type 0
ServesLines group m old new io =
    (input : List ℕ) × (out : List ℕ)
    × Consumes io.before.left io.after.left input
    × PassesAll group m old (cut input).lines out new
    × Adds (output_of io) out

-- The lines of what was read were run up to one.
abbrev pub RunsSome : {S : Type 0} → Group → Machine S → S → S → Exchange → Type 0
RunsSome group m old new io =
    (input : List ℕ) × (out : List ℕ)
    × Consumes io.before.left io.after.left input
    × EndsAt group m (AnswersLine m) old (cut input).lines out new

-- The input was read to its end, all its lines were run, and then the settling was made or wasn't.
abbrev pub RunsAll : {S : Type 0} → Group → Machine S → S → S → Exchange → Type 0
RunsAll {S = S} group m old new io =
    (input : List ℕ) × (mid : S) × (out : List ℕ)
    × Consumes io.before.left io.after.left input
    × IsAtEnd io.after.left
    × PassesAll group m old (cut input).lines out mid
    × MayHaveSettled group m mid new

-- What is read and written, by the sessions before it and after it.
pub record Serves (old : Session) (end : ServeEnd) (new : Session) (io : Exchange) : Type 0 where
  -- to the input's end, or a line that is the last
  pub all : end ≢ Read → end ≢ Write → ServesInput old.group model old end new io
  -- up to a read that failed, or to the last that may be made
  pub read : end ≡ Read → ServesLines old.group model old new io
  -- up to a write that failed
  pub write : end ≡ Write → RunsSome old.group model old new io ⊎ RunsAll old.group model old new io

-- Some of the lines of what was read, from the first on, were run, and then the settling was made
-- or wasn't. Unless a write failed, what was written begins with the replies to these lines.
pub record RunsLines {S : Type 0} (m : Machine S) (old new : S) (end : ServeEnd) (io : Exchange)
    : Type 0 where
  pub input : List ℕ
  pub ran : List (List ℕ)
  pub others : List (List ℕ)
  pub out : List ℕ
  pub mid : S
  pub read : Consumes io.before.left io.after.left input
  pub lines : (cut input).lines ≡ ran ++ others
  pub answered : Answers m old ran out mid
  pub ends : (new ≡ mid) ⊎ HasSettled m mid new
  pub wrote : end ≢ Write → (tail : List ℕ) × Adds (output_of io) (out ++ tail)

-- A write or a flush failed in a run: some of the replies to the lines that were run were written,
-- from the first on; or all of them, all lines were run, and some was written of what is at the end
-- of the input.
abbrev pub WritesSome : Group → List ℕ → List (List ℕ) → List ℕ → ℕ → Output → Type 0
WritesSome group input others out acknowledged output =
    AddsSome output out
    ⊎ ((others ≡ []) × (text : List ℕ)
    × EndsText group (cut input).rest acknowledged text
    × AddsSome output (out ++ text))

-- Some lines were run; where a write failed, what was written begins their answers. Then commands
-- of a group may have been settled; those that are to be done whole were not.
abbrev pub RunsAndWrites : {S : Type 0} → Machine S → S → S → ServeEnd → Exchange → Type 0
RunsAndWrites m old new end io =
    (run : RunsLines m old new end io)
    × (end ≡ Write
    → WritesSome (m.session old).group run.input run.others run.out (m.session new).acknowledged
    (output_of io))
    × MayHaveSettled (m.session old).group m run.mid new

-- What serving makes of a disk that is honest at the end: one that was at rest is left recoverable,
-- and at rest again where the store isn't broken then; in that case the store's files have the
-- texts that are settled, where they had them before, and all others are as they were. A store that
-- was broken leaves it as it is.
pub record LeavesServedDisk {D : Type 0} (files : D → List ℕ → FileState) (old new : StoreView D)
    : Type 0 where
  pub recoverable : IsAtRest (files old.disk) → IsRecoverable (files new.disk)
  pub rest : IsFalse new.session.broken → IsAtRest (files old.disk) → IsAtRest (files new.disk)
  pub others : IsOnDisk old.session (contents (files old.disk)) → IsFalse new.session.broken
      → SameFiles (contents (files new.disk))
      (with_texts new.session.names new.session.settled (contents (files old.disk)))
  pub untouched : IsTrue old.session.broken → new ≡ old
