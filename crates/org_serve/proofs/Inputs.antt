-- How the pieces of an input are served, one by one.
use Rattle.std.proofs.Common.{◌≡◌, ◌≢◌, inl, inr, ℕ, ◌≤◌, List, [], ◌∷◌, ◌++◌, length, Option, refl, sym, ap, ◌∙◌, subst, append_assoc, arith}
use Rattle.std.proofs.lemmas.Grind.{common_steps}
use Rattle.std.specs.Io.KnownBytes.{Consumes, Appends, IsAtEnd}
use Rattle.org_commands.specs.declared.tally.Group.{Group}
use Rattle.org_commands.specs.declared.tally.Group.TheVariants.{Of, Whole}
use Rattle.org_commands.specs.Session.{Session}
use Rattle.org_store.specs.Calls.{Machine, model}
use Rattle.org_serve.specs.Pipes.{AddsSome, Exchange, output_of}
use Rattle.org_serve.specs.declared.pending.Pending.{Pending}
use Rattle.org_serve.specs.declared.end.ServeEnd.{ServeEnd}
use Rattle.org_serve.specs.declared.end.ServeEnd.TheVariants.{Read, Write}
use Rattle.org_serve.specs.Lines.{Cut, cut, Stands}
use Rattle.org_serve.specs.Serving.{EndsAt, EndsWith, FeedsAll, FeedsSome, FeedsToEnd, MayHaveSettled, Passes, PassesAll, RunsSome, Serves, ServesAll, ServesInput, ServesToEnd, most_read, refused_end}
use Rattle.org_serve.proofs.Counting.{read_apart}
use Rattle.org_serve.proofs.Cuts.{cut-append}
use Rattle.org_serve.proofs.Joins.{Appends-append, Consumes-append, Each-append, some_then, Appends-none, Consumes-none}

-- The input so far was read, its lines are answered, and what stands after its last newline is
-- kept.
pub record Served {S : Type 0} (group : Group) (m : Machine S) (old new : S) (left left' written written' : Option (List ℕ)) (pending : Pending) : Type 0 where
  pub input : List ℕ
  pub out : List ℕ
  pub read : Consumes left left' input
  pub passes : PassesAll group m old (cut input).lines out new
  pub wrote : Appends written written' out
  pub stands : Stands pending (cut input).rest

-- none of it was read
pub Served-none : {S : Type 0} {group : Group} {m : Machine S} {old : S} {left written : Option (List ℕ)} {pending : Pending} → Stands pending []
    → Served group m old old left left written written pending
Served-none {left = left} {written = written} stands = record { input = []; out = []; read = Consumes-none left; passes = (refl, refl); wrote = Appends-none written; stands = stands }

-- lines of a piece, after those of the input before it
ends_later : {S : Type 0} {group : Group} {m : Machine S} {Last : S → List ℕ → List ℕ → S → Type 0} {old mid new : S} (input piece out more : List ℕ) → PassesAll group m old (cut input).lines out mid
    → (ends : EndsAt group m Last mid (cut ((cut input).rest ++ piece)).lines more new) → EndsAt group m Last old (cut (input ++ piece)).lines (out ++ more) new
ends_later {group = group} {m = m} {old = old} {mid = mid} input piece out more passes ends = record {
  passed = (cut input).lines ++ ends.passed;
  line = ends.line;
  others = ends.others;
  before = out ++ ends.before;
  answer = ends.answer;
  mid = ends.mid;
  all_lines = ap (λ (c : Cut). c.lines) (cut-append input piece) ∙ ap (λ (ls : List (List ℕ)). (cut input).lines ++ ls) ends.all_lines
      ∙ sym (append_assoc (cut input).lines ends.passed (ends.line ∷ ends.others));
  all_out = ap (λ (o : List ℕ). out ++ o) ends.all_out ∙ sym (append_assoc out ends.before ends.answer);
  passes = Each-append (Passes group m) old mid ends.mid (cut input).lines ends.passed out ends.before passes ends.passes;
  last = ends.last;
}

module _ {S : Type 0} {group : Group} {m : Machine S} {old mid : S} {left between written among : Option (List ℕ)} {pending : Pending}
    (s : Served group m old mid left between written among pending) (piece : List ℕ) (new : S) (left' written' : Option (List ℕ)) (read : Consumes between left' piece) where
  pub Served-more : (pending' : Pending) → FeedsAll group m mid ((cut s.input).rest ++ piece) new (record { before = among; after = written' }) pending'
      → Served group m old new left left' written written' pending'
  Served-more pending' fed =
      let whole = cut-append s.input piece in
      let L : List (List ℕ) → Type 0 = λ ls. PassesAll group m old ls (s.out ++ fed.0) new in
      let R : List ℕ → Type 0 = λ r. Stands pending' r in
      record {
        input = s.input ++ piece;
        out = s.out ++ fed.0;
        read = Consumes-append left between left' s.input piece s.read read;
        passes = subst L (sym (ap (λ (c : Cut). c.lines) whole))
            (Each-append (Passes group m) old mid new (cut s.input).lines (cut ((cut s.input).rest ++ piece)).lines s.out fed.0 s.passes fed.1);
        wrote = Appends-append written among written' s.out fed.0 s.wrote fed.2;
        stands = subst R (sym (ap (λ (c : Cut). c.rest) whole)) fed.3;
      }

-- a piece, and what was written before it and is written for it
module _ {S : Type 0} {group : Group} {m : Machine S} {old mid : S} {between among : Option (List ℕ)} {pending : Pending} (io : Exchange)
    (s : Served group m old mid io.before.left between io.before.written among pending) (piece : List ℕ) (new : S) (read : Consumes between io.after.left piece) where
  -- a write fails within it
  pub Served-some : FeedsSome group m mid ((cut s.input).rest ++ piece) new (record { before = among; after = io.after.written }) → RunsSome group m old new io
  Served-some fed = (
    s.input ++ piece,
    s.out ++ fed.0,
    Consumes-append io.before.left between io.after.left s.input piece s.read read,
    ends_later s.input piece s.out fed.0 s.passes fed.1,
  )

  -- .. and what was written then
  pub Served-some_wrote : (fed : FeedsSome group m mid ((cut s.input).rest ++ piece) new (record { before = among; after = io.after.written }))
      → AddsSome (output_of io) (Served-some fed).1
  unfolding Served-some
  Served-some_wrote fed = some_then io.before.written among io.after.written s.out fed.0 s.wrote fed.2

  -- a line of it is the last
  pub Served-stop : (end : ServeEnd) → length piece ≤ most_read → FeedsToEnd group m mid ((cut s.input).rest ++ piece) (length piece) new (record { before = among; after = io.after.written })
      → end ≡ refused_end (m.session new) → ServesToEnd group m old end new io
  unfolding ends_later
  Served-stop end within fed is = (
    s.input ++ piece,
    s.out ++ fed.0,
    fed.1,
    Consumes-append io.before.left between io.after.left s.input piece s.read read,
    ends_later s.input piece s.out fed.0 s.passes fed.2,
    fed.3,
    fed.4 ∙ sym (ap (λ (c : Cut). c.rest) (cut-append s.input piece)),
    omega (arith, within, fed.5),
    Appends-append io.before.written among io.after.written s.out fed.0 s.wrote fed.6,
    is,
  )

-- no more is read
pub Served-no_more : {S : Type 0} {group : Group} {m : Machine S} {old new : S} {left between written written' : Option (List ℕ)} {pending : Pending}
    → Served group m old new left between written written' pending → (left' : Option (List ℕ)) → Consumes between left' [] → Served group m old new left left' written written' pending
Served-no_more {left = left} {between = between} s left' read = grind (arith, common_steps)

-- What is read and written, by the sessions.

-- a read failed, or no more reads may be made
pub serves_read : {old new : Session} (io : Exchange) {pending : Pending}
    → Served old.group model old new io.before.left io.after.left io.before.written io.after.written pending → Serves old Read new io
serves_read io s = record { all = λ not other. absurd (not refl); read = λ is. (s.input, s.out, s.read, s.passes, s.wrote); write = λ is. absurd (read_apart is) }

-- a write fails among the lines
pub serves_some : {old new : Session} (io : Exchange) → RunsSome old.group model old new io → Serves old Write new io
serves_some io some = record { all = λ other not. absurd (not refl); read = λ is. absurd (read_apart (sym is)); write = λ is. inl some }

-- what is served to the end of the input
served_input : (group : Group) (old new : Session) (end : ServeEnd) (io : Exchange) → ServesAll group model old end new io → ServesInput group model old end new io
served_input (Of size) old new end io all = all
served_input Whole old new end io all = inl all

-- .. and what is served to a line that is the last
stopped_input : (group : Group) (old new : Session) (end : ServeEnd) (io : Exchange) → ServesToEnd group model old end new io → ServesInput group model old end new io
stopped_input (Of size) old new end io stop = absurd stop.4.last.2
stopped_input Whole old new end io stop = inr stop

pub serves_stop : {old new : Session} {end : ServeEnd} (io : Exchange) → end ≢ Read → end ≢ Write → ServesToEnd old.group model old end new io → Serves old end new io
serves_stop {old} {new} {end} io unread unwritten stop = grind (arith, common_steps, stopped_input)

-- the input is read to its end
pub serves_end : {old mid : Session} (io : Exchange) {among : Option (List ℕ)} {pending : Pending}
    → (s : Served old.group model old mid io.before.left io.after.left io.before.written among pending) (end : ServeEnd) (new : Session) → IsAtEnd io.after.left → end ≢ Read
    → (end ≢ Write → EndsWith old.group model (cut s.input).rest mid end new (record { before = among; after = io.after.written })) → (end ≡ Write → MayHaveSettled old.group model mid new)
    → Serves old end new io
serves_end {old} {mid} io {among = among} s end new at_end none ends failed = record {
  all = λ other not. served_input old.group old new end io (whole (ends not));
  read = λ is. absurd (none is);
  write = λ is. inr (s.input, mid, s.out, s.read, at_end, s.passes, failed is);
}
  where
    whole : EndsWith old.group model (cut s.input).rest mid end new (record { before = among; after = io.after.written }) → ServesAll old.group model old end new io
    whole ends =
        let tail = ends.0 ++ ends.1 in (
          s.input,
          s.out ++ tail,
          s.read,
          at_end,
          (mid, s.out, ends.0, ends.1, s.passes, ends.2, ends.3, refl),
          Appends-append io.before.written among io.after.written s.out tail s.wrote ends.4,
        )
