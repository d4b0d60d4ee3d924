-- How the lines of a piece are served, one by one.
use Rattle.std.proofs.Common.{◌≡◌, ℕ, ◌<◌, ◌≤◌, length, arith, List, [], ◌∷◌, ◌++◌, Option, refl, sym, ap, ◌∙◌, append_assoc, append-nil}
use Rattle.std.proofs.lemmas.Grind.{common_steps}
use Rattle.std.proofs.lemmas.List.{length-append}
use Rattle.std.specs.Io.KnownBytes.{Appends}
use Rattle.org_commands.specs.declared.tally.Group.{Group}
use Rattle.org_store.specs.Calls.{Machine}
use Rattle.org_serve.specs.declared.pending.Pending.{Pending}
use Rattle.org_serve.specs.Lines.{Cut, cut, Stands}
use Rattle.org_serve.specs.Serving.{AnswersLine, EndsAt, FeedsAll, FeedsSome, FeedsToEnd, Passes, PassesAll, Stops}
use Rattle.org_serve.proofs.Cuts.{cut-both, cut-line}
use Rattle.org_serve.specs.Pipes.{AppendsSome}
use Rattle.org_serve.proofs.Joins.{Appends-append, Each-one, some_then}

-- Some lines of the bytes were run, and rest is left after a part of a line.
pub record Fed {S : Type 0} (group : Group) (m : Machine S) (old : S) (bytes rest : List ℕ) (new : S) (written written' : Option (List ℕ)) (pending : Pending) : Type 0 where
  pub part : List ℕ
  pub ran : List (List ℕ)
  pub out : List ℕ
  pub free : (cut part).lines ≡ []
  pub cuts : cut bytes ≡ record { lines = ran ++ (cut (part ++ rest)).lines; rest = (cut (part ++ rest)).rest }
  pub passes : PassesAll group m old ran out new
  pub wrote : Appends written written' out
  pub stands : Stands pending part

module _ {S : Type 0} {group : Group} {m : Machine S} {old : S} {bytes rest : List ℕ} {mid : S} {written between : Option (List ℕ)} {pending : Pending}
    (f : Fed group m old bytes rest mid written between pending) (line more : List ℕ) (whole : rest ≡ line ++ 10 ∷ more) (free : (cut line).lines ≡ []) where
  -- a line and its newline in front of what is left
  cuts-line : cut bytes ≡ record { lines = f.ran ++ (f.part ++ line) ∷ (cut more).lines; rest = (cut more).rest }
  cuts-line = grind (arith, common_steps, cut, cut-line)

  pub Fed-step : (new : S) (written' : Option (List ℕ)) (pending' : Pending)
      → ((part : List ℕ) → Stands pending part → (o : List ℕ) × Passes group m mid (part ++ line) o new × Appends between written' o)
      → Stands pending' [] → Fed group m old bytes more new written written' pending'
  Fed-step new written' pending' step cleared =
      let s = step f.part f.stands in
      record {
        part = [];
        ran = f.ran ++ (f.part ++ line) ∷ [];
        out = f.out ++ s.0;
        free = refl;
        cuts = cuts-line
            ∙ ap (λ (ls : List (List ℕ)). record { lines = ls; rest = (cut more).rest }) (sym (append_assoc f.ran ((f.part ++ line) ∷ []) (cut more).lines));
        passes = Each-one (Passes group m) old mid new f.ran (f.part ++ line) f.out s.0 f.passes s.1;
        wrote = Appends-append written between written' f.out s.0 f.wrote s.2;
        stands = cleared;
      }

  -- the line is the last
  last_line : (Last : S → List ℕ → List ℕ → S → Type 0) (new : S) (o : List ℕ) → Last mid (f.part ++ line) o new → EndsAt group m Last old (cut bytes).lines (f.out ++ o) new
  last_line Last new o last = grind (arith, common_steps, cut, cuts-line)

  pub Fed-err : (new : S) (written' : Option (List ℕ)) (o : List ℕ) → AnswersLine m mid (f.part ++ line) o new → AppendsSome between written' o
      → FeedsSome group m old bytes new (record { before = written; after = written' })
  Fed-err new written' o step some =
      (f.out ++ o, last_line (AnswersLine m) new o step, some_then written between written' f.out o f.wrote some)

  pub Fed-stop : (new : S) (written' : Option (List ℕ)) (o : List ℕ) (piece : ℕ) → Stops group m mid (f.part ++ line) o new → Appends between written' o → length rest ≤ piece
      → FeedsToEnd group m old bytes piece new (record { before = written; after = written' })
  unfolding last_line
  Fed-stop new written' o piece step wrote within = (
    f.out ++ o,
    more,
    last_line (Stops group m) new o step,
    refl,
    sym (ap (λ (c : Cut). c.rest) cuts-line),
    omega (arith, within, ap length whole, length-append line (10 ∷ more)),
    Appends-append written between written' f.out o f.wrote wrote,
  )

pub Fed-end : {S : Type 0} {group : Group} {m : Machine S} {old : S} {bytes rest : List ℕ} {new : S} {written written' : Option (List ℕ)} {pending : Pending}
    → (f : Fed group m old bytes rest new written written' pending) → (cut rest).lines ≡ [] → (pending' : Pending)
    → ((part : List ℕ) → Stands pending part → Stands pending' (part ++ rest)) → FeedsAll group m old bytes new (record { before = written; after = written' }) pending'
Fed-end {group = group} {m = m} {old = old} {bytes = bytes} {rest = rest} {new = new} f free pending' added = grind (arith, common_steps, cut-both, cut, append-nil)

-- what follows a line is less
pub less_left : (rest line more : List ℕ) → rest ≡ line ++ 10 ∷ more → length more < length rest
less_left rest line more whole = omega (arith, ap length whole, length-append line (10 ∷ more))
