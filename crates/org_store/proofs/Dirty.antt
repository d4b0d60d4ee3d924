-- Which files of a store are dirty.
use Rattle.std.proofs.Common.{◌≡◌, inl, inr, true, ℕ, arith, List, [], ◌∷◌, ◌++◌, Result, Ok, Err, refl, sym, ap, ◌∙◌, map}
use Rattle.std.proofs.lemmas.Grind.{common_steps}
use Rattle.std.specs.Str.{bytes_eq}
use Rattle.std.proofs.lemmas.Bool.{cases_Bool, false≢true}
use Rattle.org_disk.proofs.Names.{same_name}
use Rattle.org_fileset.specs.Writes.{IsOther}
use Rattle.org_texts.specs.declared.plan.Plan.{Plan}
use Rattle.org_texts.specs.Plan.{planned}
use Rattle.org_texts.specs.Texts.{Holding, TextSet}
use Rattle.org_commands.specs.declared.command.Reply.{Reply}
use Rattle.org_commands.specs.declared.command.Reply.TheVariants.{Done, Safe, Text, Time}
use Rattle.org_commands.specs.declared.command.RunFault.{RunFault}
use Rattle.org_commands.specs.Files.{AreTouched, files_of, texts_in}
use Rattle.org_commands.specs.Outcome.{Outcome}
use Rattle.org_commands.specs.Questions.{IsUncounted}
use Rattle.org_commands.specs.Session.{StoreView}
use Rattle.org_store.specs.Dirty.{Dirties, DirtyAfter, is_listed}
use Rattle.org_commands.proofs.Held.{named_any, plan_other}

any_front : (dirty more : List (List ℕ)) (name : List ℕ) → is_listed dirty name ≡ true → is_listed (dirty ++ more) name ≡ true
any_front [] more name there = absurd (false≢true there)
any_front (one ∷ dirty) more name there = elim (cases_Bool (bytes_eq name one)) [ inl t ↦ rw t refl | inr f ↦ rw f (any_front dirty more name (rw f at there)) ]

any_back : (dirty more : List (List ℕ)) (name : List ℕ) → is_listed more name ≡ true → is_listed (dirty ++ more) name ≡ true
any_back [] more name there = there
any_back (one ∷ dirty) more name there = elim (cases_Bool (bytes_eq name one)) [ inl t ↦ rw t refl | inr f ↦ rw f (any_back dirty more name there) ]

-- none is dirty, whatever was changed
pub dirties_none : (old names : List (List ℕ)) → Dirties old names []
dirties_none old names name there = absurd (false≢true there)

-- those of before are dirty
pub dirties_same : (old names : List (List ℕ)) → Dirties old names old
dirties_same old names name there = any_front old names name there

pub names_in : (set : TextSet) (names : List (List ℕ)) → map (λ change. change.0) (texts_in set names) ≡ names
names_in set [] = refl
names_in set (name ∷ names) = ap (λ ns. name ∷ ns) (names_in set names)

-- a plan's files join those that were dirty before the command
pub dirties_planned : (plan : Plan) (held : Holding) → AreTouched (files_of plan) held → Dirties held.before.dirty (files_of plan) (planned plan held.now).dirty
dirties_planned plan held touched name there = grind (arith, common_steps, cases_Bool, any_back, named_any, any_front, plan_other)

-- what none of them is, no file is that is dirty now
pub other_joined : (old names now : List (List ℕ)) → Dirties old names now → (name : List ℕ) → IsOther (old ++ names) name → IsOther now name
other_joined old names [] dirties name other = tt
other_joined old names (first ∷ now) dirties name other = go (old ++ names) refl other
  where
    dirty_too : is_listed (first ∷ now) first ≡ true
    dirty_too = let t = same_name first in rw t refl

    go : (all : List (List ℕ)) → old ++ names ≡ all → IsOther all name → IsOther (first ∷ now) name
    go [] is outside = absurd (false≢true (ap (λ ns. is_listed ns first) (sym is) ∙ dirties first dirty_too))
    go (one ∷ all) is outside = grind (arith, common_steps)

-- a call that counts nothing, and makes no file dirty
pub dirty_stays : {D : Type 0} (old new : StoreView D) (outcome : Outcome) (answer : Result Reply RunFault) → IsUncounted answer → new.dirty ≡ old.dirty → DirtyAfter old outcome answer new
dirty_stays old new outcome (Ok (Done n)) uncounted same = absurd uncounted
dirty_stays old new outcome (Ok (Safe n)) uncounted same = absurd uncounted
dirty_stays old new outcome (Ok (Text bytes)) uncounted same = same
dirty_stays old new outcome (Ok (Time minutes)) uncounted same = same
dirty_stays old new outcome (Err fault) uncounted same = same

-- a call after one that changed no text, and made no file dirty
pub dirty_from : {D : Type 0} (old mid new : StoreView D) (outcome : Outcome) (answer : Result Reply RunFault) → mid.session ≡ old.session → mid.dirty ≡ old.dirty → DirtyAfter mid outcome answer new
    → DirtyAfter old outcome answer new
dirty_from old mid new outcome (Ok (Done n)) session dirty after = rw (session, dirty) at after
dirty_from old mid new outcome (Ok (Safe n)) session dirty after = after
dirty_from old mid new outcome (Ok (Text bytes)) session dirty after = after ∙ dirty
dirty_from old mid new outcome (Ok (Time minutes)) session dirty after = after ∙ dirty
dirty_from old mid new outcome (Err fault) session dirty after = after ∙ dirty
