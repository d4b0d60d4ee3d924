-- Files whose entries are on the device, where they are said to be.
use Rattle.std.proofs.Common.{◌≡◌, ◌∙◌, sym, subst, ℕ, Bool, true, false, List, ◌∷◌, take, drop, if◌then◌else◌, IsTrue, IsFalse}
use Rattle.std.specs.List.{insert}
use Rattle.std.proofs.lemmas.Bool.{true≢false}
use Rattle.std.proofs.lemmas.List.Elements.{All-append, All-cons, All-drop, All-take}
use Rattle.org_folder.specs.Calls.{Event, HasEntered}
use Rattle.org_folder.specs.Right.{AreEntered}
use Rattle.org_folder.specs.declared.system.Opened.{Opened}

-- one more of which it isn't said
pub kept_in : {F : Type 0} (calls : List Event) (files new : List (Opened F)) (place : ℕ) (opened : Opened F) (ok : Bool) → IsFalse opened.is_entered
    → new ≡ (if ok then insert files place opened else files) → AreEntered calls files → AreEntered calls new
kept_in {F} calls files new place opened true closed is are =
    let P : Opened F → Type 0 = λ (opened : Opened F). IsTrue opened.is_entered → HasEntered opened.name calls in
    subst (AreEntered calls) (sym is) (All-append P (take place files) (opened ∷ drop place files) (All-take P place files are)
    (All-cons P opened (drop place files) (λ said. absurd (true≢false (sym said ∙ closed))) (All-drop P place files are)))
kept_in {F} calls files new place opened false closed is are = subst (AreEntered calls) (sym is) are
