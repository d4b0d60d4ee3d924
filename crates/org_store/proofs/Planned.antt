-- The texts that a plan makes, in the order of a store's names.
use Rattle.std.proofs.Common.{arith, ◌≡◌, ◌≢◌, inl, inr, ℕ, true, false, List, [], ◌∷◌, Option, Some, None, refl, sym, ◌∙◌, ap, if◌then◌else◌}
use Rattle.std.proofs.lemmas.Grind.{common_steps}
use Rattle.std.specs.Str.{bytes_eq}
use Rattle.std.proofs.lemmas.Bool.{false≢true}
use Rattle.org_disk.proofs.Names.{name_cases, same_name}
use Rattle.std.specs.Option.{IsSome}
use Rattle.org_splice.specs.Texts.{EditedText}
use Rattle.org_journal.specs.Recovered.{Image}
use Rattle.org_texts.specs.declared.plan.Plan.{Plan}
use Rattle.org_texts.specs.Plan.{IsPlan, planned}
use Rattle.org_texts.specs.Texts.{Holding, TextSet, bytes_or, held_over, text_of}
use Rattle.org_outline.specs.States.{Keywords}
use Rattle.org_commands.specs.declared.tally.Tally.{Tally}
use Rattle.org_commands.specs.Files.{AreTouched, IsPlanFor, OpenFiles, files_of, has_large, new_texts, texts_in}
use Rattle.org_commands.specs.InOrder.{is_name, texts_of, with_all}
use Rattle.org_commands.specs.Outcome.{changed, counted}
use Rattle.org_commands.specs.Session.{session_over}
use Rattle.org_commands.proofs.Held.{plan_held, plan_other}
use Rattle.org_commands.proofs.InOrder.{texts_same, texts_with}
use Rattle.org_store.proofs.Keeping.{counts_small}
use Rattle.org_store.proofs.Dirty.{names_in}

-- one file with a text of a set
abbrev with_one : TextSet → List ℕ → Image → Image
with_one set one files name = if bytes_eq one name then bytes_or [] (text_of set one) else files name

-- files that have the texts of a set for these names, and are as they were else
texts_put : (set : TextSet) (changed names : List (List ℕ)) (old new : Image) → ((name : List ℕ) → is_name changed name ≡ true → new name ≡ bytes_or [] (text_of set name))
    → ((name : List ℕ) → is_name changed name ≡ false → new name ≡ old name) → texts_of new names ≡ with_all names (texts_of old names) (texts_in set changed)
texts_put set [] names old new here others = texts_same new old names (λ name there. others name refl)
texts_put set (one ∷ changed) names old new here others =
    let mid = with_one set one old in
    let own : mid one ≡ bytes_or [] (text_of set one) = let t = same_name one in rw t refl in
    let rest : (other : List ℕ) → other ≢ one → mid other ≡ old other = λ other apart. elim (name_cases one other) [ inl is ↦ absurd (apart (sym is.0)) | inr not ↦ let f = not.1 in rw f refl ] in
    texts_put set changed names mid new (λ name there. here name (one_more name there)) (λ name out. outside name out)
    ∙ ap (λ texts. with_all names texts (texts_in set changed)) (texts_with old mid names one (bytes_or [] (text_of set one)) own rest)
  where
    one_more : (name : List ℕ) → is_name changed name ≡ true → is_name (one ∷ changed) name ≡ true
    one_more name there = elim (name_cases one name) [ inl is ↦ let t = is.1 in rw t refl | inr not ↦ let f = not.1 in rw f there ]

    outside : (name : List ℕ) → is_name changed name ≡ false → new name ≡ with_one set one old name
    outside name out = grind (arith, common_steps, name_cases, changed)

bytes_some : (bytes : List ℕ) (o : Option EditedText) → IsSome o → bytes_or bytes o ≡ bytes_or [] o
bytes_some bytes None some = absurd (false≢true some)
bytes_some bytes (Some text) some = refl

pub planned_texts : (plan : Plan) (held : Holding) (files : Image) (names : List (List ℕ)) → IsPlan plan held.now → AreTouched (files_of plan) held
    → texts_of (held_over (planned plan held.now) files) names ≡ with_all names (texts_of (held_over held.before files) names) (new_texts plan held.now)
planned_texts plan held files names is touched =
    texts_put (planned plan held.now) (files_of plan) names (held_over held.before files) (held_over (planned plan held.now) files)
    (λ name there. bytes_some (files name) (text_of (planned plan held.now) name) (plan_held plan held.now is name there))
    (λ name out. ap (bytes_or (files name)) ((plan_other plan held.now name out).0 ∙ touched.others name out))

-- a plan that is put counts with its texts
pub counted_texts : {D : Type 0} (texts : D → Image) (states : Keywords) (old mid : OpenFiles D) (tally : Tally) (plan : Plan) → mid.disk ≡ old.disk → mid.names ≡ old.names → mid.held.now ≡ planned plan old.held.now
    → IsPlanFor old.names old.held plan → has_large (new_texts plan old.held.now) ≡ false
    → changed (session_over texts states old tally) (new_texts plan old.held.now) ≡ counted (session_over texts states old tally) (files_of plan) (texts_of (held_over mid.held.now (texts mid.disk)) mid.names)
counted_texts texts states old mid tally plan disk names now is small = grind (arith, common_steps, counts_small, names_in, planned, planned_texts)
