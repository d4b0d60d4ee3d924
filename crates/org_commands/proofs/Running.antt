-- The clock that runs over a store's files, found one file after another.
use Rattle.std.proofs.Common.{arith, ◌≡◌, ℕ, zero, ◌+◌, ◌<◌, suc, true, List, [], ◌∷◌, length, drop, slice_get, get_or, Option, Some, None, refl, sym, ◌∙◌, ap}
use Rattle.std.proofs.lemmas.Grind.{common_steps}
use Rattle.std.specs.Option.{option_map, option_or}
use Rattle.std.proofs.lemmas.List.{drop_more}
use Rattle.std.proofs.lemmas.Option.{slice_get-get_or}
use Rattle.org_disk.proofs.Names.{same_name}
use Rattle.org_splice.specs.Texts.{EditedText}
use Rattle.org_journal.specs.Recovered.{Image}
use Rattle.org_outline.specs.Tree.{tree}
use Rattle.org_outline.proofs.Trees.{tree-terminated}
use Rattle.org_texts.specs.Texts.{Holding, TextSet, bytes_or, held_over, text_of}
use Rattle.org_state.specs.declared.run.Running.{Running}
use Rattle.org_state.specs.Clock.{running_in}
use Rattle.org_commands.specs.Clocks.{RunsIn, running_over}
use Rattle.org_commands.specs.Files.{AreReady}
use Rattle.org_commands.specs.InOrder.{is_name, text_at, texts_of}
use Rattle.org_commands.proofs.InOrder.{some_at}
use Rattle.org_commands.proofs.Plans.{one_name, ready_text}

-- ---- one file

-- the clock of a text that is ready is that of the text as it was
pub runs_ready : (held : Holding) (set : TextSet) (file : List ℕ) (seen : EditedText) → AreReady (file ∷ []) held → text_of held.now file ≡ Some seen → set ≡ held.before → RunsIn set file (running_in (tree seen.bytes))
runs_ready held set file seen ready at same = grind (arith, common_steps, ready_text, one_name, tree-terminated)

-- .. and that of the file
pub runs_over : (set : TextSet) (files : Image) (name : List ℕ) (found : Option Running) → RunsIn set name found → running_in (tree (held_over set files name)) ≡ found
runs_over set files name found runs = ap (λ (o : Option EditedText). running_in (tree (bytes_or (files name) o))) runs.1 ∙ runs.2

-- ---- one file after another

-- the name at a place
pub named_at : (names : List (List ℕ)) (i : ℕ) (name : List ℕ) → slice_get names i ≡ Some name → is_name names name ≡ true
named_at [] i name is = absurd (cc)
named_at (one ∷ names) zero name is = let same : one ≡ name = cc in let t = same_name name in rw (same, t) refl
named_at (one ∷ names) (suc i) name is = grind (arith, common_steps, named_at names i name is)

-- files that have the same texts
same_there : (files other : Image) (names : List (List ℕ)) (name : List ℕ) → is_name names name ≡ true → texts_of files names ≡ texts_of other names → files name ≡ other name
same_there files other names name there same =
    let one : Some (files name) ≡ Some (other name) = sym (some_at files names name there) ∙ ap (λ (texts : List (List ℕ)). text_at names texts name) same ∙ some_at other names name there in
    cc

-- the first clock of the files from one on
abbrev pub first_from : Image → List (List ℕ) → ℕ → Option (List ℕ × Running)
first_from files names i = running_over (drop i names) (texts_of files (drop i names))

step : (files : Image) (names : List (List ℕ)) (i : ℕ) (name : List ℕ) → i < length names → slice_get names i ≡ Some name
    → first_from files names i ≡ option_or (option_map (λ running. (name, running)) (running_in (tree (files name)))) (first_from files names (i + 1))
step files names i name within is =
    let got : slice_get names i ≡ Some (get_or names i name) = slice_get-get_or names i name within in
    let here : get_or names i name ≡ name = cc in
    ap (λ (ns : List (List ℕ)). running_over ns (texts_of files ns)) (drop_more names i name within ∙ ap (λ (n : List ℕ). n ∷ drop (i + 1) names) here)

-- no clock runs in this file
pub runs_later : (files other : Image) (names : List (List ℕ)) (i : ℕ) (name : List ℕ) → i < length names → slice_get names i ≡ Some name → texts_of other names ≡ texts_of files names
    → running_in (tree (other name)) ≡ None → first_from files names i ≡ first_from files names (i + 1)
runs_later files other names i name within is same none =
    let here : running_in (tree (files name)) ≡ None = ap (λ (b : List ℕ). running_in (tree b)) (sym (same_there other files names name (named_at names i name is) same)) ∙ none in
    step files names i name within is ∙ ap (λ o. option_or (option_map (λ running. (name, running)) o) (first_from files names (i + 1))) here

-- the clock runs in this file
pub runs_here : (files other : Image) (names : List (List ℕ)) (i : ℕ) (name : List ℕ) (running : Running) → i < length names → slice_get names i ≡ Some name → texts_of other names ≡ texts_of files names
    → running_in (tree (other name)) ≡ Some running → first_from files names i ≡ Some (name, running)
runs_here files other names i name running within is same found =
    let here : running_in (tree (files name)) ≡ Some running = ap (λ (b : List ℕ). running_in (tree b)) (sym (same_there other files names name (named_at names i name is) same)) ∙ found in
    step files names i name within is ∙ ap (λ o. option_or (option_map (λ running. (name, running)) o) (first_from files names (i + 1))) here
