-- The units of one file more.
use Rattle.std.proofs.Common.{◌≡◌, ℕ, zero, suc, ◌+◌, ◌<◌, List, [], ◌∷◌, ◌++◌, length, take, get_or, sym, ap, ◌∙◌, arith, length-append, append_assoc}
use Rattle.std.specs.Prelude.{map, None}
use Rattle.std.specs.List.{range_with_len}
use Rattle.std.proofs.lemmas.List.{append-nil}
use Rattle.std.proofs.lemmas.List.FromFn.{length-map-range_with_len, map-range_with_len_more}
use Rattle.org_splice.specs.Lines.{print_lines}
use Rattle.org_outline.specs.Tree.{tree, node_count}
use Rattle.org_account.specs.Units.{File, Unit, units_at, units_from, entry_unit, file_unit}

long : (at : ℕ) (file : File) → length (units_at at file) ≡ suc (node_count (tree file.text))
long at file = ap suc (length-map-range_with_len (entry_unit at (tree file.text)) 0 (node_count (tree file.text)))

pub one_more : (at k : ℕ) (files : List File) (d : File) → k < length files
    → units_from at (take (suc k) files) ≡ units_from at (take k files) ++ units_at (at + length (units_from at (take k files))) (get_or files k d)
one_more at k [] d lt = absurd (omega arith)
one_more at zero (f ∷ fs) d lt = append-nil (units_at at f) ∙ ap (λ n. units_at n f) (omega arith)
one_more at (suc k) (f ∷ fs) d lt =
    let next : ℕ = at + suc (node_count (tree f.text)) in
    let more = units_from next (take k fs) in
    let same : next + length more ≡ at + length (units_at at f ++ more) = omega (arith, length-append (units_at at f) more, long at f) in
    ap (λ us. units_at at f ++ us) (one_more next k fs d (omega arith))
    ∙ sym (append_assoc (units_at at f) more (units_at (next + length more) (get_or fs k d)))
    ∙ ap (λ n. (units_at at f ++ more) ++ units_at n (get_or fs k d)) same

-- the same as the code makes it
pub file_more : (k : ℕ) (files : List File) (file : File) (at : ℕ) (line section text : List ℕ) (old pushed new : List Unit) → k < length files → file ≡ get_or files k file
    → old ≡ units_from 0 (take k files) → at ≡ length old → line ≡ file.name → text ≡ file.text → section ≡ print_lines (tree text).preamble
    → pushed ≡ old ++ record { above = None; step = 0; line = line; section = section } ∷ []
    → new ≡ pushed ++ map (entry_unit at (tree text)) (range_with_len 0 (node_count (tree text)))
    → new ≡ units_from 0 (take (k + 1) files)
file_more k files file at line section text old pushed new lt is e long_e named same held one made =
    let here : 0 + length (units_from 0 (take k files)) ≡ at = omega (arith, long_e, ap length e) in
    let more : List ℕ → List Unit = λ t. map (entry_unit at (tree t)) (range_with_len 0 (node_count (tree t))) in
    let unit : Unit = record { above = None; step = 0; line = line; section = section } in
    let own : unit ≡ file_unit file = ap (λ (l : List ℕ). let u : Unit = record { above = None; step = 0; line = l; section = section } in u) named
    ∙ ap (λ (s : List ℕ). let u : Unit = record { above = None; step = 0; line = file.name; section = s } in u) (held ∙ ap (λ t. print_lines (tree t).preamble) same) in
    let next : suc k ≡ k + 1 = omega arith in
    made ∙ ap (λ us. us ++ more text) one
    ∙ append_assoc old (unit ∷ []) (more text)
    ∙ ap (λ (u : Unit). old ++ (u ∷ more text)) own
    ∙ ap (λ (t : List ℕ). old ++ (file_unit file ∷ more t)) same
    ∙ ap (λ us. us ++ units_at at file) e
    ∙ ap (λ n. units_from 0 (take k files) ++ units_at n file) (sym here)
    ∙ ap (λ (f : File). units_from 0 (take k files) ++ units_at (0 + length (units_from 0 (take k files))) f) is
    ∙ sym (one_more 0 k files file lt)
    ∙ ap (λ n. units_from 0 (take n files)) next

-- one entry more
pub entry_more : (f : ℕ → Unit) (base old new : List Unit) (i j : ℕ) (x : Unit) → new ≡ old ++ x ∷ [] → old ≡ base ++ map f (range_with_len 0 i) → x ≡ f j → j ≡ i
    → new ≡ base ++ map f (range_with_len 0 (i + 1))
entry_more f base old new i j x made was is at =
    made ∙ ap (λ us. us ++ x ∷ []) was
    ∙ append_assoc base (map f (range_with_len 0 i)) (x ∷ [])
    ∙ ap (λ (u : Unit). base ++ (map f (range_with_len 0 i) ++ u ∷ [])) (is ∙ ap f at)
    ∙ ap (λ us. base ++ us) (sym (map-range_with_len_more f 0 i i (omega arith)))
