-- Bytes written in pieces, one after another.
use Rattle.std.proofs.Common.{◌≡◌, ℕ, ◌+◌, ◌<◌, List, [], ◌∷◌, ◌++◌, Option, length, take, drop, get_or, append_assoc, sym, ap, ◌∙◌, subst, ◌≤◌}
use Rattle.std.specs.Borrow.{Bor}
use Rattle.std.specs.Io.KnownBytes.{Appends}
use Rattle.std.specs.List.{flat_map}
use Rattle.std.proofs.lemmas.List.{take_more, take-append-drop, flat_map_more, take_all}
use Rattle.std.proofs.lemmas.List.Concat.{flat_map-append}
use Rattle.org_serve.specs.Pipes.{AppendsSome}
use Rattle.org_serve.proofs.Joins.{some_first, some_then, Appends-append}

-- the bytes of all pieces
abbrev pub bytes_of : List (Bor (List ℕ)) → List ℕ
bytes_of pieces = flat_map (λ piece. piece.now) pieces

one_more : (pieces : List (Bor (List ℕ))) (k : ℕ) (d : Bor (List ℕ)) → k < length pieces → bytes_of (take (k + 1) pieces) ≡ bytes_of (take k pieces) ++ (get_or pieces k d).now
one_more pieces k d lt = ap bytes_of (take_more pieces k d lt) ∙ sym (flat_map_more (λ piece. piece.now) [] (take k pieces) (get_or pieces k d))

pub wrote_more : (old now new : Option (List ℕ)) (pieces : List (Bor (List ℕ))) (k : ℕ) (d : Bor (List ℕ)) → k < length pieces
    → Appends old now (bytes_of (take k pieces)) → Appends now new (get_or pieces k d).now → Appends old new (bytes_of (take (k + 1) pieces))
wrote_more old now new pieces k d lt before wrote =
    subst (Appends old new) (sym (one_more pieces k d lt)) (Appends-append old now new (bytes_of (take k pieces)) (get_or pieces k d).now before wrote)

pub wrote_all : (old new : Option (List ℕ)) (pieces : List (Bor (List ℕ))) (k : ℕ) → length pieces ≤ k → Appends old new (bytes_of (take k pieces)) → Appends old new (bytes_of pieces)
wrote_all old new pieces k le wrote = subst (λ (some : List (Bor (List ℕ))). Appends old new (bytes_of some)) (take_all k pieces le) wrote

-- within a piece
pub wrote_some : (old now new : Option (List ℕ)) (pieces : List (Bor (List ℕ))) (k : ℕ) (d : Bor (List ℕ)) → k < length pieces
    → Appends old now (bytes_of (take k pieces)) → AppendsSome now new (get_or pieces k d).now → AppendsSome old new (bytes_of pieces)
wrote_some old now new pieces k d lt before some =
    let first : AppendsSome old new (bytes_of (take (k + 1) pieces)) =
    subst (AppendsSome old new) (sym (one_more pieces k d lt)) (some_then old now new (bytes_of (take k pieces)) (get_or pieces k d).now before some) in
    let all : bytes_of (take (k + 1) pieces) ++ bytes_of (drop (k + 1) pieces) ≡ bytes_of pieces =
    sym (flat_map-append (λ (piece : Bor (List ℕ)). piece.now) (take (k + 1) pieces) (drop (k + 1) pieces)) ∙ ap bytes_of (take-append-drop (k + 1) pieces) in
    subst (AppendsSome old new) all (some_first old new (bytes_of (take (k + 1) pieces)) (bytes_of (drop (k + 1) pieces)) first)

-- a number, a byte, and what stands after it
pub number_then : (word digits : List ℕ) (b : ℕ) (text end : List ℕ) → word ++ (digits ++ (b ∷ (text ++ end))) ≡ word ++ digits ++ (b ∷ []) ++ text ++ end
number_then word digits b text end =
    sym (append_assoc word digits (b ∷ (text ++ end))) ∙ sym (append_assoc (word ++ digits) (b ∷ []) (text ++ end)) ∙ sym (append_assoc (word ++ digits ++ (b ∷ [])) text end)
