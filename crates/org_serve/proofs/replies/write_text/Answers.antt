use Rattle.std.proofs.Common.{◌≡◌, ℕ, List, ◌∷◌, ◌++◌, length, codes, subst, rules}
use Rattle.std.specs.Fmt.{decimal}
use Rattle.org_serve.specs.Writes.{Writes}
use Rattle.org_serve.proofs.Pieces.{number_then}
use Rattle.org_serve.proofs.replies.write_text.Goals as goal

pub returns : goal.returns
returns g c =
    let bytes = c.args.bytes.now in
    let wrote = λ (text : List ℕ). Writes g.W.Sink c.args.writer.now c.write_pieces.new.writer c.write_pieces.result text in
    let digits : c.as_bytes.result.now ≡ decimal (length bytes) = search rules in
    subst wrote (number_then (codes "text ") (decimal (length bytes)) 10 bytes (codes "\n"))
    (subst (λ (d : List ℕ). wrote (codes "text " ++ (d ++ (10 ∷ (bytes ++ codes "\n"))))) digits c.write_pieces.ensures)
