use Rattle.std.proofs.Common.{◌≡◌, ℕ, List, ◌∷◌, ◌++◌, codes, subst, rules}
use Rattle.std.specs.Fmt.{decimal}
use Rattle.org_fault.specs.Refusals.{code_of, name_of}
use Rattle.org_serve.specs.Writes.{Writes}
use Rattle.org_serve.proofs.Pieces.{number_then}
use Rattle.org_serve.proofs.replies.write_refusal.Goals as goal

pub returns : goal.returns
returns g c =
    let code = decimal (code_of c.args.why) in
    let wrote = λ (text : List ℕ). Writes g.W.Sink c.args.writer.now c.write_pieces.new.writer c.write_pieces.result text in
    let digits : c.as_bytes-code.result.now ≡ code = search rules in
    let name : c.as_bytes.result.now ≡ name_of c.args.why = search rules in
    subst wrote (number_then (codes "refused ") code 32 (name_of c.args.why) (codes "\n"))
    (subst (λ (n : List ℕ). wrote (codes "refused " ++ (code ++ (32 ∷ (n ++ codes "\n"))))) name
    (subst (λ (d : List ℕ). wrote (codes "refused " ++ (d ++ (32 ∷ (c.as_bytes.result.now ++ codes "\n"))))) digits c.write_pieces.ensures))
