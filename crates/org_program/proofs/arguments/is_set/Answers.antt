use Rattle.std.proofs.Common.{◌∙◌, ap, ℕ, List, Bor, codes}
use Rattle.std.specs.Str.{bytes_eq}
use Rattle.org_program.proofs.Words.{first_given, read_or}
use Rattle.org_program.proofs.arguments.is_set.Goals as goal

pub returns : goal.returns
returns c = λ words rows.
    let first = first_given words c.args.matches.now rows in
    let read = ap (λ (r : Bor (List ℕ)). r.now) c.unwrap_or.ensures ∙ read_or (λ (r : Bor (List ℕ)). r.now) c.get_str.result _ _ (c.get_str.ensures ∙ first _) in
    c.eq.ensures ∙ ap (λ (w : List ℕ). bytes_eq w (codes "true")) read
