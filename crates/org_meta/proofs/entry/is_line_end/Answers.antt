use Rattle.std.proofs.Common.{ℕ, List, length, ap, ◌∙◌}
use Rattle.std.specs.Prelude.{◌==◌}
use Rattle.org_meta.proofs.Trims.{trimmed_empty}
use Rattle.org_meta.proofs.entry.is_line_end.Goals as goal

pub returns : goal.returns
returns c = c.is_empty.ensures ∙ ap (λ (t : List ℕ). length t == 0) c.trimmed_end.ensures ∙ trimmed_empty c.args.text.now
