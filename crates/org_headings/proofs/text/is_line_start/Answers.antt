use Rattle.std.proofs.Common.{◌≡◌, ◌+◌, ◌-◌, ◌∷◌, [], take, get_or, true, arith, sym, ap, ◌∙◌}
use Rattle.std.proofs.lemmas.List.{take_more}
use Rattle.org_headings.specs.Headings.{ends_line}
use Rattle.org_headings.proofs.HeadsFrom.{ends_line-append}
use Rattle.org_headings.proofs.text.is_line_start.Goals as goal

pub returns-else-at-eq0 : goal.returns-else-at-eq0
returns-else-at-eq0 c =
    let text = c.args.text.now in
    let k = c.args.at - 1 in
    let next : k + 1 ≡ c.args.at = omega arith in
    sym (ends_line-append true (take k text) (get_or text k 0 ∷ [])) ∙ ap (ends_line true) (sym (take_more text k 0 (omega arith))) ∙ ap (λ k. ends_line true (take k text)) next
