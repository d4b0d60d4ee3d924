use Rattle.std.proofs.Common.{◌≡◌, List, ℕ, [], ◌∷◌, ◌++◌, codes, refl, sym, ap, ◌∙◌, append_assoc}
use Rattle.org_meta.specs.Moments.{moment_text}
use Rattle.org_meta.proofs.Logs.{opened_gives, new_log_gives, log_below}
use Rattle.org_meta.proofs.Puts.{rest_below}
use Rattle.org_meta.proofs.clocking.open_clock.Goals as goal

pub overflow_sub-result : goal.overflow_sub-result
overflow_sub-result c = rest_below c.args.section.bytes.now c.sections.result c.args.section.whole c.sections.ensures

pub overflow_sub-result-2 : goal.overflow_sub-result-2
overflow_sub-result-2 c = log_below c.args.section.bytes.now c.sections.result _ _ c.args.section.whole c.sections.ensures c.in-Some.ensures.some

new_log : (m : List ℕ) → codes ":LOGBOOK:\nCLOCK: " ++ (m ++ codes "\n:END:\n") ≡ codes ":LOGBOOK:\n" ++ ((codes "CLOCK: " ++ m) ++ 10 ∷ []) ++ codes ":END:\n"
new_log m = ap (λ (t : List ℕ). codes ":LOGBOOK:\nCLOCK: " ++ t) (sym (append_assoc m (10 ∷ []) (codes ":END:\n")))

pub returns-in_default : goal.returns-in_default
returns-in_default c =
    new_log_gives _ c.args.section.bytes.now c.args.now c.sections.result c.args.section.whole c.sections.ensures c.in_default.ensures.none refl refl (c.new.ensures ∙ c.in_ok-moment_bytes.ensures ∙ new_log (moment_text c.args.now))

pub returns : goal.returns
returns c = opened_gives _ c.args.section.bytes.now c.args.now c.sections.result _ c.args.section.whole c.sections.ensures c.in-Some.ensures.some refl refl (c.new-2.ensures ∙ c.in_ok-moment_bytes-2.ensures)
