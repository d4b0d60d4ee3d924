-- A clock line read part by part.
use Rattle.std.proofs.Common.{◌≡◌, ℕ, ◌+◌, ◌-◌, ◌≤◌, Option, Some, List, length, drop, codes, ap, arith, None, ◌∙◌, rules}
use Rattle.std.proofs.lemmas.Grind.{common_steps}
use Rattle.std.specs.List.{prefix_len, suffix_len}
use Rattle.std.proofs.lemmas.List.{length-drop, length-take}
use Rattle.org_splice.specs.Blanks.{is_blank, behind, trimmed_end, is_trailing}
use Rattle.org_stamp.specs.Calendar.{Moment}
use Rattle.org_stamp.specs.Parts.{◌>>=◌}
use Rattle.org_meta.specs.declared.clock.Clock.{Clock}
use Rattle.org_meta.specs.Clocks.{behind_mark, behind_some, clock_stamp_at, clock_from, clock_of, head_of}
use Rattle.std.specs.Prelude.{IfSome}

-- what is read from the mark on, from the stamp on, and after the stamp
abbrev behind_stamp : List ℕ → List ℕ → Moment × ℕ → Option Clock
behind_stamp body text start = clock_from start.0 (length body - length text + start.1) (drop start.1 text)

abbrev from_stamp : List ℕ → List ℕ → Option Clock
from_stamp body text = clock_stamp_at text >>= behind_stamp body text

abbrev behind_word : List ℕ → List ℕ → Option Clock
behind_word body after = behind_some is_blank after >>= from_stamp body

marked : (line body front : List ℕ) (o : Option (List ℕ)) → body ≡ trimmed_end line → front ≡ behind is_blank body → o ≡ behind_mark (codes "CLOCK:") front
    → (o >>= behind_word body) ≡ clock_of line
marked line body front o body_is front_is is = grind (arith, common_steps)

pub clock_unmarked : (line body front : List ℕ) → body ≡ trimmed_end line → front ≡ behind is_blank body → None ≡ behind_mark (codes "CLOCK:") front → None ≡ clock_of line
clock_unmarked line body front body_is front_is none = marked line body front None body_is front_is none

pub clock_joined : (line body front after : List ℕ) → body ≡ trimmed_end line → front ≡ behind is_blank body → Some after ≡ behind_mark (codes "CLOCK:") front → None ≡ behind_some is_blank after → None ≡ clock_of line
clock_joined line body front after body_is front_is some none =
    ap (λ (o : Option (List ℕ)). o >>= from_stamp body) none ∙ marked line body front (Some after) body_is front_is some

stamped : (line body front after text : List ℕ) (o : Option (Moment × ℕ)) → body ≡ trimmed_end line → front ≡ behind is_blank body → Some after ≡ behind_mark (codes "CLOCK:") front → Some text ≡ behind_some is_blank after → o ≡ clock_stamp_at text
    → (o >>= behind_stamp body text) ≡ clock_of line
stamped line body front after text o body_is front_is some blank is = grind (arith, common_steps)

pub clock_unstamped : (line body front after text : List ℕ) → body ≡ trimmed_end line → front ≡ behind is_blank body → Some after ≡ behind_mark (codes "CLOCK:") front → Some text ≡ behind_some is_blank after → None ≡ clock_stamp_at text → None ≡ clock_of line
clock_unstamped line body front after text body_is front_is some blank none = stamped line body front after text None body_is front_is some blank none

pub clock_read : (line body front after text behind_it : List ℕ) (start : Moment) (size : ℕ) (found : Option Clock) → body ≡ trimmed_end line → front ≡ behind is_blank body → Some after ≡ behind_mark (codes "CLOCK:") front
    → Some text ≡ behind_some is_blank after → Some (start, size) ≡ clock_stamp_at text → behind_it ≡ drop size text → found ≡ clock_from start (length body - length text + size) behind_it → found ≡ clock_of line
clock_read line body front after text behind_it start size found body_is front_is some blank stamp rest is = grind (arith, common_steps)

pub head_within : (found : Option Clock) (m n : ℕ) → m ≤ n → IfSome found (λ clock. head_of clock ≤ m) → IfSome found (λ clock. head_of clock ≤ n)
head_within None m n le within = search rules
head_within (Some clock) m n le within = omega (arith, within)

-- the text after the mark and blanks is a part of the line, and so is its stamp
pub text_within : (body front : List ℕ) (after text : ℕ) → front ≡ behind is_blank body → after ≤ length front → text ≤ after → text ≤ length body
text_within body front after text front_is a b = omega (arith, ap length front_is, length-drop (prefix_len is_blank body) body)

pub head_fits : (line body : List ℕ) (text size : ℕ) → body ≡ trimmed_end line → text ≤ length body → size ≤ text → length body - text + size ≤ length line
head_fits line body text size body_is a b = omega (arith, ap length body_is, length-take (length line - suffix_len is_trailing line) line)
