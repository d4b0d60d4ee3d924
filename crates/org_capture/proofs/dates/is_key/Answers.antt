use Rattle.std.proofs.Common.{◌≡◌, ◌∙◌, ℕ, ◌+◌, ◌<◌, List, length, get_or, drop, ◌&&◌, ◌||◌, ◌==◌, if◌then◌else◌, rules}
use Rattle.std.proofs.lemmas.List.{at_drop_more}
use Rattle.std.specs.Char.{is_ascii_digit}
use Rattle.org_capture.specs.Dates.{is_key_from}
use Rattle.org_capture.proofs.dates.is_key.Goals as goal

key_at : (bytes : List ℕ) (i : ℕ) → i < length bytes
    → is_key_from i (drop i bytes) ≡ ((if i == 4 || i == 7 then get_or bytes i 0 == 45 else is_ascii_digit (get_or bytes i 0)) && is_key_from (i + 1) (drop (i + 1) bytes))
key_at bytes i within = at_drop_more (is_key_from i) bytes i 0 within

pub returns-then-not-fits : goal.returns-then-not-fits
returns-then-not-fits c =
    let now = c.loop-index.invariant ∙ key_at c.args.bytes.now c.loop-index.index c.loop-index-test.true in
    search rules

pub loop-index-preserved : goal.loop-index-preserved
loop-index-preserved c =
    let now = c.loop-index.invariant ∙ key_at c.args.bytes.now c.loop-index.index c.loop-index-test.true in
    search rules
