-- What an edit of a text's parts makes of its versions.
use Rattle.std.proofs.Common.{◌≡◌, ap, ◌∙◌}
use Rattle.org_splice.specs.Texts.{EditedText}
use Rattle.org_splice.specs.Versions.{Versions}

abbrev pub versions : EditedText → EditedText → Versions
versions text before = record { text = text; before = before }

-- both stay
pub as_before : (text new before after : EditedText) (old : Versions) → versions text before ≡ old → new ≡ text → after ≡ before → versions new after ≡ old
as_before text new before after old seen made same = ap (λ (t : EditedText). versions t after) made ∙ ap (versions text) same ∙ seen
