-- A text that is held in memory, as callers see it.
use Rattle.std.specs.Prelude.{◌≡◌, Bool, Option, Some, None, List, ℕ}
use Rattle.org_splice.specs.Texts.{EditedText}
use Rattle.org_headings.specs.Headings.{headings_of}
use Rattle.org_headings.specs.declared.heads.Heading.{Heading}

-- A text as it is, and as it was before the command that runs; and whether it is terminated, and
-- its headings are held.
pub record HeldText : Type 0 where
  pub text : EditedText
  pub before : EditedText
  pub ready : Bool

-- the headings that are held with a text, if any, are the text's
abbrev pub AreHeadsOf : List ℕ → Option (List Heading) → Type 0
AreHeadsOf text None = Unit {0}
AreHeadsOf text (Some heads) = heads ≡ headings_of text
