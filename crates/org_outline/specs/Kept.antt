-- The headings that an outline owns or borrows.
use Rattle.std.specs.Prelude.{List}
use Rattle.org_headings.specs.declared.heads.Heading.{Heading}
use Rattle.org_outline.specs.declared.outline.Kept.{Kept}
use Rattle.org_outline.specs.declared.outline.Kept.TheVariants.{Own, Lent}

abbrev pub kept : Kept → List Heading
kept (Own heads) = heads
kept (Lent heads) = heads.now
