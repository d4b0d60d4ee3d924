-- The properties that the code puts, as those of the definition.
use Rattle.std.specs.Prelude.{◌≡◌, ℕ, true, Option, Some, None, List, [], ◌∷◌}
use Rattle.std.specs.Borrow.{Bor}
use Rattle.org_splice.specs.Lines.{IsLine}
use Rattle.org_meta.specs.Sections.{NodeProperty, is_property_name, property_line}
use Rattle.org_move.specs.declared.properties.Property.{Property}
use Rattle.org_move.specs.Archive.{named}

-- a property before others, where it has a value
abbrev pub with_given : List ℕ → Option (Bor (List ℕ)) → List NodeProperty → List NodeProperty
with_given name None ps = ps
with_given name (Some value) ps = named name value.now ∷ ps

-- those that have a value
abbrev pub given : List Property → List NodeProperty
given [] = []
given (p ∷ ps) = with_given p.name.now p.value (given ps)

-- one that can be put
abbrev pub IsGood : NodeProperty → Type 0
IsGood p = (is_property_name p.name ≡ true) × IsLine (property_line p.name p.value)
