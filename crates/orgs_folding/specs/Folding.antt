-- Text without the difference of capital and small letters (The Unicode Standard, "Default Caseless
-- Matching"), and texts that stand in others.
use Rattle.std.specs.Prelude.{ℕ, Bool, ◌||◌, ◌==◌, nat_eq, List, [], ◌∷◌, map, length, chars, encode_utf8_all, if◌then◌else◌}
use Rattle.std.specs.Char.{to_ascii_lowercase}
use Rattle.std.specs.List.{starts_with}
use Rattle.std.specs.Str.{is_utf8}
use Rattle.caseless.specs.Caseless.{default_case_fold}

-- a text with its case folded; of bytes that aren't UTF-8, the letters of ASCII
unfoldable pub folded : List ℕ → List ℕ
folded text =
    if is_utf8 text then encode_utf8_all (default_case_fold (chars text))
    else map to_ascii_lowercase text

-- whether a text has another one in it
abbrev pub contains : List ℕ → List ℕ → Bool
contains [] part = length part == 0
contains (b ∷ text) part = starts_with nat_eq (b ∷ text) part || contains text part
