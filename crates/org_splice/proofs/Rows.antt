-- Worked examples, by computing.
use Rattle.std.proofs.Common.{◌≡◌, List, [], ◌∷◌, refl}
use Rattle.org_splice.specs.declared.Span.{Span}
use Rattle.org_splice.specs.Patches.{patched}
use Rattle.org_splice.specs.Ranges.{joined, last_two_joined}
use Rattle.org_splice.specs.Texts.{EditedText, settled, spliced, patches_of}

-- the second letters of two headings, changed in place
headings : patched ((2, 67 ∷ []) ∷ (6, 68 ∷ []) ∷ []) 8 (42 ∷ 32 ∷ 65 ∷ 10 ∷ 42 ∷ 32 ∷ 66 ∷ 10 ∷ []) ≡ 42 ∷ 32 ∷ 67 ∷ 10 ∷ 42 ∷ 32 ∷ 68 ∷ 10 ∷ []
headings = refl

-- a patch at the end makes a text longer
longer : patched ((2, 67 ∷ 68 ∷ []) ∷ []) 4 (65 ∷ 66 ∷ []) ≡ 65 ∷ 66 ∷ 67 ∷ 68 ∷ []
longer = refl

-- an empty patch and a smaller final length cut it
shorter : patched ((0, []) ∷ []) 1 (65 ∷ 66 ∷ []) ≡ 65 ∷ []
shorter = refl

-- two headings, each a star, a blank, a letter and a newline
two_headings : EditedText
two_headings = settled (42 ∷ 32 ∷ 65 ∷ 10 ∷ 42 ∷ 32 ∷ 66 ∷ 10 ∷ [])

-- one byte at 2 and one at 6: two patches
apart : patches_of (spliced 6 1 (68 ∷ []) (spliced 2 1 (67 ∷ []) two_headings)) ≡ (2, 67 ∷ []) ∷ (6, 68 ∷ []) ∷ []
unfolding two_headings
apart = refl

-- one byte at 2 and one at 3: one patch
touching : patches_of (spliced 3 1 (32 ∷ []) (spliced 2 1 (67 ∷ []) two_headings)) ≡ (2, 67 ∷ 32 ∷ []) ∷ []
unfolding two_headings
touching = refl

-- a longer byte string changes all from its place on
to_the_end : patches_of (spliced 6 1 (67 ∷ 68 ∷ []) two_headings) ≡ (6, 67 ∷ 68 ∷ 10 ∷ []) ∷ []
unfolding two_headings
to_the_end = refl

-- nothing is to be written of a text that was cut
cut_short : patches_of (spliced 4 4 [] two_headings) ≡ (0, []) ∷ []
unfolding two_headings
cut_short = refl

-- ranges of one byte each, and one from the first to the last of them
single_bytes : List Span
single_bytes = record { start = 1; end = 2 } ∷ record { start = 3; end = 4 } ∷ record { start = 5; end = 6 } ∷ []

bridge : joined (record { start = 2; end = 4 }) single_bytes ≡ record { start = 1; end = 4 } ∷ record { start = 5; end = 6 } ∷ []
unfolding single_bytes
bridge = refl

last_two : last_two_joined single_bytes ≡ record { start = 1; end = 2 } ∷ record { start = 3; end = 6 } ∷ []
unfolding single_bytes
last_two = refl
