-- Which parts a heading line has, by what stands where and not by how it is read (Org Syntax,
-- "Headings").
use Rattle.std.specs.Prelude.{◌≡◌, ◌⊎◌, ◌++◌, ◌<◌, IsTrue, ℕ, Bool, ◌||◌, List, [], ◌∷◌, length}
use Rattle.std.specs.Char.{is_ascii_alphanumeric}
use Rattle.std.specs.List.{AllByRecursion, flat_map, list_all, prefix_len, suffix_len}
use Rattle.org_splice.specs.Blanks.{is_blank, is_solid, is_trailing}
use Rattle.org_outline.specs.Parts.{Parts, is_tag_byte}
use Rattle.org_outline.specs.States.{Keywords, has_word}

-- there is no byte, or the first fails the test
abbrev pub BeginsWithNo : (ℕ → Bool) → List ℕ → Type 0
BeginsWithNo test l = prefix_len test l ≡ 0

-- there is no byte, or the last fails the test
abbrev pub EndsWithNo : (ℕ → Bool) → List ℕ → Type 0
EndsWithNo test l = suffix_len test l ≡ 0

-- one of the states
abbrev pub IsState : Keywords → List ℕ → Type 0
IsState states w = IsTrue (has_word states.active w || has_word states.done w)

-- `[#X]`
pub record IsPriority (l : List ℕ) : Type 0 where
  pub value : ℕ
  pub alphanumeric : IsTrue (is_ascii_alphanumeric value)
  pub is : l ≡ 91 ∷ 35 ∷ value ∷ 93 ∷ []

-- a tag has a letter or more
pub record IsTag (tag : List ℕ) : Type 0 where
  pub some : 0 < length tag
  pub letters : IsTrue (list_all is_tag_byte tag)

-- `:a:b:`
abbrev pub tag_string : List (List ℕ) → List ℕ
tag_string tags = 58 ∷ flat_map (λ tag. tag ++ 58 ∷ []) tags

-- the bytes are one tag or more, with colons between and round them
pub record AreTags (l : List ℕ) : Type 0 where
  pub tags : List (List ℕ)
  pub some : 0 < length tags
  pub each : AllByRecursion IsTag tags
  pub is : l ≡ tag_string tags

-- a state in front, as a whole word: a blank follows it, or nothing
pub record BeginsWithState (states : Keywords) (l keyword tail : List ℕ) : Type 0 where
  pub is : l ≡ keyword ++ tail
  pub state : IsState states keyword
  pub word : BeginsWithNo is_solid tail

-- a priority in front
pub record BeginsWithPriority (l priority tail : List ℕ) : Type 0 where
  pub is : l ≡ priority ++ tail
  pub well_formed : IsPriority priority

-- tags at the end, as a whole word: a blank stands before them, or nothing
pub record EndsWithTags (l tags before : List ℕ) : Type 0 where
  pub is : l ≡ before ++ tags
  pub well_formed : AreTags tags
  pub word : EndsWithNo is_solid before

-- the part is there, and the others are what stands beside it; or it is empty, and no such part is
-- there
abbrev pub Takes : (List ℕ → List ℕ → Type 0) → List ℕ → List ℕ → List ℕ → Type 0
Takes Splits whole part others =
    Splits part others
    ⊎ ((part ≡ []) × (others ≡ whole) × ((p o : List ℕ) → Splits p o → ⊥))

-- The rest of a heading line has these parts. None is missed: where a part is empty, no such part
-- stands at its place.
pub record HasParts (states : Keywords) (rest : List ℕ) (parts : Parts) : Type 0 where
  -- the line is its gap, its content, and blanks and carriage returns
  pub content : List ℕ
  pub last : List ℕ
  pub whole : rest ≡ parts.gap ++ (content ++ last)
  pub gap_blank : IsTrue (list_all is_blank parts.gap)
  pub gap_whole : BeginsWithNo is_blank (content ++ last)
  pub last_blank : IsTrue (list_all is_trailing last)
  pub last_whole : EndsWithNo is_trailing content
  -- the content begins with the keyword, and after its blanks with the priority
  pub behind_keyword : List ℕ
  pub keyword : Takes (BeginsWithState states content) content parts.keyword behind_keyword
  pub first : List ℕ
  pub marked : List ℕ
  pub first_is : behind_keyword ≡ first ++ marked
  pub first_blank : IsTrue (list_all is_blank first)
  pub first_whole : BeginsWithNo is_blank marked
  pub behind_priority : List ℕ
  pub priority : Takes (BeginsWithPriority marked) marked parts.priority behind_priority
  -- the content ends with the tags
  pub before_tags : List ℕ
  pub tags : Takes (EndsWithTags content) content parts.tags before_tags
  -- the title stands between, without blanks at its ends
  pub second : List ℕ
  pub third : List ℕ
  pub title_is : behind_priority ≡ second ++ (parts.title ++ (third ++ parts.tags))
  pub second_blank : IsTrue (list_all is_blank second)
  pub third_blank : IsTrue (list_all is_blank third)
  pub title_begins : BeginsWithNo is_blank parts.title
  pub title_ends : EndsWithNo is_blank parts.title
