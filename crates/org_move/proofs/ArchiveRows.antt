-- The definitions of archiving on worked examples.
use Rattle.std.proofs.Common.{◌≡◌, ℕ, List, [], ◌∷◌, ◌++◌, Some, None, codes, refl}
use Rattle.org_outline.specs.declared.steps.Step.{Step}
use Rattle.org_outline.specs.States.{Keywords}
use Rattle.org_outline.specs.Tree.{tree}
use Rattle.std.specs.Prelude.{Ok, Err, drop}
use Rattle.org_stamp.specs.Calendar.{Moment}
use Rattle.org_fault.specs.declared.refusal.Refusal.TheVariants.{AlreadyArchive, BadLocation, NotFound}
use Rattle.org_move.specs.Archive.{archive_properties, category_of, named, target_heading}
use Rattle.org_move.specs.Location.{value_for, value_of_lines, location, location_of}
use Rattle.org_move.specs.Inherited.{titles_above, inherited_tags}

-- a line of these characters
abbrev line : List ℕ → List ℕ
line l = l ++ 10 ∷ []

states : Keywords
states = record { active = codes "TODO" ∷ []; done = codes "DONE" ∷ [] }

-- ---- the value of a text

blanks_and_case : value_of_lines (codes "x" ∷ codes "  #+archive:  ::* A " ∷ codes "#+ARCHIVE: y.org::" ∷ []) ≡ Some (codes "::* A")
blanks_and_case = refl

first_is_empty : value_of_lines (codes "#+ARCHIVE: " ∷ codes "#+ARCHIVE: y.org::" ∷ []) ≡ None
first_is_empty = refl

no_value : value_of_lines (codes "* A" ∷ codes "x #+ARCHIVE: y.org::" ∷ []) ≡ None
no_value = refl

-- ---- what a value says

same_file : location_of states (codes "x.org") (codes "::* Archived") ≡ Some (record { file = codes "x.org"; level = 1; title = codes "Archived" })
unfolding states
same_file = refl

other_file : location_of states (codes "x.org") (codes "done.org::** Old") ≡ Some (record { file = codes "done.org"; level = 2; title = codes "Old" })
unfolding states
other_file = refl

archive_file : location_of states (codes "x.org") (codes "%s_archive::") ≡ Some (record { file = codes "x.org_archive"; level = 0; title = [] })
unfolding states
archive_file = refl

named_twice : location_of states (codes "x.org") (codes "%s%%s::") ≡ Some (record { file = codes "x.org%x.org"; level = 0; title = [] })
unfolding states
named_twice = refl

no_colons : location_of states (codes "x.org") (codes "nowhere") ≡ None
unfolding states
no_colons = refl

-- a blank before the stars
no_heading : location_of states (codes "x.org") (codes ":: * Old") ≡ None
unfolding states
no_heading = refl

date_tree : location_of states (codes "x.org") (codes "::datetree/") ≡ None
unfolding states
date_tree = refl

with_keyword : location_of states (codes "x.org") (codes "::* DONE Old") ≡ None
unfolding states
with_keyword = refl

with_tags : location_of states (codes "x.org") (codes "::* Old :a:") ≡ None
unfolding states
with_tags = refl

no_title : location_of states (codes "x.org") (codes "::* ") ≡ None
unfolding states
no_title = refl

-- the first colons split
split_once : location_of states (codes "x.org") (codes "a.org::b::* Old") ≡ None
unfolding states
split_once = refl

-- ---- what is inherited

work : List ℕ
work = line (codes "* DONE Work :job:") ++ line (codes "** P :b:job:") ++ line (codes "*** T :own:") ++ line (codes "* Top :c:")

path_to_parent : titles_above states (tree work) 2 ≡ codes "Work" ∷ codes "P" ∷ []
unfolding states work
path_to_parent = refl

each_tag_once : inherited_tags states (tree work) 2 ≡ codes "job" ∷ codes "b" ∷ []
unfolding states work
each_tag_once = refl

none_at_top : inherited_tags states (tree work) 3 ≡ []
unfolding states work
none_at_top = refl

-- ---- the location of a heading

home : List ℕ
home = line (codes "#+ARCHIVE: ::* Archived") ++ line (codes "* A") ++ line (codes "* B")

in_home : location_of states (codes "x.org") (value_for home 0) ≡ Some (record { file = codes "x.org"; level = 1; title = codes "Archived" })
unfolding states home
in_home = refl

-- the nearest nonempty property wins over the text's line
nested : List ℕ
nested = line (codes "#+ARCHIVE: y.org::") ++ line (codes "* P") ++ line (codes ":PROPERTIES:") ++ line (codes ":archive: done.org::** Old") ++ line (codes ":END:") ++ line (codes "** A")
    ++ line (codes ":PROPERTIES:") ++ line (codes ":ARCHIVE:") ++ line (codes ":END:") ++ line (codes "* Q")

of_parent : location_of states (codes "x.org") (value_for nested 1) ≡ Some (record { file = codes "done.org"; level = 2; title = codes "Old" })
unfolding states nested
of_parent = refl

of_text : location_of states (codes "x.org") (value_for nested 2) ≡ Some (record { file = codes "y.org"; level = 0; title = [] })
unfolding states nested
of_text = refl

of_file : location_of states (codes "x.org") (value_for (line (codes "* A")) 0) ≡ Some (record { file = codes "x.org_archive"; level = 0; title = [] })
unfolding states
of_file = refl

-- a step without a number
abbrev only : List ℕ → Step
only title = record { title = title; number = None }

bad : location states (codes "x.org") (only (codes "A") ∷ []) (line (codes "#+ARCHIVE: a/b.org") ++ line (codes "* A")) ≡ Err BadLocation
unfolding states
bad = refl

-- the path is asked before the file
archived : location states (codes "x.org_archive") (only (codes "A") ∷ []) (line (codes "* A")) ≡ Err AlreadyArchive
unfolding states
archived = refl

path_first : location states (codes "x.org_archive") (only (codes "Q") ∷ []) (line (codes "* A")) ≡ Err NotFound
unfolding states
path_first = refl

-- ---- what is put

-- all but the time
values : (now : Moment) → drop 1 (archive_properties states (codes "x.org") now (tree work) 2)
    ≡ named (codes "ARCHIVE_FILE") (codes "x.org")
    ∷ named (codes "ARCHIVE_OLPATH") (codes "Work/P")
    ∷ named (codes "ARCHIVE_CATEGORY") (codes "x")
    ∷ named (codes "ARCHIVE_ITAGS") (codes "job b")
    ∷ []
unfolding states work
values now = refl

-- at the top level there is neither path nor inherited tag
values_at_top : (now : Moment) → drop 1 (archive_properties states (codes "x.org") now (tree work) 0)
    ≡ named (codes "ARCHIVE_FILE") (codes "x.org") ∷ named (codes "ARCHIVE_CATEGORY") (codes "x") ∷ named (codes "ARCHIVE_TODO") (codes "DONE") ∷ []
unfolding states work
values_at_top now = refl

-- a category in any case, of the nearest heading that has one
kept : List ℕ
kept = line (codes "* A") ++ line (codes ":PROPERTIES:") ++ line (codes ":category: home") ++ line (codes ":END:") ++ line (codes "** B")

category : category_of (codes "x.org") (tree kept) 1 ≡ codes "home"
unfolding kept
category = refl

-- ---- where it goes

heading_found : target_heading states (record { file = codes "x.org"; level = 2; title = codes "P" }) (tree work) ≡ Ok (Some 1)
unfolding states work
heading_found = refl

-- the level counts
heading_missing : target_heading states (record { file = codes "x.org"; level = 1; title = codes "P" }) (tree work) ≡ Ok None
unfolding states work
heading_missing = refl
