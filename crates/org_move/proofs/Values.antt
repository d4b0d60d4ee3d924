-- The values of an archived entry's properties hold no newline, nor does the title of its place,
-- and its section is one still.
use Rattle.std.proofs.Common.{◌≡◌, ℕ, zero, suc, ◌-◌, Bool, true, false, eqb, not, ◌&&◌, List, [], ◌∷◌, ◌++◌, length, take, drop, map, get_or, refl, sym, subst, ◌∙◌, inl, inr, Option, None, Some, Ok, Err}
use Rattle.std.specs.Prelude.{◌≢◌, codes, if◌then◌else◌, ◌==◌, is_some, Result}
use Rattle.std.specs.List.{AllByRecursion, find, flat_map, join_with_byte, list_all, list_any, onto_first, slice_split}
use Rattle.std.specs.Option.{IfSome, option_and_then, option_map, option_or, unwrap_or}
use Rattle.std.specs.Str.{bytes_eq, is_utf8}
use Rattle.std.specs.Str.{str_eq_ignore_ascii_case}
use Rattle.std.proofs.lemmas.Bool.{cases_Bool, false≢true}
use Rattle.std.proofs.lemmas.List.{take-append-drop}
use Rattle.std.proofs.lemmas.Slice.Eq.{bytes_eq-Decides}
use Rattle.org_disk.specs.Names.{IsDiskName, archive_suffix, base_name, folder_of, is_archive_name, is_file_name, is_name_byte, is_org_name, is_way, journal_name, last_part, parts}
use Rattle.org_splice.specs.Blanks.{is_blank, is_solid, behind, end_of, front, trimmed}
use Rattle.org_splice.specs.Lines.{IsLine, lines_of}
use Rattle.org_splice.proofs.Ends.{both}
use Rattle.org_splice.proofs.Lines.{lines_of-lines}
use Rattle.org_stamp.specs.Calendar.{Moment, weekday_of}
use Rattle.org_stamp.specs.Stamp.{date_text, day_name}
use Rattle.org_outline.specs.declared.steps.Step.{Step}
use Rattle.org_outline.specs.States.{Keywords}
use Rattle.org_headings.specs.Text.{level_of}
use Rattle.org_outline.specs.Tree.{Document, IsPlain, IsValid, Placed, no_node, node_at, nodes, tree}
use Rattle.org_outline.specs.Moves.{IsNode}
use Rattle.org_outline.specs.Numbers.{ancestors_of}
use Rattle.org_outline.specs.Parts.{after_keyword, after_priority, are_tags, content_of, parts_of}
use Rattle.org_outline.specs.Paths.{find_path, title_of}
use Rattle.org_outline.proofs.Sections.{nodes-valid}
use Rattle.org_outline.proofs.Trees.{tree-is}
use Rattle.org_meta.specs.Sections.{NodeProperty, drawer_size, is_end, is_name_run, is_property_name, joined, planning_size, property, property_line, property_of, put, split, value_before_end, value_if_named, value_named}
use Rattle.org_splice.proofs.AllLines.{AllByRecursion-append, AllByRecursion-take, AllByRecursion-drop}
use Rattle.org_meta.proofs.Flat.{Flat, both_lines, clock_text_line, date_line, day_line, either_line, empty_line, tested, with_first_byte}
use Rattle.org_meta.proofs.Keeping.{keeps_put}
use Rattle.org_meta.proofs.Reading.{line_said}
use Rattle.org_meta.proofs.Resplit.{split_put}
use Rattle.org_fault.specs.declared.refusal.Refusal.{Refusal}
use Rattle.org_fault.specs.declared.refusal.Refusal.TheVariants.{AlreadyArchive, NoSuchFile}
use Rattle.org_move.specs.Archive.{archive_properties, category_of, named, put_each, time_text, unless_none, without_org}
use Rattle.org_move.specs.Inherited.{first_ones, inherited_tags, is_colon, last_value, nearest, nonempty, nonempty_only, own_value, tag_list, tags_above, titles_above}
use Rattle.org_move.specs.Location.{Destination, Halves, Heading, and_file, file_named, halves_of, heading_of, is_archive_line, is_title_alone, location, location_of, titled_line, value_behind, value_for, value_of_lines, with_byte}
use Rattle.org_move.proofs.Moving.{found_of}
use Rattle.org_move.proofs.Own.{plain_lines}
use Rattle.org_move.proofs.Puts.{tested_line}

-- ---- parts of lines

first_line : (n : ℕ) (l : List ℕ) → Flat l → Flat (take n l)
first_line n l p = record { flat = AllByRecursion-take (λ b. b ≢ 10) n l p.flat }

last_line : (n : ℕ) (l : List ℕ) → Flat l → Flat (drop n l)
last_line n l p = record { flat = AllByRecursion-drop (λ b. b ≢ 10) n l p.flat }

trimmed_line : (l : List ℕ) → Flat l → Flat (trimmed l)
trimmed_line l p = first_line _ (behind is_blank l) (last_line _ l p)

-- ---- the time

time_line : (now : Moment) → Flat (time_text now)
time_line now =
    let day = weekday_of now.day in
    both_lines (date_text now.day) _ (date_line now.day) (with_first_byte 32 _ refl (both_lines (day_name day) _ (day_line day) (with_first_byte 32 _ refl (clock_text_line now.minute))))

-- ---- the name

name_bytes : (l : List ℕ) → list_all is_name_byte l ≡ true → Flat l
name_bytes [] all = empty_line
name_bytes (b ∷ l) all =
    let parts = both (is_name_byte b) (list_all is_name_byte l) all in
    record { flat = (λ e. let none : is_name_byte b ≡ false = rw e refl in absurd (false≢true (sym none ∙ parts.0)), (name_bytes l parts.1).flat) }

org_line : (l : List ℕ) → is_org_name l ≡ true → Flat l
org_line l good = name_bytes l (both _ (list_all is_name_byte l) (both _ (is_way (parts l)) good).0).1

suffixed : (l : List ℕ) → is_archive_name l ≡ true → is_org_name (base_name l) ≡ true → Flat l
suffixed l archive good =
    let base : is_org_name (take (length l - length archive_suffix) l) ≡ true = rw archive at good in
    let tail : archive_suffix ≡ drop (length l - length archive_suffix) l = (bytes_eq-Decides archive_suffix _).0 archive in
    let last : Flat (drop (length l - length archive_suffix) l) = subst Flat tail (tested archive_suffix refl) in
    subst Flat (take-append-drop (length l - length archive_suffix) l) (both_lines _ _ (org_line _ base) last)

file_line : (l : List ℕ) → is_file_name l ≡ true → Flat l
file_line l good =
    elim (cases_Bool (is_archive_name l)) [
      | inl archive ↦ suffixed l archive good
      | inr own ↦ org_line l (let base : is_org_name l ≡ true = rw own at good in base)
    ]

pub name_line : (l : List ℕ) → IsDiskName l → IsLine l
name_line l (inl good) = (file_line l good).flat
name_line l (inr journal) = subst IsLine (sym journal) (tested_line journal_name refl)

-- ---- parts of a heading line

title_line : (states : Keywords) (rest : List ℕ) → Flat rest → Flat (title_of states rest)
title_line states rest p =
    let content = content_of rest in
    let behind_keyword : Flat (after_keyword states content) = last_line _ _ (last_line _ content (trimmed_line rest p)) in
    let left : Flat (after_priority (after_keyword states content)) = last_line _ (after_keyword states content) behind_keyword in
    first_line _ _ (last_line _ _ (first_line _ (after_priority (after_keyword states content)) left))

tags_line : (states : Keywords) (rest : List ℕ) → Flat rest → Flat (parts_of states rest).tags
tags_line states rest p =
    let content = content_of rest in
    either_line (are_tags (end_of is_solid content)) (end_of is_solid content) [] (last_line _ content (trimmed_line rest p)) empty_line

keyword_line : (states : Keywords) (rest : List ℕ) → Flat rest → Flat (parts_of states rest).keyword
keyword_line states rest p =
    let content = content_of rest in
    either_line _ (front is_solid content) [] (first_line _ content (trimmed_line rest p)) empty_line

-- ---- the nodes of a document

get_all : {X : Type 0} (P : X → Type 0) (xs : List X) (i : ℕ) (x : X) → AllByRecursion P xs → P x → P (get_or xs i x)
get_all P [] i x all other = other
get_all P (y ∷ ys) zero x all other = all.0
get_all P (y ∷ ys) (suc i) x all other = get_all P ys i x all.1 other

-- the own lines of a node
abbrev OwnLines : Placed → Type 0
OwnLines p = Flat p.node.rest × AllByRecursion Flat p.node.section

all_flat : (ls : List (List ℕ)) → AllByRecursion IsLine ls → AllByRecursion Flat ls
all_flat [] all = tt
all_flat (l ∷ ls) all = (record { flat = all.0 }, all_flat ls all.1)

nodes_lines : (ps : List Placed) → AllByRecursion (λ (p : Placed). IsNode p.node) ps → AllByRecursion OwnLines ps
nodes_lines [] all = tt
nodes_lines (p ∷ ps) all = ((record { flat = all.0.heading.rest }, all_flat p.node.section (plain_lines p.node.section all.0.heading.section)), nodes_lines ps all.1)

own_lines_are : (d : Document) → IsValid d → (i : ℕ) → OwnLines (node_at d i)
own_lines_are d valid i = get_all OwnLines (nodes d) i no_node (nodes_lines (nodes d) (nodes-valid _ d.forest valid.forest)) (empty_line, tt)

map_all : (P : List ℕ → Type 0) (f : ℕ → List ℕ) (is : List ℕ) → ((i : ℕ) → P (f i)) → AllByRecursion P (map f is)
map_all P f [] all = tt
map_all P f (i ∷ is) all = (all i, map_all P f is all)

-- ---- values of properties

property_value : (l : List ℕ) (b : Bool) (p : NodeProperty) → Flat p.value → IfSome (if b then Some p else None) (λ p. Flat p.value)
property_value l true p is = is
property_value l false p is = tt

property_line_value : (l : List ℕ) → Flat l → IfSome (property_of l) (λ p. Flat p.value)
property_line_value l is = property_value l (is_name_run (front is_solid (trimmed l))) _ (last_line _ _ (last_line _ (trimmed l) (trimmed_line l is)))

named_here : (b : Bool) (value : List ℕ) → Flat value → IfSome (if b then Some value else None) Flat
named_here true value is = is
named_here false value is = tt

named_value : (name : List ℕ) (o : Option NodeProperty) → IfSome o (λ p. Flat p.value) → IfSome (value_if_named name o) Flat
named_value name None is = tt
named_value name (Some p) is = named_here (str_eq_ignore_ascii_case p.name name) p.value is

either_value : (b c : Bool) (x y : Option (List ℕ)) → IfSome x Flat → IfSome y Flat → IfSome (if b then None else (if c then x else y)) Flat
either_value true c x y p q = tt
either_value false true x y p q = p
either_value false false x y p q = q

value_lines : (name : List ℕ) (ls : List (List ℕ)) → AllByRecursion Flat ls → IfSome (value_before_end name ls) Flat
value_lines name [] all = tt
value_lines name (l ∷ ls) all =
    either_value (is_end l) (is_some (value_named name l)) (value_named name l) (value_before_end name ls)
    (named_value name (property_of l) (property_line_value l all.0)) (value_lines name ls all.1)

nonempty_line : (o : Option (List ℕ)) → IfSome o Flat → IfSome (option_and_then nonempty o) Flat
nonempty_line None is = tt
nonempty_line (Some []) is = tt
nonempty_line (Some (b ∷ bs)) is = is

own_value_line : (name : List ℕ) (d : Document) (i : ℕ) → IsValid d → IfSome (own_value name d i) Flat
own_value_line name d i valid =
    let ls : List (List ℕ) = (node_at d i).node.section in
    let below : List (List ℕ) = drop (planning_size ls) ls in
    let all : AllByRecursion Flat below = AllByRecursion-drop Flat (planning_size ls) ls (own_lines_are d valid i).1 in
    nonempty_line (property name (split ls)) (value_lines name (drop 1 (take (drawer_size below) below)) (AllByRecursion-drop Flat 1 (take (drawer_size below) below) (AllByRecursion-take Flat (drawer_size below) below all)))

or_line : (a b : Option (List ℕ)) → IfSome a Flat → IfSome b Flat → IfSome (option_or a b) Flat
or_line None b p q = q
or_line (Some a) b p q = p

last_value_line : (name : List ℕ) (d : Document) (is : List ℕ) → IsValid d → IfSome (last_value name d is) Flat
last_value_line name d [] valid = tt
last_value_line name d (i ∷ is) valid = or_line (last_value name d is) (own_value name d i) (last_value_line name d is valid) (own_value_line name d i valid)

unwrap_line : (o : Option (List ℕ)) (x : List ℕ) → IfSome o Flat → Flat x → Flat (unwrap_or o x)
unwrap_line None x p q = q
unwrap_line (Some y) x p q = p

category_line : (name : List ℕ) (d : Document) (i : ℕ) → Flat name → IsValid d → Flat (category_of name d i)
category_line name d i line valid =
    let last : Flat (last_part name) = last_line (length (folder_of name)) name line in
    unwrap_line (nearest (codes "CATEGORY") d i) (without_org (last_part name)) (last_value_line (codes "CATEGORY") d (ancestors_of d i ++ i ∷ []) valid) (either_line _ _ _ (first_line _ (last_part name) last) last)

-- ---- titles and tags

join_line : (b : ℕ) (xs : List (List ℕ)) → eqb b 10 ≡ false → AllByRecursion Flat xs → Flat (join_with_byte b xs)
join_line b [] other all = empty_line
join_line b (x ∷ []) other all = all.0
join_line b (x ∷ y ∷ xs) other all = both_lines x (b ∷ join_with_byte b (y ∷ xs)) all.0 (with_first_byte b _ other (join_line b (y ∷ xs) other all.1))

onto_lines : (b : ℕ) (xs : List (List ℕ)) → b ≢ 10 → AllByRecursion Flat xs → AllByRecursion Flat (onto_first b xs)
onto_lines b [] other all = (record { flat = (other, tt) }, tt)
onto_lines b (x ∷ xs) other all = (record { flat = (other, all.0.flat) }, all.1)

either_lines : (b : Bool) (xs ys : List (List ℕ)) → AllByRecursion Flat xs → AllByRecursion Flat ys → AllByRecursion Flat (if b then xs else ys)
either_lines true xs ys p q = p
either_lines false xs ys p q = q

split_line : (l : List ℕ) → Flat l → AllByRecursion Flat (slice_split is_colon l)
split_line [] p = (empty_line, tt)
split_line (b ∷ l) p =
    let more = split_line l (record { flat = p.flat.1 }) in
    either_lines (is_colon b) ([] ∷ slice_split is_colon l) (onto_first b (slice_split is_colon l)) (empty_line, more) (onto_lines b (slice_split is_colon l) p.flat.0 more)

some_lines : (xs : List (List ℕ)) → AllByRecursion Flat xs → AllByRecursion Flat (nonempty_only xs)
some_lines [] all = tt
some_lines (x ∷ xs) all = either_lines (not (length x == 0)) (x ∷ nonempty_only xs) (nonempty_only xs) (all.0, some_lines xs all.1) (some_lines xs all.1)

lists_lines : (xs : List (List ℕ)) → AllByRecursion Flat xs → AllByRecursion Flat (flat_map tag_list xs)
lists_lines [] all = tt
lists_lines (x ∷ xs) all = AllByRecursion-append Flat (tag_list x) (flat_map tag_list xs) (some_lines (slice_split is_colon x) (split_line x all.0)) (lists_lines xs all.1)

first_lines : (seen xs : List (List ℕ)) → AllByRecursion Flat xs → AllByRecursion Flat (first_ones seen xs)
first_lines seen [] all = tt
first_lines seen (x ∷ xs) all =
    either_lines (list_any (λ y. bytes_eq y x) seen) (first_ones seen xs) (x ∷ first_ones (seen ++ x ∷ []) xs) (first_lines seen xs all.1) (all.0, first_lines (seen ++ x ∷ []) xs all.1)

titles_lines : (states : Keywords) (d : Document) (i : ℕ) → IsValid d → AllByRecursion Flat (titles_above states d i)
titles_lines states d i valid = map_all Flat (λ up. title_of states (node_at d up).node.rest) (ancestors_of d i) (λ up. title_line states (node_at d up).node.rest (own_lines_are d valid up).0)

inherited_lines : (states : Keywords) (d : Document) (i : ℕ) → IsValid d → AllByRecursion Flat (inherited_tags states d i)
inherited_lines states d i valid =
    first_lines [] (flat_map tag_list (tags_above states d i))
    (lists_lines (tags_above states d i) (map_all Flat (λ up. (parts_of states (node_at d up).node.rest).tags) (ancestors_of d i) (λ up. tags_line states (node_at d up).node.rest (own_lines_are d valid up).0)))

-- ---- the properties

-- a property that can be put, and whose line is no heading
abbrev pub IsPut : NodeProperty → Type 0
IsPut p = (is_property_name p.name ≡ true) × IsPlain (property_line p.name p.value)

either_plain : (b : Bool) (x y : List ℕ) → IsPlain x → IsPlain y → IsPlain (if b then x else y)
either_plain true x y p q = p
either_plain false x y p q = q

can_put : (name value : List ℕ) → is_property_name name ≡ true → Flat name → Flat value → IsPut (named name value)
can_put name value good p q = (
  good,
  either_plain (length value == 0) (58 ∷ (name ++ 58 ∷ [])) (58 ∷ (name ++ (58 ∷ 32 ∷ value)))
      ((with_first_byte 58 _ refl (both_lines name (58 ∷ []) p (with_first_byte 58 [] refl empty_line))).flat, refl)
      ((with_first_byte 58 _ refl (both_lines name (58 ∷ 32 ∷ value) p (with_first_byte 58 _ refl (with_first_byte 32 value refl q)))).flat, refl),
)

unless_put : {X : Type 0} (xs : List X) (p : NodeProperty) → IsPut p → AllByRecursion IsPut (unless_none xs p)
unless_put [] p is = tt
unless_put (x ∷ xs) p is = (is, tt)

pub all_put : (states : Keywords) (name : List ℕ) (now : Moment) (d : Document) (i : ℕ) → IsLine name → IsValid d → AllByRecursion IsPut (archive_properties states name now d i)
all_put states name now d i is valid =
    let line : Flat name = record { flat = is } in
    let titles = titles_above states d i in
    let tags = inherited_tags states d i in
    let keyword = (parts_of states (node_at d i).node.rest).keyword in
    let rest : Flat (node_at d i).node.rest = (own_lines_are d valid i).0 in (
      can_put (codes "ARCHIVE_TIME") _ refl (tested (codes "ARCHIVE_TIME") refl) (time_line now),
      (
        can_put (codes "ARCHIVE_FILE") name refl (tested (codes "ARCHIVE_FILE") refl) line,
        AllByRecursion-append IsPut (unless_none titles (named (codes "ARCHIVE_OLPATH") (join_with_byte 47 titles))) _
            (unless_put titles _ (can_put (codes "ARCHIVE_OLPATH") _ refl (tested (codes "ARCHIVE_OLPATH") refl) (join_line 47 titles refl (titles_lines states d i valid)))) (
              can_put (codes "ARCHIVE_CATEGORY") _ refl (tested (codes "ARCHIVE_CATEGORY") refl) (category_line name d i line valid),
              AllByRecursion-append IsPut (unless_none keyword (named (codes "ARCHIVE_TODO") keyword)) _
                  (unless_put keyword _ (can_put (codes "ARCHIVE_TODO") keyword refl (tested (codes "ARCHIVE_TODO") refl) (keyword_line states (node_at d i).node.rest rest)))
                  (unless_put tags _ (can_put (codes "ARCHIVE_ITAGS") _ refl (tested (codes "ARCHIVE_ITAGS") refl) (join_line 32 tags refl (inherited_lines states d i valid)))),
            ),
      ),
    )

-- ---- the section

mark_plain : IsPlain (codes ":PROPERTIES:")
mark_plain = (tested_line (codes ":PROPERTIES:") refl, refl)

end_plain : IsPlain (codes ":END:")
end_plain = (tested_line (codes ":END:") refl, refl)

put_plain : (p : NodeProperty) (ls : List (List ℕ)) → IsPut p → AllByRecursion IsPlain ls → AllByRecursion IsPlain (joined (put p.name p.value (split ls)))
put_plain p ls is all = keeps_put IsPlain p.name (property_line p.name p.value) is.1 mark_plain end_plain ls all

put_again : (p : NodeProperty) (ls : List (List ℕ)) → IsPut p → split (joined (put p.name p.value (split ls))) ≡ put p.name p.value (split ls)
put_again p ls is = let said = line_said p.name p.value is.0 in split_put p.name (property_line p.name p.value) ls said.0 said.1

pub each_plain : (ps : List NodeProperty) (ls : List (List ℕ)) → AllByRecursion IsPut ps → AllByRecursion IsPlain (joined (split ls)) → AllByRecursion IsPlain ls → AllByRecursion IsPlain (joined (put_each ps (split ls)))
each_plain [] ls good whole all = whole
each_plain (p ∷ ps) ls good whole all =
    let new : List (List ℕ) = joined (put p.name p.value (split ls)) in
    let plain : AllByRecursion IsPlain new = put_plain p ls good.0 all in
    let again = put_again p ls good.0 in
    subst (λ parts. AllByRecursion IsPlain (joined (put_each ps parts))) again
    (each_plain ps new good.1 (subst (λ parts. AllByRecursion IsPlain (joined parts)) (sym again) plain) plain)

-- ---- the place of an archived entry

nonempty_alone : (l : List ℕ) → Flat l → IfSome (nonempty l) Flat
nonempty_alone [] line = tt
nonempty_alone (b ∷ bs) line = line

found_line : (test : List ℕ → Bool) (ls : List (List ℕ)) → AllByRecursion Flat ls → IfSome (option_and_then (λ l. nonempty (value_behind l)) (find test ls)) Flat
found_line test [] all = tt
found_line test (l ∷ ls) all =
    elim (cases_Bool (test l)) [
      | inl e ↦ rw e (nonempty_alone (value_behind l) (trimmed_line _ (last_line 10 (behind is_blank l) (last_line _ l all.0))))
      | inr e ↦ rw e (found_line test ls all.1)
    ]

value_line : (text : List ℕ) (i : ℕ) → Flat (value_for text i)
value_line text i =
    let d : Document = tree text in
    unwrap_line (option_or (nearest (codes "ARCHIVE") d i) (value_of_lines (lines_of text))) (codes "%s_archive::")
    (or_line (nearest (codes "ARCHIVE") d i) (value_of_lines (lines_of text)) (last_value_line (codes "ARCHIVE") d (ancestors_of d i ++ i ∷ []) (tree-is text).valid)
    (found_line is_archive_line (lines_of text) (all_flat (lines_of text) (lines_of-lines text)))) (tested (codes "%s_archive::") refl)

behind_first : (b : ℕ) (l : List ℕ) → Flat (b ∷ l) → Flat l
behind_first b l line = record { flat = line.flat.1 }

with_byte_line : (b : ℕ) (o : Option Halves) → IfSome o (λ h. Flat h.heading) → IfSome (option_map (with_byte b) o) (λ h. Flat h.heading)
with_byte_line b None line = tt
with_byte_line b (Some h) line = line

either_halves : (b : Bool) (h : Halves) (o : Option Halves) → Flat h.heading → IfSome o (λ h. Flat h.heading) → IfSome (if b then Some h else o) (λ h. Flat h.heading)
either_halves true h o p q = p
either_halves false h o p q = q

halves_line : (value : List ℕ) → Flat value → IfSome (halves_of value) (λ h. Flat h.heading)
halves_line [] line = tt
halves_line (b ∷ []) line = tt
halves_line (b ∷ c ∷ bs) line =
    let more : Flat (c ∷ bs) = behind_first b (c ∷ bs) line in
    either_halves (b == 58 && c == 58) (record { file = []; heading = bs }) (option_map (with_byte b) (halves_of (c ∷ bs))) (behind_first c bs more) (with_byte_line b (halves_of (c ∷ bs)) (halves_line (c ∷ bs) more))

alone_line : (b : Bool) (h : Heading) → Flat h.title → IfSome (if b then Some h else None) (λ h. Flat h.title)
alone_line true h line = line
alone_line false h line = tt

at_level_line : (states : Keywords) (l : List ℕ) (level : Option ℕ) → Flat l → IfSome (option_and_then (titled_line states l) level) (λ h. Flat h.title)
at_level_line states l None line = tt
at_level_line states l (Some level) line = alone_line (is_title_alone (parts_of states (drop level l))) _ (title_line states (drop level l) (last_line level l line))

heading_line : (states : Keywords) (l : List ℕ) → Flat l → IfSome (heading_of states l) (λ h. Flat h.title)
heading_line states [] line = empty_line
heading_line states (b ∷ bs) line = at_level_line states (b ∷ bs) (level_of (b ∷ bs)) line

in_file_line : (heading : Heading) (file : Option (List ℕ)) → Flat heading.title
    → IfSome (option_map (λ (file : List ℕ). let to : Destination = record { file = file; level = heading.level; title = heading.title } in to) file) (λ to. Flat to.title)
in_file_line heading None line = tt
in_file_line heading (Some file) line = line

with_heading_line : (file : Option (List ℕ)) (o : Option Heading) → IfSome o (λ h. Flat h.title)
    → IfSome (option_and_then (λ (heading : Heading). option_map (λ (file : List ℕ). let to : Destination = record { file = file; level = heading.level; title = heading.title } in to) file) o) (λ to. Flat to.title)
with_heading_line file None line = tt
with_heading_line file (Some heading) line = in_file_line heading file line

of_halves_line : (states : Keywords) (name : List ℕ) (o : Option Halves) → IfSome o (λ h. Flat h.heading)
    → IfSome (option_and_then (λ (halves : Halves). option_and_then (λ (heading : Heading). option_map (λ (file : List ℕ). let to : Destination = record { file = file; level = heading.level; title = heading.title } in to) (file_named name halves.file)) (heading_of states halves.heading)) o) (λ to. Flat to.title)
of_halves_line states name None line = tt
of_halves_line states name (Some halves) line = with_heading_line (file_named name halves.file) (heading_of states halves.heading) (heading_line states halves.heading line)

with_file_is : (b : Bool) (place to : Destination) → ◌≡◌ {A = Result Destination Refusal} (if b then Ok place else Err NoSuchFile) (Ok to) → place ≡ to
with_file_is true place to is = cc
with_file_is false place to is = absurd cc

and_file_line : (o : Option Destination) (to : Destination) → IfSome o (λ to. Flat to.title) → and_file o ≡ Ok to → Flat to.title
and_file_line None to line is = absurd cc
and_file_line (Some place) to line is =
    subst (λ (to : Destination). Flat to.title) (with_file_is (is_utf8 place.file && is_file_name place.file) place to is) line

not_archive : (b : Bool) (r : Result Destination Refusal) (to : Destination) → ◌≡◌ {A = Result Destination Refusal} (if b then Err AlreadyArchive else r) (Ok to) → r ≡ Ok to
not_archive true r to is = absurd cc
not_archive false r to is = is

pub place_line : (states : Keywords) (name : List ℕ) (path : List Step) (text : List ℕ) (to : Destination) → location states name path text ≡ Ok to → IsLine to.title
place_line states name path text to is =
    let first = found_of (find_path states (tree text) path) _ to is in
    let o : Option Destination = location_of states name (value_for text first.0) in
    (and_file_line o to (of_halves_line states name (halves_of (value_for text first.0)) (halves_line (value_for text first.0) (value_line text first.0)))
    (not_archive (is_archive_name name) (and_file o) to first.2)).flat
