-- The properties that the code lists are those of the definition.
use Rattle.std.proofs.Common.{arith, ◌≡◌, ℕ, List, [], ◌∷◌, ◌++◌, Option, Some, None, refl, sym, ap, subst, ◌∙◌, ◌<◌, codes}
use Rattle.std.proofs.lemmas.Grind.{common_steps}
use Rattle.std.specs.Borrow.{Bor}
use Rattle.std.specs.List.{AllByRecursion, join_with_byte}
use Rattle.std.specs.Option.{option_map, unwrap_or}
use Rattle.std.proofs.lemmas.List.{append-nil}
use Rattle.std.specs.Prelude.{slice_range}
use Rattle.org_disk.specs.Names.{IsDiskName, last_part}
use Rattle.org_splice.specs.Lines.{lines_of}
use Rattle.org_splice.specs.declared.Span.{Span}
use Rattle.org_stamp.specs.Calendar.{Moment}
use Rattle.org_outline.specs.States.{Keywords}
use Rattle.org_outline.specs.Tree.{Document, node_at, node_count, tree}
use Rattle.org_outline.specs.Outline.{IsSection}
use Rattle.org_outline.proofs.Trees.{tree-is}
use Rattle.org_outline.specs.Parts.{parts_of}
use Rattle.org_meta.specs.Sections.{NodeProperty, joined, split, parts_of as split_of}
use Rattle.org_meta.proofs.Puts.{joined_split}
use Rattle.org_move.specs.Archive.{archive_properties, archived_section, category_of, joined_if_any, named, put_each, time_text, unless_none, without_org}
use Rattle.org_move.specs.Given.{IsGood, with_given}
use Rattle.org_move.specs.Inherited.{inherited_tags, nearest, nonempty, titles_above}
use Rattle.org_move.proofs.Values.{IsPut, all_put, name_line}
use Rattle.org_move.proofs.Own.{section_parts}

abbrev pub read : Bor (List ℕ) → List ℕ
read text = text.now

with_joined : (b : ℕ) (n : List ℕ) (o : Option (Bor (List ℕ))) (xs : List (List ℕ)) (rest : List NodeProperty) → option_map read o ≡ joined_if_any b xs
    → with_given n o rest ≡ unless_none xs (named n (join_with_byte b xs)) ++ rest
with_joined b n None [] rest e = refl
with_joined b n None (x ∷ xs) rest e = absurd cc
with_joined b n (Some text) [] rest e = absurd cc
with_joined b n (Some text) (x ∷ xs) rest e = let same : text.now ≡ join_with_byte b (x ∷ xs) = cc in ap (λ (v : List ℕ). named n v ∷ rest) same

with_keyword : (n : List ℕ) (o : Option (Bor (List ℕ))) (k : List ℕ) (rest : List NodeProperty) → option_map read o ≡ nonempty k
    → with_given n o rest ≡ unless_none k (named n k) ++ rest
with_keyword n None [] rest e = refl
with_keyword n None (b ∷ bs) rest e = absurd cc
with_keyword n (Some text) [] rest e = absurd cc
with_keyword n (Some text) (b ∷ bs) rest e = let same : text.now ≡ b ∷ bs = cc in ap (λ (v : List ℕ). named n v ∷ rest) same

pub given_are : (states : Keywords) (name : List ℕ) (now : Moment) (d : Document) (i : ℕ) (time file category : List ℕ) (path keyword tags : Option (Bor (List ℕ)))
    → time ≡ time_text now → file ≡ name → category ≡ category_of name d i → option_map read path ≡ joined_if_any 47 (titles_above states d i)
    → option_map read keyword ≡ nonempty (parts_of states (node_at d i).node.rest).keyword → option_map read tags ≡ joined_if_any 32 (inherited_tags states d i)
    → named (codes "ARCHIVE_TIME") time
    ∷ named (codes "ARCHIVE_FILE") file
    ∷ with_given (codes "ARCHIVE_OLPATH") path
    (named (codes "ARCHIVE_CATEGORY") category
    ∷ with_given (codes "ARCHIVE_TODO") keyword (with_given (codes "ARCHIVE_ITAGS") tags []))
    ≡ archive_properties states name now d i
given_are states name now d i time file category path keyword tags time_is file_is category_is path_is keyword_is tags_is =
    let titles = titles_above states d i in
    let ks = (parts_of states (node_at d i).node.rest).keyword in
    let its = inherited_tags states d i in
    let last : with_given (codes "ARCHIVE_ITAGS") tags [] ≡ unless_none its (named (codes "ARCHIVE_ITAGS") (join_with_byte 32 its)) =
    with_joined 32 (codes "ARCHIVE_ITAGS") tags its [] tags_is ∙ append-nil _ in
    let fifth : with_given (codes "ARCHIVE_TODO") keyword (with_given (codes "ARCHIVE_ITAGS") tags [])
    ≡ unless_none ks (named (codes "ARCHIVE_TODO") ks) ++ unless_none its (named (codes "ARCHIVE_ITAGS") (join_with_byte 32 its)) =
    with_keyword (codes "ARCHIVE_TODO") keyword ks _ keyword_is ∙ ap (λ (ps : List NodeProperty). unless_none ks (named (codes "ARCHIVE_TODO") ks) ++ ps) last in
    let third = with_joined 47 (codes "ARCHIVE_OLPATH") path titles
    (named (codes "ARCHIVE_CATEGORY") category ∷ with_given (codes "ARCHIVE_TODO") keyword (with_given (codes "ARCHIVE_ITAGS") tags [])) path_is in
    ap (λ (ps : List NodeProperty). named (codes "ARCHIVE_TIME") time ∷ named (codes "ARCHIVE_FILE") file ∷ ps) third
    ∙ rw (time_is, file_is, category_is, fifth) refl

-- what can be put can be put in a section
pub good_of : (ps : List NodeProperty) → AllByRecursion IsPut ps → AllByRecursion IsGood ps
good_of [] all = tt
good_of (p ∷ ps) all = ((all.0.0, all.0.1.0), good_of ps all.1)

-- the section that was made
pub section_made : (states : Keywords) (name : List ℕ) (now : Moment) (t u : List ℕ) (i : ℕ) (s : Span) (start new : List ℕ) (ps : List NodeProperty)
    → u ≡ t → i < node_count (tree t) → IsSection t (node_at (tree t) i) s → start ≡ slice_range u s.start s.end → ps ≡ archive_properties states name now (tree t) i
    → split_of new ≡ put_each ps (split_of start) → lines_of new ≡ archived_section states name now (tree t) i
section_made states name now t u i s start new ps same lt is start_is ps_is new_is = grind (arith, common_steps, split, section_parts, joined_split, joined)

pub all_good : (states : Keywords) (name : List ℕ) (now : Moment) (t : List ℕ) (i : ℕ) (ps : List NodeProperty) → IsDiskName name → ps ≡ archive_properties states name now (tree t) i → AllByRecursion IsGood ps
all_good states name now t i ps valid is =
    subst (AllByRecursion IsGood) (sym is) (good_of (archive_properties states name now (tree t) i) (all_put states name now (tree t) i (name_line name valid) (tree-is t).valid))

-- the category
pub category_is : (file : List ℕ) (d : Document) (i : ℕ) (o : Option (Bor (List ℕ))) (name value : Bor (List ℕ)) → option_map read o ≡ nearest (codes "CATEGORY") d i → name.now ≡ without_org (last_part file)
    → value ≡ unwrap_or o name → value.now ≡ category_of file d i
category_is file d i None name value is name_is value_is = ap read value_is ∙ name_is ∙ ap (λ o. unwrap_or o (without_org (last_part file))) is
category_is file d i (Some text) name value is name_is value_is = ap read value_is ∙ ap (λ o. unwrap_or o (without_org (last_part file))) is
