-- One run after another, over what a crash left of the first.
use Rattle.std.proofs.Common.{◌≡◌, ℕ, ◌≤◌, List, Option, Some, None, refl, sym, ap, ◌∙◌, subst}
use Rattle.std.specs.Prelude.{slice_get, IsSomeAnd}
use Rattle.std.specs.List.{All}
use Rattle.org_disk.specs.declared.disk.Disk.{Ghosts}
use Rattle.org_disk.specs.Names.{IsOrgFile}
use Rattle.org_journal.specs.Recovered.{Image, RecoversTo, SameFiles, contents, recovered}
use Rattle.org_fileset.specs.Names.{with_archives, AreSorted}
use Rattle.org_fileset.proofs.Sorted.{archives_grow}
use Rattle.org_commands.specs.InOrder.{texts_of}
use Rattle.org_commands.specs.Session.{Session}
use Rattle.org_commands.proofs.InOrder.{apart_from, texts_same}
use Rattle.org_store.specs.History.{Trace}
use Rattle.org_store.specs.Reopening.{AreSameNames, AreSmall}
use Rattle.org_store.proofs.Listed.{each_at}
use Rattle.org_store.proofs.OnePlace.{distinct, texts_back}
use Rattle.org_store.proofs.Reopening.{apart_names}
use Rattle.org_store.proofs.Sortings.{one_sorting}
use Rattle.org_serve.specs.declared.end.ServeEnd.{ServeEnd}
use Rattle.org_serve.specs.declared.whole.Setup.{Setup}
use Rattle.org_serve.specs.Pipes.{Exchange}
use Rattle.org_serve.specs.Promises.{IsAfterPrefix, files_after}
use Rattle.org_serve.specs.Whole.{IsIntermediate, ServesOver}
use Rattle.org_serve.proofs.Listed.{here_small}

-- what an image recovers to, and what lies on a disk that recovered to it
agreeing : (found : Option Image) (now texts : Image) → IsSomeAnd found (SameFiles now) → IsSomeAnd found (λ files. SameFiles files texts) → SameFiles now texts
agreeing (Some files) now texts made is = λ name not. made name not ∙ is name not
agreeing None now texts made is = absurd made

-- the same names, put in order
in_order : (given more names : List (List ℕ)) → AreSameNames given more → AreSorted given names → AreSorted more names
in_order given more names same sorted = record {
  ordered = sorted.ordered;
  members = λ name. (λ there. (same name).0 ((sorted.members name).0 there), λ there. (sorted.members name).1 ((same name).1 there));
}

-- .. with those of their archive files
with_archives_in_order : (given more names : List (List ℕ)) → AreSameNames given more → AreSorted (with_archives given) names → AreSorted (with_archives more) names
with_archives_in_order given more names same sorted =
    in_order (with_archives given) (with_archives more) names
    (λ name. (archives_grow given more (λ one there. (same one).0 there) name, archives_grow more given (λ one there. (same one).1 there) name)) sorted

module _ {D E : Type 0} {g : Ghosts D} {h : Ghosts E} {one other : Setup} {disk now : D} {left after : E} {end last : ServeEnd} {io more : Exchange}
    (first : ServesOver g one disk now end io) (second : ServesOver h other left after last more) where
  same_names : AreSameNames one.names.items other.names.items → second.first.store.session.names ≡ first.first.store.session.names
  same_names same =
      one_sorting (with_archives other.names.items) second.first.store.session.names first.first.store.session.names second.begins.names
      (with_archives_in_order one.names.items other.names.items first.first.store.session.names same first.begins.names)

  -- the second run begins with the files that the image recovers to; its names are in the order of
  -- these
  begins_with : (given : List (List ℕ)) (found image : Image) → All IsOrgFile given → AreSorted (with_archives given) second.first.store.session.names → RecoversTo found image
      → ((name : List ℕ) → contents (h.files left) name ≡ image name) → h.honest second.first.store.disk → second.first.store.session.files ≡ texts_of found second.first.store.session.names
  begins_with given found image org sorted recovers reads there =
      let names = second.first.store.session.names in
      let opened = contents (h.files second.first.store.disk) in
      let image_is : contents (h.files left) ≡ image = λ i name. reads name i in
      let agree : SameFiles opened found =
      agreeing (recovered image) opened found (subst (λ (f : Image). IsSomeAnd (recovered f) (SameFiles opened)) image_is (second.reopened there).recovered_then) recovers in
      ap (λ (s : Session). s.files) second.begins.session ∙ texts_same opened found names (λ name own. agree name (apart_from names (apart_names given names org sorted) name own))

  pub goes_on : (state : Trace D) (least : ℕ) (image : Image) → All IsOrgFile other.names.items → IsAfterPrefix first state least image
      → ((name : List ℕ) → contents (h.files left) name ≡ image name) → h.honest second.first.store.disk
      → (n : ℕ) × (least ≤ n) × (n ≤ state.store.session.accepted)
      × IsSomeAnd (slice_get state.texts n) (λ texts. second.first.store.session.files ≡ texts_of (files_after first texts) second.first.store.session.names)
  goes_on state least image org held reads there = (held.0, held.1, held.2, some (slice_get state.texts held.0) held.3)
    where
      some : (found : Option (List (List ℕ))) → IsSomeAnd found (λ texts. RecoversTo (files_after first texts) image)
          → IsSomeAnd found (λ texts. second.first.store.session.files ≡ texts_of (files_after first texts) second.first.store.session.names)
      some None recovers = absurd recovers
      some (Some texts) recovers = begins_with other.names.items (files_after first texts) image org second.begins.names recovers reads there

  -- .. with the same names: its texts are those of the list
  pub goes_on_same : (state : Trace D) (least : ℕ) (image : Image) → All IsOrgFile one.names.items → IsIntermediate first state → g.honest state.store.disk → IsAfterPrefix first state least image
      → AreSameNames one.names.items other.names.items → ((name : List ℕ) → contents (h.files left) name ≡ image name) → h.honest second.first.store.disk
      → (n : ℕ) × (least ≤ n) × (n ≤ state.store.session.accepted) × (slice_get state.texts n ≡ Some second.first.store.session.files)
  goes_on_same state least image org way honestly held same reads there = (held.0, held.1, held.2, some (slice_get state.texts held.0) refl held.3)
    where
      names : List (List ℕ)
      names = first.first.store.session.names

      sorted : AreSorted (with_archives one.names.items) second.first.store.session.names
      sorted = subst (AreSorted (with_archives one.names.items)) (sym (same_names same)) first.begins.names

      some : (found : Option (List (List ℕ))) → slice_get state.texts held.0 ≡ found → IsSomeAnd found (λ texts. RecoversTo (files_after first texts) image)
          → slice_get state.texts held.0 ≡ Some second.first.store.session.files
      some None is recovers = absurd recovers
      some (Some texts) is recovers =
          let small = each_at (AreSmall names) state.texts held.0 texts (here_small first state least image way honestly) is in
          let begun : second.first.store.session.files ≡ texts =
          begins_with one.names.items (files_after first texts) image org sorted recovers reads there
          ∙ ap (texts_of (files_after first texts)) (same_names same)
          ∙ texts_back names texts (contents (g.files first.first.store.disk)) (distinct names first.begins.names.ordered) small.one_each in
          is ∙ ap (λ (t : List (List ℕ)). Some t) (sym begun)
