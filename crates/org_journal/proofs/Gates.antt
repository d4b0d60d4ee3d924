-- What a crash leaves of the journal while its gate, or the bytes after it, are written.
use Rattle.std.proofs.Common.{rules, ◌≡◌, ◌≢◌, Bool, true, false, zero, suc, inl, inr, ⊎_elim, ℕ, ◌+◌, ◌-◌, ◌<◌, ◌≤◌, ◌∷◌, List, [], length, take, drop, refl, sym, ◌∙◌, ap, subst, arith}
use Rattle.std.proofs.lemmas.Grind.{common_steps}
use Rattle.std.specs.Prelude.{IsFalse, IsErr, Result, Ok, Err, slice_index, max, nat_le, ◌==◌, ◌&&◌}
use Rattle.std.proofs.lemmas.Bool.{cases_lt, eqb-true}
use Rattle.std.proofs.lemmas.List.{same_lists, get_or-drop, get_or-take, length-drop, length-take, get_or_default}
use Rattle.org_splice.specs.Overwritten.{overwritten}
use Rattle.org_disk.specs.declared.disk.DiskFault.{DiskFault}
use Rattle.org_disk.specs.Disk.{FileState, Changes, IsFixed, IsImage, IsStable, AreLeftBy, IsLeftBy, MayLeave, stable, write, sync}
use Rattle.org_disk.proofs.Images.{only_image, stable_is, fixed_after_write}
use Rattle.org_disk.specs.OwnImages.{write_own}
use Rattle.org_journal.specs.Finding.{EndsAt}
use Rattle.org_journal.specs.Gate.{front_size, is_open, HasClosedGate, HasSameRecord, LeavesBody, LeavesClosed, LeavesRecord, Puts}
use Rattle.org_journal.proofs.Fitting.{same_record}

-- the gate alone
pub overwritten_gate : (gate : ℕ) (text : List ℕ) → overwritten 0 (gate ∷ []) text ≡ gate ∷ drop 1 text
overwritten_gate gate [] = refl
overwritten_gate gate (x ∷ text) = refl

module _ (journal : List ℕ) (gate : ℕ) (files : List ℕ → FileState) (is : IsStable (files journal)) where
  abbrev content : List ℕ
  content = (files journal).content

  -- the bytes after the gate are those of the content
  abbrev HasBody : List ℕ → Type 0
  HasBody bytes = drop 1 bytes ≡ drop 1 content

  body_before : (bytes : List ℕ) → IsImage (files journal) bytes → HasBody bytes
  body_before bytes image = ap (λ (l : List ℕ). drop 1 l) (only_image is bytes image)

  body_written : (bytes : List ℕ) → IsImage (write 0 (gate ∷ []) (files journal)) bytes → HasBody bytes
  body_written bytes image =
      let at_least : (files journal).least ≤ length bytes = image.no_shorter in
      let same : length bytes - 1 ≡ length content - 1 = omega (arith, at_least, image.no_longer, is.least, is.greatest) in
      same_lists (drop 1 bytes) (drop 1 content) (length-drop 1 bytes ∙ same ∙ sym (length-drop 1 content)) (λ k d within.
      let here : 1 + k < length bytes = omega (arith, within, length-drop 1 bytes) in
      let inside : 1 + k < length content = omega (arith, here, same) in
      let below : 1 + k < (files journal).least = omega (arith, inside, is.least) in
      get_or-drop 1 bytes k d ∙ get_or_default bytes (1 + k) d 0 here
      ∙ fixed_after_write 0 (gate ∷ []) (files journal) bytes image (omega arith) (1 + k) (below, is.fixed (1 + k) inside) (inr (omega arith))
      ∙ get_or_default content (1 + k) 0 d inside ∙ sym (get_or-drop 1 content k d))

  pub gate_write : (image : List ℕ → List ℕ) → AreLeftBy (write 0 (gate ∷ [])) journal files image → LeavesBody journal files image
  gate_write image left = grind (arith, common_steps, body_before, body_written)

  pub gate_sync : (mid : List ℕ → FileState) → mid journal ≡ write 0 (gate ∷ []) (files journal) → ((other : List ℕ) → other ≢ journal → mid other ≡ files other)
      → (image : List ℕ → List ℕ) → AreLeftBy sync journal mid image → LeavesBody journal files image
  gate_sync mid is_written others image left = search (rules, arith, stable, only_image, stable_is, overwritten_gate, content, body_written)

-- ---- a gate whose sync failed, marked

-- a byte written over the first one, of a file that has these bytes after it in each image
module _ (file : FileState) (body : List ℕ) (own : IsImage file file.content) (images : (bytes : List ℕ) → IsImage file bytes → drop 1 bytes ≡ body) where
  abbrev unmarked : List ℕ → List ℕ
  unmarked [] = []
  unmarked (first ∷ rest) = slice_index file.content 0 ∷ rest

  same_length : (bytes : List ℕ) → length (unmarked bytes) ≡ length bytes
  same_length [] = refl
  same_length (first ∷ rest) = refl

  same_first : (bytes : List ℕ) → 1 ≤ length bytes → slice_index (unmarked bytes) 0 ≡ slice_index file.content 0
  same_first [] some = absurd (omega arith)
  same_first (first ∷ rest) some = refl

  same_behind : (bytes : List ℕ) (i : ℕ) → slice_index (unmarked bytes) (suc i) ≡ slice_index bytes (suc i)
  same_behind [] i = refl
  same_behind (first ∷ rest) i = refl

  same_body : (bytes : List ℕ) → drop 1 (unmarked bytes) ≡ drop 1 bytes
  same_body [] = refl
  same_body (first ∷ rest) = refl

  kept_behind : (mark : ℕ) (text : List ℕ) (i : ℕ) → slice_index (overwritten 0 (mark ∷ []) text) (suc i) ≡ slice_index text (suc i)
  kept_behind mark [] i = refl
  kept_behind mark (x ∷ text) i = refl

  unmarked_fixed : (mark : ℕ) (bytes : List ℕ) → IsImage (write 0 (mark ∷ []) file) bytes → (i : ℕ) → IsFixed file i → slice_index (unmarked bytes) i ≡ slice_index file.content i
  unmarked_fixed mark bytes image zero fixed = same_first bytes (omega (arith, fixed.0, image.no_shorter))
  unmarked_fixed mark bytes image (suc i) fixed =
      same_behind bytes i ∙ image.fixed (suc i) (fixed.0, (inr (omega arith), fixed.1)) ∙ kept_behind mark file.content i

  unmarked_image : (mark : ℕ) (bytes : List ℕ) → IsImage (write 0 (mark ∷ []) file) bytes → length bytes ≤ file.greatest → IsImage file (unmarked bytes)
  unmarked_image mark bytes image within = record {
    no_shorter = omega (arith, same_length bytes, image.no_shorter);
    no_longer = omega (arith, same_length bytes, within);
    fixed = unmarked_fixed mark bytes image;
  }

  no_body : (bytes : List ℕ) → length bytes ≤ 1 → drop 1 bytes ≡ []
  no_body [] short = refl
  no_body (first ∷ []) short = refl
  no_body (first ∷ second ∷ rest) short = absurd (omega (arith, short))

  marked_long : (mark : ℕ) (bytes : List ℕ) → IsImage (write 0 (mark ∷ []) file) bytes → file.greatest < length bytes → drop 1 bytes ≡ body
  marked_long mark bytes image beyond =
      let long : length bytes ≤ max file.greatest 1 = image.no_longer in
      no_body bytes (omega (arith, long, beyond)) ∙ sym (no_body file.content (omega (arith, own.no_longer, long, beyond))) ∙ images file.content own

  marked_body : (mark : ℕ) (bytes : List ℕ) → IsImage (write 0 (mark ∷ []) file) bytes → drop 1 bytes ≡ body
  marked_body mark bytes image = ⊎_elim
      (λ beyond. marked_long mark bytes image beyond)
      (λ within. sym (same_body bytes) ∙ images (unmarked bytes) (unmarked_image mark bytes image within))
      (cases_lt file.greatest (length bytes))

-- what a sync that failed left
pub left_by : {journal : List ℕ} {old new : List ℕ → FileState} (result : Result (Unit {0}) DiskFault) → IsErr result → Changes sync journal old new result → IsLeftBy sync (old journal) (new journal)
left_by (Ok done) failed changes = let bad : false ≡ true = failed in cc
left_by (Err fault) failed changes = changes.err

module _ (journal : List ℕ) (gate : ℕ) (files : List ℕ → FileState) (is : IsStable (files journal)) (mid new : List ℕ → FileState) where
  synced_body : mid journal ≡ write 0 (gate ∷ []) (files journal) → (bytes : List ℕ) → MayLeave sync (mid journal) bytes → drop 1 bytes ≡ drop 1 (files journal).content
  synced_body written bytes left = ⊎_elim
      (λ before. body_written journal gate files is bytes (subst (λ (f : FileState). IsImage f bytes) written before))
      (λ after. ap (λ (l : List ℕ). drop 1 l) (only_image (stable_is (mid journal).content) bytes after ∙ ap (λ (f : FileState). f.content) written ∙ overwritten_gate gate (files journal).content))
      left

  -- within the write of a mark, after a sync that failed
  pub gate_lost : (mark : ℕ) → mid journal ≡ write 0 (gate ∷ []) (files journal) → ((other : List ℕ) → other ≢ journal → mid other ≡ files other)
      → IsLeftBy sync (mid journal) (new journal) → ((other : List ℕ) → other ≢ journal → new other ≡ mid other) → IsImage (new journal) (new journal).content
      → (image : List ℕ → List ℕ) → AreLeftBy (write 0 (mark ∷ [])) journal new image → LeavesBody journal files image
  gate_lost mark written others failed same own image left =
      let images = λ (bytes : List ℕ) (is : IsImage (new journal) bytes). synced_body written bytes (failed.images bytes is) in
      record {
        body = ⊎_elim (images (image journal)) (marked_body (new journal) (drop 1 (files journal).content) own images mark (image journal)) left.here;
        others = λ other apart. subst (λ (f : FileState). IsImage f (image other)) (same other apart ∙ others other apart) (left.others other apart);
      }

-- ---- a byte after the record of an open journal

module _ (journal : List ℕ) (end : ℕ) (files : List ℕ → FileState) (is : IsStable (files journal)) (ends : EndsAt (files journal).content end) where
  abbrev mark : FileState → FileState
  mark = write end (0 ∷ [])

  own : IsImage (files journal) (files journal).content
  own = record { no_shorter = omega (arith, is.least); no_longer = omega (arith, is.greatest); fixed = λ i fixed. refl }

  front_written : (bytes : List ℕ) → IsImage (mark (files journal)) bytes → take end bytes ≡ take end (files journal).content
  front_written bytes image =
      let text = (files journal).content in
      let at_least : (files journal).least ≤ length bytes = image.no_shorter in
      let one : length (take end bytes) ≡ end = omega (arith, length-take end bytes, at_least, is.least, ends.within) in
      let other : length (take end text) ≡ end = omega (arith, length-take end text, ends.within) in
      same_lists (take end bytes) (take end text) (one ∙ sym other) (λ k d within.
      let here : k < end = omega (arith, within, one) in
      let inside : k < length text = omega (arith, here, ends.within) in
      get_or-take end bytes k d here ∙ get_or_default bytes k d 0 (omega (arith, inside, at_least, is.least))
      ∙ fixed_after_write end (0 ∷ []) (files journal) bytes image ends.within k (omega (arith, inside, is.least), is.fixed k inside) (inl here)
      ∙ get_or_default text k 0 d inside ∙ sym (get_or-take end text k d here))

  written_same : (bytes : List ℕ) → IsImage (mark (files journal)) bytes → HasSameRecord (files journal).content bytes
  written_same bytes image =
      let at_least : (files journal).least ≤ length bytes = image.no_shorter in
      same_record (files journal).content bytes end ends (front_written bytes image) (omega (arith, at_least, is.least, ends.within))

  before_same : (bytes : List ℕ) → IsImage (files journal) bytes → HasSameRecord (files journal).content bytes
  before_same bytes image = subst (HasSameRecord (files journal).content) (sym (only_image is bytes image)) (record { opened = refl; found = refl })

  -- within the write, and after one that failed
  pub mark_here : (bytes : List ℕ) → MayLeave mark (files journal) bytes → HasSameRecord (files journal).content bytes
  mark_here bytes left = ⊎_elim (before_same bytes) (written_same bytes) left

  pub mark_write : (image : List ℕ → List ℕ) → AreLeftBy mark journal files image → LeavesRecord journal files image
  mark_write image left = record { here = mark_here (image journal) left.here; others = left.others }

  module _ (mid : List ℕ → FileState) (is_written : mid journal ≡ mark (files journal)) where
    synced_same : (bytes : List ℕ) → MayLeave sync (mid journal) bytes → HasSameRecord (files journal).content bytes
    synced_same bytes left = ⊎_elim
        (λ before. written_same bytes (subst (λ (f : FileState). IsImage f bytes) is_written before))
        (λ after. subst (HasSameRecord (files journal).content) (sym (only_image (stable_is (mid journal).content) bytes after))
        (written_same (mid journal).content (subst (λ (f : FileState). IsImage f (mid journal).content) is_written
        (subst (λ (f : FileState). IsImage f f.content) (sym is_written) (write_own end (0 ∷ []) (files journal) own)))))
        left

    -- within the sync
    pub mark_sync : ((other : List ℕ) → other ≢ journal → mid other ≡ files other)
        → (image : List ℕ → List ℕ) → AreLeftBy sync journal mid image → LeavesRecord journal files image
    mark_sync others image left = record {
      here = synced_same (image journal) left.here;
      others = λ other apart. subst (λ (f : FileState). IsImage f (image other)) (others other apart) (left.others other apart);
    }

    -- after it, also where it failed
    pub mark_after : (new : List ℕ → FileState) (r : Result (Unit {0}) DiskFault) → Changes sync journal mid new r
        → (bytes : List ℕ) → IsImage (new journal) bytes → HasSameRecord (files journal).content bytes
    mark_after new (Ok done) synced bytes image = synced_same bytes (inr (subst (λ (f : FileState). IsImage f bytes) synced.ok image))
    mark_after new (Err fault) synced bytes image = synced_same bytes (synced.err.images bytes image)

  -- after a write that failed
  pub mark_failed : (new : List ℕ → FileState) → IsLeftBy mark (files journal) (new journal)
      → (bytes : List ℕ) → IsImage (new journal) bytes → HasSameRecord (files journal).content bytes
  mark_failed new left bytes image = mark_here bytes (left.images bytes image)

-- ---- the bytes after a closed gate

both_false : (a b : Bool) → b ≡ false → (a && b) ≡ false
both_false true b e = e
both_false false b e = refl

-- the first byte alone closes the gate
closed_is : (bytes text : List ℕ) → slice_index bytes 0 ≡ slice_index text 0 → slice_index text 0 ≢ 1 → IsFalse (is_open bytes)
closed_is bytes text same closed = both_false (nat_le front_size (length bytes)) (slice_index bytes 0 == 1) (by_test (slice_index bytes 0 == 1) refl)
  where
    by_test : (b : Bool) → (slice_index bytes 0 == 1) ≡ b → (slice_index bytes 0 == 1) ≡ false
    by_test true e = absurd (closed (sym same ∙ eqb-true _ _ e))
    by_test false e = e

-- bytes after the gate leave it as it is
gate_stays : (body text : List ℕ) → 1 ≤ length text → slice_index (overwritten 1 body text) 0 ≡ slice_index text 0
gate_stays body [] some = absurd (omega arith)
gate_stays body (x ∷ text) some = refl

module _ (journal body : List ℕ) (files : List ℕ → FileState) (is : HasClosedGate (files journal)) where
  pub behind_write : (image : List ℕ → List ℕ) → AreLeftBy (write 1 body) journal files image → LeavesClosed journal files image
  behind_write image left = grind (arith, common_steps)

-- ---- what the calls put

-- a write, and a sync
pub puts : (journal : List ℕ) (from : ℕ) (bytes content : List ℕ) (old mid new : List ℕ → FileState) (result : Result (Unit {0}) DiskFault)
    → overwritten from bytes (old journal).content ≡ content → mid journal ≡ write from bytes (old journal) → ((other : List ℕ) → other ≢ journal → mid other ≡ old other)
    → Changes sync journal mid new result → Puts journal content old new result
puts journal from bytes content old mid new result is_content is_written others synced = grind (arith, common_steps)

-- a call that failed
pub puts_failed : (journal content : List ℕ) (old new : List ℕ → FileState) (result : Result (Unit {0}) DiskFault)
    → IsErr result → ((other : List ℕ) → other ≢ journal → new other ≡ old other) → Puts journal content old new result
puts_failed journal content old new result failed others = grind (arith, common_steps)
