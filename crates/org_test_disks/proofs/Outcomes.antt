-- What an outcome leaves of a file stays an image, call by call.
use Rattle.std.proofs.Common.{◌≡◌, ◌⊎◌, inl, inr, ℕ, ◌+◌, ◌<◌, ◌≤◌, List, length, Result, Ok, Err, OnOk, sym, ◌∙◌, subst, arith}
use Rattle.std.proofs.lemmas.List.{get_or-take}
use Rattle.std.specs.declared.alloc.AllocError.{AllocError}
use Rattle.org_splice.specs.Overwritten.{overwritten}
use Rattle.org_splice.proofs.Overwritten.{overwritten-beside, overwritten-bounds}
use Rattle.org_disk.specs.Disk.{FileState, IsImage, cut, write}
use Rattle.org_disk.proofs.Ranges.{outside_range}

module _ (from : ℕ) (bytes : List ℕ) (file : FileState) (left : List ℕ) (own : IsImage file file.content) (image : IsImage file left) where
  -- no more bytes went out than were written
  pub write_piece : (piece : List ℕ) → length piece ≤ length bytes → IsImage (write from bytes file) (overwritten from piece left)
  write_piece piece short =
      let long = overwritten-bounds from piece left in
      record {
        no_shorter = omega (arith, image.no_shorter, long.0);
        no_longer = omega (arith, image.no_longer, long.1, short);
        fixed = λ i fixed.
            let apart = outside_range from bytes file.written i fixed.1 in
            overwritten-beside from piece left i (omega (arith, fixed.0, image.no_shorter)) (nearer i apart.0)
            ∙ image.fixed i (fixed.0, apart.1) ∙ sym (overwritten-beside from bytes file.content i (omega (arith, fixed.0, own.no_shorter)) apart.0);
      }
    where
      nearer : (i : ℕ) → (i < from) ⊎ (from + length bytes ≤ i) → (i < from) ⊎ (from + length piece ≤ i)
      nearer i (inl before) = inl before
      nearer i (inr after) = inr (omega (arith, after, short))

-- the same, where memory may have been refused
pub write_left : (from : ℕ) (bytes left piece next : List ℕ) (r : Result (Unit {0}) AllocError) → length piece ≤ length bytes → OnOk r (next ≡ overwritten from piece left)
    → OnOk r ((file : FileState) → IsImage file file.content → IsImage file left → IsImage (write from bytes file) next)
write_left from bytes left piece next (Ok tt) short made =
    λ file own image. subst (λ (b : List ℕ). IsImage (write from bytes file) b) (sym made) (write_piece from bytes file left own image piece short)
write_left from bytes left piece next (Err e) short made = tt

module _ (n : ℕ) (file : FileState) (left : List ℕ) (image : IsImage file left) where
  -- nothing of a cut took place
  pub cut_none : IsImage (cut n file) left
  cut_none = record {
    no_shorter = omega (arith, image.no_shorter);
    no_longer = image.no_longer;
    fixed = λ i fixed. image.fixed i (omega (arith, fixed.0), fixed.1) ∙ sym (get_or-take n file.content i 0 (omega (arith, fixed.0)));
  }
