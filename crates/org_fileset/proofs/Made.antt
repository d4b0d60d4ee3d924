-- What an entry makes of a text: what its patches make of it with the length that a replay keeps.
use Rattle.std.proofs.Common.{◌≡◌, ◌⊎◌, inl, inr, ⊎_elim, ℕ, ◌+◌, ◌-◌, ◌<◌, ◌≤◌, max, List, length, take, drop, true, false, Option, Some, None, refl, sym, ◌∙◌, ap, subst, arith, length-drop}
use Rattle.std.specs.Prelude.{nat_lt, slice_get, Bool, IsTrue}
use Rattle.std.proofs.lemmas.Bool.{cases_Bool, false≢true, le-ltb, lt-ltb}
use Rattle.std.proofs.lemmas.List.{ext_get_or, get_or-drop}
use Rattle.org_splice.specs.Patches.{AreWellFormed, Fit, PatchedTo, patched}
use Rattle.org_splice.specs.Texts.{pairs_of}
use Rattle.org_splice.proofs.Again.{PatchedTo-written, PatchedTo-cut, PatchedTo-twice}
use Rattle.org_splice.proofs.Patching.{length-patched, patched-outside}
use Rattle.org_journal.specs.declared.record.Before.{Before}
use Rattle.org_journal.specs.declared.record.Entry.{Entry}
use Rattle.org_journal.specs.Recovered.{kept_by, made_by, may_cut}
use Rattle.org_fileset.specs.Left.{IsLeftBy}
use Rattle.org_fileset.specs.Replay.{IsMadeBy, length_before}
use Rattle.org_fileset.proofs.Steps.{next_small}
use Rattle.org_fileset.proofs.Allowed.{out_after}

-- the final length is kept, or all of a longer file
pub kept_cut : (before : Option Before) (final size : ℕ) → may_cut before final ≡ true → kept_by before final size ≡ final
kept_cut before final size cuts = rw cuts refl

pub kept_all : (before : Option Before) (final size : ℕ) → may_cut before final ≡ false → kept_by before final size ≡ max final size
kept_all before final size stays = rw stays refl

kept_cases : (before : Option Before) (final size : ℕ) → (kept_by before final size ≡ final) ⊎ (kept_by before final size ≡ max final size)
kept_cases before final size = elim (cases_Bool (may_cut before final)) [
  | inl cuts ↦ inl (kept_cut before final size cuts)
  | inr stays ↦ inr (kept_all before final size stays)
]

-- a file that was longer may be cut
pub longer_cut : (before : Option Before) (final length size : ℕ) → length ≡ length_before before size → final < length → may_cut before final ≡ true
longer_cut None final length size is less = refl
longer_cut (Some before) final length size is less = lt-ltb final before.length (omega (arith, is, less))

-- one that wasn't keeps all that it has after the patches
pub shorter_kept : (before : Option Before) (final length size end : ℕ) → length ≡ length_before before size → length ≤ final → end ≤ final → max size end ≤ kept_by before final size
shorter_kept None final length size end is short within = omega (arith, is, short, within)
shorter_kept (Some before) final length size end is short within =
    let f : nat_lt final before.length ≡ false = le-ltb final before.length (omega (arith, is, short)) in
    rw f (omega (arith, within))

module _ (entry : Entry) (formed : AreWellFormed (pairs_of entry.patches) entry.length) where
  abbrev kept : List ℕ → ℕ
  kept text = kept_by entry.before entry.length (length text)

  pub kept_long : (text : List ℕ) → entry.length ≤ kept text
  kept_long text = ⊎_elim (λ cuts. omega (arith, cuts)) (λ stays. omega (arith, stays)) (kept_cases entry.before entry.length (length text))

  pub kept_formed : (text : List ℕ) → AreWellFormed (pairs_of entry.patches) (kept text)
  kept_formed text = record {
    some = formed.some;
    few = formed.few;
    rise = formed.rise;
    full = formed.full;
    within = omega (arith, formed.within, kept_long text);
  }

  pub kept_fit : (text : List ℕ) → Fit (pairs_of entry.patches) entry.length (length text) → Fit (pairs_of entry.patches) (kept text) (length text)
  kept_fit text fit = record {
    begin = fit.begin;
    ends = ⊎_elim (λ cuts. omega (arith, cuts, fit.ends)) (λ stays. omega (arith, stays, fit.ends)) (kept_cases entry.before entry.length (length text));
  }

  -- the patches, with the length that is kept
  made_patched : {keep : Bool} (text to : List ℕ) → IsMadeBy keep entry text to → PatchedTo (pairs_of entry.patches) (kept text) text to
  made_patched text to made = record { fit = kept_fit text made.fit; makes = made.makes }

  patched_made : {keep : Bool} (n : ℕ) (text to : List ℕ) → kept text ≡ n → (IsTrue keep → IsLeftBy entry text) → PatchedTo (pairs_of entry.patches) n text to → IsMadeBy keep entry text to
  patched_made n text to is left patched_to = record {
    fit = record { begin = patched_to.fit.begin; ends = omega (arith, is, patched_to.fit.ends, kept_long text) };
    makes = ap (λ (m : ℕ). patched (pairs_of entry.patches) m text) is ∙ patched_to.makes;
    left = left;
  }

  pub length-made : {keep : Bool} (text to : List ℕ) → IsMadeBy keep entry text to → length to ≡ kept text
  length-made text to made = ap length (sym made.makes) ∙ length-patched (pairs_of entry.patches) (kept text) text formed.rise (kept_fit text made.fit)

  -- equal outside one of the patches: what a write of it, done in part, may leave
  pub made_written : {keep : Bool} (a b to : List ℕ) (k from : ℕ) (bytes : List ℕ) → slice_get (pairs_of entry.patches) k ≡ Some (from, bytes)
      → take from a ≡ take from b → drop (from + length bytes) a ≡ drop (from + length bytes) b → (IsTrue keep → IsLeftBy entry a) → IsMadeBy keep entry b to → IsMadeBy keep entry a to
  made_written a b to k from bytes is before after left made =
      patched_made (kept b) a to same left (PatchedTo-written (pairs_of entry.patches) (kept b) a b to k from bytes (kept_formed b) is before after (made_patched b to made))
    where
      same : kept a ≡ kept b
      same = elim (cases_Bool (may_cut entry.before entry.length)) [
        | inl cuts ↦ kept_cut entry.before entry.length (length a) cuts ∙ sym (kept_cut entry.before entry.length (length b) cuts)
        | inr stays ↦
            let backs : length a - (from + length bytes) ≡ length b - (from + length bytes) = sym (length-drop (from + length bytes) a) ∙ ap length after ∙ length-drop (from + length bytes) b in
            let within : from + length bytes ≤ entry.length = next_small (pairs_of entry.patches) entry.length k from bytes b formed made.fit is in
            omega (arith, kept_all entry.before entry.length (length a) stays, kept_all entry.before entry.length (length b) stays, backs, within)
      ]

  -- equal below the final length: what a cut to it, done in part, may leave
  pub made_cut : {keep : Bool} (a b to : List ℕ) → may_cut entry.before entry.length ≡ true → take entry.length a ≡ take entry.length b → (IsTrue keep → IsLeftBy entry a) → IsMadeBy keep entry b to → IsMadeBy keep entry a to
  made_cut a b to cuts same left made =
      let at_b = kept_cut entry.before entry.length (length b) cuts in
      let there : PatchedTo (pairs_of entry.patches) entry.length b to = subst (λ (n : ℕ). PatchedTo (pairs_of entry.patches) n b to) at_b (made_patched b to made) in
      patched_made entry.length a to (kept_cut entry.before entry.length (length a) cuts) left (PatchedTo-cut (pairs_of entry.patches) entry.length a b to formed same there)

  -- applied again, the entry makes the same
  pub made_twice : (text : List ℕ) → Fit (pairs_of entry.patches) entry.length (length text) → IsMadeBy false entry (made_by entry text) (made_by entry text)
  made_twice text fit =
      let made : IsMadeBy false entry text (made_by entry text) = record { fit = fit; makes = refl; left = λ t. absurd (false≢true t) } in
      let long = length-made text (made_by entry text) made in
      patched_made (kept text) (made_by entry text) (made_by entry text) (same long) (λ t. absurd (false≢true t)) (PatchedTo-twice (pairs_of entry.patches) (kept text) text (made_by entry text) (kept_formed text) (made_patched text (made_by entry text) made))
    where
      same : length (made_by entry text) ≡ kept text → kept (made_by entry text) ≡ kept text
      same long = elim (cases_Bool (may_cut entry.before entry.length)) [
        | inl cuts ↦ kept_cut entry.before entry.length (length (made_by entry text)) cuts ∙ sym (kept_cut entry.before entry.length (length text) cuts)
        | inr stays ↦ omega (arith, long, kept_all entry.before entry.length (length (made_by entry text)) stays, kept_all entry.before entry.length (length text) stays)
      ]

  -- what a longer file has past the final length stays, where the entry may not cut
  pub rest_stays : (text : List ℕ) → Fit (pairs_of entry.patches) entry.length (length text) → may_cut entry.before entry.length ≡ false
      → drop entry.length (made_by entry text) ≡ drop entry.length text
  rest_stays text fit stays =
      let made : IsMadeBy false entry text (made_by entry text) = record { fit = fit; makes = refl; left = λ t. absurd (false≢true t) } in
      let all = kept_all entry.before entry.length (length text) stays in
      let long = length-made text (made_by entry text) made in
      let sizes : length (drop entry.length (made_by entry text)) ≡ length (drop entry.length text) =
      omega (arith, long, all, length-drop entry.length (made_by entry text), length-drop entry.length text) in
      ext_get_or 0 (drop entry.length (made_by entry text)) (drop entry.length text) sizes (λ i within.
      get_or-drop entry.length (made_by entry text) i 0
      ∙ patched-outside (pairs_of entry.patches) (kept text) text (entry.length + i) formed.rise (kept_fit text fit)
      (omega (arith, within, long, length-drop entry.length (made_by entry text)))
      (out_after 0 (pairs_of entry.patches) (entry.length + i) formed.rise (omega (arith, formed.within)))
      ∙ sym (get_or-drop entry.length text i 0))
