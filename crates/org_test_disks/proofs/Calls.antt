-- What a call in the record of a disk in memory did to its files and its past.
use Rattle.std.proofs.Common.{◌≡◌, ◌≢◌, ◌⊎◌, ℕ, ◌+◌, ◌<◌, ◌≤◌, get_or, List, [], ◌∷◌, ◌++◌, length, take, Bool, true, false, Result, Ok, Err, OnOk, OnErr, IsNone, Option, None, Some, Vec, refl, sym, ◌∙◌, ap, subst, inl, inr, ⊎_elim, arith, length-append, count_by, cond}
use Rattle.std.proofs.lemmas.List.Sums.{sum_by_push}
use Rattle.std.proofs.lemmas.Bool.{cases_Bool, cond-true, cond-false, cases_lt, false≢true, true≢false}
use Rattle.std.proofs.lemmas.List.{take_all, take_more, take-append-le}
use Rattle.std.proofs.lemmas.Slice.Eq.{bytes_eq-Decides}
use Rattle.std.specs.Option.{option_map_or}
use Rattle.std.specs.Str.{bytes_eq}
use Rattle.std.specs.declared.alloc.AllocError.{AllocError}
use Rattle.std.specs.declared.alloc.Global.{Global}
use Rattle.indexmap.specs.IndexMap.{get}
use Rattle.org_disk.specs.Disk.{FileState, IsImage, AreImages, AreLeftBy, Changes, Passes, stable, IsCounted}
use Rattle.org_disk.specs.declared.disk.DiskFault.{DiskFault}
use Rattle.org_test_disks.specs.declared.memory.Effect.{Effect}
use Rattle.org_test_disks.specs.declared.memory.Effect.TheVariants.{Set, Nothing}
use Rattle.org_test_disks.specs.declared.memory.Call.{Call}
use Rattle.org_test_disks.specs.Record.{effect_of, step, state_after, files_after, is_call, LeftSince, IsTried, call_of, Contents, content_in, items_or, Keeps}
use Rattle.org_test_disks.specs.RecordLaws.{own_image}
use Rattle.org_test_disks.specs.Memory.{HasNoEffect, CountsDown, KeepsPlan, TakesTurn, is_due}
use Rattle.org_test_disks.specs.declared.memory.MemoryDisk.{MemoryDisk}
use Rattle.org_disk.proofs.Moments.{Image, passes_none}
use Rattle.std.specs.Prelude.{IsFalse}

abbrev pub done : Result (Unit {0}) DiskFault
done = Ok tt

abbrev pub failed : DiskFault → Result (Unit {0}) DiskFault
failed fault = Err fault

-- a call on another file
pub step_other : (call : Call) (name : List ℕ) (file : FileState) → name ≢ call.name → step call name file ≡ file
step_other call name file apart = cond-false (bytes_eq call.name name) (effect_of call.effect file) file
    (⊎_elim (λ t. absurd (apart (sym ((bytes_eq-Decides call.name name).0 t)))) (λ f. f) (cases_Bool (bytes_eq call.name name)))

-- a call on this file
pub step_same : (call : Call) (file : FileState) → step call call.name file ≡ effect_of call.effect file
step_same call file = cond-true (bytes_eq call.name call.name) (effect_of call.effect file) file ((bytes_eq-Decides call.name call.name).1 refl)

-- a call without effect
step_nothing : (name other : List ℕ) (crashed : Bool) (file : FileState) → step (call_of name Nothing crashed) other file ≡ file
step_nothing name other crashed file = ⊎_elim (cond-true (bytes_eq name other) file file) (cond-false (bytes_eq name other) file file) (cases_Bool (bytes_eq name other))

state_after-push : (calls : List Call) (call : Call) (name : List ℕ) (file : FileState) → state_after (calls ++ call ∷ []) name file ≡ step call name (state_after calls name file)
state_after-push [] call name file = refl
state_after-push (c ∷ calls) call name file = state_after-push calls call name (step c name file)

-- the files after one call more
pub files_after-push : (calls : List Call) (call : Call) (name : List ℕ) → files_after (calls ++ call ∷ []) name ≡ step call name (files_after calls name)
files_after-push calls call name = state_after-push calls call name (stable [])

-- one call more, after which each image has P
passes_push : (calls : List Call) (call : Call) (P : Image → Type 0) → ((image : Image) → AreImages (files_after (calls ++ call ∷ [])) image → P image)
    → Passes (length calls) (length (calls ++ call ∷ [])) (LeftSince calls) (LeftSince (calls ++ call ∷ [])) P
passes_push calls call P now = record {
  later = omega (arith, long);
  nothing_else = λ t image le left. at_one_of t image left.0 left.1 left.2 left.3 (before_or_last left.0 left.2);
  keeps = λ t image le left.
      (left.0, left.1, omega (arith, left.2, long), subst (λ (cs : List Call). AreImages (files_after cs) image) (sym (take-append-le left.0 calls (call ∷ []) left.2)) left.3);
}
  where
    long : length (calls ++ call ∷ []) ≡ length calls + 1
    long = length-append calls (call ∷ [])

    before_or_last : (k : ℕ) → k ≤ length (calls ++ call ∷ []) → (k ≤ length calls) ⊎ (length (calls ++ call ∷ []) ≤ k)
    before_or_last k le = ⊎_elim (λ below. inl (omega (arith, below, long))) (λ past. inr past) (cases_lt k (length (calls ++ call ∷ [])))

    at_one_of : (t : ℕ) (image : Image) (k : ℕ) → t ≤ k → k ≤ length (calls ++ call ∷ []) → AreImages (files_after (take k (calls ++ call ∷ []))) image
        → (k ≤ length calls) ⊎ (length (calls ++ call ∷ []) ≤ k) → LeftSince calls t image ⊎ P image
    at_one_of t image k from to left (inl before) =
        inl (k, from, before, subst (λ (cs : List Call). AreImages (files_after cs) image) (take-append-le k calls (call ∷ []) before) left)
    at_one_of t image k from to left (inr last) =
        inr (now image (subst (λ (cs : List Call). AreImages (files_after cs) image) (take_all k (calls ++ call ∷ []) last) left))

-- The record after a call that was made.
module _ (calls later : List Call) (call : Call) (is : later ≡ calls ++ call ∷ []) where
  here : files_after later call.name ≡ effect_of call.effect (files_after calls call.name)
  here = ap (λ (cs : List Call). files_after cs call.name) is ∙ files_after-push calls call call.name ∙ step_same call (files_after calls call.name)

  elsewhere : (other : List ℕ) → other ≢ call.name → files_after later other ≡ files_after calls other
  elsewhere other apart = ap (λ (cs : List Call). files_after cs other) is ∙ files_after-push calls call other ∙ step_other call other (files_after calls other) apart

  pub changes_made : Changes (effect_of call.effect) call.name (files_after calls) (files_after later) done
  changes_made = record { ok = here; err = tt; others = elsewhere }

  pub passes_made : Passes (length calls) (length later) (LeftSince calls) (LeftSince later) (AreLeftBy (effect_of call.effect) call.name (files_after calls))
  passes_made = subst (λ (cs : List Call). Passes (length calls) (length cs) (LeftSince calls) (LeftSince cs) (AreLeftBy (effect_of call.effect) call.name (files_after calls))) (sym is)
      (passes_push calls call (AreLeftBy (effect_of call.effect) call.name (files_after calls)) (λ image now. left image (subst (λ (cs : List Call). AreImages (files_after cs) image) (sym is) now)))
    where
      left : (image : Image) → AreImages (files_after later) image → AreLeftBy (effect_of call.effect) call.name (files_after calls) image
      left image now = record {
        here = inr (subst (λ f. IsImage f (image call.name)) here (now call.name));
        others = λ other apart. subst (λ f. IsImage f (image other)) (elsewhere other apart) (now other);
      }

-- A call without effect.
module _ (calls later : List Call) (name : List ℕ) (crashed : Bool) (is : later ≡ calls ++ call_of name Nothing crashed ∷ []) where
  file_same : (other : List ℕ) → files_after later other ≡ files_after calls other
  file_same other = ap (λ (cs : List Call). files_after cs other) is ∙ files_after-push calls (call_of name Nothing crashed) other ∙ step_nothing name other crashed (files_after calls other)

  pub files_same : files_after later ≡ files_after calls
  files_same = λ j other. file_same other j

  pub passes_still : (P : Image → Type 0) → ((image : Image) → AreImages (files_after calls) image → P image) → Passes (length calls) (length later) (LeftSince calls) (LeftSince later) P
  passes_still P now = subst (λ (cs : List Call). Passes (length calls) (length cs) (LeftSince calls) (LeftSince cs) P) (sym is)
      (passes_push calls (call_of name Nothing crashed) P (λ image left.
      now image (subst (λ (files : List ℕ → FileState). AreImages files image) files_same (subst (λ (cs : List Call). AreImages (files_after cs) image) (sym is) left))))

-- A call that isn't in the record.
module _ (calls later : List Call) (is : later ≡ calls) where
  pub passes_out : (P : Image → Type 0) → Passes (length calls) (length later) (LeftSince calls) (LeftSince later) P
  passes_out P = subst (λ (cs : List Call). Passes (length calls) (length cs) (LeftSince calls) (LeftSince cs) P) (sym is) (passes_none (length calls) (LeftSince calls) P)

changes_same : (effect : FileState → FileState) (calls later : List Call) (name : List ℕ) (fault : DiskFault) → files_after later ≡ files_after calls
    → Changes effect name (files_after calls) (files_after later) (failed fault)
changes_same effect calls later name fault same =
    subst (λ (files : List ℕ → FileState). Changes effect name (files_after calls) files (failed fault)) (sym same) (record {
      ok = tt;
      err = record { content = inl (own_image calls name); images = λ bytes left. inl left };
      others = λ other apart. refl;
    })

pub changes_out : (effect : FileState → FileState) (calls later : List Call) (name : List ℕ) (fault : DiskFault) → later ≡ calls
    → Changes effect name (files_after calls) (files_after later) (failed fault)
changes_out effect calls later name fault is = changes_same effect calls later name fault (ap files_after is)

-- A call that failed.
pub changes_tried : (name : List ℕ) (effect : Effect) (calls later : List Call) (fault : DiskFault) → IsTried name effect calls later
    → Changes (effect_of effect) name (files_after calls) (files_after later) (failed fault)
changes_tried name effect calls later fault (inl same) = changes_same (effect_of effect) calls later name fault (ap files_after same)
changes_tried name effect calls later fault (inr (inl made)) =
    let changes : Changes (effect_of effect) name (files_after calls) (files_after later) done = changes_made calls later (call_of name effect made.0) made.1 in
    record {
      ok = tt;
      err = record {
        content = inr (subst (λ f. IsImage f (files_after later name).content) changes.ok (own_image later name));
        images = λ bytes left. inr (subst (λ f. IsImage f bytes) changes.ok left);
      };
      others = changes.others;
    }
changes_tried name effect calls later fault (inr (inr still)) = changes_same (effect_of effect) calls later name fault (files_same calls later name still.0 still.1)

pub passes_tried : (name : List ℕ) (effect : Effect) (calls later : List Call) → IsTried name effect calls later
    → Passes (length calls) (length later) (LeftSince calls) (LeftSince later) (AreLeftBy (effect_of effect) name (files_after calls))
passes_tried name effect calls later (inl same) = passes_out calls later same (AreLeftBy (effect_of effect) name (files_after calls))
passes_tried name effect calls later (inr (inl made)) = passes_made calls later (call_of name effect made.0) made.1
passes_tried name effect calls later (inr (inr still)) =
    passes_still calls later name still.0 still.1 (AreLeftBy (effect_of effect) name (files_after calls)) (λ image now. record { here = inl (now name); others = λ other apart. now other })

-- A call, made or failed.
module _ (name : List ℕ) (effect : Effect) (calls later : List Call) where
  pub changes_call : (r : Result (Unit {0}) DiskFault) → OnOk r (later ≡ calls ++ call_of name effect false ∷ []) → OnErr r (IsTried name effect calls later)
      → Changes (effect_of effect) name (files_after calls) (files_after later) r
  changes_call (Ok tt) made tried = changes_made calls later (call_of name effect false) made
  changes_call (Err fault) made tried = changes_tried name effect calls later fault tried

  pub passes_call : (r : Result (Unit {0}) DiskFault) → OnOk r (later ≡ calls ++ call_of name effect false ∷ []) → OnErr r (IsTried name effect calls later)
      → Passes (length calls) (length later) (LeftSince calls) (LeftSince later) (AreLeftBy (effect_of effect) name (files_after calls))
  passes_call (Ok tt) made tried = passes_made calls later (call_of name effect false) made
  passes_call (Err fault) made tried = passes_tried name effect calls later tried

-- A read, made or failed.
module _ (name : List ℕ) (calls later : List Call) where
  files_tried : IsTried name Nothing calls later → files_after later ≡ files_after calls
  files_tried (inl same) = ap files_after same
  files_tried (inr (inl still)) = files_same calls later name still.0 still.1
  files_tried (inr (inr still)) = files_same calls later name still.0 still.1

  reads_tried : IsTried name Nothing calls later → Passes (length calls) (length later) (LeftSince calls) (LeftSince later) (AreImages (files_after calls))
  reads_tried (inl same) = passes_out calls later same (AreImages (files_after calls))
  reads_tried (inr (inl still)) = passes_still calls later name still.0 still.1 (AreImages (files_after calls)) (λ image now. now)
  reads_tried (inr (inr still)) = passes_still calls later name still.0 still.1 (AreImages (files_after calls)) (λ image now. now)

  pub files_read : (r : Result (Unit {0}) DiskFault) → OnOk r (later ≡ calls ++ call_of name Nothing false ∷ []) → OnErr r (IsTried name Nothing calls later) → files_after later ≡ files_after calls
  files_read (Ok tt) made tried = files_same calls later name false made
  files_read (Err fault) made tried = files_tried tried

  pub passes_read : (r : Result (Unit {0}) DiskFault) → OnOk r (later ≡ calls ++ call_of name Nothing false ∷ []) → OnErr r (IsTried name Nothing calls later)
      → Passes (length calls) (length later) (LeftSince calls) (LeftSince later) (AreImages (files_after calls))
  passes_read (Ok tt) made tried = passes_still calls later name false made (AreImages (files_after calls)) (λ image now. now)
  passes_read (Err fault) made tried = reads_tried tried

-- A call that failed without effect.
pub no_effect : (name : List ℕ) (old new : MemoryDisk) (r : Result (Unit {0}) DiskFault) → OnErr r (IsTried name Nothing old.calls.items new.calls.items) → OnErr r (HasNoEffect old new)
no_effect name old new (Ok tt) tried = tt
no_effect name old new (Err fault) tried = record { same = files_tried name old.calls.items new.calls.items tried; time = reads_tried name old.calls.items new.calls.items tried }

-- The contents that are kept, after a call that was recorded.
pub nothing_kept : (o : Option (Vec ℕ Global)) → IsNone o → option_map_or (λ content. content.items) o [] ≡ []
nothing_kept None none = refl
nothing_kept (Some content) none = absurd (true≢false none)

module _ (calls later : List Call) (call : Call) (is : later ≡ calls ++ call ∷ []) (old new : Contents) (keeps : Keeps call.effect call.name old new)
    (tied : (name : List ℕ) → content_in old name ≡ (files_after calls name).content) where
  other_name : (name : List ℕ) → bytes_eq call.name name ≡ false → name ≢ call.name
  other_name name f e = false≢true (sym f ∙ (bytes_eq-Decides call.name name).1 (sym e))

  this_name : (name : List ℕ) → bytes_eq call.name name ≡ true → call.name ≡ name
  this_name name t = (bytes_eq-Decides call.name name).0 t

  pub tied_made : (name : List ℕ) → content_in new name ≡ (files_after later name).content
  tied_made name = ⊎_elim
      (λ t. subst (λ (n : List ℕ). content_in new n ≡ (files_after later n).content) (this_name name t)
      (keeps.here (files_after calls call.name) (tied call.name) ∙ sym (ap (λ (f : FileState). f.content) (here calls later call is))))
      (λ f. ap (λ (o : Option (Vec ℕ Global)). option_map_or (λ content. content.items) o []) (keeps.others name (other_name name f)) ∙ tied name
      ∙ sym (ap (λ (f : FileState). f.content) (elsewhere calls later call is name (other_name name f))))
      (cases_Bool (bytes_eq call.name name))

  pub absent_made : ((name : List ℕ) → IsNone (get bytes_eq old name) → (files_after calls name).least ≡ 0) → (name : List ℕ) → IsNone (get bytes_eq new name) → (files_after later name).least ≡ 0
  absent_made absent name none = ⊎_elim
      (λ t. subst (λ (n : List ℕ). (files_after later n).least ≡ 0) (this_name name t) (at_call (subst (λ (n : List ℕ). IsNone (get bytes_eq new n)) (sym (this_name name t)) none)))
      (λ f. ap (λ (f : FileState). f.least) (elsewhere calls later call is name (other_name name f))
      ∙ absent name (subst (λ (o : Option (Vec ℕ Global)). IsNone o) (keeps.others name (other_name name f)) none))
      (cases_Bool (bytes_eq call.name name))
    where
      at_call : IsNone (get bytes_eq new call.name) → (files_after later call.name).least ≡ 0
      at_call gone =
          let before = keeps.absent gone in
          ap (λ (f : FileState). f.least) (here calls later call is)
          ∙ before.1 (files_after calls call.name) (sym (tied call.name) ∙ nothing_kept (get bytes_eq old call.name) before.0) (absent call.name before.0)

-- The contents that are kept, where a call was not recorded.
module _ (calls : List Call) (name : List ℕ) (old new : Contents) (keeps : Keeps Nothing name old new) (tied : (q : List ℕ) → content_in old q ≡ (files_after calls q).content) where
  pub tied_kept : (q : List ℕ) → content_in new q ≡ (files_after calls q).content
  tied_kept q = ⊎_elim
      (λ t. subst (λ (n : List ℕ). content_in new n ≡ (files_after calls n).content) ((bytes_eq-Decides name q).0 t) (keeps.here (files_after calls name) (tied name)))
      (λ f. ap (λ (o : Option (Vec ℕ Global)). items_or o []) (keeps.others q (apart q f)) ∙ tied q)
      (cases_Bool (bytes_eq name q))
    where
      apart : (q : List ℕ) → bytes_eq name q ≡ false → q ≢ name
      apart q f e = false≢true (sym f ∙ (bytes_eq-Decides name q).1 (sym e))

  pub absent_kept : ((q : List ℕ) → IsNone (get bytes_eq old q) → (files_after calls q).least ≡ 0) → (q : List ℕ) → IsNone (get bytes_eq new q) → (files_after calls q).least ≡ 0
  absent_kept absent q none = ⊎_elim
      (λ t. absent q (subst (λ (n : List ℕ). IsNone (get bytes_eq old n)) ((bytes_eq-Decides name q).0 t)
      (keeps.absent (subst (λ (n : List ℕ). IsNone (get bytes_eq new n)) (sym ((bytes_eq-Decides name q).0 t)) none)).0))
      (λ f. absent q (subst (λ (o : Option (Vec ℕ Global)). IsNone o) (keeps.others q (apart q f)) none))
      (cases_Bool (bytes_eq name q))
    where
      apart : (q : List ℕ) → bytes_eq name q ≡ false → q ≢ name
      apart q f e = false≢true (sym f ∙ (bytes_eq-Decides name q).1 (sym e))

-- A file that was given its content.
module _ (name : List ℕ) (copy : Vec ℕ Global) (calls later : List Call) where
  pub set_here : (bytes : List ℕ) → copy.items ≡ bytes → (r : Result (Unit {0}) AllocError) → OnOk r (later ≡ calls ++ call_of name (Set copy) false ∷ []) → OnOk r (files_after later name ≡ stable bytes)
  set_here bytes same (Ok tt) made = (changes_made calls later (call_of name (Set copy) false) made).ok ∙ ap stable same
  set_here bytes same (Err e) made = tt

  pub set_others : (r : Result (Unit {0}) AllocError) → OnOk r (later ≡ calls ++ call_of name (Set copy) false ∷ []) → OnErr r (later ≡ calls)
      → (other : List ℕ) → other ≢ name → files_after later other ≡ files_after calls other
  set_others (Ok tt) made same other apart = (changes_made calls later (call_of name (Set copy) false) made).others other apart
  set_others (Err e) made same other apart = ap (λ (cs : List Call). files_after cs other) same

-- A call that failed: the record has it with its effect or with none, or has no memory for it.
pub tried_recorded : (name : List ℕ) (effect made : Effect) (crashed : Bool) (calls later : List Call) → (made ≡ effect) ⊎ (made ≡ Nothing) → (r : Result (Unit {0}) AllocError)
    → OnOk r (later ≡ calls ++ call_of name made crashed ∷ []) → OnErr r (later ≡ calls) → IsTried name effect calls later
tried_recorded name effect made crashed calls later which (Err e) ok err = inl err
tried_recorded name effect made crashed calls later (inl same) (Ok tt) ok err = inr (inl (crashed, ok ∙ ap (λ (e : Effect). calls ++ call_of name e crashed ∷ []) same))
tried_recorded name effect made crashed calls later (inr none) (Ok tt) ok err = inr (inr (crashed, ok ∙ ap (λ (e : Effect). calls ++ call_of name e crashed ∷ []) none))

-- .. from the turn of the call to the count of its failure
pub tried_at : (name : List ℕ) (effect made : Effect) (crashed : Bool) (old turned recorded new : List Call) → turned ≡ old → new ≡ recorded → (made ≡ effect) ⊎ (made ≡ Nothing) → (r : Result (Unit {0}) AllocError)
    → OnOk r (recorded ≡ turned ++ call_of name made crashed ∷ []) → OnErr r (recorded ≡ turned) → IsTried name effect old new
tried_at name effect made crashed old turned recorded new begun counted which r ok err =
    subst (λ (later : List Call). IsTried name effect old later) (sym counted)
    (subst (λ (calls : List Call). IsTried name effect calls recorded) begun (tried_recorded name effect made crashed turned recorded which r ok err))

-- the turn of a call that fails
pub turn_failed : (old turned recorded new : MemoryDisk) (fault : DiskFault) → CountsDown old turned → turned.failures ≡ old.failures → KeepsPlan turned recorded → recorded.failures ≡ turned.failures → KeepsPlan recorded new → IsCounted recorded.failures new.failures
    → (IsFalse (is_due old) → new.calls.items ≡ old.calls.items) → TakesTurn {A = Unit {0}} old new (Err fault)
turn_failed old turned recorded new fault counts begun plan kept last count unasked = record {
  due = λ due. refl;
  unasked = unasked;
  counts = record { fail_in = last.fail_in ∙ plan.fail_in ∙ counts.fail_in; crash = last.crash ∙ plan.crash ∙ counts.crash };
  kept = tt;
  counted = subst (λ (n : ℕ). IsCounted n new.failures) (kept ∙ begun) count;
}

-- The calls that are counted, one entry further on.
module _ (entries calls : List Call) (same : entries ≡ calls) (i : ℕ) (call : Call) (within : i < length entries) (at : call ≡ get_or entries i call) where
  one_more : count_by is_call (take (i + 1) calls) ≡ count_by is_call (take i calls) + cond (is_call call) 1 0
  one_more = subst (λ (cs : List Call). count_by is_call (take (i + 1) cs) ≡ count_by is_call (take i cs) + cond (is_call call) 1 0) same
      (ap (count_by is_call) (take_more entries i call within ∙ ap (λ (c : Call). take i entries ++ c ∷ []) (sym at)) ∙ sum_by_push (λ call. cond (is_call call) 1 0) (take i entries) call)

  pub counts_call : is_call call ≡ true → count_by is_call (take (i + 1) calls) ≡ count_by is_call (take i calls) + 1
  counts_call is = one_more ∙ ap (λ b. count_by is_call (take i calls) + cond b 1 0) is

  pub counts_none : is_call call ≡ false → count_by is_call (take (i + 1) calls) ≡ count_by is_call (take i calls)
  counts_none is = omega (arith, one_more ∙ ap (λ b. count_by is_call (take i calls) + cond b 1 0) is)
