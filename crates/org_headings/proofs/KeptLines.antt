-- How the titles of headings can begin, kept beside them.
use Rattle.std.proofs.Common.{◌≡◌, ℕ, ◌+◌, ◌≤◌, List, [], ◌∷◌, ◌++◌, length, drop, take, map, append_assoc, refl, sym, ap, ◌∙◌, arith, inl, inr}
use Rattle.std.proofs.lemmas.Grind.{common_steps}
use Rattle.std.specs.Prelude.{◌⊎◌}
use Rattle.std.specs.List.{take-map, drop-map}
use Rattle.std.proofs.lemmas.List.{map-append, append-nil, take_all, drop_all, drop_at, take_at, length-append, length-take, length-map}
use Rattle.org_headings.specs.declared.heads.Heading.{Heading}
use Rattle.org_headings.specs.declared.beginnings.Beginnings.{Beginnings}
use Rattle.org_headings.specs.Headings.{AreBeginnings, moved}

abbrev pub begin_of : Heading → Beginnings
begin_of h = h.beginnings

none_are : (hs : List Heading) → length hs ≡ 0 → [] ≡ map begin_of hs
none_are [] e = refl
none_are (h ∷ hs) e = absurd (omega (arith, e))

-- as many as the headings are all of them
pub all_are : (lines : List Beginnings) (hs : List Heading) → AreBeginnings lines hs → length lines ≡ length hs → lines ≡ map begin_of hs
all_are lines hs (inl e) many = e
all_are lines hs (inr e) many = e ∙ none_are hs (sym many ∙ ap (λ (l : List Beginnings). length l) e)

-- the fresh headings, as the code reads them
fresh_read : (hs us fresh rest front : List Heading) (first added : ℕ) → first ≤ length hs → added ≡ length fresh → us ≡ take first hs ++ (fresh ++ rest) → front ≡ take (first + added) us → drop first front ≡ fresh
fresh_read hs us fresh rest front first added le ae ue fe =
    let low : length (take first hs) ≡ first = omega (arith, le, length-take first hs) in
    let size : length (take first hs ++ fresh) ≡ first + added = omega (arith, low, ae, length-append (take first hs) fresh) in
    ap (drop first) (fe ∙ ap (take (first + added)) (ue ∙ sym (append_assoc (take first hs) fresh rest)) ∙ take_at (take first hs ++ fresh) rest (first + added) size)
    ∙ drop_at (take first hs) fresh first low

pub kept_when_replaced : (lines now : List Beginnings) (hs us fresh front slice : List Heading) (first last size count added : ℕ) → AreBeginnings lines hs
    → ((size ≡ count) × (now ≡ take first lines ++ (map begin_of slice ++ drop last lines))) ⊎ (now ≡ [])
    → size ≡ length lines → count ≡ length hs → first ≤ length hs → added ≡ length fresh → us ≡ take first hs ++ (fresh ++ drop last hs)
    → front ≡ take (first + added) us → slice ≡ drop first front → AreBeginnings now us
kept_when_replaced lines now hs us fresh front slice first last size count added kept (inr none) se ce le ae ue fe pe = inr none
kept_when_replaced lines now hs us fresh front slice first last size count added kept (inl (all, is)) se ce le ae ue fe pe =
    let same : lines ≡ map begin_of hs = all_are lines hs kept (sym se ∙ all ∙ ce) in
    let same_slice : slice ≡ fresh = pe ∙ fresh_read hs us fresh (drop last hs) front first added le ae ue fe in
    inl (is ∙ ap (λ (s : List Heading). take first lines ++ (map begin_of s ++ drop last lines)) same_slice
    ∙ ap (λ (ls : List Beginnings). take first ls ++ (map begin_of fresh ++ drop last ls)) same
    ∙ ap (λ (ls : List Beginnings). ls ++ (map begin_of fresh ++ drop last (map begin_of hs))) (take-map begin_of first hs)
    ∙ ap (λ (ls : List Beginnings). map begin_of (take first hs) ++ (map begin_of fresh ++ ls)) (drop-map begin_of last hs)
    ∙ ap (λ (ls : List Beginnings). map begin_of (take first hs) ++ ls) (sym (map-append begin_of fresh (drop last hs)))
    ∙ sym (map-append begin_of (take first hs) (fresh ++ drop last hs)) ∙ ap (map begin_of) (sym ue))

moved_begin : (removed added : ℕ) (hs : List Heading) → map begin_of (map (moved removed added) hs) ≡ map begin_of hs
moved_begin removed added [] = refl
moved_begin removed added (h ∷ hs) = ap (λ (ls : List Beginnings). h.beginnings ∷ ls) (moved_begin removed added hs)

moved_are : (hs us front later after : List Heading) (size removed added : ℕ) → size ≡ length hs → hs ≡ front ++ later → after ≡ map (moved removed added) later
    → us ≡ take size (front ++ after ++ drop (length (front ++ after)) hs) → map begin_of us ≡ map begin_of hs
moved_are hs us front later after size removed added se he ae ue = grind (arith, common_steps, length-append, length-map, moved, drop_all, append-nil, take_all, map-append, moved_begin)

pub kept_when_moved : (lines : List Beginnings) (hs us front later after : List Heading) (size removed added : ℕ) → AreBeginnings lines hs → size ≡ length hs → hs ≡ front ++ later
    → after ≡ map (moved removed added) later → us ≡ take size (front ++ after ++ drop (length (front ++ after)) hs) → AreBeginnings lines us
kept_when_moved lines hs us front later after size removed added (inl e) se he ae ue = inl (e ∙ sym (moved_are hs us front later after size removed added se he ae ue))
kept_when_moved lines hs us front later after size removed added (inr e) se he ae ue = inr e
