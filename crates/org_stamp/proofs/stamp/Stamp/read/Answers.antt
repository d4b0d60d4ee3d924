use Rattle.std.proofs.Common.{◌≡◌, ◌≤◌, ℕ, Option, None, Some, List, length, take, drop, arith, sym, ap, ◌∙◌}
use Rattle.std.specs.Option.{IfSome}
use Rattle.std.proofs.lemmas.List.{take-append-drop, length-take}
use Rattle.org_stamp.specs.Stamp.{StampValue, IsStampText}
use Rattle.org_stamp.specs.Front.{stamp_at}
use Rattle.org_stamp.proofs.Exact.{stamp_complete, stamp_sound}
use Rattle.org_stamp.proofs.stamp.Stamp.read.Goals as goal

found_is : (text : List ℕ) (r : Option (StampValue × ℕ)) → r ≡ stamp_at text → IfSome r (λ f. IsStampText (take f.1 text) f.0)
found_is text None e = tt
found_is text (Some f) e = (stamp_sound text f.0 f.1 (sym e)).is_text

found_within : (text : List ℕ) (r : Option (StampValue × ℕ)) → r ≡ stamp_at text → IfSome r (λ f. f.1 ≤ length text)
found_within text None e = tt
found_within text (Some f) e = (stamp_sound text f.0 f.1 (sym e)).within

front_read : (text : List ℕ) (n : ℕ) (s : StampValue) → n ≤ length text → IsStampText (take n text) s → stamp_at text ≡ Some (s, n)
front_read text n s within h =
    let read = stamp_complete (take n text) (drop n text) s h in
    let size : length (take n text) ≡ n = simp length-take (omega arith) in
    ap stamp_at (sym (take-append-drop n text)) ∙ read ∙ ap (λ k. Some (s, k)) size

pub returns-clause-found : goal.returns-clause-found
returns-clause-found c = found_is c.args.text.now c.scan.result c.scan.ensures

pub returns-clause-length : goal.returns-clause-length
returns-clause-length c = found_within c.args.text.now c.scan.result c.scan.ensures

pub returns-clause-only : goal.returns-clause-only
returns-clause-only c = λ n s within h. c.scan.ensures ∙ front_read c.args.text.now n s within h
