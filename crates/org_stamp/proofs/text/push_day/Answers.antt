use Rattle.std.proofs.Common.{◌≡◌, ℕ, List, [], ◌∷◌, ◌++◌, ap, ◌∙◌, subst, append_assoc, rules}
use Rattle.std.specs.Prelude.{OnOk, Result, Ok, Err, is_ok, if◌then◌else◌}
use Rattle.std.specs.declared.alloc.AllocError.{AllocError}
use Rattle.org_stamp.specs.Calendar.{weekday_of}
use Rattle.org_stamp.specs.Stamp.{date_text, day_name}
use Rattle.org_stamp.proofs.text.push_day.Goals as goal

put : (r : Result (Unit {0}) AllocError) (new some none : List ℕ) → new ≡ (if is_ok r then some else none) → OnOk r (new ≡ some)
put (Ok _) new some none is = is
put (Err _) new some none is = search rules

joined : (old dated date name : List ℕ) → dated ≡ old ++ (date ++ 32 ∷ []) → dated ++ name ≡ old ++ (date ++ (32 ∷ name))
joined old dated date name e = ap (λ l. l ++ name) e ∙ append_assoc old (date ++ 32 ∷ []) name ∙ ap (λ l. old ++ l) (append_assoc date (32 ∷ []) name)

pub returns : goal.returns
returns c =
    let new = c.extend_from_slice.new.self.items in
    let dated = c.push_date.new.out.items in
    let name = c.day_name.ensures ∙ ap day_name c.weekday.ensures.value in
    subst (λ (l : List ℕ). OnOk c.extend_from_slice.result (new ≡ l))
    (ap (λ (l : List ℕ). dated ++ l) name ∙ joined c.args.out.now.items dated (date_text c.args.day) (day_name (weekday_of c.args.day)) c.in_ok-push_date.ensures)
    (put c.extend_from_slice.result new _ _ c.extend_from_slice.ensures.items)
