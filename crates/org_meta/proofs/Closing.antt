-- Open clock lines in their sections, and closed ones in their place.
use Rattle.std.proofs.Common.{◌≡◌, ℕ, ◌+◌, ◌-◌, ◌≤◌, true, Some, None, Result, Ok, Err, List, ◌∷◌, ◌++◌, length, take, drop, sym, ap, subst, ◌∙◌, arith, append_assoc, length-append, take-append-drop}
use Rattle.std.proofs.lemmas.Grind.{common_steps}
use Rattle.std.specs.Prelude.{MatchResult}
use Rattle.std.proofs.lemmas.List.{take_at, drop_at, length-drop, length-take-le}
use Rattle.org_splice.specs.Lines.{terminated, print_lines}
use Rattle.org_splice.specs.declared.Span.{Span}
use Rattle.org_splice.specs.declared.edit.Edit.{Edit}
use Rattle.org_splice.proofs.Lines.{print_lines-append}
use Rattle.org_stamp.specs.Calendar.{Moment}
use Rattle.org_meta.specs.declared.clock.Running.{Running}
use Rattle.org_fault.specs.declared.refusal.Refusal.{Refusal}
use Rattle.org_fault.specs.declared.refusal.Refusal.TheVariants.{ClockBackwards}
use Rattle.org_fault.specs.declared.fault.Fault.{Fault}
use Rattle.org_fault.specs.declared.fault.Fault.TheVariants.{OutOfMemory}
use Rattle.org_meta.specs.Edits.{Rewrites}
use Rattle.org_meta.specs.Clocks.{running_clock, is_open, minutes_between, IsOpenAt, HasOpenAt}
use Rattle.org_meta.specs.Clocking.{closing_text, closed_after, closed_clock, closed_line, ClosesNot}
use Rattle.org_meta.proofs.Walk.{print_lines-terminated}
use Rattle.org_meta.proofs.Puts.{gives_at}

module _ (section : List ℕ) (span : Span) (before : List (List ℕ)) (line : List ℕ) (after : List (List ℕ)) (whole : terminated section ≡ section) (is : IsOpenAt section span before line after) where
  -- the bytes of the section round the line
  pub round_line : section ≡ print_lines before ++ (line ++ 10 ∷ print_lines after)
  round_line = sym (print_lines-terminated section whole) ∙ ap print_lines is.lines ∙ print_lines-append before (line ∷ after)

  pub ends_within : span.end ≤ length section
  ends_within = omega (arith, is.end, ap length round_line, length-append (print_lines before) (line ++ 10 ∷ print_lines after), length-append line (10 ∷ print_lines after))

  -- the line's bytes are those of its span, without the newline
  pub line_at : take (span.end - 1 - span.start) (drop span.start section) ≡ line
  line_at = grind (arith, common_steps, round_line, drop_at, take_at)

  module _ (now : Moment) (running : Running) (text : List ℕ) (same : text ≡ take (span.end - 1 - span.start) (drop span.start section)) (runs : Some running ≡ running_clock text) where
    clock_here : running_clock line ≡ Some running
    clock_here = ap running_clock (sym (same ∙ line_at)) ∙ sym runs

    pub closes_backwards : None ≡ minutes_between running.start now → closed_line now line ≡ Err ClockBackwards
    closes_backwards none = ap (closed_clock now line) clock_here ∙ ap (closed_after now (take running.head line)) (sym none)

    -- the line can be closed
    pub closes_now : (minutes : ℕ) → Some minutes ≡ minutes_between running.start now → closed_line now line ≡ Ok (take running.head line ++ closing_text now minutes)
    closes_now minutes some = ap (closed_clock now line) clock_here ∙ ap (closed_after now (take running.head line)) (sym some)

    pub closes_at : (e : Edit) (minutes : ℕ) → Some minutes ≡ minutes_between running.start now → running.head ≤ length text → e.at ≡ span.start + running.head → e.removed ≡ length text - running.head → e.bytes ≡ closing_text now minutes
        → MatchResult (closed_line now line) (λ closed. Rewrites e section (before ++ (closed ∷ after))) (λ fault. ⊥)
    closes_at e minutes some within at removed bytes =
        let w = closing_text now minutes in
        let a = print_lines before ++ take running.head line in
        let b = drop running.head line in
        let c = 10 ∷ print_lines after in
        let closed_is : closed_line now line ≡ Ok (take running.head line ++ w) = closes_now minutes some in
        let long : length text ≡ length line = ap length (same ∙ line_at) in
        let front : length (take running.head line) ≡ running.head = length-take-le running.head line (omega arith) in
        let shape : print_lines before ++ ((take running.head line ++ drop running.head line) ++ c) ≡ a ++ (b ++ c) = simp append_assoc in
        let parts : section ≡ a ++ (b ++ c) =
        round_line ∙ ap (λ (t : List ℕ). print_lines before ++ (t ++ c)) (sym (take-append-drop running.head line)) ∙ shape in
        let here : e.at ≡ length a = omega (arith, is.start, length-append (print_lines before) (take running.head line)) in
        let gone : e.removed ≡ length b = omega (arith, length-drop running.head line) in
        let back : print_lines before ++ ((take running.head line ++ w) ++ c) ≡ a ++ (w ++ c) = simp append_assoc in
        let print : print_lines (before ++ ((take running.head line ++ w) ∷ after)) ≡ a ++ (w ++ c) = print_lines-append before ((take running.head line ++ w) ∷ after) ∙ back in
        let P : Result (List ℕ) Refusal → Type 0 = λ r. MatchResult r (λ closed. Rewrites e section (before ++ (closed ∷ after))) (λ fault. ⊥) in
        subst P (sym closed_is) (gives_at e section a b c w (before ++ ((take running.head line ++ w) ∷ after)) parts here gone bytes print)

-- ---- as the code says it

pub line_runs : (section : List ℕ) (span : Span) (text : List ℕ) → terminated section ≡ section → HasOpenAt section span → text ≡ take (span.end - 1 - span.start) (drop span.start section) → is_open text ≡ true
line_runs section span text whole h same = ap is_open (same ∙ line_at section span h.before h.line h.after whole h.is) ∙ h.is.runs

-- there was no memory for a line that can be closed
pub starved : (section : List ℕ) (span : Span) (now : Moment) (running : Running) (text : List ℕ) (minutes : ℕ) (fault : Fault Refusal) → terminated section ≡ section → fault ≡ OutOfMemory
    → text ≡ take (span.end - 1 - span.start) (drop span.start section) → Some running ≡ running_clock text → Some minutes ≡ minutes_between running.start now → ClosesNot now section span fault
starved section span now running text minutes fault whole memory same runs some =
    λ before line after is. rw memory (take running.head line ++ closing_text now minutes, closes_now section span before line after whole is now running text same runs minutes some)
