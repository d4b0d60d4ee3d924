use Rattle.std.proofs.Common.{◌≡◌, None, Some, length, take, drop, refl, ap, ◌∙◌, subst, sym, arith}
use Rattle.std.proofs.lemmas.List.{take-append-drop, take_rest, length-take}
use Rattle.org_stamp.specs.Reading.{gathered, tail_of}
use Rattle.org_stamp.proofs.Found.{IsOpen, open_parts, tail_found, writable}
use Rattle.org_stamp.proofs.Parts.{other_length}
use Rattle.org_stamp.proofs.Said.{inside_read}
use Rattle.org_stamp.proofs.Days.{read_day}
use Rattle.org_stamp.proofs.stamp.Stamp.inside.Goals as goal

pub invariant_of-result : goal.invariant_of-result
invariant_of-result c =
    let inside = c.args.inside.now in
    let halves : IsOpen (take 10 inside) × IsOpen (drop 10 inside) = open_parts (take 10 inside) (drop 10 inside) (subst IsOpen (sym (take-append-drop 10 inside)) c.requires) in
    let h = gathered c.in_ok-found.found in
    record { day = read_day (take 10 inside) c.in_ok-day.day (sym c.in_ok-day.ensures); behind = writable (drop 10 inside) h (tail_found (drop 10 inside) h halves.1 (ap tail_of (sym (take_rest inside 10)) ∙ sym c.in_ok-found.ensures)) }

pub returns-then-inside-lt10 : goal.returns-then-inside-lt10
returns-then-inside-lt10 c =
    let inside = c.args.inside.now in
    let short : length (take 10 inside) ≡ 10 → ⊥ = λ e. absurd (omega (arith, e, length-take 10 inside)) in
    inside_read c.args.active inside None _ (other_length (take 10 inside) short) refl

pub returns-in_err-day : goal.returns-in_err-day
returns-in_err-day c = c.from_residual.ensures ∙ inside_read c.args.active c.args.inside.now None _ c.in_err-day.ensures refl

pub returns-in_err-found : goal.returns-in_err-found
returns-in_err-found c =
    c.from_residual-in_err-found.ensures ∙ inside_read c.args.active c.args.inside.now (Some c.in_ok-day.day) None c.in_ok-day.ensures (c.in_err-found.ensures ∙ ap tail_of (take_rest c.args.inside.now 10))

pub returns : goal.returns
returns c =
    inside_read c.args.active c.args.inside.now (Some c.in_ok-day.day) (Some (gathered c.in_ok-found.found)) c.in_ok-day.ensures (c.in_ok-found.ensures ∙ ap tail_of (take_rest c.args.inside.now 10))
