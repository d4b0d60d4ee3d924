-- How calls of a store that may break it follow one another.
use Rattle.std.proofs.Common.{◌≡◌, ◌≢◌, if◌then◌else◌, true, false, true≢false, sym, ap, ◌∙◌, arith, Bool, subst}
use Rattle.std.proofs.lemmas.Grind.{common_steps}
use Rattle.org_disk.specs.declared.disk.Disk.{Ghosts}
use Rattle.std.specs.Prelude.{IsTrue, IsFalse, Ok}
use Rattle.org_disk.specs.CountsFailures.{CountsFailures}
use Rattle.org_disk.proofs.Accounting.{accounts_then, accounts_none}
use Rattle.org_disk.specs.Disk.{HasRisen}
use Rattle.org_commands.specs.Session.{Session, StoreView}
use Rattle.org_serve.specs.declared.end.ServeEnd.{ServeEnd}
use Rattle.org_serve.specs.declared.end.ServeEnd.TheVariants.{End, Unsettled, Device, Read, Write}
use Rattle.org_serve.specs.Serving.{HasBroken, EndSaysBroken, refused_end}
use Rattle.org_serve.specs.Whole.{SaysFailure}
use Rattle.org_journal.proofs.Accounted.{accounts_quiet}

both_ways : {b : Bool} → b ≡ true → b ≡ false → ⊥
both_ways is isnt = true≢false (sym is ∙ isnt)

pub untouched_then : {D : Type 0} {old mid new : StoreView D} → (IsTrue old.session.broken → mid ≡ old) → (IsTrue mid.session.broken → new ≡ mid) → IsTrue old.session.broken → new ≡ old
untouched_then first second before = second (ap (λ k. k.session.broken) (first before) ∙ before) ∙ first before

pub breaks_then : {D : Type 0} {g : Ghosts D} {old mid new : StoreView D}
    → (IsTrue old.session.broken → mid ≡ old) → (IsTrue mid.session.broken → new ≡ mid)
    → CountsFailures g old.disk mid.disk (HasBroken old.session mid.session) → CountsFailures g mid.disk new.disk (HasBroken mid.session new.session)
    → CountsFailures g old.disk new.disk (HasBroken old.session new.session)
breaks_then {D} {g = g} {old = old} {mid = mid} {new = new} kept_first kept_second first second = grind (arith, common_steps)

-- a store that was opened and served is broken where its disk's count rose, and else not
pub breaks_by_count : {D : Type 0} {g : Ghosts D} {disk new : D} (store after : StoreView D)
    → CountsFailures g disk store.disk ⊥ → CountsFailures g store.disk after.disk (HasBroken store.session after.session)
    → store.session.broken ≡ false → new ≡ after.disk
    → (IsTrue after.session.broken → HasRisen (g.failures disk) (g.failures new)) × (IsFalse after.session.broken → g.failures new ≡ g.failures disk)
breaks_by_count {D} {g = g} {disk = disk} store after opened served sound is = grind (arith, common_steps)

-- a store that was opened and served, by its disk's count
pub served_accounts : {D : Type 0} {g : Ghosts D} {disk new : D} (end : ServeEnd) (store after : StoreView D)
    → CountsFailures g disk store.disk ⊥ → CountsFailures g store.disk after.disk (HasBroken store.session after.session)
    → store.session.broken ≡ false → EndSaysBroken end after.session → new ≡ after.disk
    → CountsFailures g disk new (SaysFailure (Ok end) (g.failures disk) (g.failures new))
served_accounts {D} {g} {disk} end store after opened served sound ends is =
    let whole = accounts_then opened served in
    subst (λ (d : D). CountsFailures g disk d (SaysFailure (Ok end) (g.failures disk) (g.failures d))) (sym is) (record {
      was_honest = whole.was_honest;
      stays_honest = whole.stays_honest;
      no_less = whole.no_less;
      risen = risen end ends whole.risen;
      equal = equal end ends whole.risen whole.equal;
    })
  where
    risen : (end : ServeEnd) → EndSaysBroken end after.session → (HasBroken store.session after.session → HasRisen (g.failures disk) (g.failures after.disk))
        → SaysFailure (Ok end) (g.failures disk) (g.failures after.disk) → HasRisen (g.failures disk) (g.failures after.disk)
    risen End ends rises failed = absurd failed
    risen Unsettled ends rises failed = absurd failed
    risen Device ends rises failed = rises (sound, ends)
    risen Read ends rises failed = failed
    risen Write ends rises failed = failed

    equal : (end : ServeEnd) → EndSaysBroken end after.session → (HasBroken store.session after.session → HasRisen (g.failures disk) (g.failures after.disk))
        → ((HasBroken store.session after.session → ⊥) → g.failures after.disk ≡ g.failures disk) → (SaysFailure (Ok end) (g.failures disk) (g.failures after.disk) → ⊥) → g.failures after.disk ≡ g.failures disk
    equal End ends rises stays fine = stays (λ broke. both_ways broke.1 ends)
    equal Unsettled ends rises stays fine = stays (λ broke. both_ways broke.1 ends)
    equal Device ends rises stays fine = absurd (fine tt)
    equal Read ends rises stays fine = stays (λ broke. fine (rises broke))
    equal Write ends rises stays fine = stays (λ broke. fine (rises broke))

-- nothing was done
pub accounts_still : {D : Type 0} {g : Ghosts D} {disk : D} (session : Session)
    → CountsFailures g disk disk (HasBroken session session)
accounts_still {g = g} {disk = disk} session = accounts_quiet (λ has. both_ways has.1 has.0) (accounts_none g disk)

pub write_unread : Write ≡ Read → ⊥
write_unread is = cc is

-- how an input ends of which a line isn't done
pub refused_reported : (s : Session) (end : ServeEnd) → end ≡ refused_end s → (end ≢ Read) × (end ≢ Write)
refused_reported s end is = subst (λ e. (e ≢ Read) × (e ≢ Write)) (sym is) (by_broken s.broken)
  where
    by_broken : (broken : Bool) → ((if broken then Device else Unsettled) ≢ Read) × ((if broken then Device else Unsettled) ≢ Write)
    by_broken true = (λ e. absurd (cc), λ e. absurd (cc))
    by_broken false = (λ e. absurd (cc), λ e. absurd (cc))
