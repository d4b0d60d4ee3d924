use Rattle.std.proofs.Common.{◌≡◌, ◌++◌, ◌∷◌, subst}
use Rattle.org_stamp.specs.Stamp.{StampValue, IsStamp, stamp_text, closing, opening, date_text, day_name, time_text, cookies_text}
use Rattle.org_stamp.specs.Calendar.{weekday_of}
use Rattle.org_stamp.specs.Reading.{parts_of}
use Rattle.org_stamp.proofs.Print.{pushed}
use Rattle.org_stamp.proofs.stamp.Stamp.print.Goals as goal

pub returns-clause-valid : goal.returns-clause-valid
returns-clause-valid c = subst IsStamp c.self.view_is c.self.invariant

pub returns-clause-value : goal.returns-clause-value
returns-clause-value c =
    let s = c.self.inside in
    subst (λ (v : StampValue). c.push-2.new.self.items ≡ stamp_text v) c.self.view_is
    (pushed (opening s.active) (closing s.active) _ _ (date_text s.day ++ (32 ∷ day_name (weekday_of s.day))) (time_text s.time) (cookies_text (parts_of s.cookies)) _ _ _ _ _ _
    c.opening.ensures c.closing.ensures c.new-out.ensures.items c.in_ok-push.ensures.items c.in_ok-push_day.ensures c.in_ok-push_time.ensures c.in_ok-push_cookies.ensures c.in_ok-push-2.ensures.items)

pub returns-in_err-push-clause-valid : goal.returns-in_err-push-clause-valid
returns-in_err-push-clause-valid c = subst IsStamp c.self.view_is c.self.invariant

pub returns-in_err-push_day-clause-valid : goal.returns-in_err-push_day-clause-valid
returns-in_err-push_day-clause-valid c = subst IsStamp c.self.view_is c.self.invariant

pub returns-in_err-push_time-clause-valid : goal.returns-in_err-push_time-clause-valid
returns-in_err-push_time-clause-valid c = subst IsStamp c.self.view_is c.self.invariant

pub returns-in_err-push_cookies-clause-valid : goal.returns-in_err-push_cookies-clause-valid
returns-in_err-push_cookies-clause-valid c = subst IsStamp c.self.view_is c.self.invariant

pub returns-in_err-push-2-clause-valid : goal.returns-in_err-push-2-clause-valid
returns-in_err-push-2-clause-valid c = subst IsStamp c.self.view_is c.self.invariant
