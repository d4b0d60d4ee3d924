-- What is gathered run by run is what all parts say together.
use Rattle.std.proofs.Common.{◌≡◌, ℕ, ◌+◌, ◌-◌, ◌≤◌, ◌==◌, Bool, true, false, not, ◌&&◌, cond, Option, None, Some, List, [], ◌∷◌, ◌++◌, length, filter, count_by, slice_index, take, drop, append-nil, append_assoc, refl, sym, ap, ◌∙◌, subst, arith}
use Rattle.std.proofs.lemmas.Grind.{common_steps}
use Rattle.std.specs.List.{slice_split, filter_map}
use Rattle.std.specs.Option.{option_to_list}
use Rattle.org_stamp.specs.Calendar.{CivilDay}
use Rattle.org_stamp.specs.declared.kind.Times.{Times}
use Rattle.org_stamp.specs.declared.kind.Kind.{Kind}
use Rattle.org_stamp.specs.declared.kind.Kind.TheVariants.{Name, Clock, Repeat, Delay}
use Rattle.org_stamp.specs.Parts.{◌>>=◌, is_blank, date_of, kind_of}
use Rattle.org_stamp.specs.Stamp.{StampValue, Part, is_name, times_in, is_cookie, AreApart, Says}
use Rattle.org_stamp.specs.Front.{has_bytes, runs_in, parts_in, parts_of_tail, time_among, all_apart, said_by, inside_of}
use Rattle.org_stamp.specs.Reading.{Gathered, nothing, value_of, tail_of, cookies_with, found_with, pieces_with}
use Rattle.org_stamp.proofs.Found.{adds, bind_ok, bind_same, same_some, runs_with, parts_with, skip, one_if, adds_one, cons_option-append, filter-append, count-cons}

-- ---- at most one part of each kind is gathered

cookies_some : (cs : List Part) (p : Part) (more : List Part) → AreApart (cs ++ (p ∷ more)) → (ds : List Part) × (cookies_with cs p ≡ Some ds)
cookies_some [] p more h = (p ∷ [], refl)
cookies_some (a ∷ []) p [] h = (a ∷ p ∷ [], rw h refl)
cookies_some (a ∷ []) p (m ∷ ms) h = absurd h
cookies_some (a ∷ b ∷ []) p more h = absurd h
cookies_some (a ∷ b ∷ c ∷ cs) p more h = absurd h

first_name : (g : Gathered) (run : List ℕ) (b : Bool) → g.named ≡ b → (m : ℕ) → one_if b + (1 + m) ≤ 1 → (g₁ : Gathered) × (found_with g run Name ≡ Some g₁)
first_name g run true e m h = absurd (omega arith)
first_name g run false e m h = (record g { named = true }, rw e refl)

first_time : (g : Gathered) (run : List ℕ) (t : Times) (o : Option Times) → g.time ≡ o → (more : List Times) (u : Option Times) → option_to_list o ++ (t ∷ more) ≡ option_to_list u → (g₁ : Gathered) × (found_with g run (Clock t) ≡ Some g₁)
first_time g run t None e more u h = (record g { time = Some t }, rw e refl)
first_time g run t (Some v) e more None h = absurd (cc)
first_time g run t (Some v) e more (Some u) h = absurd (cc)

first_cookie : (g : Gathered) (run : List ℕ) (k : Kind) (p : Part) (more : List Part) → AreApart (g.cookies ++ (p ∷ more)) → (g₁ : Gathered) × ((cookies_with g.cookies p >>= λ cs. Some (record g { cookies = cs })) ≡ Some g₁)
first_cookie g run k p more h =
    let with = cookies_some g.cookies p more h in
    (record g { cookies = with.0 }, rw with.1 refl)

-- one more fits
fits : (g : Gathered) (run : List ℕ) (k : Kind) (m : ℕ) (times : List Times) (u : Option Times) (cookies : List Part) →
    one_if g.named + (one_if (is_name k) + m) ≤ 1 →
    option_to_list g.time ++ (option_to_list (times_in k) ++ times) ≡ option_to_list u →
    AreApart (g.cookies ++ (filter (λ q. is_cookie q.kind) (record { run = run; kind = k } ∷ []) ++ cookies)) →
    (g₁ : Gathered) × (found_with g run k ≡ Some g₁)
fits g run Name m times u cookies name time clear = first_name g run g.named refl m name
fits g run (Clock t) m times u cookies name time clear = first_time g run t g.time refl times u time
fits g run (Repeat r) m times u cookies name time clear = first_cookie g run (Repeat r) (record { run = run; kind = Repeat r }) cookies clear
fits g run Delay m times u cookies name time clear = first_cookie g run Delay (record { run = run; kind = Delay }) cookies clear

same_option : (o u : Option Times) → option_to_list o ≡ option_to_list u → o ≡ u
same_option None None e = refl
same_option None (Some u) e = absurd (cc)
same_option (Some o) None e = absurd (cc)
same_option (Some o) (Some u) e = let same : o ≡ u = cc in ap (λ x. Some x) same

same_gathered : (g : Gathered) (t : Option Times) (cs : List Part) → g.time ≡ t → g.cookies ≡ cs → g ≡ record { named = g.named; time = t; cookies = cs }
same_gathered g t cs e f = rw (← e, ← f) refl

moved : {A : Type 0} (a g o r w : List A) → a ≡ g ++ o → g ++ (o ++ r) ≡ w → a ++ r ≡ w
moved a g o r w e h = ap (λ l. l ++ r) e ∙ append_assoc g o r ∙ h

pub gives : (ps : List Part) (g : Gathered) (t : Option Times) (cs : List Part) →
    one_if g.named + count_by (λ p. is_name p.kind) ps ≤ 1 →
    option_to_list g.time ++ filter_map (λ p. times_in p.kind) ps ≡ option_to_list t →
    g.cookies ++ filter (λ p. is_cookie p.kind) ps ≡ cs →
    AreApart cs →
    (n : Bool) × (parts_with g ps ≡ Some (record { named = n; time = t; cookies = cs }))
gives [] g t cs name time cookies clear =
    (g.named, ap (λ k. Some k) (same_gathered g t cs (same_option g.time t (sym (append-nil _) ∙ time)) (sym (append-nil _) ∙ cookies)))
gives (p ∷ ps) g t cs name time cookies clear =
    let times_more = cons_option-append (λ q. times_in q.kind) p ps in
    let cookies_more = filter-append p ps in
    let name_next : one_if g.named + (one_if (is_name p.kind) + count_by (λ q. is_name q.kind) ps) ≤ 1 = omega (arith, name, count-cons p ps) in
    let time_next = sym (ap (λ l. option_to_list g.time ++ l) times_more) ∙ time in
    let cookies_next = sym (ap (λ l. g.cookies ++ l) cookies_more) ∙ cookies in
    let clear_next = subst AreApart (sym cookies_next) clear in
    let step = fits g p.run p.kind _ (filter_map (λ q. times_in q.kind) ps) t (filter (λ q. is_cookie q.kind) ps) name_next time_next clear_next in
    let one = adds_one g p.run p.kind step.0 step.1 in
    let more = gives ps step.0 t cs
    (omega (arith, one.name, name_next))
    (moved (option_to_list (step.0).time) (option_to_list g.time) (option_to_list (times_in p.kind)) (filter_map (λ q. times_in q.kind) ps) (option_to_list t) one.time time_next)
    (moved (step.0).cookies g.cookies (filter (λ q. is_cookie q.kind) (p ∷ [])) (filter (λ q. is_cookie q.kind) ps) cs one.cookies cookies_next)
    clear in
    (more.0, rw step.1 more.1)

-- ---- all parts together

apart_of : (cs : List Part) → all_apart cs ≡ true → AreApart cs
apart_of [] e = tt
apart_of (a ∷ []) e = tt
apart_of (a ∷ b ∷ []) e = e
apart_of (a ∷ b ∷ c ∷ cs) e = absurd (cc)

time_is : (ts : List Times) (o : Option Times) → ts ≡ option_to_list o → time_among ts ≡ Some o
time_is ts None e = ap time_among e
time_is ts (Some t) e = ap time_among e

said_of : (ps : List Part) (s : StampValue) → Says ps s → said_by s.active s.day ps ≡ Some s
said_of ps s h = grind (arith, common_steps)

says_of : (active : Bool) (day : CivilDay) (ps : List Part) (s : StampValue) → said_by active day ps ≡ Some s → Says ps s × (active ≡ s.active) × (day ≡ s.day)
says_of active day ps s e = grind (arith, common_steps)

same_options : {A : Type 0} (o p : Option A) → ((x : A) → o ≡ Some x → p ≡ Some x) → ((x : A) → p ≡ Some x → o ≡ Some x) → o ≡ p
same_options None None f g = refl
same_options None (Some x) f g = g x refl
same_options (Some x) p f g = sym (f x refl)

gathered_said : (active : Bool) (day : CivilDay) (ps : List Part) → (parts_with nothing ps >>= λ g. Some (value_of active day g)) ≡ said_by active day ps
gathered_said active day ps =
    same_options (parts_with nothing ps >>= λ g. Some (value_of active day g)) (said_by active day ps)
    (λ s e.
    let read = bind_ok (parts_with nothing ps) (λ g. Some (value_of active day g)) s e in
    let a = adds ps nothing read.0 read.1 in
    let is = same_some (value_of active day read.0) s read.2 in
    let says : Says ps (value_of active day read.0) = record { name = omega (arith, a.name); time = sym a.time; cookies = sym a.cookies; apart = a.apart tt } in
    said_of ps (value_of active day read.0) says ∙ ap (λ s. Some s) is)
    (λ s e.
    let h = says_of active day ps s e in
    let found = gives ps nothing s.time s.cookies (omega (arith, h.0.name)) h.0.time h.0.cookies h.0.apart in
    rw (found.1, h.1, h.2) refl)

-- ---- the runs of the bytes after a date

bind_none : {A B : Type 0} (o : Option A) (f : A → Option B) → ((x : A) → f x ≡ None) → (o >>= f) ≡ None
bind_none None f none = refl
bind_none (Some x) f none = none x

bind_bind : {A B C : Type 0} (o : Option A) (f : A → Option B) (g : B → Option C) → ((o >>= f) >>= g) ≡ (o >>= λ x. f x >>= g)
bind_bind None f g = refl
bind_bind (Some x) f g = refl

part_first : (g : Gathered) (p : Part) (q : Option (List Part)) → (found_with g p.run p.kind >>= λ h. q >>= λ ps. parts_with h ps) ≡ ((q >>= λ ps. Some (p ∷ ps)) >>= λ ps. parts_with g ps)
part_first g p None = bind_none (found_with g p.run p.kind) _ (λ h. refl)
part_first g p (Some ps) = refl

runs_said : (g : Gathered) (runs : List (List ℕ)) → runs_with g runs ≡ (parts_in runs >>= λ ps. parts_with g ps)
runs_said g [] = refl
runs_said g (run ∷ runs) = by_kind (kind_of run) (λ h. runs_said h runs)
  where
    by_kind : (o : Option Kind) → ((h : Gathered) → runs_with h runs ≡ (parts_in runs >>= λ ps. parts_with h ps)) → ((o >>= λ k. found_with g run k) >>= λ h. runs_with h runs) ≡ ((o >>= λ k. parts_in runs >>= λ ps. Some (record { run = run; kind = k } ∷ ps)) >>= λ ps. parts_with g ps)
    by_kind None more = refl
    by_kind (Some k) more =
        bind_same (found_with g run k) (λ h. runs_with h runs) (λ h. parts_in runs >>= λ ps. parts_with h ps) more ∙ part_first g (record { run = run; kind = k }) (parts_in runs)

pieces_said : (active : Bool) (day : CivilDay) (pieces : List (List ℕ)) → (pieces_with nothing pieces >>= λ g. Some (value_of active day g)) ≡ (parts_in (filter has_bytes pieces) >>= λ ps. said_by active day ps)
pieces_said active day pieces = grind (arith, common_steps, skip, nothing, runs_said, bind_bind, bind_same, gathered_said)

tail_said : (active : Bool) (day : CivilDay) (tail : List ℕ) → (tail_of tail >>= λ g. Some (value_of active day g)) ≡ (parts_of_tail tail >>= λ ps. said_by active day ps)
tail_said active day [] = refl
tail_said active day (x ∷ xs) =
    let some : (length (x ∷ xs) == 0) ≡ false = grind arith in
    rw some (by_test (is_blank x && not (is_blank (slice_index (x ∷ xs) (length (x ∷ xs) - 1)))))
  where
    by_test : (b : Bool) → (cond b (pieces_with nothing (slice_split is_blank (x ∷ xs))) None >>= λ g. Some (value_of active day g)) ≡ (cond b (parts_in (runs_in (x ∷ xs))) None >>= λ ps. said_by active day ps)
    by_test true = pieces_said active day (slice_split is_blank (x ∷ xs))
    by_test false = refl

-- what the reader makes of what stands between the brackets
pub inside_said : (active : Bool) (inside : List ℕ) → (date_of (take 10 inside) >>= λ day. tail_of (drop 10 inside) >>= λ g. Some (value_of active day g)) ≡ inside_of active inside
inside_said active inside = grind (arith, common_steps, bind_same, tail_said)

pub inside_read : (active : Bool) (inside : List ℕ) (day : Option CivilDay) (found : Option Gathered) → day ≡ date_of (take 10 inside) → found ≡ tail_of (drop 10 inside) →
    (day >>= λ d. found >>= λ g. Some (value_of active d g)) ≡ inside_of active inside
inside_read active inside day found dated tail =
    ap (λ o. o >>= λ d. found >>= λ g. Some (value_of active d g)) dated ∙ ap (λ o. date_of (take 10 inside) >>= λ d. o >>= λ g. Some (value_of active d g)) tail ∙ inside_said active inside
