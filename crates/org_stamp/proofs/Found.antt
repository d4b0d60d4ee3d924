-- What the reader gathers from runs, against the parts that the bytes have.
use Rattle.std.proofs.Common.{◌≡◌, ℕ, suc, ◌+◌, ◌-◌, ◌<◌, ◌≤◌, ◌==◌, ◌⊎◌, inl, inr, Bool, true, false, not, ◌&&◌, ◌||◌, cond, IsTrue, Option, None, Some, is_some, List, [], ◌∷◌, ◌++◌, length, filter, count_by, position, slice_index, take, nat_lt, append_assoc, refl, sym, ap, ◌∙◌, subst, arith}
use Rattle.std.proofs.lemmas.Grind.{common_steps}
use Rattle.std.specs.List.{slice_split, list_all, filter_map, cons_option, prefix_len, position_or_len, AllByRecursion}
use Rattle.std.specs.Option.{option_to_list}
use Rattle.std.specs.Char.{is_ascii_digit}
use Rattle.std.proofs.lemmas.List.Sums.{sum_by-cons}
use Rattle.org_stamp.specs.declared.kind.Times.{Times}
use Rattle.org_stamp.specs.declared.kind.Kind.{Kind}
use Rattle.org_stamp.specs.declared.kind.Kind.TheVariants.{Name, Clock, Repeat, Delay}
use Rattle.org_stamp.specs.Parts.{◌>>=◌, is_blank, is_closing, kind_of, times_of, times_cut, clock_of, delay_of, repeater_of, is_name_byte}
use Rattle.org_stamp.specs.Stamp.{Part, is_name, times_in, is_cookie, AreApart, IsRun, HasParts, IsTime, IsCookie, IsWritable}
use Rattle.org_stamp.specs.Front.{has_bytes}
use Rattle.org_stamp.specs.Reading.{Gathered, nothing, tail_of, found_with, pieces_with}
use Rattle.org_stamp.proofs.Runs.{is_plain}
use Rattle.org_stamp.proofs.Cut.{HasRuns, both, runs_of, ends_plain}

pub bind_ok : {A B : Type 0} (o : Option A) (f : A → Option B) (y : B) → (o >>= f) ≡ Some y → (x : A) × (o ≡ Some x) × (f x ≡ Some y)
bind_ok None f y e = absurd (cc)
bind_ok (Some x) f y e = (x, refl, e)

pub bind_same : {A B : Type 0} (o : Option A) (f g : A → Option B) → ((x : A) → f x ≡ g x) → (o >>= f) ≡ (o >>= g)
bind_same None f g e = refl
bind_same (Some x) f g e = e x

pub chosen : {A : Type 0} (b : Bool) (x y : A) (z : A) → cond b x y ≡ z → ((b ≡ true) × (x ≡ z)) ⊎ ((b ≡ false) × (y ≡ z))
chosen true x y z e = inl (refl, e)
chosen false x y z e = inr (refl, e)

pub same_some : {A : Type 0} (x y : A) → Some x ≡ Some y → x ≡ y
same_some x y e = cc

-- no closing bracket among the bytes
abbrev pub IsOpen : List ℕ → Type 0
IsOpen bytes = IsTrue (list_all (λ b. not (is_closing b)) bytes)

pub open_parts : (xs ys : List ℕ) → IsOpen (xs ++ ys) → IsOpen xs × IsOpen ys
open_parts [] ys h = (refl, h)
open_parts (x ∷ xs) ys h =
    let first = both (not (is_closing x)) (list_all (λ b. not (is_closing b)) (xs ++ ys)) h in
    let more = open_parts xs ys first.1 in
    (rw first.0 more.0, more.1)

neither : (a b c d : Bool) → IsTrue (not a && c) → IsTrue (not b && d) → ((not (a || b)) ≡ true) × IsTrue c × IsTrue d
neither a b c d h k = grind arith

pub run_of : (xs : List ℕ) → IsTrue (list_all is_plain xs) → IsOpen xs → IsTrue (list_all (λ b. not (is_blank b || is_closing b)) xs)
run_of [] h k = refl
run_of (x ∷ xs) h k =
    let parts = neither (is_blank x) (is_closing x) (list_all is_plain xs) (list_all (λ b. not (is_closing b)) xs) h k in
    rw parts.0 (run_of xs parts.1 parts.2)

abbrev pub runs_with : Gathered → List (List ℕ) → Option Gathered
runs_with g [] = Some g
runs_with g (run ∷ runs) = (kind_of run >>= λ k. found_with g run k) >>= λ h. runs_with h runs

-- pieces with no bytes are passed over
pub skip : (g : Gathered) (pieces : List (List ℕ)) → pieces_with g pieces ≡ runs_with g (filter has_bytes pieces)
skip g [] = refl
skip g ([] ∷ ps) = skip g ps
skip g ((x ∷ xs) ∷ ps) =
    let some : (length (x ∷ xs) == 0) ≡ false = grind arith in
    rw some (bind_same (kind_of (x ∷ xs) >>= λ k. found_with g (x ∷ xs) k) (λ h. pieces_with h ps) (λ h. runs_with h (filter has_bytes ps)) (λ h. skip h ps))

abbrev pub parts_with : Gathered → List Part → Option Gathered
parts_with g [] = Some g
parts_with g (p ∷ ps) = found_with g p.run p.kind >>= λ h. parts_with h ps

pub record PartsOf (bytes : List ℕ) (g h : Gathered) : Type 0 where
  pub parts : List Part
  pub has_parts : HasParts bytes parts
  pub all : parts_with g parts ≡ Some h

-- the runs are parts
pub parts_of_runs : (bytes : List ℕ) (runs : List (List ℕ)) (g h : Gathered) → IsOpen bytes → HasRuns bytes runs → runs_with g runs ≡ Some h → PartsOf bytes g h
parts_of_runs bytes [] g h clear has e = record { parts = []; has_parts = has; all = e }
parts_of_runs bytes (run ∷ runs) g h clear has e =
    let whole : IsOpen (has.0 ++ (run ++ has.1)) = subst IsOpen has.2 clear in
    let behind = (open_parts has.0 (run ++ has.1) whole).1 in
    let split = open_parts run has.1 behind in
    let step = bind_ok (kind_of run >>= λ k. found_with g run k) (λ h. runs_with h runs) h e in
    let read = bind_ok (kind_of run) (λ k. found_with g run k) step.0 step.1 in
    let more = parts_of_runs has.1 runs step.0 h split.1 has.5 step.2 in
    let part : Part = record { run = run; kind = read.0 } in
    let is_run : IsRun run = record { some = has.4.some; plain = run_of run has.4.plain split.0 } in
    record {
      parts = part ∷ more.parts;
      has_parts = (has.0, has.1, has.2, has.3, record { run = is_run; kind = read.1 }, more.has_parts);
      all = rw read.2 more.all;
    }

abbrev pub one_if : Bool → ℕ
one_if true = 1
one_if false = 0

-- g₁ is g with that part
pub record AddsOne (p : Part) (g g₁ : Gathered) : Type 0 where
  pub name : one_if g₁.named ≡ one_if g.named + one_if (is_name p.kind)
  pub time : option_to_list g₁.time ≡ option_to_list g.time ++ option_to_list (times_in p.kind)
  pub cookies : g₁.cookies ≡ g.cookies ++ filter (λ q. is_cookie q.kind) (p ∷ [])
  pub apart : AreApart g.cookies → AreApart g₁.cookies

adds_time : (g : Gathered) (run : List ℕ) (t : Times) (g₁ : Gathered) (o : Option Times) → g.time ≡ o → cond (is_some o) None (Some (record g { time = Some t })) ≡ Some g₁ → AddsOne (record { run = run; kind = Clock t }) g g₁
adds_time g run t g₁ (Some u) same e = absurd (cc)
adds_time g run t g₁ None same e = grind (arith, common_steps)

pub adds_one : (g : Gathered) (run : List ℕ) (k : Kind) (g₁ : Gathered) → found_with g run k ≡ Some g₁ → AddsOne (record { run = run; kind = k }) g g₁
adds_one g run Name g₁ e = grind (arith, common_steps)
adds_one g run (Clock t) g₁ e = adds_time g run t g₁ g.time refl e
adds_one g run (Repeat r) g₁ e = grind (arith, common_steps)
adds_one g run Delay g₁ e = grind (arith, common_steps)

pub cons_option-append : {A : Type 0} (f : Part → Option A) (p : Part) (ps : List Part) → filter_map f (p ∷ ps) ≡ option_to_list (f p) ++ filter_map f ps
cons_option-append {A = A} f p ps = by_option (f p) (filter_map f ps)
  where
    by_option : (o : Option A) (xs : List A) → cons_option o xs ≡ option_to_list o ++ xs
    by_option None xs = refl
    by_option (Some x) xs = refl

pub filter-append : (p : Part) (ps : List Part) → filter (λ q. is_cookie q.kind) (p ∷ ps) ≡ filter (λ q. is_cookie q.kind) (p ∷ []) ++ filter (λ q. is_cookie q.kind) ps
filter-append p ps = by_test (is_cookie p.kind) (filter (λ q. is_cookie q.kind) ps)
  where
    by_test : (b : Bool) (qs : List Part) → cond b (p ∷ qs) qs ≡ cond b (p ∷ []) [] ++ qs
    by_test true qs = refl
    by_test false qs = refl

pub count-cons : (p : Part) (ps : List Part) → count_by (λ q. is_name q.kind) (p ∷ ps) ≡ one_if (is_name p.kind) + count_by (λ q. is_name q.kind) ps
count-cons p ps = sum_by-cons (λ q. cond (is_name q.kind) 1 0) p ps ∙ ap (λ n. n + count_by (λ q. is_name q.kind) ps) (by_test (is_name p.kind))
  where
    by_test : (b : Bool) → cond b 1 0 ≡ one_if b
    by_test true = refl
    by_test false = refl

joins : {A : Type 0} (a b g o r c : List A) → a ≡ b ++ r → b ≡ g ++ o → c ≡ o ++ r → a ≡ g ++ c
joins a b g o r c e f h = e ∙ ap (λ l. l ++ r) f ∙ append_assoc g o r ∙ ap (λ l. g ++ l) (sym h)

-- h is g with those parts
pub record Adds (ps : List Part) (g h : Gathered) : Type 0 where
  pub name : one_if g.named + count_by (λ p. is_name p.kind) ps ≤ 1
  pub time : option_to_list h.time ≡ option_to_list g.time ++ filter_map (λ p. times_in p.kind) ps
  pub cookies : h.cookies ≡ g.cookies ++ filter (λ p. is_cookie p.kind) ps
  pub apart : AreApart g.cookies → AreApart h.cookies

pub adds : (ps : List Part) (g h : Gathered) → parts_with g ps ≡ Some h → Adds ps g h
adds [] g h e = grind (arith, common_steps)
adds (p ∷ ps) g h e =
    let step = bind_ok (found_with g p.run p.kind) (λ k. parts_with k ps) h e in
    let one = adds_one g p.run p.kind step.0 step.1 in
    let more = adds ps step.0 h step.2 in
    record {
      name = omega (arith, one.name, more.name, count-cons p ps);
      time = joins _ _ _ _ _ _ more.time one.time (cons_option-append (λ q. times_in q.kind) p ps);
      cookies = joins _ _ _ _ _ _ more.cookies one.cookies (filter-append p ps);
      apart = λ a. more.apart (one.apart a);
    }

clock_in : (text : List ℕ) (n : ℕ) → clock_of text ≡ Some n → n < 1440
clock_in text n e = grind (arith, common_steps)

times_within : (text : List ℕ) (at : Option ℕ) (t : Times) → times_cut text at ≡ Some t → IsTime (Some t)
times_within text None t e = grind (arith, common_steps)
times_within text (Some at) t e = grind (arith, common_steps)

-- a time that was read lies within the day
pub kind_time : (run : List ℕ) (t : Times) → kind_of run ≡ Some (Clock t) → IsTime (Some t)
kind_time run t e =
    let repeater : Option Kind = repeater_of run >>= λ r. Some (Repeat r) in
    let delay : Option Kind = delay_of run >>= λ i. Some Delay in
    let clock : Option Kind = times_of run >>= λ u. Some (Clock u) in
    elim (chosen (list_all is_name_byte run) (Some Name) (cond (is_ascii_digit (slice_index run 0)) clock (cond (slice_index run 0 == 45) delay repeater)) (Some (Clock t)) e) [
      | inl h ↦ absurd (cc)
      | inr h ↦ elim (chosen (is_ascii_digit (slice_index run 0)) clock (cond (slice_index run 0 == 45) delay repeater) (Some (Clock t)) h.1) [
        | inl k ↦
            let read = bind_ok (times_of run) (λ u. Some (Clock u)) (Clock t) k.1 in
            let same : read.0 ≡ t = cc in
            times_within run (position (λ b. b == 45) run) t (read.1 ∙ ap (λ u. Some u) same)
        | inr k ↦ elim (chosen (slice_index run 0 == 45) delay repeater (Some (Clock t)) k.1) [
          | inl m ↦ let read = bind_ok (delay_of run) (λ i. Some Delay) (Clock t) m.1 in let no = read.2 in absurd (cc)
          | inr m ↦ let read = bind_ok (repeater_of run) (λ r. Some (Repeat r)) (Clock t) m.1 in let no = read.2 in absurd (cc)
        ]
      ]
    ]

abbrev IsTimeOf : Times → Type 0
IsTimeOf t = IsTime (Some t)

times_ok : (bytes : List ℕ) (ps : List Part) → HasParts bytes ps → AllByRecursion IsTimeOf (filter_map (λ p. times_in p.kind) ps)
times_ok bytes [] h = tt
times_ok bytes (p ∷ ps) h = by_kind p.kind h.4.kind (filter_map (λ q. times_in q.kind) ps) (times_ok h.1 ps h.5)
  where
    by_kind : (k : Kind) → kind_of p.run ≡ Some k → (ts : List Times) → AllByRecursion IsTimeOf ts → AllByRecursion IsTimeOf (cons_option (times_in k) ts)
    by_kind Name e ts all = all
    by_kind (Clock t) e ts all = (kind_time p.run t e, all)
    by_kind (Repeat r) e ts all = all
    by_kind Delay e ts all = all

cookies_ok : (bytes : List ℕ) (ps : List Part) → HasParts bytes ps → AllByRecursion IsCookie (filter (λ p. is_cookie p.kind) ps)
cookies_ok bytes [] h = tt
cookies_ok bytes (p ∷ ps) h = by_test (is_cookie p.kind) refl (filter (λ q. is_cookie q.kind) ps) (cookies_ok h.1 ps h.5)
  where
    by_test : (b : Bool) → is_cookie p.kind ≡ b → (qs : List Part) → AllByRecursion IsCookie qs → AllByRecursion IsCookie (cond b (p ∷ qs) qs)
    by_test true e qs all = (record { part = h.4; cookie = e }, all)
    by_test false e qs all = all

time_ok : (o : Option Times) (ts : List Times) → option_to_list o ≡ ts → AllByRecursion IsTimeOf ts → IsTime o
time_ok None ts e all = tt
time_ok (Some t) ts e all = (subst (λ (us : List Times). AllByRecursion IsTimeOf us) (sym e) all).0

-- what is read can be written
pub writable : (bytes : List ℕ) (h : Gathered) → PartsOf bytes nothing h → IsWritable h.time h.cookies
writable bytes h found =
    let a = adds found.parts nothing h found.all in
    record {
      time = time_ok h.time _ a.time (times_ok bytes found.parts found.has_parts);
      cookies = subst (λ (qs : List Part). AllByRecursion IsCookie qs) (sym a.cookies) (cookies_ok bytes found.parts found.has_parts);
      apart = a.apart tt;
    }

-- what is gathered from the bytes are parts that they have
pub tail_found : (tail : List ℕ) (h : Gathered) → IsOpen tail → tail_of tail ≡ Some h → PartsOf tail nothing h
tail_found [] h clear e = record { parts = []; has_parts = refl; all = e }
tail_found (x ∷ xs) h clear e =
    let some : (length (x ∷ xs) == 0) ≡ false = grind arith in
    let read = pieces_with nothing (slice_split is_blank (x ∷ xs)) in
    let here : cond (is_blank x && not (is_blank (slice_index (x ∷ xs) (length (x ∷ xs) - 1)))) read None ≡ Some h = rw some at e in
    elim (chosen (is_blank x && not (is_blank (slice_index (x ∷ xs) (length (x ∷ xs) - 1)))) read None (Some h) here) [
      | inl k ↦
          let ends = both (is_blank x) (not (is_blank (slice_index (x ∷ xs) (length (x ∷ xs) - 1)))) k.0 in
          let last : is_blank (slice_index (x ∷ xs) (length (x ∷ xs) - 1)) ≡ false = grind (arith, ends.1) in
          let has = runs_of x xs ends.0 (ends_plain (x ∷ xs) last) in
          parts_of_runs (x ∷ xs) (filter has_bytes (slice_split is_blank (x ∷ xs))) nothing h clear has (sym (skip nothing (slice_split is_blank (x ∷ xs))) ∙ k.1)
      | inr k ↦ absurd (cc)
    ]

-- the bytes before the first closing bracket
pub open_before : (xs : List ℕ) → IsOpen (take (prefix_len (λ b. not (is_closing b)) xs) xs)
open_before [] = refl
open_before (x ∷ xs) = by_test (prefix_len (λ b. not (is_closing b)) xs) (open_before xs) (is_closing x) refl
  where
    by_test : (n : ℕ) → IsOpen (take n xs) → (b : Bool) → is_closing x ≡ b → IsOpen (take (cond (not b) (1 + n) 0) (x ∷ xs))
    by_test n h true e = refl
    by_test n h false e =
        let next : 1 + n ≡ suc n = omega arith in
        rw (next, e) h

pub open_until : (xs : List ℕ) (i : ℕ) → position is_closing xs ≡ Some i → IsOpen (take i xs)
open_until xs i e =
    elim (chosen (nat_lt (position_or_len is_closing xs) (length xs)) (Some (position_or_len is_closing xs)) None (Some i) e) [
      | inl h ↦ let same : position_or_len is_closing xs ≡ i = same_some _ _ h.1 in subst (λ (n : ℕ). IsOpen (take n xs)) same (open_before xs)
      | inr h ↦ absurd (cc)
    ]
