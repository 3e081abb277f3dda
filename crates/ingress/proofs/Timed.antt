-- The times of lines, of what is admitted of them, and of the edges that follow.
use Rattle.std.specs.Prelude.{◌≡◌, ◌≢◌, ℕ, zero, suc, ◌-◌, ◌*◌, ◌/◌, ◌^◌, ◌<◌, ◌≤◌, min, max, nat_eq, nat_lt, Bool, true, false, cond, ◌&&◌, All, Option, Some, None, Ok, List, [], ◌∷◌, ◌++◌, refl}
use Rattle.std.proofs.Common.{ap, arith, inl, inr}
use Rattle.std.proofs.lemmas.Bool.{cases_lt}
use Rattle.std.proofs.lemmas.Bool.Decides.{nat_tests}
use Rattle.std.proofs.lemmas.List.Elements.{All-nil, All-cons, All-head, All-tail, All-push}
use Rattle.tw_rows.specs.Instant.{inf, floor_to}
use Rattle.tw_rows.specs.Event.{Event as Lived}
use Rattle.tw_rows.specs.Rows.{Row}
use Rattle.tw_rows.specs.declared.schema.StreamDef.{StreamDef}
use Rattle.key_nodes.specs.Joins.{with_life}
use Rattle.row_reader.specs.declared.form.Form.{Form}
use Rattle.row_reader.specs.declared.form.Form.TheVariants.{Interval, Start, End}
use Rattle.plan_laws.specs.Times.{TimesUpTo}
use Rattle.plan_laws.proofs.StepTimes.{up_to_append, up_to_with_life}
use Rattle.row_reader.specs.Entry.{entry}
use Rattle.row_reader.specs.Printed.{IsEnd, AreTimes}
use Rattle.row_reader.proofs.ReadBack.{inf-is}
use Rattle.row_reader.proofs.Spells.{lines_say_events, lines_say_punctuations}
use Rattle.row_reader.specs.declared.entry.Entry.{Entry}
use Rattle.row_reader.specs.declared.entry.Entry.TheVariants.{Skip, Punct, Event}
use Rattle.admission.specs.declared.policy.Policy.{Policy}
use Rattle.admission.specs.Admission.{Open, Admission, nothing, raised, closes_open, first, without_first, ended_at, Outcome, Taken, WasLate, Unmatched, closed, enter, bounded, admit, least, stepped, allowed, refuses, drops}
use Rattle.admission.proofs.Steps.{OnTaken, floor_below}
use Rattle.ingress.specs.Times.{HasEventTimes, IsTimed}

-- TIMES
pub end_within : (t : ℕ) → IsEnd t → t ≤ inf
end_within t (inl h) = omega (arith, inf-is, h)
end_within t (inr h) = omega (arith, h)

pub end_below : (t : ℕ) → IsEnd t → t < inf → t ≤ 2 ^ 60 - 1
end_below t (inl h) less = omega (arith, h)
end_below t (inr h) less = absurd (omega (arith, h, less))

pub end_from : (t : ℕ) → t ≤ inf → (t < inf → t ≤ 2 ^ 60 - 1) → IsEnd t
end_from t high h = elim (cases_lt t inf) [ inl less ↦ (let a = h less in inl (omega (arith, a))) | inr past ↦ inr (omega (arith, past, high)) ]

end_max : (a b : ℕ) → IsEnd a → IsEnd b → IsEnd (max a b)
end_max a b (inl h) (inl k) = inl (omega (arith, h, k))
end_max a b (inl h) (inr k) = inr (omega (arith, inf-is, h, k))
end_max a b (inr h) k = inr (let w = end_within b k in omega (arith, h, w))

end_min : (a b : ℕ) → IsEnd a → IsEnd b → IsEnd (min a b)
end_min a b (inl h) k = inl (omega (arith, h))
end_min a b (inr h) (inl k) = inl (omega (arith, k))
end_min a b (inr h) (inr k) = inr (omega (arith, h, k))

pub end_if : (b : Bool) (x y : ℕ) → IsEnd x → IsEnd y → IsEnd (cond b x y)
end_if true x y h k = h
end_if false x y h k = k

end_floor : (period t : ℕ) → IsEnd t → IsEnd (floor_to period t)
end_floor period t (inl h) = inl (let m = floor_below period t (omega (arith, inf-is, h)) in omega (arith, h, m))
end_floor period t (inr h) = inr (let z : nat_lt t inf ≡ false = grind (arith, nat_tests) in ap (λ b. cond b (period * (t / period)) inf) z)

end_least : (n : ℕ) (times : ℕ → ℕ) → ((s : ℕ) → IsEnd (times s)) → IsEnd (least n times)
end_least zero times h = inr refl
end_least (suc n) times h = end_min (times n) (least n times) (h n) (end_least n times h)

pub due_timed : (policy : Policy) (streams : ℕ) (a : Admission) → IsTimed a → IsEnd (allowed policy streams a)
due_timed policy streams a t =
    end_max (stepped policy.period (least streams a.bound)) (least streams a.mark)
    (end_if (nat_eq policy.period 0) 0 (floor_to policy.period (least streams a.bound)) (inl (omega arith)) (end_floor policy.period (least streams a.bound) (end_least streams a.bound t.bounds)))
    (end_least streams a.mark t.marks)

-- LINES
event_timed : (form : Form) (sync other : ℕ) → AreTimes form sync other → (sync < 2 ^ 60) × IsEnd other
event_timed Interval sync other h = (h.0, h.1)
event_timed Start sync other h = (h.0, inr h.1)
event_timed End sync other h = (h.0, inl (let a = h.0 in let b = h.1 in omega (arith, a, b)))

pub line_timed : (streams : List StreamDef) (start : Bool) (line : List ℕ) (e : Entry) → All (λ b. b ≢ 10) line → entry streams start line ≡ Ok e → HasEventTimes e
line_timed streams start line Skip feed is = tt
line_timed streams start line (Punct stream time) feed is = ((lines_say_punctuations streams start line stream time feed).0 is).is_time
line_timed streams start line (Event stream form sync other row) feed is = event_timed form sync other ((lines_say_events streams start line stream form sync other row feed).0 is).times

-- ADMISSION
pub nothing_timed : IsTimed nothing
nothing_timed = record { bounds = λ s. inl (omega arith); marks = λ s. inl (omega arith); made = λ s. tt; opens = All-nil (λ (o : Open). IsEnd o.given × IsEnd o.start) }

abbrev IsTimedOpen : Open → Type 0
IsTimedOpen o = IsEnd o.given × IsEnd o.start

abbrev AreTimed : List (Lived Row) → Type 0
AreTimed es = TimesUpTo (2 ^ 60 - 1) es

life_timed : (row : Row) (start end : ℕ) → IsEnd start → IsEnd end → AreTimed (with_life row start end)
life_timed row start end h k = up_to_with_life (2 ^ 60 - 1) row start end (end_within end k) (end_below start h) (end_below end k)

unless_timed : (b : Bool) (es : List (Lived Row)) → AreTimed es → AreTimed (cond b [] es)
unless_timed true es h = tt
unless_timed false es h = h

more_timed : (b : Bool) (es new : List (Lived Row)) → AreTimed es → AreTimed new → AreTimed (cond b (es ++ new) es)
more_timed true es new h k = up_to_append (2 ^ 60 - 1) es new h k
more_timed false es new h k = h

first_timed : (p : Open → Bool) (os : List Open) (o : Open) → first p os ≡ Some o → All IsTimedOpen os → IsTimedOpen o
first_timed p [] o is h = absurd (let z = is in cc)
first_timed p (x ∷ os) o is h = go (p x) is (first_timed p os o)
  where
    go : (b : Bool) → cond b (Some x) (first p os) ≡ Some o → (first p os ≡ Some o → All IsTimedOpen os → IsTimedOpen o) → IsTimedOpen o
    go true i rest = (let e : x ≡ o = cc in rw e at (All-head IsTimedOpen x os h))
    go false i rest = rest i (All-tail IsTimedOpen x os h)

others_timed : (p : Open → Bool) (os : List Open) → All IsTimedOpen os → All IsTimedOpen (without_first p os)
others_timed p [] h = h
others_timed p (x ∷ os) h = go (p x) (others_timed p os (All-tail IsTimedOpen x os h))
  where
    go : (b : Bool) → All IsTimedOpen (without_first p os) → All IsTimedOpen (cond b os (x ∷ without_first p os))
    go true rest = All-tail IsTimedOpen x os h
    go false rest = All-cons IsTimedOpen x (without_first p os) (All-head IsTimedOpen x os h) rest

enter_timed : (a : Admission) (s : ℕ) (form : Form) (sync other : ℕ) (row : Row) (at : ℕ) (dropped : Bool) → IsTimed a → IsEnd sync → IsEnd other → IsEnd at →
    OnTaken IsTimed (enter a s form sync other row at dropped)
enter_timed a s Interval sync other row at dropped t h k l = record {
  bounds = t.bounds;
  marks = t.marks;
  made = λ n. more_timed (nat_eq n s) (a.made n) (cond dropped [] (with_life row at other)) (t.made n) (unless_timed dropped (with_life row at other) (life_timed row at other l k));
  opens = t.opens;
}
enter_timed a s Start sync other row at dropped t h k l = record {
  bounds = t.bounds;
  marks = t.marks;
  made = t.made;
  opens = (let o : Open = record { stream = s; row = row; given = sync; start = at; dropped = dropped } in All-push IsTimedOpen a.opens o t.opens (h, l));
}
enter_timed a s End sync other row at dropped t h k l = go (first (closes_open s row other) a.opens) refl
  where
    go : (m : Option Open) → first (closes_open s row other) a.opens ≡ m → OnTaken IsTimed (closed s at (closes_open s row other) a m)
    go None is = tt
    go (Some o) is = record {
      bounds = t.bounds;
      marks = t.marks;
      made = λ n. more_timed (nat_eq n s) (a.made n) (ended_at at o) (t.made n)
          (unless_timed o.dropped (with_life o.row o.start at) (life_timed o.row o.start at (first_timed (closes_open s row other) a.opens o is t.opens).1 l));
      opens = others_timed (closes_open s row other) a.opens t.opens;
    }

raised_timed : (s t : ℕ) (times : ℕ → ℕ) (k : ℕ) → IsEnd t → IsEnd (times k) → IsEnd (raised s t times k)
raised_timed s t times k h l = end_if (nat_eq k s) (max (times k) t) (times k) (end_max (times k) t l h) l

bounded_timed : (s t : ℕ) (o : Outcome) → IsEnd t → OnTaken IsTimed o → OnTaken IsTimed (bounded s t o)
bounded_timed s t (Taken a) h k = record { bounds = λ n. raised_timed s t a.bound n h (k.bounds n); marks = k.marks; made = k.made; opens = k.opens }
bounded_timed s t (WasLate time bound) h k = tt
bounded_timed s t Unmatched h k = tt

unless_late : (late : Bool) (time bound : ℕ) (o : Outcome) → OnTaken IsTimed o → OnTaken IsTimed (cond late (WasLate time bound) o)
unless_late true time bound o h = tt
unless_late false time bound o h = h

admit_timed : (policy : Policy) (a : Admission) (e : Entry) → IsTimed a → HasEventTimes e → OnTaken IsTimed (admit policy a e)
admit_timed policy a Skip t h = t
admit_timed policy a (Punct None time) t h = record { bounds = λ k. end_max (a.bound k) time (t.bounds k) h; marks = λ k. end_max (a.mark k) time (t.marks k) h; made = t.made; opens = t.opens }
admit_timed policy a (Punct (Some s) time) t h = record { bounds = λ k. raised_timed s time a.bound k h (t.bounds k); marks = λ k. raised_timed s time a.mark k h (t.marks k); made = t.made; opens = t.opens }
admit_timed policy a (Event s form sync other row) t h =
    let late = nat_lt sync (a.bound s) in
    let low = h.0 in
    unless_late (late && refuses policy.late) sync (a.bound s) (bounded s (sync - policy.lateness) (enter a s form sync other row (max sync (a.bound s)) (late && drops policy.late)))
    (bounded_timed s (sync - policy.lateness) (enter a s form sync other row (max sync (a.bound s)) (late && drops policy.late)) (inl (omega (arith, low)))
    (enter_timed a s form sync other row (max sync (a.bound s)) (late && drops policy.late) t (inl low) h.1 (end_max sync (a.bound s) (inl low) (t.bounds s))))

pub taken_timed : (policy : Policy) (a b : Admission) (e : Entry) → IsTimed a → HasEventTimes e → admit policy a e ≡ Taken b → IsTimed b
taken_timed policy a b e t h is = (let k = admit_timed policy a e t h in rw is at k)
