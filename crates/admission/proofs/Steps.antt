-- What an entry changes: of no stream anything that is known below its bound.
use Rattle.std.specs.Prelude.{◌≡◌, ℕ, suc, zero, ◌+◌, ◌-◌, ◌<◌, ◌≤◌, min, max, nat_eq, nat_lt, Bool, true, false, cond, ◌&&◌, List, [], ◌∷◌, ◌++◌, flat_map, Option, Some, None, refl}
use Rattle.std.proofs.Common.{sym, ◌∙◌, ap, arith, inl, inr, add-zero, div-mul-le_self}
use Rattle.std.proofs.lemmas.Bool.{eqb-true, eq-eqb, cases_lt}
use Rattle.std.proofs.lemmas.Bool.Decides.{nat_tests}
use Rattle.std.proofs.lemmas.List.Concat.{flat_map-append}
use Rattle.tw_rows.specs.Instant.{inf, floor_to}
use Rattle.tw_rows.specs.Bag.{total}
use Rattle.tw_rows.specs.Event.{Event as Lived, AreEvents, seen}
use Rattle.tw_rows.specs.Rows.{Row}
use Rattle.tw_rows.proofs.Bags.{total-append}
use Rattle.tw_rows.proofs.Knowing.{Known-seen}
use Rattle.tw_rows.proofs.Lives.{AreEvents-append}
use Rattle.key_nodes.specs.Joins.{with_life}
use Rattle.key_nodes.proofs.Lives.{AreEvents-flat_map}
use Rattle.row_reader.specs.declared.form.Form.{Form}
use Rattle.row_reader.specs.declared.form.Form.TheVariants.{Interval, Start, End}
use Rattle.plan_model.specs.Keys.{rows_equal}
use Rattle.plan_model.proofs.NewLives.{AreEvents-with_life}
use Rattle.row_reader.specs.declared.entry.Entry.{Entry}
use Rattle.row_reader.specs.declared.entry.Entry.TheVariants.{Skip, Punct, Event}
use Rattle.admission.specs.declared.policy.Policy.{Policy}
use Rattle.admission.specs.Admission.{Open, Admission, nothing, raised, more_of, closes_open, first, without_first, ended_at, Outcome, Taken, WasLate, Unmatched, closed, enter, bounded, admit, open_event, rows, least, allowed, refuses, drops}
use Rattle.admission.specs.Entries.{IsEntry}
use Rattle.admission.specs.Keeping.{IsSound, Goes}
use Rattle.admission.proofs.Seeing.{late_life, open_life, Known-equal, more_weigh}

pub nothing_sound : IsSound nothing
nothing_sound = record { made = λ s. tt; marks = λ s. omega arith; low = λ s. omega arith }

cond_valid : (b : Bool) (xs ys : List (Lived Row)) → AreEvents xs → AreEvents ys → AreEvents (cond b xs ys)
cond_valid true xs ys x y = x
cond_valid false xs ys x y = y

ended_valid : (at : ℕ) (o : Open) → at ≤ inf → AreEvents (ended_at at o)
ended_valid at o low = cond_valid o.dropped [] (with_life o.row o.start at) tt (AreEvents-with_life o.row o.start at low)

open_valid : (s : ℕ) (o : Open) → AreEvents (open_event s o)
open_valid s o = cond_valid (nat_eq o.stream s) (ended_at inf o) [] (ended_valid inf o (omega arith)) tt

pub rows_valid : (a : Admission) → IsSound a → (s : ℕ) → AreEvents (rows a s)
rows_valid a sound s = AreEvents-append (a.made s) (flat_map (open_event s) a.opens) (sound.made s) (AreEvents-flat_map (open_event s) a.opens (open_valid s))

-- a step that touches stream s alone, and of it nothing that is seen below its bound
goes_by : (streams s : ℕ) (a b : Admission) → s < streams → IsSound a → IsSound b → ((k : ℕ) → a.bound k ≤ b.bound k) →
    ((k c : ℕ) (w : Lived Row → ℕ) → c ≤ inf → (k ≡ s → c ≤ a.bound s) → total (seen w c) (rows a k) ≡ total (seen w c) (rows b k)) → Goes streams a b
goes_by streams s a b low va vb rise same = record {
  sound = vb;
  bounds = rise;
  known = λ k c below. (let high : c ≤ inf = (let l = va.low k in omega arith) in
      Known-seen c _ _ high (rows_valid a va k) (rows_valid b vb k) (λ w. same k c w high (λ e. rw e at below)));
  others = λ k c past high. Known-seen c _ _ high (rows_valid a va k) (rows_valid b vb k) (λ w. same k c w high (λ e. absurd (omega arith)));
}

-- an ended life that ends at c or later is seen as the open one, and one that starts there is not seen
ended_seen : (w : Lived Row → ℕ) (c at : ℕ) (o : Open) → c ≤ at → at ≤ inf → total (seen w c) (ended_at at o) ≡ total (seen w c) (ended_at inf o)
ended_seen w c at o late low = go o.dropped
  where
    go : (d : Bool) → total (seen w c) (cond d [] (with_life o.row o.start at)) ≡ total (seen w c) (cond d [] (with_life o.row o.start inf))
    go true = refl
    go false = open_life w c o.row o.start at late low

abbrev or_this : Open → Option Open → Open
or_this x None = x
or_this x (Some o) = o

-- the first that passes passes, and the others weigh the rest
first_weighs : (v : Lived Row → ℕ) (k : ℕ) (p : Open → Bool) (os : List Open) (o : Open) → first p os ≡ Some o →
    total v (flat_map (open_event k) os) ≡ total v (open_event k o) + total v (flat_map (open_event k) (without_first p os))
first_weighs v k p [] o is = absurd (let z = is in cc)
first_weighs v k p (x ∷ os) o is = go (p x) is (first_weighs v k p os o)
  where
    go : (b : Bool) → cond b (Some x) (first p os) ≡ Some o → (first p os ≡ Some o → total v (flat_map (open_event k) os) ≡ total v (open_event k o) + total v (flat_map (open_event k) (without_first p os))) →
        total v (open_event k x ++ flat_map (open_event k) os) ≡ total v (open_event k o) + total v (flat_map (open_event k) (cond b os (x ∷ without_first p os)))
    go true i rest = (let e : x ≡ o = ap (or_this x) i in rw e (total-append v (open_event k o) (flat_map (open_event k) os)))
    go false i rest = (let r = rest i in let a = total-append v (open_event k x) (flat_map (open_event k) os) in let b = total-append v (open_event k x) (flat_map (open_event k) (without_first p os)) in omega (arith, r, a, b))

first_passes : (p : Open → Bool) (os : List Open) (o : Open) → first p os ≡ Some o → p o ≡ true
first_passes p [] o is = absurd (let z = is in cc)
first_passes p (x ∷ os) o is = go (p x) refl is (first_passes p os o)
  where
    go : (b : Bool) → p x ≡ b → cond b (Some x) (first p os) ≡ Some o → (first p os ≡ Some o → p o ≡ true) → p o ≡ true
    go true h i rest = (let e : x ≡ o = ap (or_this x) i in rw e at h)
    go false h i rest = rest i

pub of_stream : (s : ℕ) (row : Row) (given : ℕ) (o : Open) → closes_open s row given o ≡ true → o.stream ≡ s
of_stream s row given o h = go (nat_eq o.stream s) (nat_eq o.given given) (rows_equal o.row row) refl h
  where
    go : (x y z : Bool) → nat_eq o.stream s ≡ x → ((x && y) && z) ≡ true → o.stream ≡ s
    go true y z e i = eqb-true o.stream s e
    go false y z e i = absurd (let z = i in cc)

-- a list that stands under a test and weighs nothing where the test is true
none_weigh : {X : Type 0} (v : X → ℕ) (b : Bool) (xs : List X) → (b ≡ true → total v xs ≡ 0) → total v (cond b xs []) ≡ 0
none_weigh v true xs h = h refl
none_weigh v false xs h = refl

late_ended : (w : Lived Row → ℕ) (c at : ℕ) (o : Open) → c ≤ o.start → total (seen w c) (ended_at at o) ≡ 0
late_ended w c at o late = go o.dropped
  where
    go : (d : Bool) → total (seen w c) (cond d [] (with_life o.row o.start at)) ≡ 0
    go true = refl
    go false = late_life w c o.row o.start at late

made_sound : (s : ℕ) (new : List (Lived Row)) (a : Admission) → IsSound a → AreEvents new → (k : ℕ) → AreEvents (more_of s new a.made k)
made_sound s new a sound valid k = cond_valid (nat_eq k s) _ _ (AreEvents-append (a.made k) new (sound.made k) valid) (sound.made k)

-- events made at the bound or later
makes : (streams s : ℕ) (a : Admission) (new : List (Lived Row)) → s < streams → IsSound a → AreEvents new →
    ((c : ℕ) (w : Lived Row → ℕ) → c ≤ a.bound s → total (seen w c) new ≡ 0) → Goes streams a (record a { made = more_of s new a.made })
makes streams s a new low sound valid none =
    goes_by streams s a (record a { made = more_of s new a.made }) low sound (record { made = made_sound s new a sound valid; marks = sound.marks; low = sound.low }) (λ k. omega arith)
    (λ k c w high here.
    let m = more_weigh (seen w c) (nat_eq k s) (a.made k) new (λ e. none c w (here (eqb-true k s e))) in
    let x = total-append (seen w c) (a.made k) (flat_map (open_event k) a.opens) in
    let y = total-append (seen w c) (more_of s new a.made k) (flat_map (open_event k) a.opens) in
    omega (arith, m, x, y))

-- an open start at the bound or later
opened : (streams s : ℕ) (a : Admission) (o : Open) → s < streams → IsSound a → o.stream ≡ s → a.bound s ≤ o.start → Goes streams a (record a { opens = a.opens ++ o ∷ [] })
opened streams s a o low sound is late =
    goes_by streams s a (record a { opens = a.opens ++ o ∷ [] }) low sound (record { made = sound.made; marks = sound.marks; low = sound.low }) (λ k. omega arith)
    (λ k c w high here.
    let x = total-append (seen w c) (a.made k) (flat_map (open_event k) a.opens) in
    let y = total-append (seen w c) (a.made k) (flat_map (open_event k) (a.opens ++ o ∷ [])) in
    let z = ap (total (seen w c)) (flat_map-append (open_event k) a.opens (o ∷ [])) ∙ total-append (seen w c) (flat_map (open_event k) a.opens) (flat_map (open_event k) (o ∷ [])) in
    let n : total (seen w c) (flat_map (open_event k) (o ∷ [])) ≡ 0 = total-append (seen w c) (open_event k o) [] ∙ (add-zero _ ∙ none_weigh (seen w c) (nat_eq o.stream k) (ended_at inf o) (λ e. late_ended w c inf o (let b = here (sym (eqb-true o.stream k e) ∙ is) in omega arith))) in
    omega (arith, x, y, z, n))

-- an open start that ends at the bound or later
closing_at : (streams s at : ℕ) (p : Open → Bool) (a : Admission) (o : Open) → s < streams → IsSound a → o.stream ≡ s → first p a.opens ≡ Some o → a.bound s ≤ at → at ≤ inf →
    Goes streams a (record a { made = more_of s (ended_at at o) a.made; opens = without_first p a.opens })
closing_at streams s at p a o low sound is there late small =
    goes_by streams s a (record a { made = more_of s (ended_at at o) a.made; opens = without_first p a.opens }) low sound (record { made = made_sound s (ended_at at o) a sound (ended_valid at o small); marks = sound.marks; low = sound.low }) (λ k. omega arith)
    (λ k c w high here.
    let x = total-append (seen w c) (a.made k) (flat_map (open_event k) a.opens) in
    let y = total-append (seen w c) (more_of s (ended_at at o) a.made k) (flat_map (open_event k) (without_first p a.opens)) in
    let f = first_weighs (seen w c) k p a.opens o there in
    let m : total (seen w c) (more_of s (ended_at at o) a.made k) ≡ total (seen w c) (a.made k) + total (seen w c) (open_event k o) = swapped k c w high here in
    omega (arith, x, y, f, m))
  where
    swapped : (k c : ℕ) (w : Lived Row → ℕ) → c ≤ inf → (k ≡ s → c ≤ a.bound s) → total (seen w c) (more_of s (ended_at at o) a.made k) ≡ total (seen w c) (a.made k) + total (seen w c) (open_event k o)
    swapped k c w high here = go (nat_eq k s) (nat_eq o.stream k) refl refl
      where
        go : (x y : Bool) → nat_eq k s ≡ x → nat_eq o.stream k ≡ y → total (seen w c) (cond x (a.made k ++ ended_at at o) (a.made k)) ≡ total (seen w c) (a.made k) + total (seen w c) (cond y (ended_at inf o) [])
        go true true e f = (let t = total-append (seen w c) (a.made k) (ended_at at o) in let z = ended_seen w c at o (let b = here (eqb-true k s e) in omega arith) small in omega (arith, t, z))
        go true false e f = absurd (let z = eq-eqb o.stream k (is ∙ sym (eqb-true k s e)) in cc)
        go false true e f = absurd (let z = eq-eqb k s (sym (eqb-true o.stream k f) ∙ is) in cc)
        go false false e f = omega arith

raised_more : (s t : ℕ) (times : ℕ → ℕ) (k : ℕ) → times k ≤ raised s t times k
raised_more s t times k = go (nat_eq k s)
  where
    go : (b : Bool) → times k ≤ cond b (max (times k) t) (times k)
    go true = omega arith
    go false = omega arith

raised_low : (s t : ℕ) (times : ℕ → ℕ) (k : ℕ) → t ≤ inf → times k ≤ inf → raised s t times k ≤ inf
raised_low s t times k h low = go (nat_eq k s)
  where
    go : (b : Bool) → cond b (max (times k) t) (times k) ≤ inf
    go true = omega arith
    go false = low

raised_both : (s t : ℕ) (f g : ℕ → ℕ) (k : ℕ) → f k ≤ g k → raised s t f k ≤ raised s t g k
raised_both s t f g k low = go (nat_eq k s)
  where
    go : (b : Bool) → cond b (max (f k) t) (f k) ≤ cond b (max (g k) t) (g k)
    go true = omega arith
    go false = low

-- what holds of the rows after a line that is taken
abbrev pub OnTaken : (Admission → Type 0) → Outcome → Type 0
OnTaken P (Taken a) = P a
OnTaken P (WasLate time bound) = Unit {0}
OnTaken P Unmatched = Unit {0}

same_rows : (streams : ℕ) (a b : Admission) → IsSound a → IsSound b → ((k : ℕ) → a.bound k ≤ b.bound k) → ((k : ℕ) → rows a k ≡ rows b k) → Goes streams a b
same_rows streams a b va vb rise same = record {
  sound = vb;
  bounds = rise;
  known = λ k c below. Known-equal c (rows a k) (rows b k) (let l = va.low k in omega arith) (rows_valid a va k) (same k);
  others = λ k c past high. Known-equal c (rows a k) (rows b k) high (rows_valid a va k) (same k);
}

bounded_goes : (streams s t : ℕ) (a : Admission) (o : Outcome) → t ≤ inf → OnTaken (Goes streams a) o → OnTaken (Goes streams a) (bounded s t o)
bounded_goes streams s t a (Taken b) low g = record {
  sound = record { made = g.sound.made; marks = λ k. (let m = g.sound.marks k in let r = raised_more s t b.bound k in omega arith); low = λ k. raised_low s t b.bound k low (g.sound.low k) };
  bounds = λ k. (let m = g.bounds k in let r = raised_more s t b.bound k in omega arith);
  known = g.known;
  others = g.others;
}
bounded_goes streams s t a (WasLate time bound) low g = tt
bounded_goes streams s t a Unmatched low g = tt

enter_goes : (streams s : ℕ) (a : Admission) (form : Form) (sync other : ℕ) (row : Row) (at : ℕ) (dropped : Bool) → s < streams → IsSound a → a.bound s ≤ at → at ≤ inf → other ≤ inf →
    OnTaken (Goes streams a) (enter a s form sync other row at dropped)
enter_goes streams s a Interval sync other row at dropped low sound late small end = makes streams s a (cond dropped [] (with_life row at other)) low sound (cond_valid dropped [] _ tt (AreEvents-with_life row at other end)) (λ c w below. none dropped c w below)
  where
    none : (d : Bool) (c : ℕ) (w : Lived Row → ℕ) → c ≤ a.bound s → total (seen w c) (cond d [] (with_life row at other)) ≡ 0
    none true c w below = refl
    none false c w below = late_life w c row at other (omega arith)
enter_goes streams s a Start sync other row at dropped low sound late small end = opened streams s a (record { stream = s; row = row; given = sync; start = at; dropped = dropped }) low sound refl late
enter_goes streams s a End sync other row at dropped low sound late small end = go (first (closes_open s row other) a.opens) refl
  where
    go : (m : Option Open) → first (closes_open s row other) a.opens ≡ m → OnTaken (Goes streams a) (closed s at (closes_open s row other) a m)
    go None is = tt
    go (Some o) is = closing_at streams s at (closes_open s row other) a o low sound (of_stream s row other o (first_passes (closes_open s row other) a.opens o is)) is late small

event_goes : (streams s : ℕ) (policy : Policy) (a : Admission) (form : Form) (sync other : ℕ) (row : Row) (refused dropped : Bool) → s < streams → IsSound a → sync ≤ inf → other ≤ inf →
    OnTaken (Goes streams a) (cond refused (WasLate sync (a.bound s)) (bounded s (sync - policy.lateness) (enter a s form sync other row (max sync (a.bound s)) dropped)))
event_goes streams s policy a form sync other row true dropped low sound small end = tt
event_goes streams s policy a form sync other row false dropped low sound small end =
    bounded_goes streams s (sync - policy.lateness) a _ (omega arith) (enter_goes streams s a form sync other row (max sync (a.bound s)) dropped low sound (omega arith) (let l = sound.low s in omega arith) end)

-- whatever an entry is, it leaves what is known below the bounds, and the bounds do not fall
pub admit_goes : (policy : Policy) (streams : ℕ) (a : Admission) (e : Entry) → IsSound a → IsEntry streams e → OnTaken (Goes streams a) (admit policy a e)
admit_goes policy streams a Skip sound valid = same_rows streams a a sound sound (λ k. omega arith) (λ k. refl)
admit_goes policy streams a (Punct None time) sound valid =
    same_rows streams a (record a { bound = λ s. max (a.bound s) time; mark = λ s. max (a.mark s) time }) sound
    (record { made = sound.made; marks = λ k. (let m = sound.marks k in omega arith); low = λ k. (let l = sound.low k in let v = valid.1 in omega arith) }) (λ k. omega arith) (λ k. refl)
admit_goes policy streams a (Punct (Some s) time) sound valid =
    same_rows streams a (record a { bound = raised s time a.bound; mark = raised s time a.mark }) sound
    (record { made = sound.made; marks = λ k. raised_both s time a.mark a.bound k (sound.marks k); low = λ k. raised_low s time a.bound k valid.1 (sound.low k) }) (λ k. raised_more s time a.bound k) (λ k. refl)
admit_goes policy streams a (Event s form sync other row) sound valid =
    event_goes streams s policy a form sync other row (nat_lt sync (a.bound s) && refuses policy.late) (nat_lt sync (a.bound s) && drops policy.late) valid.0 sound valid.1 valid.2

pub taken_goes : (policy : Policy) (streams : ℕ) (a b : Admission) (e : Entry) → IsSound a → IsEntry streams e → admit policy a e ≡ Taken b → Goes streams a b
taken_goes policy streams a b e sound valid is = (let h = admit_goes policy streams a e sound valid in rw is at h)

-- the least of times is at most each
least_below : (n : ℕ) (times : ℕ → ℕ) (s : ℕ) → s < n → least n times ≤ times s
least_below zero times s low = absurd (omega arith)
least_below (suc n) times s low = elim (cases_lt s n) [
  | inl before ↦ let l = least_below n times s before in omega arith
  | inr after ↦ let e : s ≡ n = (omega arith) in rw e (let z : min (times n) (least n times) ≤ times n = (omega arith) in z)
]

least_low : (n : ℕ) (times : ℕ → ℕ) → least n times ≤ inf
least_low zero times = omega arith
least_low (suc n) times = (let l = least_low n times in omega arith)

pub floor_below : (p t : ℕ) → t ≤ inf → floor_to p t ≤ t
floor_below p t low = (let m = div-mul-le_self t p in grind (arith, nat_tests))

pub allowed_low : (policy : Policy) (streams : ℕ) (a : Admission) → allowed policy streams a ≤ inf
allowed_low policy streams a = (let l = least_low streams a.bound in let m = least_low streams a.mark in let f = floor_below policy.period (least streams a.bound) l in grind (arith, nat_tests))

pub allowed_below : (policy : Policy) (streams : ℕ) (a : Admission) (s : ℕ) → IsSound a → s < streams → allowed policy streams a ≤ a.bound s
allowed_below policy streams a s sound low =
    (let l = least_low streams a.bound in let x = least_below streams a.bound s low in let m = least_below streams a.mark s low in let k = sound.marks s in
    let f = floor_below policy.period (least streams a.bound) l in grind (arith, nat_tests))
