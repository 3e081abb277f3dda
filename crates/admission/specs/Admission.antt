-- The rows that lines give, the bound and the mark of each stream, and the punctuation that they allow.
use Rattle.std.specs.Prelude.{ℕ, zero, suc, ◌-◌, min, max, nat_lt, nat_eq, Bool, true, false, cond, ◌&&◌, List, [], ◌∷◌, ◌++◌, flat_map, Option, Some, None}
use Rattle.tw_rows.specs.Instant.{inf, floor_to}
use Rattle.tw_rows.specs.Event.{Event as Lived}
use Rattle.tw_rows.specs.Rows.{Row}
use Rattle.key_nodes.specs.Joins.{with_life}
use Rattle.row_reader.specs.declared.form.Form.{Form}
use Rattle.row_reader.specs.declared.form.Form.TheVariants.{Interval, Start, End}
use Rattle.plan_model.specs.Keys.{rows_equal}
use Rattle.row_reader.specs.declared.entry.Entry.{Entry}
use Rattle.row_reader.specs.declared.entry.Entry.TheVariants.{Skip, Punct, Event}
use Rattle.admission.specs.declared.policy.Lateness.{Lateness}
use Rattle.admission.specs.declared.policy.Lateness.TheVariants.{Refuse, Drop}
use Rattle.admission.specs.declared.policy.Policy.{Policy}

abbrev pub refuses : Lateness → Bool
refuses Refuse = true
refuses late = false

abbrev pub drops : Lateness → Bool
drops Drop = true
drops late = false

-- a start without its end: its stream and row, its start as the line gave it, the start in use, and whether it was dropped.
-- A start at 4 that was late by a bound of 10 and adjusted has 4 as given and 10 as start
pub record Open : Type 0 where
  pub stream : ℕ
  pub row : Row
  pub given : ℕ
  pub start : ℕ
  pub dropped : Bool

-- the bound and the mark of each stream, the events made for each stream, and the open starts in the order of their lines
pub record Admission : Type 0 where
  pub bound : ℕ → ℕ
  pub mark : ℕ → ℕ
  pub made : ℕ → List (Lived Row)
  pub opens : List Open

-- what no line at all gives
abbrev pub nothing : Admission
nothing = record { bound = λ s. 0; mark = λ s. 0; made = λ s. []; opens = [] }

-- the times by stream, with that of stream s raised to at least t
abbrev pub raised : ℕ → ℕ → (ℕ → ℕ) → ℕ → ℕ
raised s t times k = cond (nat_eq k s) (max (times k) t) (times k)

-- the lists by stream, with more events for stream s
abbrev pub more_of : ℕ → List (Lived Row) → (ℕ → List (Lived Row)) → ℕ → List (Lived Row)
more_of s events lists k = cond (nat_eq k s) (lists k ++ events) (lists k)

-- an end line of this stream and row that names this start closes the open start
abbrev pub closes_open : ℕ → Row → ℕ → Open → Bool
closes_open s row given o = nat_eq o.stream s && nat_eq o.given given && rows_equal o.row row

-- the first that passes the test, and the list without it
abbrev pub first : (Open → Bool) → List Open → Option Open
first p [] = None
first p (o ∷ os) = cond (p o) (Some o) (first p os)

abbrev pub without_first : (Open → Bool) → List Open → List Open
without_first p [] = []
without_first p (o ∷ os) = cond (p o) os (o ∷ without_first p os)

-- the event of an open start that ends at that time: none where it was dropped, or where its lifetime is empty
abbrev pub ended_at : ℕ → Open → List (Lived Row)
ended_at end o = cond o.dropped [] (with_life o.row o.start end)

-- an entry is taken; or its sync is below the bound, and late lines are refused; or it ends an event that did not start
pub data Outcome : Type 0 where
  Taken : (after : Admission) → Outcome
  WasLate : (time : ℕ) → (bound : ℕ) → Outcome
  Unmatched : Outcome

-- an open start is closed, if there is one, and its event made
abbrev pub closed : ℕ → ℕ → (Open → Bool) → Admission → Option Open → Outcome
closed s at p a None = Unmatched
closed s at p a (Some o) = Taken (record a { made = more_of s (ended_at at o) a.made; opens = without_first p a.opens })

-- an event line of stream s, which takes effect at the time `at`, and is dropped or not
abbrev pub enter : Admission → ℕ → Form → ℕ → ℕ → Row → ℕ → Bool → Outcome
enter a s Interval sync other row at dropped = Taken (record a { made = more_of s (cond dropped [] (with_life row at other)) a.made })
enter a s Start sync other row at dropped = Taken (record a { opens = a.opens ++ record { stream = s; row = row; given = sync; start = at; dropped = dropped } ∷ [] })
enter a s End sync other row at dropped = closed s at (closes_open s row other) a (first (closes_open s row other) a.opens)

-- the bound of stream s is at least t
abbrev pub bounded : ℕ → ℕ → Outcome → Outcome
bounded s t (Taken a) = Taken (record a { bound = raised s t a.bound })
bounded s t refused = refused

-- one entry more. A line takes effect at its sync, or at the bound of its stream if that is later, as it is where the line is
-- late. With the bound 7, an interval from 6 to 20 is late: refused, dropped, or a row over [7, 20)
abbrev pub admit : Policy → Admission → Entry → Outcome
admit policy a Skip = Taken a
admit policy a (Punct None time) = Taken (record a { bound = λ s. max (a.bound s) time; mark = λ s. max (a.mark s) time })
admit policy a (Punct (Some s) time) = Taken (record a { bound = raised s time a.bound; mark = raised s time a.mark })
admit policy a (Event s form sync other row) =
    let late = nat_lt sync (a.bound s) in
    cond (late && refuses policy.late) (WasLate sync (a.bound s))
    (bounded s (sync - policy.lateness) (enter a s form sync other row (max sync (a.bound s)) (late && drops policy.late)))

-- the event of an open start of stream s, up to infinity
abbrev pub open_event : ℕ → Open → List (Lived Row)
open_event s o = cond (nat_eq o.stream s) (ended_at inf o) []

-- the events of stream s: those made, and the open starts up to infinity
abbrev pub rows : Admission → ℕ → List (Lived Row)
rows a s = a.made s ++ flat_map (open_event s) a.opens

-- the least of the times of the first n streams. Of 3 and 5: 3
abbrev pub least : ℕ → (ℕ → ℕ) → ℕ
least zero times = inf
least (suc n) times = min (times n) (least n times)

-- the greatest multiple of the period that is not above t, and 0 for the period 0
abbrev pub stepped : ℕ → ℕ → ℕ
stepped period t = cond (nat_eq period 0) 0 (floor_to period t)

-- the greatest punctuation that the bounds and the marks of so many streams allow. With period 10, bounds 25 and 14 and
-- marks 0: 10
abbrev pub allowed : Policy → ℕ → Admission → ℕ
allowed policy streams a = max (stepped policy.period (least streams a.bound)) (least streams a.mark)
