-- What is answered of an entry that is taken.
use Rattle.std.specs.Prelude.{ℕ, max, nat_lt, Bool, true, false, ◌&&◌, List, [], ◌∷◌, Option, Some, None}
use Rattle.tw_rows.specs.Event.{Event as Lived}
use Rattle.tw_rows.specs.Instant.{inf}
use Rattle.tw_rows.specs.Rows.{Row}
use Rattle.key_nodes.specs.Joins.{with_life}
use Rattle.row_reader.specs.declared.form.Form.{Form}
use Rattle.row_reader.specs.declared.form.Form.TheVariants.{Interval, Start, End}
use Rattle.row_reader.specs.declared.entry.Entry.{Entry}
use Rattle.row_reader.specs.declared.entry.Entry.TheVariants.{Skip, Punct, Event}
use Rattle.admission.specs.declared.policy.Admitted.{Admitted}
use Rattle.admission.specs.declared.policy.Admitted.TheVariants.{Skipped, Kept, Dropped, Emptied}
use Rattle.admission.specs.declared.policy.Policy.{Policy}
use Rattle.admission.specs.Admission.{Admission, Open, closes_open, first, drops}

-- what became of a line: it is dropped or not, and the event that it makes otherwise is none, as its lifetime is empty, or there
abbrev pub became : Bool → List (Lived Row) → Admitted
became true events = Dropped
became false [] = Emptied
became false (e ∷ es) = Kept

-- of an end line, which closes this open start. Where there is none, the line is refused
abbrev pub became_closed : ℕ → Option Open → Admitted
became_closed at None = Kept
became_closed at (Some o) = became o.dropped (with_life o.row o.start at)

-- of an event line of stream s, which takes effect at the time `at`, and is dropped or not
abbrev pub event_answer : Admission → ℕ → Form → ℕ → Row → ℕ → Bool → Admitted
event_answer a s Interval other row at dropped = became dropped (with_life row at other)
event_answer a s Start other row at dropped = became dropped (with_life row at inf)
event_answer a s End other row at dropped = became_closed at (first (closes_open s row other) a.opens)

-- of an entry. With the bound 7 an interval from 6 to 20 is dropped, or kept over [7, 20), and one from 3 to 7 is emptied
abbrev pub answer : Policy → Admission → Entry → Admitted
answer policy a Skip = Skipped
answer policy a (Punct stream time) = Kept
answer policy a (Event s form sync other row) = event_answer a s form other row (max sync (a.bound s)) (nat_lt sync (a.bound s) && drops policy.late)
