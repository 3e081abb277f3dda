-- What is written for lines, in bytes.
use Rattle.std.specs.Prelude.{ℕ, nat_eq, Bool, Some, List, [], map, slice_index_or}
use Rattle.tw_rows.specs.declared.kind.Kind.{Kind}
use Rattle.plan_model.specs.IsPlan.{PlanParts}
use Rattle.row_reader.specs.Entry.{entry}
use Rattle.admission.specs.declared.policy.Policy.{Policy}
use Rattle.admission.specs.Entries.{Told}
use Rattle.admission.specs.Text.{Item, Changed, Closed, text}
use Rattle.egress.specs.Print.{line_text, punctuation_if}

-- the bytes of a change line over columns of these kinds, and of a punctuation, as `*,punct,7` and a line feed
abbrev pub item_text : List Kind → Item → List ℕ
item_text kinds (Changed line) = line_text kinds line
item_text kinds (Closed time) = punctuation_if (Some time)

-- the kinds of the columns of the result. Of `select sym, price` with a text and a decimal of two places: Text, Dec 2
abbrev pub result_kinds : PlanParts → List Kind
result_kinds plan = map (λ c. c.kind) (slice_index_or plan.schemas plan.root [])

-- the bytes that are written for the lines, which are all of the input or not yet. An interval from 1 to 2 of a source with
-- no column at the root, and a punctuation at 3: `out,start,1,inf`, `out,end,2,1` and `*,punct,3`, a line each
abbrev pub plan_text : PlanParts → Policy → List Told → Bool → List ℕ
plan_text plan policy lines ended = text (item_text (result_kinds plan)) plan policy lines ended

-- the line of that number, as it is read for the streams of the plan. A byte order mark may stand before line 1
abbrev pub told : PlanParts → ℕ → List ℕ → Told
told plan number line = record { number = number; read = entry plan.streams (nat_eq number 1) line }
