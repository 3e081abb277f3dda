-- Runs that are cut in two, as far as definitions say them. `inf` does not compute among the changes, so each goes on with a
-- punctuation.
use Rattle.std.specs.Prelude.{◌≡◌, ℕ, pos, true, false, List, [], ◌∷◌, ◌++◌, Some, None, Ok, codes, refl}
use Rattle.tw_rows.specs.Instant.{inf}
use Rattle.tw_rows.specs.Rows.{Row}
use Rattle.tw_rows.specs.declared.row.Value.TheVariants.{Int as IntValue, Text as TextValue}
use Rattle.tw_rows.specs.declared.schema.StreamDef.{StreamDef}
use Rattle.row_reader.specs.declared.form.Form.TheVariants as forms
use Rattle.plan_model.specs.declared.node.Node.TheVariants.{Source, Union}
use Rattle.plan_model.specs.Changes.{Started, Ended, changes_at, changes}
use Rattle.plan_model.specs.IsPlan.{PlanParts}
use Rattle.row_reader.specs.Entry.{entry}
use Rattle.row_reader.specs.declared.entry.Entry.{Entry as Says}
use Rattle.row_reader.specs.declared.entry.Entry.TheVariants.{Punct, Event}
use Rattle.admission.specs.declared.policy.Lateness.TheVariants.{Refuse}
use Rattle.admission.specs.declared.policy.Policy.{Policy}
use Rattle.admission.specs.Entries.{Told}
use Rattle.admission.specs.Progress.{progress}
use Rattle.admission.specs.Text.{Changed, Closed, between, items}
use Rattle.tempo_engine.specs.Fed.{last_number}
use Rattle.tempo_cli.specs.Told.{entry_at, told_at, fed}
use Rattle.tempo_cli.specs.Resumed.{later}

abbrev a_stream : StreamDef
a_stream = record { name = []; schema = [] }

abbrev one : PlanParts
one = record { streams = a_stream ∷ []; nodes = Source 0 ∷ []; schemas = []; root = 0 }

abbrev both : PlanParts
both = record { streams = a_stream ∷ a_stream ∷ []; nodes = Source 0 ∷ Source 1 ∷ Union 0 1 ∷ []; schemas = []; root = 2 }

abbrev plain : Policy
plain = record { lateness = 0; late = Refuse; period = 0 }

abbrev a_row : Row
a_row = TextValue (codes "a") ∷ IntValue (pos 1) ∷ []

abbrev line : ℕ → Says → Told
line number says = record { number = number; read = Ok says }

-- `s,start,1,inf,a,1` and `*,punct,3` were before
abbrev two : List Told
two = line 1 (Event 0 forms.Start 1 inf a_row) ∷ line 2 (Punct None 3) ∷ []

open_written : items one plain two false ≡ Changed (Started 1 a_row) ∷ Closed 3 ∷ []
unfolding inf between changes changes_at
open_written = refl

open_mark : (progress one plain two false).after.mark 0 ≡ 3
unfolding inf between changes changes_at
open_mark = refl

-- and then `s,end,4,1,a,1`
open_resumed : items one plain (two ++ line 3 (Event 0 forms.End 4 1 a_row) ∷ line 4 (Punct None 9) ∷ []) false ≡ items one plain two false ++ Changed (Ended 4 1 a_row) ∷ Closed 9 ∷ []
unfolding inf between changes changes_at
open_resumed = refl

-- the line behind the nine lines of the checkpoint is line 3
numbered : (c1 c2 c3 c4 c5 c6 c7 c8 c9 : List ℕ) → later (a_stream ∷ []) two 9 (c1 ∷ c2 ∷ c3 ∷ c4 ∷ c5 ∷ c6 ∷ c7 ∷ c8 ∷ c9 ∷ codes "s,x" ∷ []) ≡ told_at (a_stream ∷ []) false 3 (codes "s,x") ∷ []
unfolding inf
numbered c1 c2 c3 c4 c5 c6 c7 c8 c9 = refl

-- within the checkpoint nothing is behind it
none_behind : (c1 c2 : List ℕ) → later (a_stream ∷ []) two 9 (c1 ∷ c2 ∷ []) ≡ []
unfolding inf
none_behind c1 c2 = refl

-- of an interval that ends at 9 the end is written by the second run
abbrev known : List Told
known = line 1 (Event 0 forms.Interval 1 9 a_row) ∷ line 2 (Punct None 3) ∷ []

known_resumed : items one plain (known ++ line 3 (Punct None 20) ∷ []) false ≡ items one plain known false ++ Changed (Ended 9 1 a_row) ∷ Closed 20 ∷ []
unfolding inf between changes changes_at
known_resumed = refl

-- of two streams one has the mark 40, and nothing closes before the other has one
abbrev left : List Told
left = line 1 (Punct (Some 0) 40) ∷ []

left_resumed : items both plain (left ++ line 2 (Punct (Some 1) 22) ∷ []) false ≡ items both plain left false ++ Closed 22 ∷ []
unfolding inf between changes changes_at
left_resumed = refl

-- behind a header alone no line was fed, and the next one is a line 1, before which a mark of the byte order may stand
no_line : fed (a_stream ∷ []) true (codes "stream,form,start,end" ∷ []) ≡ []
no_line = refl

first_again : later (a_stream ∷ []) [] 1 (codes "#end" ∷ codes "s,x" ∷ []) ≡ record { number = 1; read = entry (a_stream ∷ []) true (codes "s,x") } ∷ []
unfolding entry_at
first_again = refl

-- with a header and one line that line is line 2, and the next one line 3
number_behind : last_number (fed (a_stream ∷ []) true (codes "h" ∷ codes "s,x" ∷ [])) ≡ 2
number_behind = refl
