-- Anti-joins: the left rows that meet no right row.
use Rattle.std.specs.Prelude.{ℕ, Bool, cond, not, ◌&&◌, Option, Some, None, List, filter, flat_map}
use Rattle.std.specs.List.{list_any}
use Rattle.tw_rows.specs.Instant.{inf}
use Rattle.tw_rows.specs.Event.{Event, lives_at, alive}
use Rattle.key_nodes.specs.Runs.{runs}

-- the left row meets none of the right rows
abbrev pub meets_none : {L R : Type 0} → (L → R → Bool) → List R → L → Bool
meets_none meets rs l = not (list_any (meets l) rs)

-- the left rows that meet no right row
abbrev pub alone_rows : {L R : Type 0} → (L → R → Bool) → List L → List R → List L
alone_rows meets ls rs = filter (meets_none meets rs) ls

-- the row of a left event, at an instant of its lifetime at which no right row that it meets is alive
abbrev pub alone_at : {L R : Type 0} → (L → R → Bool) → List (Event R) → Event L → ℕ → Option L
alone_at meets rs e t = cond (lives_at t e && meets_none meets (alive rs t) e.row) (Some e.row) None

-- for each left event one event for each maximal run of such instants
abbrev pub alone : {L R : Type 0} → (L → L → Bool) → (L → R → Bool) → List (Event L) → List (Event R) → List (Event L)
alone same_row meets ls rs = flat_map (λ e. runs same_row (alone_at meets rs e) inf) ls
