-- What an instant does to rows that are kept with their ends.
use Rattle.std.specs.Prelude.{◌≡◌, ℕ, ◌+◌, ◌≤◌, ◌||◌, Option, List, ◌++◌}
use Rattle.std.specs.List.{list_any}
use Rattle.tw_rows.specs.Bag.{total}
use Rattle.tw_rows.specs.Instant.{inf}
use Rattle.tw_rows.specs.SameCells.{same_cells}
use Rattle.tw_rows.specs.declared.cells.Datum.{Datum}
use Rattle.tw_rows.specs.declared.edge.Edge.{Edge}
use Rattle.tw_rows.specs.declared.edge.HeldRow.{HeldRow}
use Rattle.tw_rows.specs.declared.kind.CellKind.{CellKind}
use Rattle.edge_history.specs.Order.{failing, is_end, is_from, is_below, Rises}
use Rattle.edge_history.specs.History.{CellEvent}
use Rattle.edge_history.specs.Opens.{is_start, singles, ended_rows, started_rows}
use Rattle.end_queue.specs.Pending.{Pending}
use Rattle.key_nodes.specs.Groups.{grouped}
use Rattle.plan_model.specs.declared.agg.Agg.{Agg}
use Rattle.sweep_laws.specs.Grouping.{keys_of, GroupSweeping, GroupReached, IsDefined, IsFirstUndefined}
use Rattle.sweep_laws.specs.Running.{Run}
use Rattle.sweep_laws.specs.Sweeps.{is_at, IsDue, Tells}
use Rattle.sweep_sides.specs.Waiting.{queued}
use Rattle.snapshot_agg.specs.declared.groups.Groups.{Groups}
use Rattle.snapshot_agg.specs.Counting.{key_by}
use Rattle.snapshot_agg.specs.Answering.{group_kinds, is_stored, IsSoFar}
use Rattle.snapshot_agg.specs.KeptRows.{RowsAndEnds}
use Rattle.snapshot_agg.specs.Words.{key_data, tell, bad}

-- the rows were these before the edges of the instant, and the keys of the edges are touched. Of a start of 7 and an end of 8
-- the rows have a 7 more and an 8 less, and the keys 7 and 8 are touched
pub record IsApplied (g : Groups) (now : List Edge) (rows : List HeldRow) : Type 0 where
  pub moved : ((w : HeldRow → ℕ) → total w (ended_rows now) ≤ total w rows) → (w : HeldRow → ℕ) →
      total w g.rows.rows.held + total w (ended_rows now) ≡ total w rows + total w (started_rows now)
  pub touched : (q : List Datum) → list_any (same_cells q) g.touched.items ≡ list_any (same_cells q) (keys_of (key_by g) now)

-- these keys more are touched. Of 7 and 8, 8 and 9 leave 7, 8 and 9
abbrev pub TouchesAll : List (List Datum) → List (List Datum) → List (List Datum) → Type 0
TouchesAll old new keys = (q : List Datum) → list_any (same_cells q) new ≡ (list_any (same_cells q) old || list_any (same_cells q) keys)

-- what is still to come: the ends that are kept with their rows, the pending edges, and the single edges of those that are not
-- taken in yet
abbrev pub to_come : List Edge → List Pending → List Edge → List Edge
to_come ends waiting edges = ends ++ (queued waiting ++ singles edges)

-- the first rows that were kept with their ends were taken out, whose end edges are those of the instant. Of ends at 5, 5 and 8,
-- at 5: the first two
pub record AreEnded (gone : List Edge) (t : ℕ) (old new : RowsAndEnds) : Type 0 where
  pub first : old.ends ≡ gone ++ new.ends
  pub at : failing (is_at t) gone ≡ 0
  pub ends : failing is_end gone ≡ 0
  pub rows : (w : HeldRow → ℕ) → total w old.held ≡ total w new.held + total w (ended_rows gone)

-- the start edge of a row that starts, of which no end is told: of the interval [3, 5) the start at 3
abbrev pub bare_start : Edge → Edge
bare_start e = record { sync = e.sync; other = inf; cells = e.cells }

-- rows came in that start at the instant, with these start edges: what was to come before is what is to come after and they. Of
-- the interval [3, 5), at 3: its row, and its end at 5 is still to come
pub record AreBegun (begun : List Edge) (t : ℕ) (old new : List HeldRow) (before after : List Edge) : Type 0 where
  pub at : failing (is_at t) begun ≡ 0
  pub starts : failing is_start begun ≡ 0
  pub rows : (w : HeldRow → ℕ) → total w new ≡ total w old + total w (started_rows begun)
  pub parts : (w : Edge → ℕ) → total w after + total w begun ≡ total w before

-- no edge comes before the time: edges at 4 and 6 are late for 4, and not for 5
abbrev pub AreLate : ℕ → List Edge → Type 0
AreLate t es = failing (is_from t) es ≡ 0

-- of what was to come the edges `due` came, from one time on and before u, and were told: the rows and the runs are then those
-- at u. What comes later is still to come. Of the interval [3, 5), from 3 on and before 4: its start, and its end is still to come
pub record AreLived (key : List ℕ) (aggs : List Agg) (rows0 rows1 : List HeldRow) (run0 run1 : List Datum → Option Run)
    (come0 come1 : List Edge) (from u : ℕ) (answer0 answer1 due : List Edge) : Type 0 where
  pub rises : from ≤ u
  pub parts : (w : Edge → ℕ) → total w due + total w come1 ≡ total w come0
  pub late : AreLate from due
  pub below : failing (is_below u) due ≡ 0
  pub order : Rises 0 due
  pub reached : (a : List CellEvent) (to : ℕ) (more : List Edge) → AreLate u more → IsDue a from to (due ++ more) →
      GroupSweeping (tell key aggs) (bad key aggs) a from rows0 run0 →
      GroupReached (key_data key) same_cells (tell key aggs) (bad key aggs) a from u to more rows1 run1 answer0 answer1
  pub so_far : (left : List CellKind) (lo to : ℕ) → lo ≤ from → u ≤ to → to ≤ inf → failing (is_stored left) due ≡ 0 →
      IsSoFar (group_kinds key aggs left) lo from to run0 answer0 → IsSoFar (group_kinds key aggs left) lo u to run1 answer1
  pub fewer : (w : HeldRow → ℕ) → total w rows1 ≤ total w rows0 + total w (started_rows due)

-- of what was to come the edges `due` came, from one time on and before d, and at t a group is undefined, for the first time. Of two
-- starts at 3 whose sum is no int, from 2 on and before 4: both, at 3
pub record AreRefused (key : List ℕ) (aggs : List Agg) (rows : List HeldRow) (run : List Datum → Option Run)
    (come0 come1 : List Edge) (from d t : ℕ) (due : List Edge) : Type 0 where
  pub rises : from ≤ d
  pub parts : (w : Edge → ℕ) → total w due + total w come1 ≡ total w come0
  pub late : AreLate from due
  pub below : failing (is_below d) due ≡ 0
  pub after : AreLate d come1
  pub order : Rises 0 due
  pub undefined : (a : List CellEvent) (to : ℕ) → IsDue a from to due → GroupSweeping (tell key aggs) (bad key aggs) a from rows run →
      IsFirstUndefined (bad key aggs) a from to t

-- of what was to come the edges `due` came, from one time on and before another, and were told; what comes later is still to come.
-- If nothing was to come before the first time, the edges are in order, and the rows and the runs are those at the other time. Of
-- the interval [3, 5), from 3 on and before 9: its start and its end
pub record AreTold (key : List ℕ) (aggs : List Agg) (rows0 rows1 : List HeldRow) (run0 run1 : List Datum → Option Run)
    (come0 come1 : List Edge) (from to : ℕ) (answer0 answer1 due : List Edge) : Type 0 where
  pub parts : (w : Edge → ℕ) → total w due + total w come1 ≡ total w come0
  pub below : failing (is_below to) due ≡ 0
  pub after : AreLate to come1
  pub order : AreLate from come0 → Rises 0 due
  pub swept : AreLate from come0 → (a : List CellEvent) (v : ℕ) → IsDue a from v due → GroupSweeping (tell key aggs) (bad key aggs) a from rows0 run0 →
      GroupSweeping (tell key aggs) (bad key aggs) a v rows1 run1 × Tells (grouped (key_data key) same_cells same_cells (tell key aggs) a) from v answer0 answer1
      × IsDefined (bad key aggs) a from v
  pub so_far : (left : List CellKind) (lo : ℕ) → lo ≤ from → to ≤ inf → failing (is_stored left) due ≡ 0 →
      IsSoFar (group_kinds key aggs left) lo from to run0 answer0 → IsSoFar (group_kinds key aggs left) lo to to run1 answer1
  pub fewer : (w : HeldRow → ℕ) → total w rows1 ≤ total w rows0 + total w (started_rows due)
