-- How entries are made of what is kept. These words are used inside the crate only.
use Rattle.std.specs.Prelude.{◌≡◌, ℕ, suc, ◌<◌, ◌≤◌, Bool, cond, List, ◌++◌, map, drop, length, All}
use Rattle.std.specs.List.Sorted.{IsNonDecreasingBy}
use Rattle.tw_rows.specs.Bag.{total}
use Rattle.tw_rows.specs.Event.{AreEvents}
use Rattle.tw_rows.specs.Instant.{inf}
use Rattle.tw_rows.specs.SameCells.{same_cells}
use Rattle.tw_rows.specs.declared.cells.Datum.{Datum}
use Rattle.tw_rows.specs.declared.edge.Edge.{Edge}
use Rattle.tw_rows.specs.declared.edge.HeldRow.{HeldRow}
use Rattle.edge_stream.specs.declared.saved.SavedEntry.{SavedEntry}
use Rattle.edge_history.specs.Order.{failing}
use Rattle.edge_history.specs.History.{CellEvent}
use Rattle.edge_history.specs.Balance.{news}
use Rattle.edge_history.specs.Opens.{started_rows}
use Rattle.plan_laws.specs.Places.{AreDistinct}
use Rattle.indexmap.specs.IndexMap.{IndexMap}
use Rattle.std.specs.declared.collections.VecDeque.{VecDeque}
use Rattle.tw_rows.specs.declared.kind.Kind.{Kind}
use Rattle.synopsis.specs.Kept.{since_at}
use Rattle.egress.specs.Kept.{since_in, OpensPass}
use Rattle.egress.specs.Waiting.{Waiting, edges_if, edges_at, SameMoves, Swept, WaitingArePlaced}
use Rattle.egress.specs.Saving.{starts_of, ends_of}

-- an entry of a row with an end and a start
abbrev pub entry_at : ℕ → List Datum → ℕ → SavedEntry
entry_at other cells sync = record { part = 0; sync = sync; other = other; cells = cells }

-- the end edge at a time of the row of an edge
abbrev pub end_at : ℕ → Edge → Edge
end_at at e = record { sync = at; other = 0; cells = e.cells }

-- how many of the edges are of the row of these cells
abbrev pub count_of : List Datum → List Edge → ℕ
count_of cells edges = total (λ e. cond (same_cells e.cells cells) 1 0) edges

-- the entries are of part 0 and end at the time
abbrev pub EndAt : ℕ → SavedEntry → Type 0
EndAt at e = (e.part ≡ 0) × (e.other ≡ at)

-- the first open start of the row of these cells is gone
abbrev pub HasDropped : {S H : Type 0} → List Datum → IndexMap (List Datum) (VecDeque ℕ S) H → IndexMap (List Datum) (VecDeque ℕ S) H → Type 0
HasDropped cells old new = (c : List Datum) → since_at new c ≡ cond (same_cells cells c) (drop 1 (since_at old c)) (since_at old c)

-- an entry was added for each of the edges of an instant, with the first open start of its row, as long as there is one
pub record Taken (at : ℕ) (edges : List Edge) (old new : List SavedEntry) (since since2 : List Datum → List ℕ) : Type 0 where
  pub added : List SavedEntry
  pub is : new ≡ old ++ added
  pub starts : (c : List Datum) → starts_of added c ++ since2 c ≡ since c
  pub left : (c : List Datum) → since2 c ≡ drop (count_of c edges) (since c)
  pub ends : at < inf → ((c : List Datum) → count_of c edges ≤ length (since c)) → ends_of added ≡ map (end_at at) edges
  pub each : All (EndAt at) added
  pub cells : (p : List Datum → Bool) → failing (λ e. p e.cells) edges ≡ 0 → failing (λ e. p e.cells) added ≡ 0

-- an entry without an end was added for each open start
pub record TakenRest (old new : List SavedEntry) (since : List Datum → List ℕ) : Type 0 where
  pub added : List SavedEntry
  pub is : new ≡ old ++ added
  pub starts : (c : List Datum) → starts_of added c ≡ since c
  pub each : All (EndAt inf) added
  pub cells : (p : List Datum → Bool) → OpensPass p since → failing (λ e. p e.cells) added ≡ 0

-- the events begin before the time, and the table has no text twice
pub record IsSettled (texts : List (List ℕ)) (events : List CellEvent) (closed : ℕ) : Type 0 where
  pub distinct : AreDistinct texts
  pub valid : AreEvents events
  pub begun : (w : HeldRow → ℕ) (t : ℕ) → closed ≤ t → t < inf → total w (started_rows (news t (suc t) events)) ≡ 0

-- an entry was added for each end that waits, in the order of the ends
pub record TakenEnds (events : List CellEvent) (closed : ℕ) (waiting : Waiting) (old new : List SavedEntry) (since since2 : List Datum → List ℕ) : Type 0 where
  pub added : List SavedEntry
  pub is : new ≡ old ++ added
  pub starts : (c : List Datum) → starts_of added c ++ since2 c ≡ since c
  pub ends : (t : ℕ) → closed ≤ t → t < inf → SameMoves (edges_at t (ends_of added)) (news t (suc t) events)
  pub each : All (λ e. (e.part ≡ 0) × (closed ≤ e.other) × (e.other < inf)) added
  pub order : IsNonDecreasingBy (λ e. e.other) added
  pub cells : (p : List Datum → Bool) → ((t : ℕ) → failing (λ e. p e.cells) (edges_if (waiting t)) ≡ 0) → failing (λ e. p e.cells) added ≡ 0

-- so it is where the edges wait that a sweep left
abbrev pub TakesWaiting : {S H : Type 0} → IndexMap (List Datum) (VecDeque ℕ S) H → Waiting → List SavedEntry → List SavedEntry → (List Datum → List ℕ) → Type 0
TakesWaiting starts waiting old new since2 = (texts : List (List ℕ)) (kinds : List Kind) (events : List CellEvent) (a c : ℕ) (text : List ℕ) →
    IsSettled texts events c → c ≤ inf → Swept texts kinds events a c (since_in texts starts) waiting text → WaitingArePlaced texts waiting →
    TakenEnds events c waiting old new (since_at starts) since2
