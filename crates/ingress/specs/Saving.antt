-- What admission saves, as entries. Of stream s the edges that wait are part 3s, the open starts part 3s + 1, and those of them
-- that were dropped part 3s + 2.
use Rattle.std.specs.Prelude.{◌≡◌, ℕ, ◌*◌, ◌/◌, ◌%◌, ◌<◌, ◌≤◌, nat_eq, true, cond, List, [], ◌∷◌, length, get_or, map, filter, flat_map, All}
use Rattle.tw_rows.specs.Cells.{ArePlaced, datum_kind}
use Rattle.tw_rows.specs.declared.edge.Edge.{Edge}
use Rattle.tw_rows.specs.declared.kind.CellKind.{CellKind}
use Rattle.edge_history.specs.Order.{is_real}
use Rattle.edge_history.specs.History.{CellEvent}
use Rattle.edge_stream.specs.declared.saved.SavedEntry.{SavedEntry}
use Rattle.edge_stream.specs.Entries.{saved_edge, part_of}
use Rattle.plan_laws.specs.Places.{read_events, EventsArePlaced}
use Rattle.row_reader.specs.Printed.{IsEnd}
use Rattle.admission.specs.Admission.{Admission}
use Rattle.ingress.specs.declared.opens.OpenKey.{OpenKey}
use Rattle.ingress.specs.Held.{IsHeld}
use Rattle.ingress.specs.Keeping.{CellOpen, kept_of, is_named, cell_rows}
use Rattle.ingress.specs.Admits.{read_open, IsStored}

-- the stream of an entry, and what it is of it: 0 for an edge, 1 for an open start, 2 for one that was dropped. An entry of
-- part 5 is an open start of stream 1 that was dropped
abbrev pub stream_of : SavedEntry → ℕ
stream_of e = e.part / 3

abbrev pub role_of : SavedEntry → ℕ
role_of e = e.part % 3

-- the edges of stream s that wait
abbrev pub waiting_of : List SavedEntry → ℕ → List Edge
waiting_of saved s = part_of (3 * s) saved

-- the open start of an entry of that role and stream, with the start in use as its sync and the given one as its other time;
-- none of an edge
abbrev pub open_at : ℕ → ℕ → SavedEntry → List CellOpen
open_at role stream e =
    cond (nat_eq role 0) []
    (record { key = record { stream = stream; given = e.other; cells = e.cells }; state = record { start = e.sync; dropped = nat_eq role 2 } } ∷ [])

abbrev pub open_of : SavedEntry → List CellOpen
open_of e = open_at (role_of e) (stream_of e) e

abbrev pub opens_of : List SavedEntry → List CellOpen
opens_of saved = flat_map open_of saved

-- an entry of one of the streams, with cells like its columns, and with event times, which are below 2 ^ 60, or infinity. An edge
-- is real and comes from the time on, and an open start that was dropped has the start that was given. From 4 on, an edge at 5 may
-- be there, and one at 3 or at 2 ^ 60 not
pub record IsSoundEntry (cells : List (List CellKind)) (last : ℕ) (e : SavedEntry) : Type 0 where
  pub declared : stream_of e < length cells
  pub kinds : map datum_kind e.cells ≡ get_or cells (stream_of e) []
  pub times : IsEnd e.sync × IsEnd e.other
  pub edge : role_of e ≡ 0 → (is_real (saved_edge e) ≡ true) × (last ≤ e.sync)
  pub dropped : role_of e ≡ 2 → e.sync ≡ e.other

-- entries, bounds and marks that admission can have at its last punctuation: all times are event times or infinity, and no bound
-- is below the punctuation, or below the mark of its stream
pub record IsSound (cells : List (List CellKind)) (saved : List SavedEntry) (bounds marks : ℕ → ℕ) (last : ℕ) : Type 0 where
  pub time : IsEnd last
  pub bound_times : (s : ℕ) → s < length cells → IsEnd (bounds s)
  pub mark_times : (s : ℕ) → s < length cells → IsEnd (marks s)
  pub low : (s : ℕ) → s < length cells → last ≤ bounds s
  pub above : (s : ℕ) → s < length cells → marks s ≤ bounds s
  pub each : All (IsSoundEntry cells last) saved

-- such a state is what is kept of the lines that were admitted, which gave `a`, and of the edges given so far,
-- with places in the table: the edges of each stream follow its rows, and each key finds the open starts that it names
pub record Resumes (cells : List (List CellKind)) (saved : List SavedEntry) (bounds marks : ℕ → ℕ) (last : ℕ)
    (texts : List (List ℕ)) (a : Admission) (given : ℕ → List Edge) : Type 0 where
  pub sound : IsSound cells saved bounds marks last
  pub same_bounds : (s : ℕ) → s < length cells → a.bound s ≡ bounds s
  pub same_marks : (s : ℕ) → s < length cells → a.mark s ≡ marks s
  pub made : ℕ → List CellEvent
  pub opens : List CellOpen
  pub reads_made : (s : ℕ) → a.made s ≡ read_events texts (made s)
  pub reads_opens : a.opens ≡ map (read_open texts) opens
  pub made_placed : (s : ℕ) → EventsArePlaced texts (made s)
  pub opens_placed : All (λ o. ArePlaced texts o.key.cells) opens
  pub held : (s : ℕ) → s < length cells → IsHeld last (given s) (waiting_of saved s) (cell_rows made opens s)
  pub queued : (k : OpenKey) → map (λ o. o.state) (filter (is_named k) (opens_of saved)) ≡ map kept_of (filter (is_named k) opens)
  pub declared : All (λ o. o.key.stream < length cells) opens
  pub stored : All (IsStored cells) opens
  pub none_made : (s : ℕ) → length cells ≤ s → made s ≡ []
  pub none_given : (s : ℕ) → length cells ≤ s → given s ≡ []
